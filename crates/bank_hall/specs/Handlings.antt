-- What an actor did in a history of its calls: the mails that it handled, in order, and what it told of each. Only laws cite
-- this.
-- speak of it.
use Rattle.std.specs.Prelude.{◌≡◌, ℕ, ◌^◌, ◌<◌, ◌≤◌, Bool, true, List, [], ◌∷◌, ◌++◌, All, Option, Some, None}
use Rattle.std.specs.List.{AllPairs}
use Rattle.message_net.specs.declared.actor.Actor.{Actor}
use Rattle.grant_log.specs.declared.log.Stamped.{Stamped}
use Rattle.turn_lock.specs.declared.entry.Entry.{Entry}
use Rattle.grant_log.specs.declared.posted.Posted.{Posted}
use Rattle.bank_hall.specs.declared.bank.Handled.{Handled}
use Rattle.bank_hall.specs.declared.bank.BankIn as bank_in
use Rattle.bank_hall.specs.declared.bank.BankIn.{BankIn}
use Rattle.bank_hall.specs.declared.bank.BankOut as bank_out
use Rattle.bank_hall.specs.declared.bank.BankOut.{BankOut}
use Rattle.bank_hall.specs.declared.port.PortIn as port_in
use Rattle.bank_hall.specs.declared.port.PortIn.{PortIn}
use Rattle.bank_hall.specs.declared.port.PortOut as port_out
use Rattle.bank_hall.specs.declared.port.PortOut.{PortOut}
use Rattle.bank_hall.specs.declared.keeper.KeeperIn as keeper_in
use Rattle.bank_hall.specs.declared.keeper.KeeperIn.{KeeperIn}
use Rattle.bank_hall.specs.declared.keeper.KeeperOut as keeper_out
use Rattle.bank_hall.specs.declared.keeper.KeeperOut.{KeeperOut}
use Rattle.grant_log.specs.Stamps.{may_handle}
use Rattle.grant_log.specs.Inbox.{picked_out}
use Rattle.bank_hall.specs.Note.{KeeperNote}
use Rattle.bank_hall.specs.Banks.{BankState, bank_handles, bank_steps}
use Rattle.bank_hall.specs.Keepers.{KeeperState, keeper_handles, keeper_steps}
use Rattle.bank_hall.specs.Halls.{BankEntry, KeeperEntry, bank_next, keeper_next}

-- a mail that was handled, and what was told of it
pub record Handling (N : Type 0) : Type 0 where
  pub mail : Posted
  pub told : N

module _ {N : Type 0} where
  -- the handling of the mail that was taken, if one was
  abbrev pub handling_of : Option Posted → Option N → List (Handling N)
  handling_of (Some p) (Some told) = record { mail = p; told = told } ∷ []
  handling_of _ _ = []

  -- An actor with this clock handled these mails one after the other. Each stamp is greater than the clock, the mail's stamp
  -- and the stamps before it. None is above 2^63, and each tells of this actor
  pub record AreStamped (stamped : N → Stamped) (actor : Actor) (clock : ℕ) (handlings : List (Handling N)) : Type 0 where
    pub rising : AllPairs (λ (g h : Handling N). (stamped g.told).stamp < (stamped h.told).stamp) handlings
    pub later : All (λ (h : Handling N). (clock < (stamped h.told).stamp) × (h.mail.stamp < (stamped h.told).stamp)) handlings
    pub most : All (λ (h : Handling N). (stamped h.told).stamp ≤ 2 ^ 63) handlings
    pub own : All (λ (h : Handling N). (stamped h.told).actor ≡ actor) handlings

module _ {S N : Type 0} where
  -- From one state to another, the actor may handle each of these mails in turn, and tells exactly this of it
  abbrev pub GoesByMails : (S → Posted → Bool) → (S → Posted → S × Option N) → S → List (Handling N) → S → Type 0
  GoesByMails may does s [] end = s ≡ end
  GoesByMails may does s (h ∷ hs) end = ((may s h.mail ≡ true) × ((does s h.mail).1 ≡ Some h.told)) × GoesByMails may does (does s h.mail).0 hs end

module _ {S O I U N : Type 0} where
  -- the handlings of a history, by those of one call and by what a call leaves
  abbrev pub handlings_of : (S → I → List (Handling N)) → (S → I → S) → S → List (Entry O I U) → List (Handling N)
  handlings_of one next s [] = []
  handlings_of one next s (e ∷ es) = one s e.input ++ handlings_of one next (next s e.input) es

-- a bank without its mails
abbrev pub bank_alone : BankState → BankState
bank_alone s = record s { inbox = [] }

abbrev pub bank_may : BankState → Posted → Bool
bank_may s = may_handle s.clock s.next

-- a bank handles a mail that was taken before
abbrev pub bank_does : BankState → Posted → BankState × Option Handled
bank_does s p = bank_handles s (Some p, s.inbox)

abbrev pub BankGoes : BankState → List (Handling Handled) → BankState → Type 0
BankGoes = GoesByMails bank_may bank_does

-- what one call of a bank handles
abbrev pub bank_handling : BankState → BankIn → List (Handling Handled)
bank_handling s (bank_in.TheVariants.Post p) = []
bank_handling s (bank_in.TheVariants.Step pick) = handling_of (picked_out (bank_may s) s.inbox pick).0 (bank_steps s pick).1

-- what a bank handles in a history of its calls
abbrev pub bank_handlings : BankState → List BankEntry → List (Handling Handled)
bank_handlings = handlings_of bank_handling bank_next

-- the mail that a call of a bank puts into its inbox, and what a call tells of a mail that it handles
abbrev pub bank_put : BankIn → Option Posted
bank_put (bank_in.TheVariants.Post p) = Some p
bank_put (bank_in.TheVariants.Step pick) = None

abbrev pub bank_told : BankOut → Option Handled
bank_told bank_out.TheVariants.Kept = None
bank_told (bank_out.TheVariants.Stepped handled) = handled

-- the same for the keeper
abbrev pub keeper_alone : KeeperState → KeeperState
keeper_alone s = record s { inbox = [] }

abbrev pub keeper_may : KeeperState → Posted → Bool
keeper_may s = may_handle s.clock s.next

abbrev pub keeper_does : KeeperState → Posted → KeeperState × Option KeeperNote
keeper_does s p = keeper_handles s (Some p, s.inbox)

abbrev pub KeeperGoes : KeeperState → List (Handling KeeperNote) → KeeperState → Type 0
KeeperGoes = GoesByMails keeper_may keeper_does

abbrev pub keeper_handling : KeeperState → KeeperIn → List (Handling KeeperNote)
keeper_handling s (keeper_in.TheVariants.Post p) = []
keeper_handling s (keeper_in.TheVariants.Step pick) = handling_of (picked_out (keeper_may s) s.inbox pick).0 (keeper_steps s pick).1

abbrev pub keeper_handlings : KeeperState → List KeeperEntry → List (Handling KeeperNote)
keeper_handlings = handlings_of keeper_handling keeper_next

abbrev pub keeper_put : KeeperIn → Option Posted
keeper_put (keeper_in.TheVariants.Post p) = Some p
keeper_put (keeper_in.TheVariants.Step pick) = None

abbrev pub keeper_told : KeeperOut → Option KeeperNote
keeper_told keeper_out.TheVariants.Kept = None
keeper_told (keeper_out.TheVariants.Stepped handled) = handled

-- the mail that a call of a port puts into its inbox, and the one that it takes out
abbrev pub port_put : PortIn → Option Posted
port_put (port_in.TheVariants.Post p) = Some p
port_put (port_in.TheVariants.Take pick) = None

abbrev pub port_took : PortOut → Option Posted
port_took port_out.TheVariants.Kept = None
port_took (port_out.TheVariants.Taken posted) = posted
