-- What a worker does in one pass.
use Rattle.std.specs.Prelude.{◌≡◌, ℕ, true, false, ⊤, List, [], ◌∷◌, ◌++◌, length, map, flat_map, filter_map, Option, Some, None}
use Rattle.std.specs.List.{AllByRecursion}
use Rattle.dn_base.specs.declared.ids.CoreId.{CoreId}
use Rattle.dn_base.specs.declared.ids.Shape.{Shape}
use Rattle.grant_log.specs.declared.log.Stamped.{Stamped}
use Rattle.message_net.specs.declared.actor.Actor.{Actor}
use Rattle.message_net.specs.declared.actor.Actor.TheVariants.{Core, Bank, Keeper}
use Rattle.registration_protocol.specs.Node.{Setting}
use Rattle.registration_protocol.specs.Fit.{IsContext, Fits}
use Rattle.registration_protocol.specs.OwnEvents.{own_event}
use Rattle.bank_hall.specs.declared.bank.Handled.{Handled}
use Rattle.grant_log.specs.declared.posted.Posted.{Posted}
use Rattle.bank_hall.specs.Note.{KeeperNote}
use Rattle.bank_hall.specs.Halls.{HallView, PassView, Calls, IsHallPass, HasMadeCalls, pass_number}
use Rattle.host_workers.specs.Acts.{Act, Took, Stepped, Kept, actor_of, core_step, act_done, events_in, note_of, posted_by, postings, calls_in}
use Rattle.host_workers.specs.Steps.{Done}
use Rattle.grant_log.specs.Stamps.{has_numbers_left}
use Rattle.host_workers.specs.Passes.{Held, own_acts, taken_steps}
use Rattle.host_workers.specs.declared.crew.BankLog.{BankLog}
use Rattle.host_workers.specs.declared.owned.Owned.{Owned}
use Rattle.host_workers.specs.Crews.{held_of, owned_has_numbers}
use Rattle.host_workers.specs.Deeds.{HasMoved, own_steps}

-- a worker may act on the hall: the pass is the hall's, which has the ports and banks of the setting
pub record MayAct (C : Setting) (hall : HallView) (pass : PassView) : Type 0 where
  pub context : IsContext C
  pub pass_is : IsHallPass hall pass
  pub ports : length hall.ports ≡ C.shape.cores
  pub banks : length hall.banks ≡ C.shape.banks

-- it is still a pass of the hall, with the same number
abbrev pub KeepsNumber : HallView → PassView → PassView → Type 0
KeepsNumber hall old new = IsHallPass hall new × (pass_number new ≡ pass_number old)

-- the hall's pass made the calls of these acts, which made `count` events
pub record HasActed (C : Setting) (old new : PassView) (acts : List Act) (count : ℕ) : Type 0 where
  pub calls : HasMadeCalls old new (calls_in C.shape (pass_number old) acts)
  pub counted : count ≡ length (events_in C.shape acts)

-- the calls of each object are first those and then these
pub record Splits (whole first more : Calls) : Type 0 where
  pub banks : (b : ℕ) → whole.banks b ≡ first.banks b ++ more.banks b
  pub ports : (c : ℕ) → whole.ports c ≡ first.ports c ++ more.ports c
  pub keeper : whole.keeper ≡ first.keeper ++ more.keeper

-- of these mails the first ones were posted, and then there was no memory
pub record HasBegunPosts (shape : Shape) (old new : PassView) (mails : List Posted) : Type 0 where
  pub posted : List Posted
  pub unsent : List Posted
  pub mails_are : mails ≡ posted ++ unsent
  pub calls : HasMadeCalls old new (postings shape (pass_number old) posted)

-- the mails that the event of the last act sent
abbrev pub last_sent : Shape → List Act → List Posted
last_sent shape [] = []
last_sent shape (act ∷ []) = posted_by (act_done shape act)
last_sent shape (act ∷ next ∷ acts) = last_sent shape (next ∷ acts)

-- The hall's pass made the calls of these acts until there was no memory. Only the posts of some mails are missing, the last of
-- those that the last act's event sent
pub record HasStopped (C : Setting) (old new : PassView) (acts : List Act) : Type 0 where
  pub posted : List Posted
  pub unsent : List Posted
  pub mails_are : last_sent C.shape acts ≡ posted ++ unsent
  pub made : Calls
  pub calls : HasMadeCalls old new made
  pub all : Splits (calls_in C.shape (pass_number old) acts) made (postings C.shape (pass_number old) unsent)

-- a take from the core's port was made, and the mail that it gave was handled
pub record HasTaken (C : Setting) (core : CoreId) (pick : ℕ) (old new : PassView) (had has : Held) (count : ℕ) : Type 0 where
  pub taken : Option (Posted × Done)
  pub moved : HasMoved C core (taken_steps taken) had has
  pub acted : HasActed C old new (Took core pick taken ∷ []) count

-- the core's own event was made, if the core has numbers left and the node has an own event
pub record HasMadeOwn (C : Setting) (core : CoreId) (old new : PassView) (had has : Held) (count : ℕ) : Type 0 where
  pub done : Done
  pub moved : HasMoved C core (own_steps (has_numbers_left had.clock had.next) (own_event C had.node) done) had has
  pub acted : HasActed C old new (own_acts core (has_numbers_left had.clock had.next) (own_event C had.node) done) count

-- each act is of one actor
abbrev pub AreOf : Actor → List Act → Type 0
AreOf a acts = AllByRecursion (λ (act : Act). actor_of act ≡ a) acts

-- the acts of a core that has numbers left: a take, and then the core's own event
pub record IsTurn (C : Setting) (core : CoreId) (had : Held) (acts : List Act) : Type 0 where
  pub pick : ℕ
  pub taken : Option (Posted × Done)
  pub done : Done
  pub between : Held
  pub handled : HasMoved C core (taken_steps taken) had between
  pub acts_are : acts ≡ Took core pick taken ∷ own_acts core (has_numbers_left between.clock between.next) (own_event C between.node) done

-- a core changed by these acts, which are its own, and its log and its ends tell of them
pub record IsMoved (C : Setting) (had has : Owned) (acts : List Act) : Type 0 where
  pub core : has.core ≡ had.core
  pub fits : Fits C has.node
  pub own : AreOf (Core had.core) acts
  pub moved : HasMoved C had.core (filter_map core_step acts) (held_of had) (held_of has)

-- a core was served by these acts: it had its turn, or nothing was done since it has no numbers left
pub record IsCoreServed (C : Setting) (had has : Owned) (acts : List Act) : Type 0 where
  pub moves : IsMoved C had has acts
  pub turn : owned_has_numbers had ≡ true → IsTurn C had.core (held_of had) acts
  pub stays : owned_has_numbers had ≡ false → acts ≡ []

-- a bank's log tells of these acts, which are its own
pub record IsNotedBank (C : Setting) (had has : BankLog) (acts : List Act) : Type 0 where
  pub bank : has.bank ≡ had.bank
  pub own : AreOf (Bank had.bank) acts
  pub log : has.log.items ≡ had.log.items ++ map note_of (events_in C.shape acts)

-- a bank was stepped by these acts
pub record IsStepped (C : Setting) (had has : BankLog) (acts : List Act) : Type 0 where
  pub notes : IsNotedBank C had has acts
  pub pick : ℕ
  pub handled : Option Handled
  pub acts_are : acts ≡ Stepped had.bank pick handled ∷ []

-- the keeper's log tells of these acts, which are its own
pub record IsNotedKeeper (C : Setting) (had has : List Stamped) (acts : List Act) : Type 0 where
  pub own : AreOf Keeper acts
  pub log : has ≡ had ++ map note_of (events_in C.shape acts)

-- the same if the worker owns the keeper; otherwise there are no acts
abbrev pub IsNotedIf : Setting → Option (List Stamped) → Option (List Stamped) → List Act → Type 0
IsNotedIf C None None acts = acts ≡ []
IsNotedIf C (Some had) (Some has) acts = IsNotedKeeper C had has acts
IsNotedIf C _ _ acts = ⊥

-- the keeper was stepped by these acts
pub record IsKeeperStep (C : Setting) (had has : List Stamped) (acts : List Act) : Type 0 where
  pub notes : IsNotedKeeper C had has acts
  pub pick : ℕ
  pub note : Option KeeperNote
  pub acts_are : acts ≡ Kept pick note ∷ []

-- the keeper was stepped, if the worker has it
abbrev pub IsKeeperServed : Setting → Option (List Stamped) → Option (List Stamped) → List Act → Type 0
IsKeeperServed C None None acts = acts ≡ []
IsKeeperServed C (Some had) (Some has) acts = IsKeeperStep C had has acts
IsKeeperServed C _ _ acts = ⊥

-- all acts, one list after the other
abbrev pub in_one_list : List (List Act) → List Act
in_one_list parts = flat_map (λ (acts : List Act). acts) parts

module _ {A : Type 0} where
  -- something was done by some acts
  pub record HasDoneActs (Does : A → A → List Act → Type 0) (C : Setting) (old new : PassView) (had has : A) (count : ℕ) : Type 0 where
    pub acts : List Act
    pub acted : HasActed C old new acts count
    pub does : Does had has acts

  -- something was done by some acts, until there was no memory
  pub record HasDonePartly (Does : A → A → List Act → Type 0) (C : Setting) (old new : PassView) (had has : A) : Type 0 where
    pub acts : List Act
    pub stopped : HasStopped C old new acts
    pub does : Does had has acts

  -- the same to each of several, each by its own acts
  abbrev pub Each : (A → A → List Act → Type 0) → List A → List A → List (List Act) → Type 0
  Each Does [] [] [] = ⊤
  Each Does (x ∷ xs) (y ∷ ys) (acts ∷ rest) = Does x y acts × Each Does xs ys rest
  Each Does _ _ _ = ⊥

  pub record HaveDone (Does : A → A → List Act → Type 0) (C : Setting) (old new : PassView) (had has : List A) (count : ℕ) : Type 0 where
    pub parts : List (List Act)
    pub acted : HasActed C old new (in_one_list parts) count
    pub each : Each Does had has parts

  pub record HaveDonePartly (Does : A → A → List Act → Type 0) (C : Setting) (old new : PassView) (had has : List A) : Type 0 where
    pub parts : List (List Act)
    pub stopped : HasStopped C old new (in_one_list parts)
    pub each : Each Does had has parts
