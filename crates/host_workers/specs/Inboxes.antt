-- The inboxes of all actors, and the parts of a hall that are made from them.
use Rattle.std.specs.Prelude.{◌≡◌, ℕ, Bool, List, [], ◌∷◌, ◌++◌, map, filter, flat_map, slice_get, slice_set, slice_index_or, Some}
use Rattle.std.specs.List.{range_with_len}
use Rattle.dn_base.specs.declared.ids.Shape.{Shape}
use Rattle.message_net.specs.declared.actor.Actor.{Actor}
use Rattle.message_net.specs.declared.actor.Actor.TheVariants.{Core, Bank, Keeper}
use Rattle.message_net.specs.declared.message.Mail.{Mail}
use Rattle.message_net.specs.Id.{same_actor}
use Rattle.phase_barrier.specs.Barrier.{Barrier}
use Rattle.registry_bank.specs.Bank.{BankParts}
use Rattle.grant_log.specs.declared.posted.Posted.{Posted}
use Rattle.bank_hall.specs.Banks.{BankActorParts}
use Rattle.bank_hall.specs.Ports.{PortParts}
use Rattle.bank_hall.specs.Keepers.{KeeperActorParts}
use Rattle.host_workers.specs.Steps.{with_stamp}
use Rattle.host_workers.specs.Rounds.{core_at, bank_at, mail_in}
use Rattle.host_workers.specs.declared.inboxes.Inboxes.{Inboxes}

-- the inboxes of the cores and of the banks in the order of their numbers, and that of the keeper
pub record InboxParts : Type 0 where
  pub cores : List (List Posted)
  pub banks : List (List Posted)
  pub keeper : List Posted

abbrev pub inboxes_of : Inboxes → InboxParts
inboxes_of i = record { cores = map (λ v. v.items) i.cores.items; banks = map (λ v. v.items) i.banks.items; keeper = i.keeper.items }

-- a mail is put at the end of the inbox at an index, or of the inbox of an actor, if there is one
abbrev pub put_at : Posted → ℕ → List (List Posted) → List (List Posted)
put_at p place inboxes = slice_set inboxes place (slice_index_or inboxes place [] ++ p ∷ [])

abbrev pub put_in : Posted → Actor → InboxParts → InboxParts
put_in p (Core core) inboxes = record inboxes { cores = put_at p core.0 inboxes.cores }
put_in p (Bank bank) inboxes = record inboxes { banks = put_at p bank.0 inboxes.banks }
put_in p Keeper inboxes = record inboxes { keeper = inboxes.keeper ++ p ∷ [] }

-- the mails that go to an actor, in their order
abbrev pub goes_to : Actor → Mail → Bool
goes_to a m = same_actor a m.to

abbrev pub mails_to : Actor → List Mail → List Mail
mails_to a mails = filter (goes_to a) mails

-- the inbox of an actor when a round begins: the mails in flight that go to it, in their order, each with stamp 0
abbrev pub inbox_at_first : List Mail → Actor → List Posted
inbox_at_first mails a = map (with_stamp 0) (mails_to a mails)

-- the inboxes of a machine of this shape when a round begins
pub record AreFirstInboxes (shape : Shape) (mails : List Mail) (inboxes : InboxParts) : Type 0 where
  pub cores : inboxes.cores ≡ map (λ c. inbox_at_first mails (core_at c)) (range_with_len 0 shape.cores)
  pub banks : inboxes.banks ≡ map (λ b. inbox_at_first mails (bank_at b)) (range_with_len 0 shape.banks)
  pub keeper : inboxes.keeper ≡ inbox_at_first mails Keeper

-- the mails of several inboxes, of one after the other
abbrev pub all_mails_in : List (List Posted) → List Mail
all_mails_in inboxes = map mail_in (flat_map (λ ps. ps) inboxes)

-- the inbox of an actor
abbrev pub inbox_of : InboxParts → Actor → List Posted
inbox_of inboxes (Core core) = slice_index_or inboxes.cores core.0 []
inbox_of inboxes (Bank bank) = slice_index_or inboxes.banks bank.0 []
inbox_of inboxes Keeper = inboxes.keeper

-- all posted mails, of the cores, then of the banks, then of the keeper
abbrev pub all_posted : InboxParts → List Posted
all_posted inboxes = flat_map (λ ps. ps) inboxes.cores ++ (flat_map (λ ps. ps) inboxes.banks ++ inboxes.keeper)

-- the banks in the objects of a hall: each with its inbox, the number of its next mail and a clock
abbrev pub bank_parts : BankActorParts → BankParts
bank_parts b = b.state.bank

abbrev pub bank_inbox : BankActorParts → List Posted
bank_inbox b = b.state.inbox

abbrev pub bank_number : BankActorParts → ℕ
bank_number b = b.state.next

abbrev pub bank_clock : BankActorParts → ℕ
bank_clock b = b.state.clock

abbrev pub port_mails : PortParts → List Posted
port_mails p = p.inbox

-- the objects of a hall have these banks, this keeper, these inboxes and these numbers of next mails: first the banks' in their
-- order, then the keeper's
pub record AreObjectsOf (banks : List BankParts) (keeper : Barrier) (inboxes : InboxParts) (next : List ℕ) (bank_objects : List BankActorParts) (ports : List PortParts) (keeper_object : KeeperActorParts) : Type 0 where
  pub bank_parts_are : map bank_parts bank_objects ≡ banks
  pub bank_inboxes : map bank_inbox bank_objects ≡ inboxes.banks
  pub port_inboxes : map port_mails ports ≡ inboxes.cores
  pub keeper_parts : keeper_object.state.keeper ≡ keeper
  pub keeper_inbox : keeper_object.state.inbox ≡ inboxes.keeper
  pub numbers : map bank_number bank_objects ++ keeper_object.state.next ∷ [] ≡ next

-- all clocks of the objects stand at 0
pub record AreAtFirst (bank_objects : List BankActorParts) (keeper_object : KeeperActorParts) : Type 0 where
  pub banks : (b : ℕ) (object : BankActorParts) → slice_get bank_objects b ≡ Some object → object.state.clock ≡ 0
  pub keeper : keeper_object.state.clock ≡ 0
