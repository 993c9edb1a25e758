-- How a round begins, and that every actor that has something to do makes an event in it.
use Rattle.std.specs.Prelude.{◌≡◌, ◌≢◌, ℕ, ◌<◌, List, [], ◌∷◌, filter, slice_get, Option, Some, None}
use Rattle.dn_base.specs.declared.ids.CoreId.{CoreId}
use Rattle.dn_base.specs.declared.ids.BankId.{BankId}
use Rattle.message_net.specs.declared.actor.Actor.{Actor}
use Rattle.message_net.specs.declared.actor.Actor.TheVariants.{Core, Bank, Keeper}
use Rattle.message_net.specs.declared.event.Event.{Event}
use Rattle.message_net.specs.declared.message.Mail.{Mail}
use Rattle.grant_log.specs.Log.{of_actor}
use Rattle.registration_protocol.specs.Node.{NodeParts, Setting}
use Rattle.registration_protocol.specs.OwnEvents.{own_event}
use Rattle.machine_rules.specs.State.{State}
use Rattle.grant_log.specs.declared.posted.Posted.{Posted}
use Rattle.bank_hall.specs.declared.bank.Handled.{Handled}
use Rattle.bank_hall.specs.Note.{KeeperNote}
use Rattle.host_workers.specs.Steps.{Done}
use Rattle.host_workers.specs.Acts.{Act, Took, Made, Stepped, Kept, is_act_of}
use Rattle.host_workers.specs.Rounds.{Round, owner}

-- an actor's acts: those that the worker that owns it made of it
abbrev pub acts_of : Round → Actor → List Act
acts_of r a = filter (is_act_of a) (r.work (owner r.workers a))

-- if the first take of a core gave nothing, its node's own event came next
abbrev pub OwnComesNext : Setting → State → CoreId → Option (Posted × Done) → List Act → Type 0
OwnComesNext C S core (Some t) rest = Unit {0}
OwnComesNext C S core None rest =
    (n : NodeParts) (e : Event) → slice_get S.nodes core.0 ≡ Some n → own_event C n ≡ Some e → (done : Done) × (more : List Act) × (rest ≡ Made core e done ∷ more)

-- The worker of a core first took from the core's port
pub record HasBegun (C : Setting) (S : State) (r : Round) (core : CoreId) : Type 0 where
  pub pick : ℕ
  pub taken : Option (Posted × Done)
  pub rest : List Act
  pub acts : acts_of r (Core core) ≡ Took core pick taken ∷ rest
  pub own : OwnComesNext C S core taken rest

-- every worker made a pass: for each of its cores it took from the core's port, and made the node's own event if the take gave
-- nothing; it made a step of each of its banks, and the first worker one of the keeper
pub record HaveBegun (C : Setting) (S : State) (r : Round) : Type 0 where
  pub cores : (core : CoreId) → core.0 < C.shape.cores → HasBegun C S r core
  pub banks : (bank : BankId) → bank.0 < C.shape.banks → (pick : ℕ) × (handled : Option Handled) × (rest : List Act) × (acts_of r (Bank bank) ≡ Stepped bank pick handled ∷ rest)
  pub keeper : (pick : ℕ) × (answer : Option KeeperNote) × (rest : List Act) × (acts_of r Keeper ≡ Kept pick answer ∷ rest)

-- the merged list has an event of the actor
abbrev pub HasEvent : Round → Actor → Type 0
HasEvent r a = filter (of_actor a) r.merged ≢ []

-- each actor that had something to do in S made an event: each receiver of a mail in flight, and each core whose node has an
-- own event
pub record AllHaveActed (C : Setting) (S : State) (r : Round) : Type 0 where
  pub mails : (place : ℕ) (m : Mail) → slice_get S.mails place ≡ Some m → HasEvent r m.to
  pub own : (core : CoreId) (n : NodeParts) (e : Event) → slice_get S.nodes core.0 ≡ Some n → own_event C n ≡ Some e → HasEvent r (Core core)
