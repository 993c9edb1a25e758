-- One pass of a worker over the hall.
use Rattle.std.specs.Prelude.{◌≡◌, ◌≢◌, ℕ, true, false, List, [], ◌++◌, map, filter, slice_get, All, AllPairs, Contains, Option, Some, None, ◌∷◌, Bool}
use Rattle.std.specs.Option.{is_some}
use Rattle.std.specs.declared.cmp.Ordering.TheVariants.{Greater}
use Rattle.grant_log.specs.declared.log.Stamped.{Stamped}
use Rattle.message_net.specs.Order.{actor_order}
use Rattle.message_net.specs.declared.actor.Actor.{Actor}
use Rattle.message_net.specs.declared.actor.Actor.TheVariants.{Core, Bank, Keeper}
use Rattle.registration_protocol.specs.Node.{Setting}
use Rattle.bank_hall.specs.declared.bank.Handled.{Handled}
use Rattle.bank_hall.specs.Note.{KeeperNote}
use Rattle.bank_hall.specs.Halls.{PassView, HasMadeCalls, pass_number}
use Rattle.host_workers.specs.Acts.{Act, Stepped, Kept, actor_of, is_act_of, notes_by, calls_in}
use Rattle.host_workers.specs.Passes.{HasGone, HasPassed, IsCorePass, tries_of}
use Rattle.host_workers.specs.declared.crew.BankLog.{BankLog}
use Rattle.host_workers.specs.declared.crew.Crew.{Crew}
use Rattle.host_workers.specs.declared.owned.Owned.{Owned}
use Rattle.host_workers.specs.Crews.{held_of, owned_core, bank_of, owned_has_numbers, keeper_log}
use Rattle.host_workers.specs.Work.{HasStopped}

-- the actors of a crew, and those that the worker tries in a pass
abbrev pub actors_of : Crew → List Actor
actors_of crew = tries_of (map owned_core crew.cores.items) (map bank_of crew.banks.items) (is_some crew.keeper)

abbrev pub tries_by : Crew → List Actor
tries_by crew = tries_of (map owned_core (filter owned_has_numbers crew.cores.items)) (map bank_of crew.banks.items) (is_some crew.keeper)

-- an act of an actor of the crew
abbrev pub IsActOf : Crew → Act → Type 0
IsActOf crew act = Contains (actors_of crew) (actor_of act)

-- the crew has the same worker, cores and banks
pub record IsSameCrew (had has : Crew) : Type 0 where
  pub worker : has.worker ≡ had.worker
  pub cores : map owned_core has.cores.items ≡ map owned_core had.cores.items
  pub banks : map bank_of has.banks.items ≡ map bank_of had.banks.items

-- the acts of a core are a take and its own event, if it has numbers left; otherwise there are none
pub record IsTurnOf (C : Setting) (acts : List Act) (had : Owned) : Type 0 where
  pub turn : owned_has_numbers had ≡ true → IsCorePass C acts had.core (held_of had)
  pub stays : owned_has_numbers had ≡ false → filter (is_act_of (Core had.core)) acts ≡ []

-- the acts of a bank are one step
pub record IsStepOf (acts : List Act) (had : BankLog) : Type 0 where
  pub pick : ℕ
  pub handled : Option Handled
  pub acts_are : filter (is_act_of (Bank had.bank)) acts ≡ Stepped had.bank pick handled ∷ []

-- the same for the keeper, if the worker owns it
abbrev pub IsKeptOf : List Act → Bool → Type 0
IsKeptOf acts false = filter (is_act_of Keeper) acts ≡ []
IsKeptOf acts true = (pick : ℕ) × (answer : Option KeeperNote) × (filter (is_act_of Keeper) acts ≡ Kept pick answer ∷ [])

-- the acts of one pass of a worker: the turn of each of its cores, a step of each of its banks, and a step of the keeper if the
-- worker owns it
pub record AreActsOfPass (C : Setting) (acts : List Act) (had : Crew) : Type 0 where
  pub turns : (i : ℕ) (o : Owned) → slice_get had.cores.items i ≡ Some o → IsTurnOf C acts o
  pub steps : (i : ℕ) (b : BankLog) → slice_get had.banks.items i ≡ Some b → IsStepOf acts b
  pub kept : IsKeptOf acts (is_some had.keeper)

-- what was appended to the keeper's log, if there is one
abbrev pub HasMore : List Stamped → Option (List Stamped) → Option (List Stamped) → Type 0
HasMore notes None None = Unit {0}
HasMore notes (Some had) (Some has) = has ≡ had ++ notes
HasMore notes _ _ = ⊥

-- A crew after a worker's acts, each of an actor of the crew: each core changed by its acts, and the notes of its events were
-- appended to each actor's log
pub record IsCrewAfter (C : Setting) (had has : Crew) (acts : List Act) : Type 0 where
  pub own : All (IsActOf had) acts
  pub same : IsSameCrew had has
  pub cores : (i : ℕ) (o p : Owned) → slice_get had.cores.items i ≡ Some o → slice_get has.cores.items i ≡ Some p → HasGone C acts o.core (held_of o) (held_of p)
  pub banks : (i : ℕ) (b d : BankLog) → slice_get had.banks.items i ≡ Some b → slice_get has.banks.items i ≡ Some d
      → d.log.items ≡ b.log.items ++ notes_by C.shape (Bank b.bank) acts
  pub keeper : HasMore (notes_by C.shape Keeper acts) (keeper_log had) (keeper_log has)

-- a worker's acts: the hall's pass made exactly their calls, and its crew is the one after them
pub record IsWork (C : Setting) (old new : PassView) (had has : Crew) (acts : List Act) : Type 0 where
  pub calls : HasMadeCalls old new (calls_in C.shape (pass_number old) acts)
  pub crew : IsCrewAfter C had has acts

-- an act may come before another only if its actor doesn't come later in the order: cores first, then banks, each by number,
-- then the keeper
abbrev pub InTurn : Act → Act → Type 0
InTurn a b = actor_order (actor_of a) (actor_of b) ≢ Greater

-- One pass of a worker, which made `count` events. All acts of its cores come before the first step of a bank, and all steps of
-- its banks before the keeper's
pub record HasWorked (C : Setting) (old new : PassView) (had has : Crew) (count : ℕ) : Type 0 where
  pub acts : List Act
  pub work : IsWork C old new had has acts
  pub passed : HasPassed C old new (tries_by had) acts count
  pub is_pass : AreActsOfPass C acts had
  pub order : AllPairs InTurn acts

-- One pass of a worker that ran out of memory: what it made until then. The hall's pass has the calls of its acts, except for
-- the posts of some mails that the last event sent. The crew is the one after all these acts, so each mail that was taken is
-- handled and noted
pub record HasWorkedPartly (C : Setting) (old new : PassView) (had has : Crew) : Type 0 where
  pub acts : List Act
  pub stopped : HasStopped C old new acts
  pub crew : IsCrewAfter C had has acts
  pub order : AllPairs InTurn acts

-- one or more passes of a worker, the first of which was made with the crew as it was
pub record HasWorkedOn (C : Setting) (old new : PassView) (had has : Crew) : Type 0 where
  pub first : List Act
  pub rest : List Act
  pub work : IsWork C old new had has (first ++ rest)
  pub begun : AreActsOfPass C first had
