-- What one pass of a worker does to a hall and to the worker's crew.
use Rattle.std.specs.Prelude.{◌≡◌, ℕ, Bool, true, false, List, [], ◌∷◌, ◌++◌, map, filter, filter_map, length, Option, Some, None}
use Rattle.dn_base.specs.declared.ids.CoreId.{CoreId}
use Rattle.dn_base.specs.declared.ids.BankId.{BankId}
use Rattle.rv_core.specs.declared.ending.TaskEnd.{TaskEnd}
use Rattle.message_net.specs.declared.actor.Actor.{Actor}
use Rattle.message_net.specs.declared.actor.Actor.TheVariants.{Core, Bank, Keeper}
use Rattle.message_net.specs.declared.event.Event.{Event}
use Rattle.grant_log.specs.declared.log.Stamped.{Stamped}
use Rattle.registration_protocol.specs.Node.{NodeParts, Setting}
use Rattle.registration_protocol.specs.OwnEvents.{own_event}
use Rattle.grant_log.specs.declared.posted.Posted.{Posted}
use Rattle.bank_hall.specs.Halls.{PassView, HasMadeCalls, pass_number}
use Rattle.grant_log.specs.Stamps.{has_numbers_left}
use Rattle.host_workers.specs.declared.end_seen.EndSeen.{EndSeen}
use Rattle.host_workers.specs.Members.{NodeIs, Member}
use Rattle.host_workers.specs.Steps.{Done, Step, Goes, clock_after}
use Rattle.host_workers.specs.Acts.{Act, Took, Made, is_act_of, tried_in, events_in, events_by, notes_by, steps_by, taken_step, calls_in}

-- a core owned by a worker: its node, its clock, the number of its next mail, the notes of its events, and how its tasks had
-- ended when it arrived at the barrier
pub record Held : Type 0 where
  pub node : NodeParts
  pub clock : ℕ
  pub next : ℕ
  pub log : List Stamped
  pub ends : List EndSeen

abbrev pub held_member : Held → Member
held_member h = record { parts = NodeIs h.node; next = h.next }

abbrev pub seen_at : ℕ → Option TaskEnd → Option EndSeen
seen_at stamp None = None
seen_at stamp (Some end) = Some (record { stamp = stamp; end = end })

abbrev pub end_seen : Done → Option EndSeen
end_seen d = seen_at d.stamped.stamp d.end

-- a core after a worker's acts: its node made the steps of its own acts, and its log and its ends tell of them
pub record HasGone (C : Setting) (acts : List Act) (core : CoreId) (old new : Held) : Type 0 where
  pub goes : Goes C (Core core) old.clock (held_member old) (steps_by core acts) (held_member new)
  pub clock : new.clock ≡ clock_after old.clock (steps_by core acts)
  pub log : new.log ≡ old.log ++ notes_by C.shape (Core core) acts
  pub ends : new.ends ≡ old.ends ++ filter_map end_seen (events_by C.shape (Core core) acts)

-- the act of a node's own event, if the core has numbers left and the node has an own event
abbrev pub own_acts : CoreId → Bool → Option Event → Done → List Act
own_acts core true (Some e) done = Made core e done ∷ []
own_acts core _ _ done = []

abbrev pub taken_steps : Option (Posted × Done) → List Step
taken_steps None = []
taken_steps (Some t) = taken_step t ∷ []

-- the acts of one core in one pass: a take, whose mail the node handles if it gives one, and then the node's own event
pub record IsCorePass (C : Setting) (acts : List Act) (core : CoreId) (old : Held) : Type 0 where
  pub pick : ℕ
  pub taken : Option (Posted × Done)
  pub done : Done
  pub node : NodeParts
  pub next : ℕ
  pub handled : Goes C (Core core) old.clock (held_member old) (taken_steps taken) (record { parts = NodeIs node; next = next })
  pub acts_are : filter (is_act_of (Core core)) acts
      ≡ Took core pick taken ∷ own_acts core (has_numbers_left (clock_after old.clock (taken_steps taken)) next) (own_event C node) done

-- the actors that a worker tries in one pass: each core that has numbers left, each of its banks, and the keeper if it owns it
abbrev pub tries_of : List CoreId → List BankId → Bool → List Actor
tries_of cores banks true = map Core cores ++ (map Bank banks ++ Keeper ∷ [])
tries_of cores banks false = map Core cores ++ map Bank banks

-- one pass of a worker: the hall's pass made exactly the calls of its acts, and it tries each of these actors once, in their
-- order
pub record HasPassed (C : Setting) (old new : PassView) (tries : List Actor) (acts : List Act) (count : ℕ) : Type 0 where
  pub calls : HasMadeCalls old new (calls_in C.shape (pass_number old) acts)
  pub tried : filter_map tried_in acts ≡ tries
  pub counted : count ≡ length (events_in C.shape acts)
