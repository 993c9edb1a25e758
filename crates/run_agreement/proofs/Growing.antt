-- A run can be made longer, event by event, until it comes to a state of some kind: runs are bounded.
use Rattle.std.proofs.Common.{◌≡◌, ◌⊎◌, inl, inr, ℕ, zero, suc, ◌+◌, ◌<◌, true, List, [], ◌∷◌, ◌++◌, length, length-append, subst, arith}
use Rattle.message_net.specs.declared.event.Event.{Event}
use Rattle.registration_protocol.specs.Node.{Setting}
use Rattle.machine_rules.specs.State.{State, initial_state}
use Rattle.machine_rules.specs.Next.{next, enabled}
use Rattle.machine_rules.specs.Runs.{after, IsRun}
use Rattle.machine_rules.specs.Sound.{IsReady}
use Rattle.machine_rules.proofs.BoundRuns.{run-ends}
use Rattle.run_agreement.specs.Reached.{AllAlong}
use Rattle.run_agreement.proofs.Appending.{after-append, run-append}

-- a run from S, of events that pass a test, to a state of a kind
pub record Grows (S : State) (Fine : State → Event → Type 0) (Done : State → Type 0) : Type 0 where
  pub events : List Event
  pub run : IsRun S events
  pub fine : AllAlong Fine S events
  pub done : Done (after S events)

-- a state is of the kind, or some event may come that passes the test
abbrev pub Chooses : (State → Event → Type 0) → (State → Type 0) → State → Type 0
Chooses Fine Done S = Done S ⊎ ((e : Event) × (enabled S e ≡ true) × Fine S e)

grows-first : (S : State) (Fine : State → Event → Type 0) (Done : State → Type 0) (e : Event) → enabled S e ≡ true → Fine S e → Grows (next S e) Fine Done → Grows S Fine Done
grows-first S Fine Done e may fine rest = record { events = e ∷ rest.events; run = (may, rest.run); fine = (fine, rest.fine); done = rest.done }

grow-by : (C : Setting) (Fine : State → Event → Type 0) (Done : State → Type 0) → IsReady C
    → ((events : List Event) → IsRun (initial_state C) events → Chooses Fine Done (after (initial_state C) events))
    → (k : ℕ) (events : List Event) → IsRun (initial_state C) events → 25169664 < length events + k → Grows (after (initial_state C) events) Fine Done
grow-by C Fine Done ready choose zero events run bound = absurd (omega (arith, bound, run-ends C events ready run))
grow-by C Fine Done ready choose (suc k) events run bound = by_choice (choose events run) (grow-by C Fine Done ready choose k) where
  S : State
  S = after (initial_state C) events

  by_choice : Chooses Fine Done S → ((es : List Event) → IsRun (initial_state C) es → 25169664 < length es + k → Grows (after (initial_state C) es) Fine Done) → Grows S Fine Done
  by_choice (inl done) rest = record { events = []; run = tt; fine = tt; done = done }
  by_choice (inr (e, may, fine)) rest =
      let longer : IsRun (initial_state C) (events ++ e ∷ []) = run-append (initial_state C) events (e ∷ []) run (may, tt) in
      let on : Grows (after (initial_state C) (events ++ e ∷ [])) Fine Done = rest (events ++ e ∷ []) longer (omega (arith, bound, length-append events (e ∷ []))) in
      grows-first S Fine Done e may fine (subst (λ (T : State). Grows T Fine Done) (after-append (initial_state C) events (e ∷ [])) on)

pub grow : (C : Setting) (Fine : State → Event → Type 0) (Done : State → Type 0) → IsReady C
    → ((events : List Event) → IsRun (initial_state C) events → Chooses Fine Done (after (initial_state C) events))
    → (events : List Event) → IsRun (initial_state C) events → Grows (after (initial_state C) events) Fine Done
grow C Fine Done ready choose events run = grow-by C Fine Done ready choose 25169665 events run (omega arith)
