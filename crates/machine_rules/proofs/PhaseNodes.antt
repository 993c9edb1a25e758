-- What each event of a core does to the phases: a node at work, a node that only receives, and those of the barrier.
use Rattle.std.proofs.Common.{◌≡◌, ℕ, ◌==◌, ◌&&◌, not, Bool, true, false, slice_get, Option, Some, None, refl, sym, ap, subst, ◌∙◌, arith}
use Rattle.std.specs.Option.{option_map}
use Rattle.std.proofs.lemmas.Bool.Decides.{nat_tests}
use Rattle.dn_base.specs.declared.ids.CoreId.{CoreId}
use Rattle.dn_base.specs.declared.ids.PhaseId.{PhaseId}
use Rattle.message_net.specs.declared.message.Message.TheVariants.{Arrived, Go, Halt}
use Rattle.message_net.specs.declared.message.Outgoing.{Outgoing}
use Rattle.message_net.specs.Mail.{to_keeper}
use Rattle.phase_barrier.specs.Barrier.{all_arrived}
use Rattle.region_table.specs.declared.declared.TaskDecl.{TaskDecl}
use Rattle.region_table.specs.Tasks.{declared}
use Rattle.rv_core.specs.declared.task.TaskState.{TaskState}
use Rattle.rv_core.specs.declared.task.End.TheVariants.{Finished}
use Rattle.rv_core.specs.Task.{started}
use Rattle.registration_protocol.specs.declared.node.NodeWait as wait
use Rattle.registration_protocol.specs.Node.{NodeParts, is_settled, is_running}
use Rattle.registration_protocol.specs.OwnEvents.{task_ended_badly}
use Rattle.registration_protocol.specs.Messages.{begins}
use Rattle.registration_protocol.specs.Parts.{held_locks}
use Rattle.machine_rules.specs.State.{State}
use Rattle.machine_rules.specs.Flight.{bit, flight, is_arrival_of, is_go_to, is_halt_to}
use Rattle.machine_rules.specs.Coherent.{HasArrived, is_alive, waits_at_keeper}
use Rattle.machine_rules.proofs.Bits.{passes}
use Rattle.machine_rules.proofs.Invariant.{PhasesGood, is_astray, is_lie, same_truth, bad_in}
use Rattle.machine_rules.proofs.Steps.{NodeStep}
use Rattle.machine_rules.proofs.Outcomes.{at_core}
use Rattle.machine_rules.proofs.WordCore.{same-number}
use Rattle.machine_rules.proofs.PhaseRows.{IsOther, other-none, other-apart, marked, OwnGood, phases-node, lies-le, lies-same}

-- what isn't true is false
pub false-else : (b : Bool) → (b ≡ true → ⊥) → b ≡ false
false-else true never = absurd (never refl)
false-else false never = refl

-- a core that doesn't wait in the set isn't in it, as long as others are missing
pub unmarked : (S : State) (c : ℕ) → all_arrived S.keeper ≡ false → waits_at_keeper S c ≡ 0 → marked S c ≡ false
unmarked S c missing none = by_mark (marked S c) refl where
  by_mark : (x : Bool) → marked S c ≡ x → marked S c ≡ false
  by_mark false is = is
  by_mark true is = let one : waits_at_keeper S c ≡ 1 = rw (missing, is) refl in absurd (omega (arith, none, one))

-- whether a node is alive counts in its row
alive-is : (S : State) (c : ℕ) (n : NodeParts) → slice_get S.nodes c ≡ Some n → bit (is_alive (slice_get S.nodes c)) ≡ bit (n.arrived && not n.halted)
alive-is S c n found = rw (found) refl

-- ---- Whether tasks are bad.

bad-elsewhere : (S T : State) (core : ℕ) (n m : NodeParts) (left sent : Option Outgoing) → NodeStep S T core n m left sent
    → (d : ℕ) → (core == d) ≡ false → bad_in (slice_get T.nodes d) ≡ bad_in (slice_get S.nodes d)
bad-elsewhere S T core n m left sent step d e = ap bad_in (rw (e) at (step.nodes d))

bad-same : (S T : State) (core : ℕ) (n m : NodeParts) (left sent : Option Outgoing) → NodeStep S T core n m left sent → task_ended_badly m.task ≡ task_ended_badly n.task
    → (d : ℕ) → bad_in (slice_get T.nodes d) ≡ bad_in (slice_get S.nodes d)
bad-same S T core n m left sent step same d = by_test (core == d) refl where
  by_test : (x : Bool) → (core == d) ≡ x → bad_in (slice_get T.nodes d) ≡ bad_in (slice_get S.nodes d)
  by_test false e = bad-elsewhere S T core n m left sent step d e
  by_test true e =
      let here : slice_get S.nodes d ≡ Some n = subst (λ (x : ℕ). slice_get S.nodes x ≡ Some n) (grind (arith, nat_tests, e)) step.found in
      ap bad_in (rw (e) at (step.nodes d)) ∙ same ∙ sym (ap bad_in here)

-- no arrival of the core is in flight
lies-apart : (S T : State) (core : ℕ) (n m : NodeParts) (left sent : Option Outgoing) → NodeStep S T core n m left sent → PhasesGood S → flight S (is_arrival_of core) ≡ 0
    → passes (is_lie T.nodes) sent ≡ 0 → flight T (is_lie T.nodes) ≡ 0
lies-apart S T core n m left sent step g none went =
    omega (arith, g.truly, none, went, step.flown (is_lie T.nodes), lies-le S T.nodes core (bad-elsewhere S T core n m left sent step))

-- the task is as bad as before
lies-still : (S T : State) (core : ℕ) (n m : NodeParts) (left sent : Option Outgoing) → NodeStep S T core n m left sent → PhasesGood S → task_ended_badly m.task ≡ task_ended_badly n.task
    → passes (is_lie T.nodes) sent ≡ 0 → flight T (is_lie T.nodes) ≡ 0
lies-still S T core n m left sent step g same went =
    omega (arith, g.truly, went, step.flown (is_lie T.nodes), lies-same S T.nodes (bad-same S T core n m left sent step same))

-- ---- A node at work: it hasn't arrived, nor is it halted.

-- what is known of the barrier at it
pub record AtWork (S : State) (core : ℕ) : Type 0 where
  pub missing : all_arrived S.keeper ≡ false
  pub arriving : flight S (is_arrival_of core) ≡ 0
  pub going : flight S (is_go_to core) ≡ 0
  pub halting : flight S (is_halt_to core) ≡ 0
  pub waits : waits_at_keeper S core ≡ 0

pub at-work : (S : State) (core : ℕ) (n : NodeParts) → PhasesGood S → slice_get S.nodes core ≡ Some n → n.arrived ≡ false → AtWork S core
at-work S core n g found absent =
    let none : bit (is_alive (slice_get S.nodes core)) ≡ 0 = rw (found, absent) refl in
    record {
      missing = false-else (all_arrived S.keeper) (λ is. (let never = g.whole is core n found in absurd (cc)));
      arriving = omega (arith, g.row core, none);
      going = omega (arith, g.row core, none);
      halting = omega (arith, g.row core, none);
      waits = omega (arith, g.row core, none);
    }

-- a finished task holds no lock
abbrev pub FinishesFree : NodeParts → Type 0
FinishesFree m = (t : TaskState) → m.task ≡ Some t → t.end ≡ Some Finished → t.held ≡ 0

pub working : (S T : State) (core : ℕ) (n m : NodeParts) (left sent : Option Outgoing) → NodeStep S T core n m left sent → PhasesGood S
    → n.halted ≡ false → n.arrived ≡ false → m.halted ≡ false → m.arrived ≡ false → m.phase ≡ n.phase → FinishesFree m → IsOther left → IsOther sent → PhasesGood T
working S T core n m left sent step g awake absent still_awake still_absent phase finished came went =
    phases-node S T core n m left sent step g own (other-apart core left came) (other-apart core sent went)
    (omega (arith, g.astray, step.flown (is_astray S.keeper.phase), came.astray S.keeper.phase, went.astray S.keeper.phase))
    (lies-apart S T core n m left sent step g works.arriving (went.lie T.nodes))
  where
    works : AtWork S core
    works = at-work S core n g step.found absent

    arriving : flight T (is_arrival_of core) ≡ 0
    arriving = omega (arith, works.arriving, step.flown (is_arrival_of core), came.arriving core, went.arriving core)

    going : flight T (is_go_to core) ≡ 0
    going = omega (arith, works.going, step.flown (is_go_to core), came.going core, went.going core)

    stopping : flight T (is_halt_to core) ≡ 0
    stopping = omega (arith, works.halting, step.flown (is_halt_to core), came.halting core, went.halting core)

    none : bit (is_alive (Some m)) ≡ 0
    none = rw (still_absent) refl

    own : OwnGood S T core n m
    own =
        record {
          row = omega (arith, arriving, going, stopping, works.waits, none);
          phase = λ up. omega (arith, phase, going, works.going, g.phase core n step.found awake);
          arrived = λ is. absurd (cc);
          asleep = λ is. absurd (cc);
          counts = rw (unmarked S core works.missing works.waits) refl;
          over = λ is. omega (arith, arriving, going);
          halting = λ some. absurd (omega (arith, some, stopping));
          whole = λ is. (let never = works.missing in absurd (cc));
          finished = finished;
          unlocked = λ some. absurd (omega (arith, some, going));
        }

-- ---- A node that only receives: its task stays, and so does what the barrier knows of it.

pub receiving : (S T : State) (core : ℕ) (n m : NodeParts) (left sent : Option Outgoing) → NodeStep S T core n m left sent → PhasesGood S
    → m.halted ≡ n.halted → m.arrived ≡ n.arrived → m.phase ≡ n.phase → m.task ≡ n.task → (HasArrived n → HasArrived m) → IsOther left → IsOther sent → PhasesGood T
receiving S T core n m left sent step g halted arrived phase task keeps came went =
    phases-node S T core n m left sent step g own (other-apart core left came) (other-apart core sent went)
    (omega (arith, g.astray, step.flown (is_astray S.keeper.phase), came.astray S.keeper.phase, went.astray S.keeper.phase))
    (lies-still S T core n m left sent step g (ap task_ended_badly task) (went.lie T.nodes))
  where
    arriving : flight T (is_arrival_of core) ≡ flight S (is_arrival_of core)
    arriving = omega (arith, step.flown (is_arrival_of core), came.arriving core, went.arriving core)

    going : flight T (is_go_to core) ≡ flight S (is_go_to core)
    going = omega (arith, step.flown (is_go_to core), came.going core, went.going core)

    stopping : flight T (is_halt_to core) ≡ flight S (is_halt_to core)
    stopping = omega (arith, step.flown (is_halt_to core), came.halting core, went.halting core)

    alive : bit (is_alive (Some m)) ≡ bit (is_alive (slice_get S.nodes core))
    alive = rw (step.found, halted, arrived) refl

    own : OwnGood S T core n m
    own =
        record {
          row = omega (arith, arriving, going, stopping, g.row core, alive);
          phase = λ up. omega (arith, phase, going, g.phase core n step.found (sym halted ∙ up));
          arrived = λ is. keeps (g.arrived core n step.found (sym arrived ∙ is));
          asleep = λ is. keeps (g.asleep core n step.found (sym halted ∙ is));
          counts = rw (task) refl;
          over = λ is. omega (arith, arriving, going, g.over is core);
          halting = λ some. g.halting core (omega (arith, some, stopping));
          whole = λ is. arrived ∙ g.whole is core n step.found;
          finished = λ t is. g.finished core n t step.found (sym task ∙ is);
          unlocked = λ some. ap held_locks task ∙ g.unlocked core n step.found (omega (arith, some, going));
        }

-- ---- The barrier.

-- a node arrives
pub arriving-node : (S T : State) (core : CoreId) (n : NodeParts) → NodeStep S T core.0 n (record n { arrived = true }) None (to_keeper (Arrived core (task_ended_badly n.task))) → PhasesGood S
    → n.halted ≡ false → n.arrived ≡ false → is_running n.task ≡ false → is_settled n ≡ true → n.waiting ≡ wait.TheVariants.None → PhasesGood T
arriving-node S T core n step g awake absent done settled waits =
    phases-node S T core.0 n m None sent step g own
    (other-apart core.0 None other-none) (record { arriving = λ d e. rw (e) refl; going = λ d e. refl; halting = λ d e. refl })
    (omega (arith, g.astray, step.flown (is_astray S.keeper.phase)))
    (omega (arith, g.truly, step.flown (is_lie T.nodes), truth, lies-same S T.nodes (bad-same S T core.0 n m None sent step refl)))
  where
    m : NodeParts
    m = record n { arrived = true }

    sent : Option Outgoing
    sent = to_keeper (Arrived core (task_ended_badly n.task))

    works : AtWork S core.0
    works = at-work S core.0 n g step.found absent

    one : passes (is_arrival_of core.0) sent ≡ 1
    one = rw (same-number core.0) refl

    now : slice_get T.nodes core.0 ≡ Some m
    now = rw (same-number core.0) at (step.nodes core.0)

    true-itself : (b : Bool) → same_truth b b ≡ true
    true-itself true = refl
    true-itself false = refl

    truth : passes (is_lie T.nodes) sent ≡ 0
    truth = rw (now, true-itself (task_ended_badly n.task)) refl

    alive : bit (is_alive (Some m)) ≡ 1
    alive = rw (awake) refl

    own : OwnGood S T core.0 n m
    own =
        record {
          row = omega (arith, works.arriving, works.waits, works.going, works.halting, step.flown (is_arrival_of core.0), step.flown (is_go_to core.0), step.flown (is_halt_to core.0), one, alive);
          phase = λ up. omega (arith, step.flown (is_go_to core.0), g.phase core.0 n step.found awake);
          arrived = λ is. record { settled = settled; waiting = waits; over = done };
          asleep = λ is. absurd (cc);
          counts = refl;
          over = λ is. (let never = works.missing in absurd (cc));
          halting = λ some. absurd (omega (arith, some, works.halting, step.flown (is_halt_to core.0)));
          whole = λ is. refl;
          finished = λ t is. g.finished core.0 n t step.found is;
          unlocked = λ some. absurd (omega (arith, some, works.going, step.flown (is_go_to core.0)));
        }

-- the next phase begins at a node
started-free : (o : Option TaskDecl) (t : TaskState) → option_map started o ≡ Some t → t.end ≡ Some Finished → t.held ≡ 0
started-free None t is ended = absurd (cc)
started-free (Some d) t is ended = ap (λ (o : Option TaskState). held_locks o) (sym is)

pub going-node : (S T : State) (core : CoreId) (n : NodeParts) (phase : PhaseId) → NodeStep S T core.0 n (begins S.setting n phase.0) (at_core core (Go phase)) None → PhasesGood S
    → n.halted ≡ false → n.arrived ≡ true → phase.0 ≡ S.keeper.phase → PhasesGood T
going-node S T core n phase step g awake there right =
    phases-node S T core.0 n m left None step g own
    (record { arriving = λ d e. refl; going = λ d e. rw (e) refl; halting = λ d e. refl }) (other-apart core.0 None other-none)
    (omega (arith, g.astray, step.flown (is_astray S.keeper.phase)))
    (lies-apart S T core.0 n m left None step g arriving refl)
  where
    m : NodeParts
    m = begins S.setting n phase.0

    left : Option Outgoing
    left = at_core core (Go phase)

    one : passes (is_go_to core.0) left ≡ 1
    one = rw (same-number core.0) refl

    alive : bit (is_alive (slice_get S.nodes core.0)) ≡ 1
    alive = rw (step.found, there, awake) refl

    arriving : flight S (is_arrival_of core.0) ≡ 0
    arriving = omega (arith, g.row core.0, alive, one, step.flown (is_go_to core.0))

    waits : waits_at_keeper S core.0 ≡ 0
    waits = omega (arith, g.row core.0, alive, one, step.flown (is_go_to core.0))

    going : flight T (is_go_to core.0) ≡ 0
    going = omega (arith, g.row core.0, alive, one, step.flown (is_go_to core.0))

    stopping : flight T (is_halt_to core.0) ≡ 0
    stopping = omega (arith, g.row core.0, alive, one, step.flown (is_go_to core.0), step.flown (is_halt_to core.0))

    missing : all_arrived S.keeper ≡ false
    missing = false-else (all_arrived S.keeper) (λ is. omega (arith, g.over is core.0, one, step.flown (is_go_to core.0)))

    own : OwnGood S T core.0 n m
    own =
        record {
          row = omega (arith, arriving, waits, going, stopping, step.flown (is_arrival_of core.0));
          phase = λ up. omega (arith, right, going);
          arrived = λ is. absurd (cc);
          asleep = λ is. absurd (cc);
          counts = rw (unmarked S core.0 missing waits) refl;
          over = λ is. (let never = missing in absurd (cc));
          halting = λ some. absurd (omega (arith, some, stopping));
          whole = λ is. (let never = missing in absurd (cc));
          finished = started-free (declared S.setting.program phase.0 n.core);
          unlocked = λ some. absurd (omega (arith, some, going));
        }

-- a node is halted
pub halting-node : (S T : State) (core : CoreId) (n : NodeParts) → NodeStep S T core.0 n (record n { halted = true }) (at_core core Halt) None → PhasesGood S
    → n.halted ≡ false → n.arrived ≡ true → PhasesGood T
halting-node S T core n step g awake there =
    phases-node S T core.0 n m left None step g own
    (record { arriving = λ d e. refl; going = λ d e. refl; halting = λ d e. rw (e) refl }) (other-apart core.0 None other-none)
    (omega (arith, g.astray, step.flown (is_astray S.keeper.phase)))
    (lies-still S T core.0 n m left None step g refl refl)
  where
    m : NodeParts
    m = record n { halted = true }

    left : Option Outgoing
    left = at_core core Halt

    one : passes (is_halt_to core.0) left ≡ 1
    one = rw (same-number core.0) refl

    alive : bit (is_alive (slice_get S.nodes core.0)) ≡ 1
    alive = rw (step.found, there, awake) refl

    dead : bit (is_alive (Some m)) ≡ 0
    dead = rw (there) refl

    rests : HasArrived m
    rests = let h = g.arrived core.0 n step.found there in record { settled = h.settled; waiting = h.waiting; over = h.over }

    own : OwnGood S T core.0 n m
    own =
        record {
          row = omega (arith, g.row core.0, alive, dead, one, step.flown (is_halt_to core.0), step.flown (is_go_to core.0), step.flown (is_arrival_of core.0));
          phase = λ up. absurd (cc);
          arrived = λ is. rests;
          asleep = λ is. rests;
          counts = refl;
          over = λ is. omega (arith, g.over is core.0, step.flown (is_go_to core.0), step.flown (is_arrival_of core.0));
          halting = λ some. g.halting core.0 (omega (arith, some, step.flown (is_halt_to core.0)));
          whole = λ is. there;
          finished = λ t is. g.finished core.0 n t step.found is;
          unlocked = λ some. g.unlocked core.0 n step.found (omega (arith, some, step.flown (is_go_to core.0)));
        }
