-- A machine that is stepped stays in the state of a run.
use Rattle.std.proofs.Common.{◌≡◌, ◌+◌, ◌<◌, Bool, true, false, List, [], ◌∷◌, ◌++◌, length, refl, sym, ap, subst, ◌∙◌, arith, append_assoc, append-nil, length-append}
use Rattle.std.specs.List.{IsAmong}
use Rattle.message_net.specs.declared.event.Event.{Event}
use Rattle.registration_protocol.specs.Node.{Setting}
use Rattle.machine_rules.specs.State.{State, initial_state}
use Rattle.machine_rules.specs.Next.{next, enabled}
use Rattle.machine_rules.specs.Runs.{after, IsRun, IsOver, IsCompleteRun}
use Rattle.machine_rules.specs.Sound.{IsReady, IsMachine}
use Rattle.machine_rules.proofs.RunsCoherent.{run-all}
use Rattle.dn_machine.specs.Kept.{Made}
use Rattle.state_text.specs.Stepping.{HasMadeEvent, HasMadeEvents, IsInRun}
use Rattle.dn_machine.proofs.RunLemmas.{fronts-true, fronts-agree}
use Rattle.dn_machine.proofs.ScheduleLaws.{after-more}
use Rattle.state_text.specs.Coming.{enabled_events}
use Rattle.state_text.proofs.Listed.{listed-exactly, in-place}

run-one : (S : State) (events : List Event) (e : Event) → IsRun S events → enabled (after S events) e ≡ true → IsRun S (events ++ e ∷ [])
run-one S [] e run may = (may, tt)
run-one S (x ∷ xs) e run may = (run.0, run-one (next S x) xs e run.1 may)

-- the state to which a run leads
pub in-run : (C : Setting) (events : List Event) (m : Made) → IsReady C → IsRun (initial_state C) events → m.state ≡ after (initial_state C) events → m.made ≡ length events → IsInRun C events m
in-run C events m ready run leads count =
    record {
      run = run;
      leads = leads;
      count = count;
      is_true = fronts-true C events ready run events [] (sym (append-nil events));
      agrees = fronts-agree C events ready run events [] (sym (append-nil events));
      over = λ over. record { run = run; over = subst IsOver leads over };
    }

pub opened-in-run : (C : Setting) (m : Made) → IsReady C → m.state ≡ initial_state C → m.made ≡ 0 → IsInRun C [] m
opened-in-run C m ready is none = in-run C [] m ready tt is none

pub stepped-in-run : (C : Setting) (events : List Event) (m n : Made) (e : Event) → IsReady C → IsInRun C events m → HasMadeEvent m n e → IsInRun C (events ++ e ∷ []) n
stepped-in-run C events m n e ready is made =
    in-run C (events ++ e ∷ []) n ready
    (run-one (initial_state C) events e is.run (subst (λ (S : State). enabled S e ≡ true) is.leads made.may))
    (made.state ∙ ap (λ (S : State). next S e) is.leads ∙ sym (after-more (initial_state C) events e))
    (omega (arith, length-append events (e ∷ []), made.made, is.count))

pub steps-in-run : (C : Setting) (past events : List Event) (m n : Made) → IsReady C → IsInRun C past m → HasMadeEvents m events n → IsInRun C (past ++ events) n
steps-in-run C past [] m n ready is same = subst (λ (es : List Event). IsInRun C es n) (sym (append-nil past)) (subst (IsInRun C past) (sym same) is)
steps-in-run C past (e ∷ es) m n ready is made =
    subst (λ (all : List Event). IsInRun C all n) (append_assoc past (e ∷ []) es)
    (steps-in-run C (past ++ e ∷ []) es made.0 n ready (stepped-in-run C past m made.0 e ready is made.1) made.2)

pub from-opened : (C : Setting) (events : List Event) (first last : Made) → IsReady C → first.state ≡ initial_state C → first.made ≡ 0 → HasMadeEvents first events last → IsInRun C events last
from-opened C events first last ready is none made = steps-in-run C [] events first last ready (opened-in-run C first ready is none) made

-- where no event is listed, the run is complete
pub none-left : (C : Setting) (events : List Event) (m : Made) → IsReady C → IsInRun C events m → enabled_events m.state ≡ [] → IsCompleteRun (initial_state C) events
none-left C events m ready is none = is.over over where
  machine : IsMachine m.state
  machine = subst IsMachine (sym is.leads) (run-all C events ready is.run).0.machine

  over : IsOver m.state
  over e = by_test (enabled m.state e) refl where
    by_test : (b : Bool) → enabled m.state e ≡ b → enabled m.state e ≡ false
    by_test false is_not = is_not
    by_test true may =
        let among : IsAmong (enabled_events m.state) e = (listed-exactly m.state (in-place m.state machine) e).1 may in
        let never : IsAmong [] e = subst (λ (es : List Event). IsAmong es e) none among in
        let low : never.0 < 0 = never.1.0 in
        absurd (omega (arith, low))
