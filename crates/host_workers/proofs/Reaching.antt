-- What a run from a state that is reached leads to is reached.
use Rattle.std.proofs.Common.{◌≡◌, ℕ, zero, suc, ◌+◌, ◌<◌, ◌≤◌, Bool, true, false, slice_index, List, [], ◌∷◌, ◌++◌, length, take, length-append, refl, sym, ap, subst, ◌∙◌, arith}
use Rattle.message_net.specs.declared.event.Event.{Event}
use Rattle.registration_protocol.specs.Node.{Setting}
use Rattle.machine_rules.specs.State.{State, initial_state}
use Rattle.machine_rules.specs.Next.{next, enabled}
use Rattle.machine_rules.specs.Runs.{after, IsRun}
use Rattle.std.proofs.lemmas.Nat.{mul-le}
use Rattle.phase_barrier.specs.Barrier.{all_arrived}
use Rattle.machine_rules.specs.Sound.{IsReady, IsMachine, IsSound, rounds}
use Rattle.machine_rules.specs.Flight.{bit}
use Rattle.machine_rules.proofs.OpenedFacts.{opened-setting}
use Rattle.machine_rules.proofs.RunsKept.{run-setting}
use Rattle.machine_rules.proofs.RunsCoherent.{run-all}
use Rattle.machine_rules.proofs.BoundRuns.{run-ends}
use Rattle.host_workers.specs.Rounds.{IsReached}

pub after-append : (S : State) (es fs : List Event) → after S (es ++ fs) ≡ after (after S es) fs
after-append S [] fs = refl
after-append S (e ∷ es) fs = after-append (next S e) es fs

pub run-append : (S : State) (es fs : List Event) → IsRun S es → IsRun (after S es) fs → IsRun S (es ++ fs)
run-append S [] fs run more = more
run-append S (e ∷ es) fs run more = (run.0, run-append (next S e) es fs run.1 more)

-- a front of a run is one
pub run-front : (S : State) (es : List Event) (count : ℕ) → IsRun S es → IsRun S (take count es)
run-front S es zero run = tt
run-front S [] (suc count) run = tt
run-front S (e ∷ es) (suc count) run = (run.0, run-front (next S e) es count run.1)

pub reached-next : (C : Setting) (S : State) (e : Event) → IsReached C S → enabled S e ≡ true → IsReached C (next S e)
reached-next C S e reached may =
    let one : IsRun (after (initial_state C) reached.before) (e ∷ []) = subst (λ (U : State). IsRun U (e ∷ [])) reached.leads (may, tt) in
    record {
      ready = reached.ready;
      before = reached.before ++ e ∷ [];
      run = run-append (initial_state C) reached.before (e ∷ []) reached.run one;
      leads = ap (λ (U : State). next U e) reached.leads ∙ sym (after-append (initial_state C) reached.before (e ∷ []));
    }

pub reached-run : (C : Setting) (S : State) (es : List Event) → IsReached C S → IsRun S es → IsReached C (after S es)
reached-run C S [] reached run = reached
reached-run C S (e ∷ es) reached run = reached-run C (next S e) es (reached-next C S e reached run.0) run.1

pub reached-setting : (C : Setting) (S : State) → IsReached C S → S.setting ≡ C
reached-setting C S reached = ap (λ (U : State). U.setting) reached.leads ∙ (run-setting (initial_state C) reached.before ∙ opened-setting C)

pub reached-machine : (C : Setting) (S : State) → IsReached C S → IsMachine S
reached-machine C S reached = subst IsMachine (sym reached.leads) (run-all C reached.before reached.ready reached.run).0.machine

-- a run from a state that is reached has few events
pub reached-few : (C : Setting) (S : State) (es : List Event) → IsReached C S → IsRun S es → length es ≤ 25169664
reached-few C S es reached run =
    let whole : IsRun (initial_state C) (reached.before ++ es) = run-append (initial_state C) reached.before es reached.run (subst (λ (U : State). IsRun U es) reached.leads run) in
    omega (arith, run-ends C (reached.before ++ es) reached.ready whole, length-append reached.before es)

pub most-rounds : (S : State) → IsReady S.setting → S.keeper.phase ≤ length S.setting.program.phases → rounds S ≤ 65
most-rounds S ready within = by_all (all_arrived S.keeper) where
  by_all : (b : Bool) → S.keeper.phase + bit b ≤ 65
  by_all true = omega (arith, within, ready.program.phases)
  by_all false = omega (arith, within, ready.program.phases)

-- no actor's next number is near its end
pub reached-numbers : (C : Setting) (S : State) (place : ℕ) → C.shape.cores ≤ 16 → IsReached C S → slice_index S.numbers place < 4294967000
reached-numbers C S place most reached =
    let all = (run-all C reached.before reached.ready reached.run).0 in
    let sound : IsSound S (length reached.before) = subst (λ (U : State). IsSound U (length reached.before)) (sym reached.leads) all in
    let cores : S.setting.shape.cores ≡ C.shape.cores = ap (λ (D : Setting). D.shape.cores) (reached-setting C S reached) in
    let letters = mul-le S.setting.shape.cores (rounds S) 16 65 (omega (arith, most, cores)) (most-rounds S (subst IsReady (sym (reached-setting C S reached)) reached.ready) sound.within) in
    omega (arith, sound.sent place, letters, run-ends C reached.before reached.ready reached.run)
