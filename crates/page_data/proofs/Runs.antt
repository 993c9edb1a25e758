-- The front of a run is a run, and what stands behind it is a run from where it leads. No event changes the setting.
use Rattle.std.proofs.Common.{◌≡◌, Result, Ok, Err, OnOk, ap, ◌∙◌, ℕ, zero, suc, List, [], ◌∷◌, take, drop}
use Rattle.message_net.specs.declared.event.Event.{Event}
use Rattle.machine_rules.specs.State.{State}
use Rattle.machine_rules.specs.Next.{next}
use Rattle.machine_rules.specs.Runs.{after, IsRun}
use Rattle.machine_rules.proofs.RunsKept.{same-setting}

pub run_front : (S : State) (events : List Event) (n : ℕ) → IsRun S events → IsRun S (take n events)
run_front S [] zero run = tt
run_front S [] (suc n) run = tt
run_front S (e ∷ es) zero run = tt
run_front S (e ∷ es) (suc n) run = (run.0, run_front (next S e) es n run.1)

pub run_back : (S : State) (events : List Event) (n : ℕ) → IsRun S events → IsRun (after S (take n events)) (drop n events)
run_back S [] zero run = tt
run_back S [] (suc n) run = tt
run_back S (e ∷ es) zero run = run
run_back S (e ∷ es) (suc n) run = run_back (next S e) es n run.1

pub setting_after : (S after : State) (e : Event) → after ≡ next S e → after.setting ≡ S.setting
setting_after S after e is = ap (λ (s : State). s.setting) is ∙ same-setting S e

-- what holds in any case holds where a call succeeds
pub if-ok : {T E : Type 0} (r : Result T E) (P : Type 0) → P → OnOk r P
if-ok (Ok x) P holds = holds
if-ok (Err e) P holds = tt
