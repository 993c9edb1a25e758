-- Every complete run of the multicore machine has the end of the flat machine's run by its grants, and so what is common.
use Rattle.std.proofs.Common.{◌≡◌, ◌≢◌, List, subst}
use Rattle.dn_base.specs.declared.status.Outcome as outcome
use Rattle.region_table.specs.Numbers.{HasWords}
use Rattle.rv_core.specs.declared.ending.Ending.{Ending}
use Rattle.message_net.specs.declared.event.Event.{Event}
use Rattle.registration_protocol.specs.Node.{Setting}
use Rattle.machine_rules.specs.State.{initial_state}
use Rattle.machine_rules.specs.Runs.{IsCompleteRun, grants_of, ending_of_run}
use Rattle.machine_rules.specs.Sound.{IsReady}
use Rattle.run_agreement.specs.Ends.{HasFlatEnd}
use Rattle.run_agreement.proofs.EndAgrees.{end-agrees}
use Rattle.common_outcomes.specs.declared.answer.Common.{Common}
use Rattle.common_outcomes.specs.declared.answer.Outcomes as answer
use Rattle.common_outcomes.specs.Answer.{outcomes}
use Rattle.common_outcomes.specs.Laws.{IsCommonTo}
use Rattle.common_outcomes.proofs.Settling.{every-order, never-stuck}

pub every-run : (C : Setting) (events : List Event) (common : Common) → IsReady C → HasWords C.program → outcomes C.program C.fuel ≡ answer.TheVariants.Settled common
    → IsCompleteRun (initial_state C) events → IsCommonTo common (ending_of_run (initial_state C) events)
every-run C events common ready numbers settled complete =
    let h : HasFlatEnd C events = end-agrees C events ready complete in
    subst (IsCommonTo common) h.ending
    (every-order C.program C.fuel common (grants_of (initial_state C) events) h.end' (record { program = ready.program; numbers = numbers; checked = ready.checked; answer = settled }) h.run)

pub no-stuck_run : (C : Setting) (events : List Event) (common : Common) → IsReady C → HasWords C.program → outcomes C.program C.fuel ≡ answer.TheVariants.Settled common
    → IsCompleteRun (initial_state C) events → (ending_of_run (initial_state C) events).outcome ≢ outcome.TheVariants.Stuck
no-stuck_run C events common ready numbers settled complete =
    let h : HasFlatEnd C events = end-agrees C events ready complete in
    subst (λ (e : Ending). e.outcome ≢ outcome.TheVariants.Stuck) h.ending
    (never-stuck C.program C.fuel common (grants_of (initial_state C) events) h.end' (record { program = ready.program; numbers = numbers; checked = ready.checked; answer = settled }) h.run)
