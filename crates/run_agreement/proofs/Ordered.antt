-- Where locks are taken in an order no run of the machine is stuck, since the flat machine's run by its grants isn't.
use Rattle.std.proofs.Common.{◌≡◌, ◌≢◌, ℕ, false, All, List, ap, subst, ◌∙◌}
use Rattle.dn_base.specs.declared.status.Outcome as outcome
use Rattle.rv_core.specs.declared.ending.TaskEnd.{TaskEnd}
use Rattle.rv_core.specs.declared.ending.Ending.{Ending}
use Rattle.rv_core.specs.Ending.{is_waiting}
use Rattle.flat_machine.specs.LockOrder.{IsLockOrder}
use Rattle.flat_machine.proofs.LockOrderLaws as flat
use Rattle.message_net.specs.declared.event.Event.{Event}
use Rattle.registration_protocol.specs.Node.{Setting}
use Rattle.machine_rules.specs.State.{initial_state}
use Rattle.machine_rules.specs.Runs.{IsCompleteRun, grants_of, ending_of_run}
use Rattle.machine_rules.specs.Sound.{IsWellFormed}
use Rattle.run_agreement.proofs.EndAgrees.{well-ends}

pub ordered-waits : (C : Setting) (events : List Event) (rank : ℕ → ℕ → ℕ) → IsWellFormed C → IsCompleteRun (initial_state C) events → IsLockOrder C.program C.fuel rank
    → All (λ (t : TaskEnd). is_waiting t.end ≡ false) (ending_of_run (initial_state C) events).tasks
ordered-waits C events rank well complete order =
    let h = well-ends C events well complete in
    subst (λ (x : Ending). All (λ (t : TaskEnd). is_waiting t.end ≡ false) x.tasks) h.ending (flat.ordered-waits C.program C.fuel rank (grants_of (initial_state C) events) h.end' order h.run)

pub ordered-unstuck : (C : Setting) (events : List Event) (rank : ℕ → ℕ → ℕ) → IsWellFormed C → IsCompleteRun (initial_state C) events → IsLockOrder C.program C.fuel rank
    → (ending_of_run (initial_state C) events).outcome ≢ outcome.TheVariants.Stuck
ordered-unstuck C events rank well complete order stuck =
    let h = well-ends C events well complete in
    flat.ordered-unstuck C.program C.fuel rank (grants_of (initial_state C) events) h.end' order h.run (ap (λ (x : Ending). x.outcome) h.ending ∙ stuck)
