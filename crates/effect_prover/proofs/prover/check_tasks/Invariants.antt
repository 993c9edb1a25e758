use Rattle.std.proofs.Common.{◌≡◌, ◌<◌, ℕ, slice_get, Some}
use Rattle.region_table.specs.declared.declared.TaskDecl.{TaskDecl}
use Rattle.effect_prover.specs.Answer.{IsProvenTask}
use Rattle.effect_prover.specs.Kept.{IsTableKept}
use Rattle.effect_prover.proofs.prover.check_tasks.Given as goal

abbrev pub invariant-loop-task : goal.invariant-loop-task
invariant-loop-task l =
    record {
      kept : IsTableKept l.program l.kept;
      proven : (k : ℕ) (d : TaskDecl) → k < l.task-index → slice_get l.tasks k ≡ Some d → IsProvenTask l.program d;
    }
