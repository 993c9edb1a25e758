use Rattle.std.proofs.Common.{◌≡◌, ◌<◌, ℕ, slice_get, Some}
use Rattle.std.specs.List.{All}
use Rattle.region_table.specs.declared.declared.Phase.{Phase}
use Rattle.effect_prover.specs.Answer.{IsProvenTask}
use Rattle.effect_prover.specs.Kept.{IsTableKept}
use Rattle.effect_prover.proofs.prover.check_in_turn.Given as goal

abbrev pub invariant-loop-number : goal.invariant-loop-number
invariant-loop-number l =
    record {
      kept : IsTableKept l.program l.kept;
      proven : (k : ℕ) (q : Phase) → k < l.number → slice_get l.program.phases k ≡ Some q → All (IsProvenTask l.program) q.tasks;
    }
