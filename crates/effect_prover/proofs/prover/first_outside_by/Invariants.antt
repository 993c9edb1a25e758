use Rattle.std.proofs.Common.{◌≡◌, ◌<◌, ℕ}
use Rattle.effect_prover.specs.Blocks.{filled_before, filled}
use Rattle.effect_prover.specs.Inside.{IsInsideAt}
use Rattle.effect_prover.specs.Stretch.{AreUsableKept}
use Rattle.effect_prover.proofs.prover.first_outside_by.Given as goal

abbrev pub invariant-loop-place : goal.invariant-loop-place
invariant-loop-place l =
    record {
      row : l.row ≡ filled_before l.program l.leaders l.rows l.place;
      kept : AreUsableKept l.task l.usable;
      inside : (i : ℕ) → i < l.place → IsInsideAt l.program l.task (filled l.program l.leaders l.rows) i;
    }
