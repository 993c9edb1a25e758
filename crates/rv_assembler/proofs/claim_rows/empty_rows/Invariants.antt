use Rattle.std.proofs.Common.{◌≡◌, [], replicate}
use Rattle.rv_assembler.proofs.claim_rows.empty_rows.Given as goal

abbrev pub invariant-loop-row : goal.invariant-loop-row
invariant-loop-row l = l.rows ≡ replicate l._row []
