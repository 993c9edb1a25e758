use Rattle.std.proofs.lemmas.List.{replicate_more}
use Rattle.rv_assembler.proofs.claim_rows.empty_rows.Goals as goal

pub loop-row-preserved : goal.loop-row-preserved
loop-row-preserved c = rw (c.in_ok-push.ensures.ok, c.new.ensures, c.loop-row.invariant) (replicate_more c.loop-row._row _)
