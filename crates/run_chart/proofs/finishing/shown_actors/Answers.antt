use Rattle.std.proofs.Common.{sym, ◌∙◌, arith}
use Rattle.std.proofs.lemmas.List.FromFn.{map-range_with_len_more}
use Rattle.run_chart.specs.Finishing.{has_column_at}
use Rattle.run_chart.proofs.finishing.shown_actors.Goals as goal

pub loop-index-preserved : goal.loop-index-preserved
loop-index-preserved c = (
  omega arith,
  c.in_ok-push.ensures.ok
      ∙ rw (c.loop-index.invariant.1, c.has_column_at.ensures)
      (sym (map-range_with_len_more (has_column_at c.args.columns c.args.rows.now c.args.leaving.now c.args.waiting.now c.args.shape) 0 c.loop-index.index c.loop-index.index (omega arith))),
)
