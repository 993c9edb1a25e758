use Rattle.std.proofs.Common.{sym, ◌∙◌, arith}
use Rattle.std.proofs.lemmas.List.FromFn.{map-range_with_len_more}
use Rattle.run_chart.specs.Choosing.{chooses_actor}
use Rattle.run_chart.proofs.choosing.marked_actors.Goals as goal

pub loop-index-preserved : goal.loop-index-preserved
loop-index-preserved c = (
  omega arith,
  c.in_ok-push.ensures.ok
      ∙ rw (c.loop-index.invariant.1, c.in_ok-chooses_actor.ensures) (sym (map-range_with_len_more (chooses_actor c.args.list.now c.args.shape) 0 c.loop-index.index c.loop-index.index (omega arith))),
)
