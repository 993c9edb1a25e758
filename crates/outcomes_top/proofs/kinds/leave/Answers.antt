use Rattle.std.proofs.Common.{slice_set, ap, ◌∙◌}
use Rattle.common_outcomes.specs.Alone.{left_by}
use Rattle.outcomes_top.proofs.ListLemmas.{one-changed}
use Rattle.outcomes_top.proofs.kinds.leave.Goals as goal

pub loop-place-preserved : goal.loop-place-preserved
loop-place-preserved c =
    ap (slice_set c.loop-place.kinds c.loop-place.place) c.left_kind.ensures
    ∙ one-changed (left_by c.args.task.now c.args.lock) c.args.kinds.now c.loop-place.kinds c.loop-place.place _ c.loop-place.invariant
