use Rattle.std.proofs.Common.{slice_set, ap, ◌∙◌}
use Rattle.common_outcomes.specs.Alone.{closed}
use Rattle.outcomes_top.proofs.ListLemmas.{one-changed}
use Rattle.outcomes_top.proofs.cells.close_all.Goals as goal

pub loop-place-preserved : goal.loop-place-preserved
loop-place-preserved c =
    ap (slice_set c.loop-place.cells c.loop-place.place) c.close.ensures ∙ one-changed closed c.args.cells.now c.loop-place.cells c.loop-place.place _ c.loop-place.invariant
