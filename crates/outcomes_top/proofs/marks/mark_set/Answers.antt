use Rattle.std.proofs.Common.{◌+◌, take, get_or}
use Rattle.region_table.specs.Words.{has, in_interval}
use Rattle.outcomes_top.proofs.MarkLemmas.{marked-both, has-more}
use Rattle.outcomes_top.proofs.marks.mark_set.Goals as goal

pub loop-interval-preserved : goal.loop-interval-preserved
loop-interval-preserved c =
    let is = c.intervals-interval-items.result.now in
    let k = c.loop-interval.interval-index in
    marked-both c.args.marks.now c.loop-interval.marks c.mark_interval.new.marks c.args.core (has (take k is)) (in_interval (get_or is k _)) (has (take (k + 1) is)) c.loop-interval.invariant
    c.mark_interval.ensures (λ w. has-more is k _ w c.loop-interval-test.true)
