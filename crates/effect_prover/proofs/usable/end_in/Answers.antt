use Rattle.std.proofs.Common.{List, sym, ◌∙◌, subst}
use Rattle.region_table.specs.declared.interval.Interval.{Interval}
use Rattle.region_table.specs.Words.{has}
use Rattle.effect_prover.specs.Stretch.{IsStretch}
use Rattle.effect_prover.proofs.StretchLemmas.{stretch-interval}
use Rattle.effect_prover.proofs.usable.end_in.Goals as goal

pub returns-in-Some : goal.returns-in-Some
returns-in-Some c =
    subst (λ (is : List Interval). IsStretch (has is) c.args.word c.in-Some.interval.hi) c.intervals-intervals.ensures.value
    (stretch-interval c.intervals-intervals.result.now c.partition_point-place.result c.in-Some.interval c.args.word (sym c.interval_at.ensures ∙ c.in-Some.is) c.if-interval-word.true c.if-word-interval.true)
