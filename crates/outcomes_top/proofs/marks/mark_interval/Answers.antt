use Rattle.std.proofs.Common.{◌&&◌, nat_le, nat_lt, arith}
use Rattle.std.proofs.lemmas.Bool.Decides.{nat_tests}
use Rattle.region_table.specs.Words.{in_interval}
use Rattle.outcomes_top.proofs.MarkLemmas.{marked-as}
use Rattle.outcomes_top.proofs.marks.mark_interval.Goals as goal

pub returns : goal.returns
returns c =
    marked-as c.args.marks.now c.loop-word.marks c.args.core (λ w. nat_le c.args.interval.lo w && nat_lt w c.loop-word.word) (in_interval c.args.interval) c.loop-word.invariant.marked
    (λ w. grind (arith, nat_tests, c.loop-word-test.false, c.loop-word.auto.word, c.loop-word.auto.word-end, c.loop-word.invariant.stays))
