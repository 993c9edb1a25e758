use Rattle.effect_checker.proofs.FirstLemmas.{conflict_first, conflict_more}
use Rattle.effect_checker.proofs.searching.first_plain_conflict.Goals as goal

pub returns-in-Some-clause-some : goal.returns-in-Some-clause-some
returns-in-Some-clause-some c =
    conflict_first c.args.tasks.now c.loop-writer.writer-index _ _ c.writer-item.result c.requires.rising (record { within = c.loop-writer-test.true; is = c.writer-item.is }) c.loop-writer.invariant
    c.in-Some.ensures.some

pub loop-writer-preserved : goal.loop-writer-preserved
loop-writer-preserved c =
    conflict_more c.args.tasks.now c.loop-writer.writer-index c.writer-item.result c.requires.rising (record { within = c.loop-writer-test.true; is = c.writer-item.is }) c.loop-writer.invariant
    c.in_default.ensures.none
