use Rattle.std.proofs.Common.{subst}
use Rattle.std.specs.List.{All}
use Rattle.std.proofs.lemmas.List.Elements.{All-more}
use Rattle.region_table.specs.Numbers.{IsOfWords}
use Rattle.region_table.proofs.NumberLemmas.{all-taken, tasks-of_phases, AreOfWords}
use Rattle.region_table.proofs.numbers.phases_fit.Goals as goal

pub loop-phase-preserved : goal.loop-phase-preserved
loop-phase-preserved c =
    All-more AreOfWords c.args.phases.now c.loop-phase.phase-index c.phase-item.result c.loop-phase-test.true c.loop-phase.invariant
    (subst AreOfWords c.phase-item.is (subst (All IsOfWords) c.as_slice.ensures c.tasks_fit.ensures))

pub returns : goal.returns
returns c =
    tasks-of_phases c.args.phases.now (all-taken AreOfWords c.loop-phase.phase-index c.args.phases.now c.loop-phase-test.false c.loop-phase.invariant)
