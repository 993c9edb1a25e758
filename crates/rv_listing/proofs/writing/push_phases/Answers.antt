use Rattle.std.proofs.Common.{length, get_or, sym, subst, arith}
use Rattle.std.proofs.lemmas.Grind.{common_steps}
use Rattle.std.specs.List.{All}
use Rattle.std.proofs.lemmas.List.Elements.{All-more}
use Rattle.region_table.specs.declared.declared.Phase.{Phase}
use Rattle.region_table.specs.Program.{IsPhase}
use Rattle.rv_listing.specs.Law.{IsOfWords}
use Rattle.rv_listing.proofs.TypeLemmas.{all-taken, tasks-of_phases}
use Rattle.rv_listing.proofs.writing.push_phases.Goals as goal

pub push_phase-requires-clause-tasks : goal.push_phase-requires-clause-tasks
push_phase-requires-clause-tasks c =
    let found : IsPhase c.requires.phases.0 (length c.args.locks.now) (get_or c.args.phases.now c.loop-phase.phase-index c.phase-item.result) =
    c.requires.phases.1 c.loop-phase.phase-index c.phase-item.result c.loop-phase-test.true in
    let here = rw (sym c.phase-item.is) at found in
    (c.requires.phases.0, here.tasks)

abbrev AreOfWords : Phase → Type 0
AreOfWords p = All IsOfWords p.tasks

pub loop-phase-preserved : goal.loop-phase-preserved
loop-phase-preserved c = record {
  lines = grind (arith, common_steps);
  words = All-more AreOfWords c.args.phases.now c.loop-phase.phase-index c.phase-item.result c.loop-phase-test.true c.loop-phase.invariant.words
      (subst AreOfWords c.phase-item.is c.in_ok-push_phase.ensures.words);
}

pub returns-clause-words : goal.returns-clause-words
returns-clause-words c =
    tasks-of_phases c.args.phases.now (all-taken AreOfWords c.loop-phase.phase-index c.args.phases.now c.loop-phase-test.false c.loop-phase.invariant.words)
