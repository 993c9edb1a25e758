use Rattle.std.proofs.Common.{subst, arith}
use Rattle.std.proofs.lemmas.Grind.{common_steps}
use Rattle.std.specs.List.{All}
use Rattle.std.proofs.lemmas.List.Elements.{All-more}
use Rattle.rv_listing.specs.Law.{IsOfWords}
use Rattle.rv_listing.proofs.TypeLemmas.{all-taken}
use Rattle.rv_listing.proofs.writing.push_phase.Goals as goal

pub loop-task-preserved : goal.loop-task-preserved
loop-task-preserved c = record {
  lines = grind (arith, common_steps);
  words = All-more IsOfWords c.as_slice-task-items.result.now c.loop-task.task-index c.task-item.result c.loop-task-test.true c.loop-task.invariant.words
      (subst IsOfWords c.task-item.is c.in_ok-push_task.ensures.words);
}

pub returns-clause-words : goal.returns-clause-words
returns-clause-words c =
    subst (All IsOfWords) c.as_slice-task-items.ensures (all-taken IsOfWords c.loop-task.task-index c.as_slice-task-items.result.now c.loop-task-test.false c.loop-task.invariant.words)
