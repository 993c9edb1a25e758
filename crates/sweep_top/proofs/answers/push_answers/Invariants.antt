use Rattle.std.proofs.Common.{◌≡◌, ◌++◌, flat_map}
use Rattle.sweep_top.specs.AnswerTable.{answer_row}
use Rattle.sweep_top.specs.Kept.{counted_answers}
use Rattle.sweep_top.proofs.answers.push_answers.Given as goal

abbrev pub invariant-loop-text : goal.invariant-loop-text
invariant-loop-text l = l.out.items ++ flat_map answer_row (counted_answers l.text-iterator) ≡ l.fn.out.items ++ flat_map answer_row (counted_answers l.answers.entries)
