use Rattle.std.proofs.Common.{◌≡◌, ◌++◌, drop}
use Rattle.run_report.specs.Answer.{word_lines}
use Rattle.run_report.proofs.answer.push_words.Given as goal

abbrev pub invariant-loop-value : goal.invariant-loop-value
invariant-loop-value l =
    (l.word ≡ l.value-index) × (l.out.items ++ word_lines l.word (drop l.value-index l.memory) ≡ l.fn.out.items ++ word_lines 0 l.memory)
