use Rattle.std.proofs.Common.{◌≡◌, ◌≤◌, map}
use Rattle.std.specs.List.{range_with_len}
use Rattle.run_chart.specs.Choosing.{chooses_word}
use Rattle.run_chart.proofs.choosing.marks_of_words.Given as goal

abbrev pub invariant-loop-word : goal.invariant-loop-word
invariant-loop-word l = (l.word ≤ l.count) × (l.marks ≡ map (chooses_word l.list l.text) (range_with_len 0 l.word))
