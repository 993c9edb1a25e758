use Rattle.std.proofs.Common.{◌≡◌, ◌++◌, drop}
use Rattle.text_pieces.specs.Pieces.{space}
use Rattle.text_places.specs.Texts.{word_text}
use Rattle.run_chart.specs.Choosing.{names_from}
use Rattle.run_chart.proofs.choosing.push_words.Given as goal

abbrev pub invariant-loop-word : goal.invariant-loop-word
invariant-loop-word l =
    l.out.items ++ names_from (λ i. word_text l.text.program.regions i) l.before l.word (drop l.word l.marks) ≡ l.fn.out.items ++ names_from (λ i. word_text l.text.program.regions i) space 0 l.marks
