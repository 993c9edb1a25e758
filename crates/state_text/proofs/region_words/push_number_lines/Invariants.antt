use Rattle.std.proofs.Common.{◌≡◌, ◌++◌, drop}
use Rattle.state_text.specs.ForReaders.{number_lines}
use Rattle.state_text.proofs.region_words.push_number_lines.Given as goal

abbrev pub invariant-loop-word : goal.invariant-loop-word
invariant-loop-word l =
    (l.index ≡ l.word-index) × (l.out.items ++ number_lines l.base l.width l.index (drop l.word-index l.words) ≡ l.fn.out.items ++ number_lines l.base l.width 0 l.words)
