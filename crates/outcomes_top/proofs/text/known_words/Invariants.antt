use Rattle.std.proofs.Common.{◌≡◌, map, take}
use Rattle.outcomes_top.specs.Text.{known_number}
use Rattle.outcomes_top.proofs.text.known_words.Given as goal

abbrev pub invariant-loop-value : goal.invariant-loop-value
invariant-loop-value l = l.words ≡ map known_number (take l.value-index l.memory)
