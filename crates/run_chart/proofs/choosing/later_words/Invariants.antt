use Rattle.std.proofs.Common.{◌≡◌, ◌++◌, drop, map}
use Rattle.run_chart.specs.Choosing.{is_later_word}
use Rattle.run_chart.proofs.choosing.later_words.Given as goal

abbrev pub invariant-loop-place : goal.invariant-loop-place
invariant-loop-place l = l.marks ++ map is_later_word (drop l.place-index l.places) ≡ map is_later_word l.places
