use Rattle.std.proofs.Common.{◌≡◌, ◌++◌, drop}
use Rattle.run_chart.specs.Words.{held_words}
use Rattle.run_chart.proofs.words.held_words.Given as goal

abbrev pub invariant-loop-word : goal.invariant-loop-word
invariant-loop-word l =
    l.held ++ held_words l.machine.state l.actor (drop l.word-index l.words) ≡ held_words l.machine.state l.actor l.words
