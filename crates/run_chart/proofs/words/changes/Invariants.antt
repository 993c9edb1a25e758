use Rattle.std.proofs.Common.{◌≡◌, ◌++◌, drop}
use Rattle.run_chart.specs.Words.{word_state, changes_among}
use Rattle.run_chart.proofs.words.changes.Given as goal

abbrev pub invariant-loop-before : goal.invariant-loop-before
invariant-loop-before l =
    l.changes ++ changes_among (word_state l.machine.state l.actor) (drop l.before-index l.befores) ≡ changes_among (word_state l.machine.state l.actor) l.befores
