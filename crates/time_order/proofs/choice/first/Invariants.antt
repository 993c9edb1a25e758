use Rattle.time_order.specs.Choices.{IsFirstChoice}
use Rattle.time_order.proofs.choice.first.Given as goal

abbrev pub invariant-loop-place : goal.invariant-loop-place
invariant-loop-place l = IsFirstChoice l.choices l.place l.best
