use Rattle.std.proofs.Common.{◌≡◌, drop}
use Rattle.rv_core.specs.Access.{under}
use Rattle.rv_core.proofs.access.is_under.Given as goal

abbrev pub invariant-loop-lock : goal.invariant-loop-lock
invariant-loop-lock l = under (drop l.lock l.sets) l.lock l.held l.word.0 ≡ under l.sets 0 l.held l.word.0
