use Rattle.std.proofs.Common.{◌≡◌, ◌++◌, drop}
use Rattle.run_chart.proofs.keeping.with_others.Given as goal

abbrev pub invariant-loop-other : goal.invariant-loop-other
invariant-loop-other l = l.mails ++ drop l.other-index l.others ≡ l.fn.mails ++ l.others
