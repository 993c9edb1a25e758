use Rattle.std.proofs.Common.{◌≡◌, ◌++◌, drop}
use Rattle.run_chart.specs.Keeping.{left_from}
use Rattle.run_chart.proofs.keeping.left_mails.Given as goal

abbrev pub invariant-loop-mail : goal.invariant-loop-mail
invariant-loop-mail l = l.left ++ left_from l.whole l.kept l.line (drop l.mail-index l.mails) ≡ left_from l.whole l.kept l.fn.line l.mails
