use Rattle.std.proofs.Common.{◌≡◌, ◌++◌, drop, flat_map}
use Rattle.run_chart.specs.Picture.{leaving_arrow}
use Rattle.run_chart.proofs.rows.push_leaving_arrows.Given as goal

abbrev pub invariant-loop-mail : goal.invariant-loop-mail
invariant-loop-mail l = l.out.items ++ flat_map (leaving_arrow l.chart) (drop l.mail-index l.mails) ≡ l.fn.out.items ++ flat_map (leaving_arrow l.chart) l.mails
