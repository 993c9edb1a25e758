use Rattle.std.proofs.Common.{◌≡◌, ◌++◌, drop, flat_map}
use Rattle.run_chart.specs.Picture.{leaving_words}
use Rattle.run_chart.proofs.rows.push_leaving_mails.Given as goal

abbrev pub invariant-loop-mail : goal.invariant-loop-mail
invariant-loop-mail l = l.out.items ++ flat_map (leaving_words l.chart l.text) (drop l.mail-index l.mails) ≡ l.fn.out.items ++ flat_map (leaving_words l.chart l.text) l.mails
