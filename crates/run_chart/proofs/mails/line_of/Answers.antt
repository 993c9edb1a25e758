use Rattle.std.proofs.Common.{ℕ, Option, sym, ap, ◌∙◌}
use Rattle.run_chart.specs.Mails.{line_there}
use Rattle.run_chart.proofs.Noted.{noted-by-place}
use Rattle.run_chart.proofs.mails.line_of.Goals as goal

pub returns : goal.returns
returns c =
    c.line_there.ensures
    ∙ ap (λ (place : Option ℕ). line_there c.args.sent.now place) c.place_of.ensures.place
    ∙ sym (noted-by-place c.args.sent.now c.args.pool.now.mails c.args.id c.requires.sent c.requires.distinct)
