use Rattle.std.proofs.Common.{◌∙◌, sym}
use Rattle.explained_answer.specs.Lines.{lines_in}
use Rattle.explained_answer.proofs.EndedLemmas.{named-other}
use Rattle.explained_answer.proofs.ended.named_on.Goals as goal

pub returns-in_default : goal.returns-in_default
returns-in_default c =
    let lines = lines_in c.args.lines.now in
    c.ended_holder.ensures lines c.requires ∙ sym (named-other lines c.args.line c.in_default.not-Outcome)
