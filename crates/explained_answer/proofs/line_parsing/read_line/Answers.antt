use Rattle.std.proofs.Common.{◌++◌, sym, ap, ◌∙◌}
use Rattle.explained_answer.proofs.Ends.{count-is, no-line, none-more}
use Rattle.explained_answer.proofs.line_parsing.read_line.Goals as goal

pub returns-in-Some-count-clause-some : goal.returns-in-Some-count-clause-some
returns-in-Some-count-clause-some c =
    let found = c.in-Some-count.ensures.some in
    record { fits = found.fits; parts = found.parts ∙ ap (λ xs. xs ++ c.in-Some-count.rest.now) (sym (count-is c.in-Some-count.of c.in-Some-count.number)) }

pub returns-clause-none : goal.returns-clause-none
returns-clause-none c =
    none-more c.read_other.result _ _
    (no-line c.args.bytes.now c.in_default.ensures.none c.in_default-task.ensures.none c.in_default-word.ensures.none c.in_default-grant.ensures.none c.in_default-count.ensures.none)
    c.read_other.ensures.none
