use Rattle.std.proofs.Common.{◌++◌, codes, sym, ap, ◌∙◌}
use Rattle.explained_answer.proofs.Ends.{none-more}
use Rattle.explained_answer.proofs.Others.{no-other, ticks-is}
use Rattle.explained_answer.proofs.line_parsing.read_other.Goals as goal

pub returns-in-Some-ticks-clause-some : goal.returns-in-Some-ticks-clause-some
returns-in-Some-ticks-clause-some c =
    let found = c.in-Some-ticks.ensures.some in
    record { fits = found.fits; parts = found.parts ∙ ap (λ xs. xs ++ c.in-Some-ticks.rest.now) (sym (ticks-is (codes "time ") c.in-Some-ticks.ticks)) }

pub returns-in-Some-network-clause-some : goal.returns-in-Some-network-clause-some
returns-in-Some-network-clause-some c =
    let found = c.in-Some-network.ensures.some in
    record { fits = found.fits; parts = found.parts ∙ ap (λ xs. xs ++ c.in-Some-network.rest.now) (sym (ticks-is (codes "network ") c.in-Some-network.ticks)) }

pub returns-clause-none : goal.returns-clause-none
returns-clause-none c =
    none-more c.read_open.result _ _
    (no-other c.args.bytes.now c.in_default.ensures.none c.in_default-place_line.ensures.none c.in_default-sum.ensures.none c.in_default-ticks.ensures.none
    c.in_default-network.ensures.none c.in_default-link.ensures.none c.in_default-fixed_line.ensures.none)
    c.read_open.ensures.none
