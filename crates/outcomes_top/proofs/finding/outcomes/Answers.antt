use Rattle.common_outcomes.specs.Answer.{outcomes}
use Rattle.outcomes_top.proofs.LimitLemmas.{printable, printable-ok}
use Rattle.outcomes_top.proofs.finding.outcomes.Goals as goal

pub returns-clause-printable : goal.returns-clause-printable
returns-clause-printable c =
    let P = c.program-program.result.now in
    printable-ok c.outcomes_by.result (outcomes P c.args.fuel) c.outcomes_by.ensures (printable P c.args.fuel c.a_program_is_well_formed.ensures)
