use Rattle.std.proofs.Common.{length, subst, arith}
use Rattle.effect_prover.proofs.SuccessorLemmas.{AreRows, successors-rows}
use Rattle.effect_prover.proofs.blocks.step_at.Goals as goal

pub returns-in-Some-clause-row : goal.returns-in-Some-clause-row
returns-in-Some-clause-row c =
    let P = c.args.program.now in
    let locks = c.requires.program.locks in
    let words = c.requires.program.code in
    let within = c.requires.within in
    let address = c.address.ensures in
    (subst AreRows (c.step.ensures (length P.locks))
    (successors-rows (length P.locks) c.address.result c.args.row.now c.in-Some.instr (omega arith) (omega arith) c.in-Some.ensures.fitting.0 c.in-Some.ensures.fitting.1 c.requires.row)).next
