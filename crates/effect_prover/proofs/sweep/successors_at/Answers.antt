use Rattle.std.proofs.Common.{sym, subst, arith}
use Rattle.effect_prover.proofs.SuccessorLemmas.{AreRows, successors-rows}
use Rattle.effect_prover.proofs.TableLemmas.{known-rows}
use Rattle.effect_prover.proofs.sweep.successors_at.Goals as goal

pub returns-clause-next : goal.returns-clause-next
returns-clause-next c =
    let rows : AreRows c.successors.result = subst AreRows (sym c.successors.ensures)
    (successors-rows c.len.result c.address.result c.args.row.now c.args.instr.now (let a = c.requires.program.locks in omega (arith, c.len.ensures)) (let w = c.requires.within in let b = c.requires.program.code in omega (arith, c.address.ensures)) c.requires.registers c.requires.fitting c.requires.row) in
    known-rows c.successors.result.next rows.next

pub returns-clause-target : goal.returns-clause-target
returns-clause-target c =
    let rows : AreRows c.successors.result = subst AreRows (sym c.successors.ensures)
    (successors-rows c.len.result c.address.result c.args.row.now c.args.instr.now (let a = c.requires.program.locks in omega (arith, c.len.ensures)) (let w = c.requires.within in let b = c.requires.program.code in omega (arith, c.address.ensures)) c.requires.registers c.requires.fitting c.requires.row) in
    known-rows c.successors.result.target rows.target
