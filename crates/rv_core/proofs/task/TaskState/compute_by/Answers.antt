use Rattle.std.proofs.Common.{◌≡◌, ◌↔◌, true, rules, sym, subst}
use Rattle.std.specs.Int.{w32}
use mir.Val.{SFits}
use Rattle.std.proofs.lemmas.Int.{to_z-of_z}
use lib.IntN.{ℤ}
use Rattle.rv_isa.specs.declared.instr.Instr.{Instr}
use Rattle.rv_isa.specs.declared.instr.Instr.TheVariants.{Branch}
use Rattle.rv_core.specs.Need.{instr_need}
use Rattle.rv_core.specs.declared.need.Need.TheVariants.{Local}
use Rattle.rv_core.proofs.task.TaskState.compute_by.Goals as goal

pub returns-in-Branch-clause-local : goal.returns-in-Branch-clause-local
returns-in-Branch-clause-local c = λ P d.
    let fits : SFits w32 c.in-Branch.offset = search rules in
    subst (λ (i : Instr). (c.branch_by.result ≡ true) ↔ (instr_need P d c.args.self.now i ≡ Local)) (sym c.in-Branch.is)
    (subst (λ (z : ℤ). (c.branch_by.result ≡ true) ↔ (instr_need P d c.args.self.now (Branch c.in-Branch.cond c.in-Branch.a c.in-Branch.b z) ≡ Local))
    (to_z-of_z w32 c.in-Branch.offset fits) (c.branch_by.ensures.local P d))
