-- What a look at the next instruction tells.
use Rattle.std.proofs.Common.{◌≡◌, ℕ, Bool, true, false, cond, ◌==◌, None, refl, ap, subst, ◌∙◌, arith}
use Rattle.std.proofs.lemmas.Bool.Decides.{nat_tests}
use Rattle.region_table.specs.Program.{ProgramParts}
use Rattle.region_table.specs.declared.declared.TaskDecl.{TaskDecl}
use Rattle.rv_core.specs.declared.task.TaskState.{TaskState}
use Rattle.rv_core.specs.declared.task.End as cause
use Rattle.rv_core.specs.declared.need.Need.{Need}
use Rattle.rv_core.specs.declared.need.Need.TheVariants.{End}
use Rattle.rv_core.specs.declared.need.Next.{Next}
use Rattle.rv_core.specs.Need.{need_of}
use Rattle.rv_core.specs.Step.{instr_at}
use Rattle.rv_core.specs.Next.{instr_within, IsNextOf}
use Rattle.rv_core.proofs.Needs.{fuelled}

-- a task that has fuel left comes to the instruction at its program counter
pub instr_within-at : (P : ProgramParts) (fuel : ℕ) (t : TaskState) → (t.retired ≡ fuel → ⊥) → instr_within P fuel t ≡ instr_at P t
instr_within-at P fuel t left = by_test (t.retired == fuel) refl
  where
    by_test : (b : Bool) → (t.retired == fuel) ≡ b → cond b None (instr_at P t) ≡ instr_at P t
    by_test true e = absurd (left (grind (arith, nat_tests)))
    by_test false e = refl

-- a look that finds no end for want of fuel is of the need, and of the instruction at the program counter
pub record IsLook (P : ProgramParts) (d : TaskDecl) (fuel : ℕ) (t : TaskState) (K : Need → Type 0) (next : Next) : Type 0 where
  pub left : t.retired ≡ fuel → ⊥
  pub kind : K (need_of P d fuel t)
  pub instr : next.instr ≡ instr_at P t

pub look-tells : (P : ProgramParts) (d : TaskDecl) (fuel : ℕ) (t : TaskState) (K : Need → Type 0) (next : Next) → (K (End cause.TheVariants.Fuel) → ⊥) → IsNextOf P d fuel t next
    → K next.need → IsLook P d fuel t K next
look-tells P d fuel t K next unspent is k =
    let kind : K (need_of P d fuel t) = subst K (ap (λ (n : Next). n.need) is) k in
    let left = (fuelled P d fuel t K unspent kind).0 in
    record { left = left; kind = kind; instr = ap (λ (n : Next). n.instr) is ∙ instr_within-at P fuel t left }
