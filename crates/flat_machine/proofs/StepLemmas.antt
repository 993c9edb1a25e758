-- A task that stands still, and one more step of a segment.
use Rattle.std.proofs.Common.{◌≡◌, ◌<◌, ◌≤◌, ◌+◌, ◌-◌, ℕ, length, zero, suc, refl, ◌∙◌, ap, arith}
use Rattle.region_table.specs.Program.{ProgramParts}
use Rattle.region_table.specs.declared.declared.TaskDecl.{TaskDecl}
use Rattle.rv_core.specs.declared.task.TaskState.{TaskState}
use Rattle.rv_core.specs.declared.need.Need.{Need}
use Rattle.rv_core.specs.declared.need.Need.TheVariants.{Local, Load, Store, Acquire, Release, End}
use Rattle.rv_core.specs.Kinds.{Allowed}
use Rattle.flat_machine.specs.Step.{At, flat_step, flat_steps, IsUnmoved, HasLock}

pub steps-still : (P : ProgramParts) (fuel n : ℕ) (s : At) → IsUnmoved P fuel s → flat_steps P fuel n s ≡ s
steps-still P fuel zero s still = refl
steps-still P fuel (suc n) s still = ap (flat_steps P fuel n) still ∙ steps-still P fuel n s still

-- one of the steps that are left
pub steps-more : (P : ProgramParts) (fuel i : ℕ) (s : At) → i < fuel + 1 → flat_steps P fuel (suc fuel - i) s ≡ flat_steps P fuel (suc fuel - (i + 1)) (flat_step P fuel s)
steps-more P fuel i s within =
    let e : suc fuel - i ≡ suc (suc fuel - (i + 1)) = omega arith in
    ap (λ n. flat_steps P fuel n s) e

pub has-lock : (P : ProgramParts) (d : TaskDecl) (t : TaskState) (n : Need) → length P.locks ≤ 32 → Allowed P d t n → HasLock n
has-lock P d t (Acquire lock) most a = omega (arith, a.0)
has-lock P d t (Release lock) most a = omega (arith, a.0)
has-lock P d t Local most a = tt
has-lock P d t (Load word) most a = tt
has-lock P d t (Store word whole) most a = tt
has-lock P d t (End cause) most a = tt
