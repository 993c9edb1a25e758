-- A text has one program, and a text whose program is checked isn't refused.
use Rattle.std.proofs.Common.{◌≡◌, inl, inr, ℕ, zero, suc, List, [], ◌∷◌, get_or, Ok, Err, subst, arith}
use Rattle.std.specs.List.{All}
use Rattle.std.proofs.lemmas.List.Elements.{All-head, All-tail}
use Rattle.region_table.specs.declared.declared.Phase.{Phase}
use Rattle.region_table.specs.Program.{ProgramParts}
use Rattle.rv_assembler.specs.Source.{source}
use Rattle.rv_assembler.specs.declared.fault.SourceFault.{SourceFault}
use Rattle.effect_checker.specs.Checked.{IsCheckedPhase, IsChecked}
use Rattle.effect_checker.specs.Faults.{fault_phase, phase_at, IsFault, IsFaultAmong}
use Rattle.effect_checker.specs.declared.fault.CheckFault.{CheckFault}
use Rattle.effect_checker.specs.declared.fault.CheckFault.TheVariants.{PlainConflict, GuardedPlain, TwoLocks}
use Rattle.run_report.specs.Texts.{HasChecked, IsUnfit}

-- ---- a checked program has no conflict

no-tasks : IsCheckedPhase (record { tasks = [] })
no-tasks = record { plain = λ a b w h k. cc; guarded = λ lock core w h k. cc; one_lock = λ a b w h k. cc }

at-place : (phases : List Phase) (n : ℕ) (d : Phase) → All IsCheckedPhase phases → IsCheckedPhase d → IsCheckedPhase (get_or phases n d)
at-place [] n d all h = h
at-place (p ∷ ps) zero d all h = All-head IsCheckedPhase p ps all
at-place (p ∷ ps) (suc n) d all h = at-place ps n d (All-tail IsCheckedPhase p ps all) h

no-fault_among : (p : Phase) (f : CheckFault) → IsCheckedPhase p → IsFaultAmong p.tasks f → ⊥
no-fault_among p (PlainConflict phase a b w) is h = h.0 (is.plain a.0 b.0 w.0 h.1 h.2)
no-fault_among p (GuardedPlain phase lock core w) is h = is.guarded lock.0 core.0 w.0 h.0 h.1
no-fault_among p (TwoLocks phase a b w) is h = let same = is.one_lock a.0 b.0 w.0 h.1 h.2 in omega (arith, same, h.0)

no-fault : (P : ProgramParts) (f : CheckFault) → IsChecked P → IsFault P f → ⊥
no-fault P f is h = no-fault_among (phase_at P (fault_phase f)) f (at-place P.phases (fault_phase f) (record { tasks = [] }) is no-tasks) h

-- ---- a text and its program

pub one-program : (text : List ℕ) (P Q : ProgramParts) → source text ≡ Ok P → source text ≡ Ok Q → P ≡ Q
one-program text P Q e f = cc

program-or_fault : (text : List ℕ) (P : ProgramParts) (fault : SourceFault) → source text ≡ Ok P → source text ≡ Err fault → ⊥
program-or_fault text P fault e f = cc

pub checked-fit : (text line : List ℕ) (Holds : ProgramParts → Type 0) → HasChecked text Holds → IsUnfit text line → ⊥
checked-fit text line Holds is (inl was) = program-or_fault text is.program was.fault is.is was.is
checked-fit text line Holds is (inr was) =
    let same : is.program ≡ was.program = one-program text is.program was.program is.is was.is in
    no-fault was.program was.holds.fault (subst IsChecked same is.checked) was.holds.least.fault
