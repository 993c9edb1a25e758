-- What a fault says of a program, and the order of faults.
use Rattle.std.specs.Prelude.{◌≡◌, ◌≢◌, ◌⊎◌, ℕ, ◌<◌, IsTrue, List, [], ◌∷◌, slice_index_or}
use Rattle.region_table.specs.declared.declared.TaskDecl.{TaskDecl}
use Rattle.region_table.specs.declared.declared.Phase.{Phase}
use Rattle.region_table.specs.Program.{ProgramParts}
use Rattle.effect_checker.specs.declared.fault.CheckFault.{CheckFault}
use Rattle.effect_checker.specs.declared.fault.CheckFault.TheVariants.{PlainConflict, GuardedPlain, TwoLocks}
use Rattle.effect_checker.specs.Checked.{core_writes, core_uses, lock_guards}

-- core `a` writes the word plainly, and core `b`, another core, uses it plainly
abbrev pub IsPlainConflict : List TaskDecl → ℕ → ℕ → ℕ → Type 0
IsPlainConflict tasks a b w = (a ≢ b) × IsTrue (core_writes tasks a w) × IsTrue (core_uses tasks b w)

-- the lock guards the word for some task, and the core uses it plainly
abbrev pub IsGuardedPlain : List TaskDecl → ℕ → ℕ → ℕ → Type 0
IsGuardedPlain tasks lock core w = IsTrue (lock_guards tasks lock w) × IsTrue (core_uses tasks core w)

-- two locks guard the word, of which `a` has the lower number
abbrev pub AreTwoLocks : List TaskDecl → ℕ → ℕ → ℕ → Type 0
AreTwoLocks tasks a b w = (a < b) × IsTrue (lock_guards tasks a w) × IsTrue (lock_guards tasks b w)

-- the number of the phase that a fault names
abbrev pub fault_phase : CheckFault → ℕ
fault_phase (PlainConflict phase a b w) = phase.0
fault_phase (GuardedPlain phase lock core w) = phase.0
fault_phase (TwoLocks phase a b w) = phase.0

-- tasks of one phase conflict on a word as the fault says
abbrev pub IsFaultAmong : List TaskDecl → CheckFault → Type 0
IsFaultAmong tasks (PlainConflict phase a b w) = IsPlainConflict tasks a.0 b.0 w.0
IsFaultAmong tasks (GuardedPlain phase lock core w) = IsGuardedPlain tasks lock.0 core.0 w.0
IsFaultAmong tasks (TwoLocks phase a b w) = AreTwoLocks tasks a.0 b.0 w.0

-- the phase with this number; from the last phase on, a phase without tasks
abbrev pub phase_at : ProgramParts → ℕ → Phase
phase_at program number = slice_index_or program.phases number (record { tasks = [] })

-- the program has this fault
abbrev pub IsFault : ProgramParts → CheckFault → Type 0
IsFault program f = IsFaultAmong (phase_at program (fault_phase f)).tasks f

-- the numbers that order faults: the phase, the kind, the two numbers that the fault names, and the word
abbrev pub numbers_of : CheckFault → List ℕ
numbers_of (PlainConflict phase a b w) = phase.0 ∷ 0 ∷ a.0 ∷ b.0 ∷ w.0 ∷ []
numbers_of (GuardedPlain phase lock core w) = phase.0 ∷ 1 ∷ lock.0 ∷ core.0 ∷ w.0 ∷ []
numbers_of (TwoLocks phase a b w) = phase.0 ∷ 2 ∷ a.0 ∷ b.0 ∷ w.0 ∷ []

-- the first list of numbers is at most the second in lexicographic order
abbrev pub IsUpTo : List ℕ → List ℕ → Type 0
IsUpTo [] ys = Unit {0}
IsUpTo (x ∷ xs) [] = ⊥
IsUpTo (x ∷ xs) (y ∷ ys) = (x < y) ⊎ ((x ≡ y) × IsUpTo xs ys)

-- the program has the fault, and none that comes before it
pub record IsLeastFault (program : ProgramParts) (f : CheckFault) : Type 0 where
  pub fault : IsFault program f
  pub least : (g : CheckFault) → IsFault program g → IsUpTo (numbers_of f) (numbers_of g)
