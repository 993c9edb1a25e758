-- What the searches for a least conflict find.
use Rattle.std.specs.Prelude.{◌≡◌, ℕ, ◌<◌, ◌≤◌, Bool, ◌&&◌, not, ◌==◌, IsTrue, Option, MatchOption, List}
use Rattle.std.specs.List.{AllPairs}
use Rattle.dn_base.specs.declared.ids.WordId.{WordId}
use Rattle.region_table.specs.declared.declared.TaskDecl.{TaskDecl}
use Rattle.region_table.specs.Plan.{uses_plainly}
use Rattle.effect_checker.specs.declared.fault.CheckFault.{CheckFault}
use Rattle.effect_checker.specs.Checked.{writes_plainly, lock_guards}
use Rattle.effect_checker.specs.Faults.{fault_phase, IsFaultAmong, numbers_of, IsUpTo}

-- the word passes the test, and no lesser one does
pub record IsLeastWord (test : ℕ → Bool) (word : ℕ) : Type 0 where
  pub passes : IsTrue (test word)
  pub least : (w : ℕ) → IsTrue (test w) → word ≤ w

-- the least word that passes the test was found, or None since no word passes
abbrev pub IsLeastFound : (ℕ → Bool) → Option WordId → Type 0
IsLeastFound test found = MatchOption found ((w : ℕ) → IsTrue (test w) → ⊥) (λ word. IsLeastWord test word.0)

-- the number and the word are related; no smaller number is related to any word, and the number to no smaller word
pub record IsFirstPair (R : ℕ → ℕ → Type 0) (number word : ℕ) : Type 0 where
  pub holds : R number word
  pub lesser : (m w : ℕ) → m < number → R m w → ⊥
  pub least : (w : ℕ) → R number w → word ≤ w

-- the same for two numbers and a word; the first number is compared first
pub record IsFirst (R : ℕ → ℕ → ℕ → Type 0) (first second word : ℕ) : Type 0 where
  pub pair : IsFirstPair (R first) second word
  pub lesser : (a b w : ℕ) → a < first → R a b w → ⊥

-- the tasks rise by their cores
abbrev pub AreRising : List TaskDecl → Type 0
AreRising tasks = AllPairs (λ (t u : TaskDecl). t.core.0 < u.core.0) tasks

-- only locks with numbers below this one guard words
abbrev pub HaveLocks : ℕ → List TaskDecl → Type 0
HaveLocks locks tasks = (lock w : ℕ) → IsTrue (lock_guards tasks lock w) → lock < locks

-- whether the writer writes the word plainly, and the user, on another core, uses it plainly
abbrev pub contends : TaskDecl → TaskDecl → ℕ → Bool
contends writer user w = not (user.core.0 == writer.core.0) && (writes_plainly writer w && uses_plainly user w)

-- whether the lock guards the word for some of the tasks, and the user uses it plainly
abbrev pub exposes : List TaskDecl → ℕ → TaskDecl → ℕ → Bool
exposes tasks lock user w = lock_guards tasks lock w && uses_plainly user w

-- the fault is the first one among the tasks of phase number `phase`
pub record IsFirstAmong (phase : ℕ) (tasks : List TaskDecl) (f : CheckFault) : Type 0 where
  pub here : fault_phase f ≡ phase
  pub fault : IsFaultAmong tasks f
  pub first : (g : CheckFault) → fault_phase g ≡ phase → IsFaultAmong tasks g → IsUpTo (numbers_of f) (numbers_of g)
