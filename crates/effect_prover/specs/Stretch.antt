-- Runs of adjacent words that a task may use.
use Rattle.std.specs.Prelude.{◌≡◌, ℕ, ◌%◌, ◌<◌, ◌≤◌, Bool, true, false, List, Option, Some, None}
use Rattle.rv_isa.specs.declared.instr.Width.{Width}
use Rattle.region_table.specs.declared.declared.TaskDecl.{TaskDecl}
use Rattle.region_table.specs.declared.interval.Interval.{Interval}
use Rattle.region_table.specs.Words.{has}
use Rattle.rv_core.specs.Access.{may_load, may_store}
use Rattle.rv_core.specs.Address.{size_of}
use Rattle.effect_prover.specs.declared.usable.Access.{Access}
use Rattle.effect_prover.specs.declared.usable.Access.TheVariants.{Load, Store}
use Rattle.effect_prover.specs.declared.usable.UsableSet.{UsableSet}
use Rattle.effect_prover.specs.declared.usable.UsableSets.{UsableSets}

-- the words from `word` up to, but not including, `end` pass the test; if there are none, the word itself doesn't
pub record IsStretch (test : ℕ → Bool) (word end : ℕ) : Type 0 where
  pub from : word ≤ end
  pub all : (w : ℕ) → word ≤ w → w < end → test w ≡ true
  pub none : end ≡ word → test word ≡ false

abbrev pub may_use : Access → TaskDecl → ℕ → ℕ → Bool
may_use Load d held w = may_load d held w
may_use Store d held w = may_store d held w

-- the task may use each word from `first` to `last` in this way
abbrev pub AreUsable : Access → TaskDecl → ℕ → ℕ → ℕ → Type 0
AreUsable access d held first last = (w : ℕ) → first ≤ w → w ≤ last → may_use access d held w ≡ true

abbrev pub HasWord : Interval → Type 0
HasWord i = i.lo < i.hi

-- the set has exactly the words that the task may use in this way while it holds these locks
abbrev pub IsUsableSet : Access → TaskDecl → ℕ → List Interval → Type 0
IsUsableSet access d held set = (w : ℕ) → has set w ≡ may_use access d held w

-- no set is kept, or a right one
abbrev pub IsUsableKept : Access → TaskDecl → Option UsableSet → Type 0
IsUsableKept access d None = Unit {0}
IsUsableKept access d (Some kept) = IsUsableSet access d kept.held kept.words

-- the same for the loads and for the stores
pub record AreUsableKept (d : TaskDecl) (sets : UsableSets) : Type 0 where
  pub loads : IsUsableKept Load d sets.loads
  pub stores : IsUsableKept Store d sets.stores

-- a set of these locks is kept
abbrev pub IsUsableReady : Access → TaskDecl → ℕ → Option UsableSet → Type 0
IsUsableReady access d held None = ⊥
IsUsableReady access d held (Some kept) = IsUsableSet access d held kept.words

-- the greatest multiple of a width that is at most `hi`, and the least that is at least `lo`
pub record IsLastMultiple (w : Width) (hi last : ℕ) : Type 0 where
  pub multiple : last % size_of w ≡ 0
  pub within : last ≤ hi
  pub greatest : (a : ℕ) → a ≤ hi → a % size_of w ≡ 0 → a ≤ last

pub record IsFirstMultiple (w : Width) (lo first : ℕ) : Type 0 where
  pub multiple : first % size_of w ≡ 0
  pub within : lo ≤ first
  pub least : (a : ℕ) → lo ≤ a → a % size_of w ≡ 0 → first ≤ a
