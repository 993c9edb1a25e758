-- Which data words a task may load and store.
use Rattle.std.specs.Prelude.{ℕ, ◌+◌, ◌^◌, Bool, false, ◌&&◌, ◌||◌, nat_lt, List, [], ◌∷◌, bit_and}
use Rattle.std.specs.Int.{w32, trailing_zeros}
use Rattle.region_table.specs.declared.interval.Interval.{Interval}
use Rattle.region_table.specs.declared.declared.TaskDecl.{TaskDecl}
use Rattle.region_table.specs.Words.{has}

-- whether a lock is held; the locks that are held are the bits of a number
abbrev pub is_held : ℕ → ℕ → Bool
is_held held lock = nat_lt 0 (bit_and held (2 ^ lock))

-- the least lock that is held, which is the index of the lowest bit that is set; 32 if none is held
abbrev pub least_held : ℕ → ℕ
least_held held = trailing_zeros w32 held

-- whether the word is in the set of a lock that is held; the first set is that of lock `first`
abbrev pub under : List (List Interval) → ℕ → ℕ → ℕ → Bool
under [] first held w = false
under (s ∷ ss) first held w = (is_held held first && has s w) || under ss (first + 1) held w

-- whether the task may load the word: one that it reads or writes, or that a lock which it holds guards for either
abbrev pub may_load : TaskDecl → ℕ → ℕ → Bool
may_load d held w =
    has d.effects.reads w || has d.effects.writes w || under d.effects.guarded_reads 0 held w || under d.effects.guarded_writes 0 held w

-- whether the task may store the word: one that it writes, or that a lock which it holds guards for writing
abbrev pub may_store : TaskDecl → ℕ → ℕ → Bool
may_store d held w = has d.effects.writes w || under d.effects.guarded_writes 0 held w
