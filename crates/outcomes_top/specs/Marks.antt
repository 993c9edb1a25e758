-- One mark for each word of a phase: 0 where no task may write it, one more than its core where one task alone may, and 255 where
-- several may.
use Rattle.std.specs.Prelude.{◌≡◌, ℕ, ◌+◌, ◌<◌, ◌==◌, Bool, ◌&&◌, ◌||◌, not, List, length, slice_index_or}
use Rattle.region_table.specs.declared.declared.TaskDecl.{TaskDecl}
use Rattle.region_table.specs.declared.declared.Phase.{Phase}
use Rattle.common_outcomes.specs.Alone.{is_shared}

abbrev pub mark_of : List ℕ → ℕ → ℕ
mark_of marks w = slice_index_or marks w 0

-- whether a task of another core than this one may write a word with this mark
abbrev pub is_of_other : ℕ → ℕ → Bool
is_of_other mark core = not (mark == 0) && not (mark == core + 1)

-- the words that pass the test are marked for the core too
pub record AreMarkedFor (before after : List ℕ) (core : ℕ) (test : ℕ → Bool) : Type 0 where
  pub words : length after ≡ length before
  pub marked : (w c : ℕ) → c < 16 → is_of_other (mark_of after w) c ≡ (is_of_other (mark_of before w) c || (not (core == c) && test w))

-- the marks tell which words are shared
abbrev pub TellShared : Phase → List ℕ → Type 0
TellShared p marks = (d : TaskDecl) (w : ℕ) → d.core.0 < 16 → is_of_other (mark_of marks w) d.core.0 ≡ is_shared p d w
