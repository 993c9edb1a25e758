-- Who takes each word: one number for each word, 0 if nobody has taken it.
use Rattle.std.specs.Prelude.{◌≡◌, ◌≢◌, ℕ, Bool, IsTrue, List, length, slice_index_or}
use Rattle.std.specs.List.{All}
use Rattle.region_table.specs.declared.declared.TaskDecl.{TaskDecl}
use Rattle.region_table.specs.Program.{AreEffects}

-- who has taken a word
abbrev pub taker_of : List ℕ → ℕ → ℕ
taker_of takers w = slice_index_or takers w 0

-- each word that passes the test has this taker
abbrev pub AreTaken : (ℕ → Bool) → ℕ → List ℕ → Type 0
AreTaken test taker takers = (w : ℕ) → IsTrue (test w) → taker_of takers w ≡ taker

-- there are as many words as before, and a word that was taken has the same taker
pub record KeepTakers (before after : List ℕ) : Type 0 where
  pub words : length after ≡ length before
  pub taken : (w : ℕ) → taker_of before w ≢ 0 → taker_of after w ≡ taker_of before w

-- the tasks only use words below this number
abbrev pub UseWordsBelow : ℕ → List TaskDecl → Type 0
UseWordsBelow words tasks = All (λ (t : TaskDecl). (locks : ℕ) × AreEffects words locks t.effects) tasks
