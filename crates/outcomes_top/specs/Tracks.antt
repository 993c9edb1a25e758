-- Which shared words a task has stored in its present sections.
use Rattle.std.specs.Prelude.{◌≡◌, ℕ, ◌<◌, ◌≤◌, ◌==◌, Bool, true, false, List, length, None}
use Rattle.std.specs.List.{All, list_any}
use Rattle.common_outcomes.specs.declared.value.Cell.{Cell}
use Rattle.common_outcomes.specs.Alone.{Setup, Alone, cell_at, is_shared}

abbrev pub is_listed : List ℕ → ℕ → Bool
is_listed words w = list_any (λ (v : ℕ). v == w) words

-- each shared word that has a stored value is in the list
pub record IsTracked (S : Setup) (cells : List Cell) (listed : List ℕ) : Type 0 where
  pub within : All (λ (w : ℕ). w < length cells) listed
  pub rest : (w : ℕ) → is_shared S.phase S.decl w ≡ true → is_listed listed w ≡ false → (cell_at cells w).stored ≡ None

-- the task alone has a cell for each data word, and hasn't retired more instructions than it may
pub record IsWell (S : Setup) (a : Alone) : Type 0 where
  pub words : length a.cells ≡ length S.program.memory
  pub fuel : a.state.end ≡ None → a.state.retired ≤ S.fuel
