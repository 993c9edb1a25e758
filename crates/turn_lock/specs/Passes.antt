-- What callers see of a turn and of its passes.
use Rattle.std.specs.Prelude.{◌≡◌, ℕ, ◌+◌, List, [], ◌∷◌, length, All, Option, Some}
use Rattle.atomic_table.specs.Seated.{TableId}
use Rattle.turn_lock.specs.declared.entry.Entry.{Entry}
use Rattle.turn_lock.specs.History.{BeginsWith, calls_by}

-- A turn: which one it is, the object that it was started with, and the number of its passes
pub record Sharing (O : Type 0) : Type 0 where
  pub table : TableId
  pub opening : O
  pub passes : ℕ

-- A pass: its turn and that turn's first object, its number, the history that it has seen, and the calls that it made
pub record Token (O I U : Type 0) : Type 0 where
  pub table : TableId
  pub opening : Option O
  pub number : ℕ
  pub seen : List (Entry O I U)
  pub made : List (Entry O I U)

module _ {O I U : Type 0} where
  -- it is a pass of this turn
  abbrev pub IsPassOf : Sharing O → Token O I U → Type 0
  IsPassOf turn pass = (pass.table ≡ turn.table) × (pass.opening ≡ Some turn.opening)

  -- it is a pass of the same turn, with the same number
  abbrev pub IsSamePass : Token O I U → Token O I U → Type 0
  IsSamePass old new = (new.table ≡ old.table) × (new.opening ≡ old.opening) × (new.number ≡ old.number)

  -- a pass of this turn, with this number, that has seen nothing and made no call
  abbrev pub IsUnusedPass : Sharing O → ℕ → Token O I U → Type 0
  IsUnusedPass turn number pass = IsPassOf turn pass × (pass.number ≡ number) × (pass.seen ≡ []) × (pass.made ≡ [])

  -- the passes are fresh, with rising numbers from this one on
  abbrev pub AreUnusedPasses : Sharing O → ℕ → List (Token O I U) → Type 0
  AreUnusedPasses turn number [] = Unit {0}
  AreUnusedPasses turn number (p ∷ ps) = IsUnusedPass turn number p × AreUnusedPasses turn (number + 1) ps

  -- as many passes of this turn as it has, in any order
  abbrev pub AreAllPasses : Sharing O → List (Token O I U) → Type 0
  AreAllPasses turn passes = (length passes ≡ turn.passes) × All (IsPassOf turn) passes

  -- the history begins with what the pass has seen, and has of its calls exactly those that it made, in its order
  abbrev pub IsTold : List (Entry O I U) → Token O I U → Type 0
  IsTold history pass = BeginsWith history pass.seen × (calls_by pass.number history ≡ pass.made)
