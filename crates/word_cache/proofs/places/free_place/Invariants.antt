use Rattle.std.proofs.Common.{◌≢◌, ℕ, ◌<◌, ◌≤◌, List, get_or, None}
use Rattle.word_cache.specs.declared.row.Place.{Place}
use Rattle.word_cache.proofs.places.free_place.Given as goal

-- the places that were looked at have pairs
abbrev pub AreTaken : List Place → ℕ → ℕ → Type 0
AreTaken row lo hi = (k : ℕ) (d : Place) → lo ≤ k → k < hi → (get_or row k d).pair ≢ None

abbrev pub invariant-loop-index : goal.invariant-loop-index
invariant-loop-index l = AreTaken l.row l.start l.index
