use Rattle.std.proofs.Common.{◌≡◌, ℕ, ◌<◌, ◌≤◌, false, List, get_or}
use Rattle.word_cache.specs.declared.row.Place.{Place}
use Rattle.word_cache.specs.Row.{has_word}
use Rattle.word_cache.proofs.places.pair_place.Given as goal

-- the places that were looked at have no pair of the word
abbrev pub HaveNot : ℕ → List Place → ℕ → ℕ → Type 0
HaveNot w row lo hi = (k : ℕ) (d : Place) → lo ≤ k → k < hi → has_word w (get_or row k d) ≡ false

abbrev pub invariant-loop-index : goal.invariant-loop-index
invariant-loop-index l = HaveNot l.word.0 l.row l.start l.index
