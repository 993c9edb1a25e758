use Rattle.std.proofs.Common.{◌≡◌, ℕ, ◌+◌, ◌<◌, None, length, get_or}
use Rattle.word_cache.specs.declared.row.Place.{Place}
use Rattle.word_cache.proofs.cache.empty_places.Given as goal

abbrev pub invariant-loop-before : goal.invariant-loop-before
invariant-loop-before l = record {
  long : length l.places.items ≡ l.before;
  each : (i : ℕ) (d : Place) → i < l.before → get_or l.places.items i d ≡ record { pair = None; used = i + 1 };
}
