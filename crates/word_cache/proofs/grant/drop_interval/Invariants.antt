use Rattle.std.proofs.Common.{◌≡◌, ℕ, [], ◌∷◌}
use Rattle.word_cache.specs.Cache.{dropped_signed}
use Rattle.word_cache.specs.Row.{IsPlaceRow, IsCacheRow, pairs_by_use}
use Rattle.word_cache.proofs.grant.drop_interval.Given as goal

abbrev pub invariant-loop-number : goal.invariant-loop-number
invariant-loop-number l = record {
  still : IsPlaceRow l.sets l.ways l.places;
  row : (clock : ℕ) → IsCacheRow l.sets l.ways clock l.initial.places → IsCacheRow l.sets l.ways clock l.places;
  pairs : pairs_by_use l.places ≡ dropped_signed l.signature l.phase.0 (record { lo = l.fn.interval.lo; hi = l.number } ∷ []) (pairs_by_use l.initial.places);
}
