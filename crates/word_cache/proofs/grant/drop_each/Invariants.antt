use Rattle.std.proofs.Common.{◌≡◌, ℕ, take}
use Rattle.word_cache.specs.Cache.{dropped_signed}
use Rattle.word_cache.specs.Row.{IsPlaceRow, IsCacheRow, pairs_by_use}
use Rattle.word_cache.proofs.grant.drop_each.Given as goal

abbrev pub invariant-loop-interval : goal.invariant-loop-interval
invariant-loop-interval l = record {
  still : IsPlaceRow l.sets l.ways l.places;
  row : (clock : ℕ) → IsCacheRow l.sets l.ways clock l.initial.places → IsCacheRow l.sets l.ways clock l.places;
  pairs : pairs_by_use l.places ≡ dropped_signed l.signature l.phase.0 (take l.interval-index l.intervals) (pairs_by_use l.initial.places);
}
