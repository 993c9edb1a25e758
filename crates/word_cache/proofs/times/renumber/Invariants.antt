use Rattle.std.proofs.Common.{◌≡◌, ◌≤◌, ◌+◌, ◌*◌}
use Rattle.std.specs.Prelude.{count_by}
use Rattle.word_cache.specs.Row.{pairs_by_use, IsPlaceRow, is_from}
use Rattle.word_cache.proofs.times.renumber.Given as goal

abbrev pub invariant-loop-place : goal.invariant-loop-place
invariant-loop-place l = record {
  row : IsPlaceRow l.sets l.ways l.places;
  pairs : pairs_by_use l.places ≡ pairs_by_use l.fn.places;
  count : l.time + count_by (is_from l.time) l.places ≡ l.sets * l.ways + 1;
  first : 1 ≤ l.time;
}

abbrev pub decreases-loop-place : goal.decreases-loop-place
decreases-loop-place l = count_by (is_from l.time) l.places
