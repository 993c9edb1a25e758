use Rattle.std.proofs.lemmas.List.Filters.{dedup_is}
use Rattle.std.proofs.lemmas.List.Kept.{Contains-dedup_nat, Contains-from_dedup}
use Rattle.std.proofs.lemmas.List.Sorted.{Contains-permutation, IsPermutation-sym}
use Rattle.std.proofs.lemmas.Map.Keys.{IsStrictlyIncreasing-dedup}
use Rattle.run_chart.proofs.gathering.sort_once.Goals as goal

pub returns : goal.returns
returns c =
    let is = dedup_is _ _ _ c.dedup.ensures.filtered in
    let moved = c.sort_unstable.ensures.permutation in
    record {
      rise = rw is (IsStrictlyIncreasing-dedup _ c.sort_unstable.ensures.sorted);
      kept = λ w there. rw is (Contains-dedup_nat _ w (Contains-permutation _ _ w moved there));
      none_more = λ w there. Contains-permutation _ _ w (IsPermutation-sym _ _ moved) (Contains-from_dedup _ _ w (rw is at there));
    }
