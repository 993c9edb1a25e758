-- The place with the least time, and what a new time for it comes to.
use Rattle.std.proofs.Common.{◌≡◌, ◌≢◌, ℕ, ◌+◌, ◌<◌, ◌≤◌, Bool, true, false, cond, nat_lt, nat_le, List, [], ◌∷◌, length, get_or, set, Option, Some, None, refl, arith, ap, ◌∙◌, sym, zero, suc}
use Rattle.std.specs.Prelude.{count_by}
use Rattle.std.specs.List.{find}
use Rattle.std.proofs.lemmas.List.Sums.{sum_by-cons}
use Rattle.std.proofs.lemmas.Bool.Decides.{nat_tests}
use Rattle.word_cache.specs.declared.row.Place.{Place}
use Rattle.word_cache.specs.Cache.{Pair}
use Rattle.word_cache.specs.Row.{by_use, pairs_of, pairs_by_use, IsPlaceRow, AreFrom, IsLeastUsed, earlier, is_from, passes}
use Rattle.word_cache.proofs.OrderLemmas.{Each-get, Each-by_use, Each-others, others, by_use-set, by_use-at, find-none, find-put, renumbered}
use Rattle.word_cache.proofs.RowLemmas.{IsRow-set, others_apart}

-- the next place of a row does not pass, or it does
pub first_more : (test : Place → Bool) (row : List Place) (lo hi : ℕ) (best : Option ℕ) → IsLeastUsed test row lo hi best → ((d : Place) → test (get_or row hi d) ≡ false) → IsLeastUsed test row lo (hi + 1) best
first_more test row lo hi None good missing = more where
  more : (j : ℕ) (d : Place) → lo ≤ j → j < hi + 1 → test (get_or row j d) ≡ false
  more j d low high = by_test (nat_lt j hi) refl where
    by_test : (t : Bool) → nat_lt j hi ≡ t → test (get_or row j d) ≡ false
    by_test true e = good j d low (grind (arith, nat_tests))
    by_test false e = let same : j ≡ hi = grind (arith, nat_tests) in rw same (missing d)
first_more test row lo hi (Some k) good missing =
    (good.0, omega (arith, good.1), good.2, later) where
      later : (j : ℕ) (d e : Place) → lo ≤ j → j < hi + 1 → test (get_or row j d) ≡ true → (get_or row k e).used ≤ (get_or row j d).used
      later j d e low high pass = by_test (nat_lt j hi) refl where
        by_test : (t : Bool) → nat_lt j hi ≡ t → (get_or row k e).used ≤ (get_or row j d).used
        by_test true f = good.3 j d e low (grind (arith, nat_tests)) pass
        by_test false f =
            let same : j ≡ hi = grind (arith, nat_tests) in
            let never : test (get_or row j d) ≡ false = rw same (missing d) in
            absurd (cc)

-- a read within a list does not depend on the value for reads past its end
pub same_read : (row : List Place) (i : ℕ) (d e : Place) → i < length row → get_or row i d ≡ get_or row i e
same_read [] i d e within = absurd (omega arith)
same_read (p ∷ ps) zero d e within = refl
same_read (p ∷ ps) (suc i) d e within = same_read ps i d e (omega (arith, within))

pub first_pass : (test : Place → Bool) (row : List Place) (lo hi : ℕ) (best : Option ℕ) (f : Place) → IsLeastUsed test row lo hi best → lo ≤ hi → hi < length row → ((d : Place) → test (get_or row hi d) ≡ true) → IsLeastUsed test row lo (hi + 1) (Some (earlier row best hi f))
first_pass test row lo hi None f good low within passing =
    (low, omega arith, passing, later) where
      later : (j : ℕ) (d e : Place) → lo ≤ j → j < hi + 1 → test (get_or row j d) ≡ true → (get_or row hi e).used ≤ (get_or row j d).used
      later j d e low' high pass = by_test (nat_lt j hi) refl where
        by_test : (t : Bool) → nat_lt j hi ≡ t → (get_or row hi e).used ≤ (get_or row j d).used
        by_test true g =
            let never = good j d low' (grind (arith, nat_tests)) in
            absurd (cc)
        by_test false g =
            let same : j ≡ hi = grind (arith, nat_tests) in
            rw (same, same_read row hi d e within) (omega arith)
first_pass test row lo hi (Some k) f good low within passing = by_test (nat_lt (get_or row hi f).used (get_or row k f).used) refl where
  by_test : (t : Bool) → nat_lt (get_or row hi f).used (get_or row k f).used ≡ t → IsLeastUsed test row lo (hi + 1) (Some (cond t hi k))
  by_test true less = (low, omega arith, passing, later) where
    later : (j : ℕ) (d e : Place) → lo ≤ j → j < hi + 1 → test (get_or row j d) ≡ true → (get_or row hi e).used ≤ (get_or row j d).used
    later j d e low' high pass = by_last (nat_lt j hi) refl where
      by_last : (t : Bool) → nat_lt j hi ≡ t → (get_or row hi e).used ≤ (get_or row j d).used
      by_last true g =
          let before = good.3 j d f low' (grind (arith, nat_tests)) pass in
          rw (same_read row hi e f within) (grind (arith, nat_tests, before, less))
      by_last false g =
          let same : j ≡ hi = grind (arith, nat_tests) in
          rw (same, same_read row hi d e within) (omega arith)
  by_test false more = (good.0, omega (arith, good.1), good.2, later) where
    later : (j : ℕ) (d e : Place) → lo ≤ j → j < hi + 1 → test (get_or row j d) ≡ true → (get_or row k e).used ≤ (get_or row j d).used
    later j d e low' high pass = by_last (nat_lt j hi) refl where
      by_last : (t : Bool) → nat_lt j hi ≡ t → (get_or row k e).used ≤ (get_or row j d).used
      by_last true g = good.3 j d e low' (grind (arith, nat_tests)) pass
      by_last false g =
          let same : j ≡ hi = grind (arith, nat_tests) in
          rw (same, same_read row hi d f within, same_read row k e f (omega (arith, good.1, within))) (grind (arith, nat_tests, more))

-- the first pair that passes is that of the place with the least time
pub find_first : (sets ways k : ℕ) (d : Place) (p : Pair → Bool) (a : Pair) (row : List Place) → IsPlaceRow sets ways row → k < length row → (get_or row k d).pair ≡ Some a → p a ≡ true → ((j : ℕ) (e : Place) → j < length row → passes p (get_or row j e).pair ≡ true → (get_or row k d).used ≤ (get_or row j e).used) → find p (pairs_by_use row) ≡ Some a
find_first sets ways k d p a row good within here pass first =
    ap (λ (ps : List Place). find p (pairs_of ps)) (by_use-at row k d within (others_apart sets ways k d row good within))
    ∙ find-put p a (get_or row k d) (by_use (others row k)) here pass
    (Each-by_use (λ (q : Place). passes p q.pair ≡ true → (get_or row k d).used < q.used) (others row k)
    (Each-others (λ (q : Place). passes p q.pair ≡ true → (get_or row k d).used < q.used) row k (λ j e below other passing. later j e below other passing))) where
      later : (j : ℕ) (e : Place) → j < length row → j ≢ k → passes p (get_or row j e).pair ≡ true → (get_or row k d).used < (get_or row j e).used
      later j e below other passing =
          let least = first j e below passing in
          let apart = good.times j k e d below within other in
          grind (arith, least, apart)

pub find_no : (p : Pair → Bool) (row : List Place) → ((j : ℕ) (e : Place) → j < length row → passes p (get_or row j e).pair ≡ false) → find p (pairs_by_use row) ≡ None
find_no p row none =
    find-none p (by_use row) (Each-by_use (λ (q : Place). passes p q.pair ≡ false) row (Each-get (λ (q : Place). passes p q.pair ≡ false) row none))

-- beside the place with the least time from `time` on none was used at that time
pub elsewhere_used : (sets ways k time : ℕ) (d : Place) (row : List Place) → IsPlaceRow sets ways row → k < length row → time ≤ (get_or row k d).used → ((j : ℕ) (e : Place) → j < length row → time ≤ (get_or row j e).used → (get_or row k d).used ≤ (get_or row j e).used) → (j : ℕ) (e : Place) → j < length row → j ≢ k → (get_or row j e).used ≢ time
elsewhere_used sets ways k time d row good within from first j e below other equal =
    let least = first j e below (omega (arith, equal)) in
    let apart = good.times j k e d below within other in
    apart (omega (arith, least, from, equal))

-- the place with the least time from `time` on may get that time
pub new_time : (sets ways k time : ℕ) (d y : Place) (row : List Place) → IsPlaceRow sets ways row → k < length row → y.pair ≡ (get_or row k d).pair → y.used ≡ time → 1 ≤ time → time ≤ (get_or row k d).used → ((j : ℕ) (e : Place) → j < length row → time ≤ (get_or row j e).used → (get_or row k d).used ≤ (get_or row j e).used) → (pairs_by_use (set row k y) ≡ pairs_by_use row) × IsPlaceRow sets ways (set row k y)
new_time sets ways k time d y row good within same at numbered from first = (
  ap pairs_of (by_use-set row k y within (Each-others (λ (q : Place). q.used ≢ y.used) row k differs))
      ∙ renumbered (get_or row k d) y (by_use (others row k)) same (Each-by_use (λ (q : Place). nat_lt y.used q.used ≡ nat_lt (get_or row k d).used q.used) (others row k) (Each-others (λ (q : Place). nat_lt y.used q.used ≡ nat_lt (get_or row k d).used q.used) row k alike))
      ∙ ap pairs_of (sym (by_use-at row k d within (others_apart sets ways k d row good within))),
  IsRow-set sets ways k y row good within (omega (arith, at, numbered)) differs (λ j e below other. rw same (good.words j k e d below within other)) (rw same (good.placed k d within)),
) where
  differs : (j : ℕ) (e : Place) → j < length row → j ≢ k → (get_or row j e).used ≢ y.used
  differs j e below other equal = elsewhere_used sets ways k time d row good within from first j e below other (equal ∙ at)

  alike : (j : ℕ) (e : Place) → j < length row → j ≢ k → nat_lt y.used (get_or row j e).used ≡ nat_lt (get_or row k d).used (get_or row j e).used
  alike j e below other = by_test (nat_le time (get_or row j e).used) refl where
    by_test : (t : Bool) → nat_le time (get_or row j e).used ≡ t → nat_lt y.used (get_or row j e).used ≡ nat_lt (get_or row k d).used (get_or row j e).used
    by_test true f =
        let from_there : time ≤ (get_or row j e).used = grind (arith, nat_tests) in
        let least = first j e below from_there in
        let apart = good.times j k e d below within other in
        grind (arith, nat_tests, least, apart, from, at)
    by_test false f = grind (arith, nat_tests, from, at)

-- what passes a test weighs 1
abbrev bit : Bool → ℕ
bit b = cond b 1 0

from_next : (time : ℕ) (q : Place) → q.used ≢ time → bit (is_from (time + 1) q) ≡ bit (is_from time q)
from_next time q other = by_test (is_from (time + 1) q) (is_from time q) refl refl where
  by_test : (t u : Bool) → is_from (time + 1) q ≡ t → is_from time q ≡ u → bit t ≡ bit u
  by_test true true e f = refl
  by_test false false e f = refl
  by_test false true e f = absurd (grind (arith, nat_tests))
  by_test true false e f = absurd (grind (arith, nat_tests))

-- where no place was used at a time, as many are from the next time on
same_from : (time : ℕ) (row : List Place) → ((j : ℕ) (e : Place) → j < length row → (get_or row j e).used ≢ time) → count_by (is_from (time + 1)) row ≡ count_by (is_from time) row
same_from time [] other = refl
same_from time (q ∷ qs) other =
    let weighs = from_next time q (other 0 q (omega arith)) in
    omega (arith, weighs, same_from time qs (λ j e below. other (suc j) e (omega (arith, below))), sum_by-cons (λ (p : Place). bit (is_from (time + 1) p)) q qs, sum_by-cons (λ (p : Place). bit (is_from time p)) q qs)

-- once the one place that may stand at a time stands there, one fewer is from the next time on
pub one_fewer : (k time : ℕ) (d y : Place) (row : List Place) → k < length row → y.used ≡ time → time ≤ (get_or row k d).used → ((j : ℕ) (e : Place) → j < length row → j ≢ k → (get_or row j e).used ≢ time) → count_by (is_from (time + 1)) (set row k y) + 1 ≡ count_by (is_from time) row
one_fewer k time d y [] within at from other = absurd (omega arith)
one_fewer zero time d y (q ∷ qs) within at from other =
    let gone : bit (is_from (time + 1) y) ≡ 0 = grind (arith, nat_tests) in
    let here : bit (is_from time q) ≡ 1 = grind (arith, nat_tests) in
    omega (arith, gone, here, same_from time qs (λ j e below. other (suc j) e (omega (arith, below)) (omega arith)), sum_by-cons (λ (p : Place). bit (is_from (time + 1) p)) y qs, sum_by-cons (λ (p : Place). bit (is_from time p)) q qs)
one_fewer (suc k) time d y (q ∷ qs) within at from other =
    let weighs = from_next time q (other 0 q (omega arith) (omega arith)) in
    omega (arith, weighs, one_fewer k time d y qs (omega (arith, within)) at from (λ j e below apart. other (suc j) e (omega (arith, below)) (omega (arith, apart))), sum_by-cons (λ (p : Place). bit (is_from (time + 1) p)) q (set qs k y), sum_by-cons (λ (p : Place). bit (is_from time p)) q qs)

-- all places are from a time on where each was used then or later
pub all_from : (time : ℕ) (row : List Place) → AreFrom time row → count_by (is_from time) row ≡ length row
all_from time [] from = refl
all_from time (q ∷ qs) from =
    let first = from 0 q (omega arith) in
    let here : bit (is_from time q) ≡ 1 = grind (arith, nat_tests, first) in
    omega (arith, here, all_from time qs (λ i d below. from (suc i) d (omega (arith, below))), sum_by-cons (λ (p : Place). bit (is_from time p)) q qs)

-- and none where none was used from a time on
pub none_from : (time : ℕ) (places : List Place) → IsLeastUsed (is_from time) places 0 (length places) None → count_by (is_from time) places ≡ 0
none_from time [] none = refl
none_from time (q ∷ qs) none =
    let here : bit (is_from time q) ≡ 0 = rw (none 0 q (omega arith) (omega arith)) refl in
    omega (arith, here, none_from time qs (λ j e low below. none (suc j) e (omega arith) (omega (arith, below))), sum_by-cons (λ (p : Place). bit (is_from time p)) q qs)
