-- How many pairs a set has.
use Rattle.std.proofs.Common.{◌≡◌, ◌≢◌, ℕ, ◌+◌, ◌-◌, ◌*◌, ◌/◌, ◌%◌, ◌<◌, ◌≤◌, ◌||◌, Bool, true, false, cond, nat_lt, List, [], ◌∷◌, length, get_or, set, take, drop, Option, Some, None, refl, arith, ◌∙◌, zero, suc, length-drop, length-take}
use Rattle.std.specs.Prelude.{count_by}
use Rattle.std.proofs.lemmas.List.Sums.{sum_by-cons, sum_by-set, sum_by-take-drop}
use Rattle.std.proofs.lemmas.List.{get_or-take, get_or-drop}
use Rattle.std.proofs.lemmas.Nat.{mul-le}
use Rattle.std.proofs.lemmas.Bool.Decides.{nat_tests}
use Rattle.word_cache.specs.declared.row.Place.{Place}
use Rattle.std.specs.Option.{is_some}
use Rattle.word_cache.specs.Cache.{Pair, shares_set, set_count, lookup}
use Rattle.word_cache.proofs.RowLemmas.{get_none}
use Rattle.word_cache.specs.Row.{pairs_by_use, has_word, IsOfSet, IsPlaceRow, passes}
use Rattle.word_cache.proofs.OrderLemmas.{count-by_use}
use Rattle.word_cache.proofs.SetLemmas.{in_set, from_start}

-- what passes a test weighs 1
abbrev bit : Bool → ℕ
bit b = cond b 1 0

-- how many of a list pass: none, all, or not all
count-cons : (p : Place → Bool) (q : Place) (qs : List Place) → count_by p (q ∷ qs) ≡ cond (p q) 1 0 + count_by p qs
count-cons p q qs = sum_by-cons (λ (x : Place). cond (p x) 1 0) q qs

pub count-zero : (p : Place → Bool) (qs : List Place) → ((i : ℕ) (d : Place) → i < length qs → p (get_or qs i d) ≡ false) → count_by p qs ≡ 0
count-zero p [] none = refl
count-zero p (q ∷ qs) none =
    let first : p q ≡ false = none 0 q (omega arith) in
    let rest = count-zero p qs (λ i d below. none (suc i) d (omega (arith, below))) in
    count-cons p q qs ∙ rw first (omega (arith, rest))

pub count-full : (p : Place → Bool) (qs : List Place) → ((i : ℕ) (d : Place) → i < length qs → p (get_or qs i d) ≡ true) → count_by p qs ≡ length qs
count-full p [] all = refl
count-full p (q ∷ qs) all =
    let first : p q ≡ true = all 0 q (omega arith) in
    let rest = count-full p qs (λ i d below. all (suc i) d (omega (arith, below))) in
    count-cons p q qs ∙ rw first (omega (arith, rest))

one : (p : Place → Bool) (q : Place) → cond (p q) 1 0 ≤ 1
one p q = by_test (p q) where
  by_test : (t : Bool) → cond t 1 0 ≤ 1
  by_test true = omega arith
  by_test false = omega arith

pub count-most : (p : Place → Bool) (qs : List Place) → count_by p qs ≤ length qs
count-most p [] = omega arith
count-most p (q ∷ qs) = omega (arith, count-cons p q qs, one p q, count-most p qs)

pub count-short : (p : Place → Bool) (qs : List Place) (k : ℕ) (d : Place) → k < length qs → p (get_or qs k d) ≡ false → count_by p qs < length qs
count-short p [] k d within not_it = absurd (omega arith)
count-short p (q ∷ qs) zero d within not_it =
    let first : bit (p q) ≡ 0 = rw not_it refl in
    omega (arith, first, count-cons p q qs, count-most p qs)
count-short p (q ∷ qs) (suc k) d within not_it =
    omega (arith, one p q, count-cons p q qs, count-short p qs k d (omega (arith, within)) not_it)

-- a place that passes counts among those that do, and so does what it is replaced by
counts-place : (p : Place → Bool) (qs : List Place) (k : ℕ) (d : Place) → k < length qs → cond (p (get_or qs k d)) 1 0 ≤ count_by p qs
counts-place p [] k d within = absurd (omega arith)
counts-place p (q ∷ qs) zero d within = omega (arith, count-cons p q qs)
counts-place p (q ∷ qs) (suc k) d within = omega (arith, count-cons p q qs, counts-place p qs k d (omega (arith, within)))

pub countable : (p : Place → Bool) (qs : List Place) (k : ℕ) (d : Place) (n : ℕ) (did : Bool) → k < length qs → n ≡ count_by p qs → did ≡ p (get_or qs k d) → cond did 1 0 ≤ n
countable p qs k d n did within counts was = rw (was, counts) (counts-place p qs k d within)

count-set : (p : Place → Bool) (qs : List Place) (k : ℕ) (y d : Place) → k < length qs → count_by p (set qs k y) + cond (p (get_or qs k d)) 1 0 ≡ count_by p qs + cond (p y) 1 0
count-set p qs k y d within = sum_by-set (λ (q : Place). cond (p q) 1 0) qs k y d within

pub recounted : (p : Place → Bool) (qs : List Place) (k : ℕ) (y d : Place) (n m : ℕ) (did does : Bool) → k < length qs → n ≡ count_by p qs → did ≡ p (get_or qs k d) → does ≡ p y → m + cond did 1 0 ≡ n + cond does 1 0 → m ≡ count_by p (set qs k y)
recounted p qs k y d n m did does within counts was is sum =
    let sums = rw (was, is) at sum in
    omega (arith, sums, count-set p qs k y d within, counts)

-- whether a place has a pair of a word's set
abbrev pub is_in_set : ℕ → ℕ → Place → Bool
is_in_set sets w q = passes (shares_set sets w) q.pair

pub set_count-places : (sets w : ℕ) (row : List Place) → set_count sets w (pairs_by_use row) ≡ count_by (is_in_set sets w) row
set_count-places sets w row = count-by_use (shares_set sets w) row

outside : (sets w set : ℕ) (o : Option Pair) → IsOfSet sets set o → set ≢ w % sets → passes (shares_set sets w) o ≡ false
outside sets w set None of_set other = refl
outside sets w set (Some a) of_set other = grind (arith, nat_tests)

inside : (sets w set : ℕ) (o : Option Pair) → IsOfSet sets set o → set ≡ w % sets → o ≢ None → passes (shares_set sets w) o ≡ true
inside sets w set None of_set same some = absurd (some refl)
inside sets w set (Some a) of_set same some = grind (arith, nat_tests)

-- the row's count is that of the set's places
pub counted : (sets ways w : ℕ) (row : List Place) → IsPlaceRow sets ways row → (count_by (is_in_set sets w) row ≡ count_by (is_in_set sets w) (take ways (drop (w % sets * ways) row))) × (w % sets * ways + ways ≤ length row)
counted sets ways w row good =
    let set_below : w % sets + 1 ≤ sets = omega (arith, good.some_sets) in
    let room = mul-le (w % sets + 1) ways sets ways set_below (omega arith) in
    let fits : w % sets * ways + ways ≤ length row = omega (arith, room, good.whole) in
    let front = count-zero (is_in_set sets w) (take (w % sets * ways) row) (λ i d below. before i d (omega (arith, below, length-take (w % sets * ways) row)) fits) in
    let back = count-zero (is_in_set sets w) (drop ways (drop (w % sets * ways) row)) (λ i d below. after i d (omega (arith, below, length-drop ways (drop (w % sets * ways) row), length-drop (w % sets * ways) row)) fits) in
    (omega (arith, front, back, sum_by-take-drop (λ (q : Place). cond (is_in_set sets w q) 1 0) row (w % sets * ways), sum_by-take-drop (λ (q : Place). cond (is_in_set sets w q) 1 0) (drop (w % sets * ways) row) ways), fits) where
      before : (i : ℕ) (d : Place) → i < w % sets * ways → w % sets * ways + ways ≤ length row → is_in_set sets w (get_or (take (w % sets * ways) row) i d) ≡ false
      before i d below fits =
          rw (get_or-take (w % sets * ways) row i d below)
          (outside sets w (i / ways) (get_or row i d).pair (good.placed i d (omega (arith, below, fits)))
          (λ same. omega (arith, below, (from_start (w % sets) ways i good.some_ways same).0)))

      after : (i : ℕ) (d : Place) → i + (w % sets * ways + ways) < length row → w % sets * ways + ways ≤ length row → is_in_set sets w (get_or (drop ways (drop (w % sets * ways) row)) i d) ≡ false
      after i d below fits =
          rw (get_or-drop ways (drop (w % sets * ways) row) i d, get_or-drop (w % sets * ways) row (ways + i) d)
          (outside sets w ((w % sets * ways + (ways + i)) / ways) (get_or row (w % sets * ways + (ways + i)) d).pair (good.placed (w % sets * ways + (ways + i)) d (omega (arith, below)))
          (λ same. omega (arith, (from_start (w % sets) ways (w % sets * ways + (ways + i)) good.some_ways same).1)))

-- a set whose places all have a pair has as many as it may have
pub is_full : (sets ways w : ℕ) (row : List Place) → IsPlaceRow sets ways row → ((k : ℕ) (d : Place) → k < length row → k / ways ≡ w % sets → (get_or row k d).pair ≢ None) → set_count sets w (pairs_by_use row) ≡ ways
is_full sets ways w row good filled =
    let whole = counted sets ways w row good in
    let long : length (take ways (drop (w % sets * ways) row)) ≡ ways = omega (arith, whole.1, length-take ways (drop (w % sets * ways) row), length-drop (w % sets * ways) row) in
    set_count-places sets w row ∙ whole.0 ∙ count-full (is_in_set sets w) (take ways (drop (w % sets * ways) row)) (λ i d below. each i d (omega (arith, below, long)) whole.1) ∙ long where
      each : (i : ℕ) (d : Place) → i < ways → w % sets * ways + ways ≤ length row → is_in_set sets w (get_or (take ways (drop (w % sets * ways) row)) i d) ≡ true
      each i d below fits =
          let at : (w % sets * ways + i) / ways ≡ w % sets = in_set (w % sets) ways (w % sets * ways + i) good.some_ways (omega arith) (omega (arith, below)) in
          let within : w % sets * ways + i < length row = omega (arith, below, fits) in
          rw (get_or-take ways (drop (w % sets * ways) row) i d below, get_or-drop (w % sets * ways) row i d)
          (inside sets w ((w % sets * ways + i) / ways) (get_or row (w % sets * ways + i) d).pair (good.placed (w % sets * ways + i) d within) at (filled (w % sets * ways + i) d within at))

-- a set with a place that has no pair has room
pub is_short : (sets ways w k : ℕ) (d : Place) (row : List Place) → IsPlaceRow sets ways row → k < length row → k / ways ≡ w % sets → (get_or row k d).pair ≡ None → set_count sets w (pairs_by_use row) < ways
is_short sets ways w k d row good within at none =
    let whole = counted sets ways w row good in
    let long : length (take ways (drop (w % sets * ways) row)) ≡ ways = omega (arith, whole.1, length-take ways (drop (w % sets * ways) row), length-drop (w % sets * ways) row) in
    let bounds = from_start (w % sets) ways k good.some_ways at in
    let place : k - w % sets * ways < ways = omega (arith, bounds.0, bounds.1) in
    let number : w % sets * ways + (k - w % sets * ways) ≡ k = omega (arith, bounds.0) in
    let empty : is_in_set sets w (get_or (take ways (drop (w % sets * ways) row)) (k - w % sets * ways) d) ≡ false = rw (get_or-take ways (drop (w % sets * ways) row) (k - w % sets * ways) d place, get_or-drop (w % sets * ways) row (k - w % sets * ways) d, number, none) refl in
    let fewer = count-short (is_in_set sets w) (take ways (drop (w % sets * ways) row)) (k - w % sets * ways) d (omega (arith, place, long)) empty in
    omega (arith, set_count-places sets w row, whole.0, fewer, long)

-- a word that has a pair, or whose set has room, stands somewhere, or a place of its set has no pair
pub some_spot : (sets ways w : ℕ) (row : List Place) → IsPlaceRow sets ways row → ((k : ℕ) (d : Place) → k < length row → has_word w (get_or row k d) ≡ false) → (is_some (lookup w (pairs_by_use row)) || nat_lt (set_count sets w (pairs_by_use row)) ways) ≡ true → ((k : ℕ) (d : Place) → k < length row → k / ways ≡ w % sets → (get_or row k d).pair ≢ None) → ⊥
some_spot sets ways w row good absent room none =
    let full = is_full sets ways w row good none in
    let gone = get_none w row absent in
    let never : nat_lt ways ways ≡ true = rw (gone, full) at room in
    absurd (grind (arith, nat_tests))
