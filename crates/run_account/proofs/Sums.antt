-- The numbers of all groups add up to that of all items.
use Rattle.std.proofs.Common.{◌≡◌, ℕ, zero, suc, ◌+◌, ◌<◌, ◌≤◌, ◌==◌, Bool, true, false, cond, List, [], ◌∷◌, map, Some, refl, ◌∙◌, arith}
use Rattle.std.specs.Prelude.{sum, ◌&&◌}
use Rattle.std.specs.List.{All, range_with_len}
use Rattle.std.proofs.lemmas.Bool.Decides.{nat_tests}
use Rattle.std.proofs.lemmas.List.Elements.{All-head, All-tail}
use Rattle.std.proofs.lemmas.List.Sums.{sum_by-cons}
use Rattle.run_account.specs.declared.measure.Measure.{Measure}
use Rattle.run_account.specs.declared.item.Item.{Item}
use Rattle.run_account.specs.declared.item.Grouping.{Grouping}
use Rattle.run_account.specs.Measure.{same_measure}
use Rattle.run_account.specs.Items.{group_of, counts_for, count_in, items_of_measure, sum_of_groups, IsGrouped}

sum-cons : (n : ℕ) (ns : List ℕ) → sum (n ∷ ns) ≡ n + sum ns
sum-cons n ns = sum_by-cons (λ (x : ℕ). x) n ns

-- sums of two terms
sum-split : (f g h : ℕ → ℕ) → ((k : ℕ) → f k ≡ g k + h k) → (a n : ℕ) → sum (map f (range_with_len a n)) ≡ sum (map g (range_with_len a n)) + sum (map h (range_with_len a n))
sum-split f g h is a zero = refl
sum-split f g h is a (suc n) =
    omega (
      arith,
      is a,
      sum-split f g h is (a + 1) n,
      sum-cons (f a) (map f (range_with_len (a + 1) n)),
      sum-cons (g a) (map g (range_with_len (a + 1) n)),
      sum-cons (h a) (map h (range_with_len (a + 1) n)),
    )

sum-zeros : (f : ℕ → ℕ) → ((k : ℕ) → f k ≡ 0) → (a n : ℕ) → sum (map f (range_with_len a n)) ≡ 0
sum-zeros f is a zero = refl
sum-zeros f is a (suc n) = omega (arith, is a, sum-zeros f is (a + 1) n, sum-cons (f a) (map f (range_with_len (a + 1) n)))

-- one at one place
abbrev one_at : Bool → ℕ → ℕ → ℕ
one_at t place k = cond (t && (place == k)) 1 0

one-elsewhere : (t : Bool) (place k : ℕ) → place < k → one_at t place k ≡ 0
one-elsewhere true place k before = grind (arith, nat_tests)
one-elsewhere false place k before = refl

one-here : (t : Bool) (place : ℕ) → one_at t place place ≡ cond t 1 0
one-here true place = grind (arith, nat_tests)
one-here false place = refl

one-before : (t : Bool) (place a n : ℕ) → place < a → sum (map (one_at t place) (range_with_len a n)) ≡ 0
one-before t place a zero before = refl
one-before t place a (suc n) before =
    omega (arith, one-elsewhere t place a before, one-before t place (a + 1) n (omega (arith, before)), sum-cons (one_at t place a) (map (one_at t place) (range_with_len (a + 1) n)))

one-later : (t : Bool) (place k : ℕ) → k < place → one_at t place k ≡ 0
one-later true place k before = grind (arith, nat_tests)
one-later false place k before = refl

one-once : (t : Bool) (place a n : ℕ) → a ≤ place → place < a + n → sum (map (one_at t place) (range_with_len a n)) ≡ cond t 1 0
one-once t place a zero from within = absurd (omega (arith, from, within))
one-once t place a (suc n) from within = by_place (a == place) refl (λ more. one-once t place (a + 1) n (omega (arith, more)) (omega (arith, within))) where
  by_place : (same : Bool) → (a == place) ≡ same → (a < place → sum (map (one_at t place) (range_with_len (a + 1) n)) ≡ cond t 1 0) → sum (map (one_at t place) (range_with_len a (suc n))) ≡ cond t 1 0
  by_place true e later =
      let is : a ≡ place = grind (arith, nat_tests) in
      rw is (omega (arith, one-here t place, one-before t place (place + 1) n (omega arith), sum-cons (one_at t place place) (map (one_at t place) (range_with_len (place + 1) n))))
  by_place false e later =
      let more : a < place = grind (arith, nat_tests) in
      omega (arith, one-later t place a more, later more, sum-cons (one_at t place a) (map (one_at t place) (range_with_len (a + 1) n)))

-- an item counts in its one group
here : (regions : List ℕ) (by : Grouping) (m : Measure) (item : Item) (group k : ℕ) → group_of regions by item ≡ Some group
    → cond (counts_for regions by m k item) 1 0 ≡ one_at (same_measure m item.measure) group k
here regions by m item group k is = rw is refl

pub groups-sum : (regions : List ℕ) (by : Grouping) (groups : ℕ) (m : Measure) (items : List Item) → All (IsGrouped regions by groups) items
    → sum_of_groups regions by groups m items ≡ items_of_measure m items
groups-sum regions by groups m [] all = sum-zeros (λ (k : ℕ). count_in regions by m k []) (λ k. refl) 0 groups
groups-sum regions by groups m (item ∷ items) all =
    let it = All-head (IsGrouped regions by groups) item items all in
    let rest = groups-sum regions by groups m items (All-tail (IsGrouped regions by groups) item items all) in
    omega (
      arith,
      rest,
      sum-split (λ (k : ℕ). count_in regions by m k (item ∷ items)) (one_at (same_measure m item.measure) it.0) (λ (k : ℕ). count_in regions by m k items)
          (λ k. sum_by-cons (λ (x : Item). cond (counts_for regions by m k x) 1 0) item items ∙ rw (here regions by m item it.0 k it.1) refl) 0 groups,
      one-once (same_measure m item.measure) it.0 0 groups (omega arith) (omega (arith, it.2)),
      sum_by-cons (λ (x : Item). cond (same_measure m x.measure) 1 0) item items,
    )
