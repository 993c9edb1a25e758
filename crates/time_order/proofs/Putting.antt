-- A message is put among others in their order.
use Rattle.std.proofs.Common.{◌≡◌, ℕ, suc, ◌<◌, ◌≤◌, ◌+◌, ◌-◌, Bool, true, false, nat_lt, List, ◌∷◌, length, get_or, refl, sym, ap, subst, ◌∙◌, arith}
use Rattle.std.specs.Prelude.{sum_by}
use Rattle.std.specs.List.{insert}
use Rattle.std.proofs.lemmas.Bool.Decides.{nat_tests}
use Rattle.std.proofs.lemmas.List.Edits.{length-insert, get_or-insert_below, get_or-insert_at, get_or-insert_above}
use Rattle.std.proofs.lemmas.List.Sorted.{IsPermutation-insert, sum_by-IsPermutation}
use Rattle.std.proofs.lemmas.List.Sums.{sum_by-cons}
use Rattle.time_order.specs.declared.flight.Flight.{Flight}
use Rattle.time_order.specs.Flights.{AreSorted, order_of}
use Rattle.time_order.specs.TimeOrder.{less}
use Rattle.time_order.proofs.Less.{less-once, not-less-chain}

-- one message doesn't come before another
abbrev IsNotBefore : Flight → Flight → Type 0
IsNotBefore g f = less (order_of g) (order_of f) ≡ false

pub put-weighs : (weight : Flight → ℕ) (flights : List Flight) (place : ℕ) (flight : Flight) → sum_by weight (insert flights place flight) ≡ sum_by weight flights + weight flight
put-weighs weight flights place flight =
    omega (arith, sum_by-IsPermutation weight (flight ∷ flights) (insert flights place flight) (IsPermutation-insert flights place flight), sum_by-cons weight flight flights)

-- what stands before the place doesn't come after the message
ahead : (flights : List Flight) (place : ℕ) (flight : Flight) → AreSorted flights → place ≤ length flights → ((d : Flight) → 0 < place → less (order_of flight) (order_of (get_or flights (place - 1) d)) ≡ false)
    → (k : ℕ) (d : Flight) → k < place → IsNotBefore flight (get_or flights k d)
ahead flights place flight sorted within last k d low = by_test (nat_lt k (place - 1)) refl where
  by_test : (t : Bool) → nat_lt k (place - 1) ≡ t → IsNotBefore flight (get_or flights k d)
  by_test true e =
      not-less-chain (order_of (get_or flights k d)) (order_of (get_or flights (place - 1) d)) (order_of flight) refl refl
      (sorted k (place - 1) d (grind (arith, nat_tests, e)) (omega (arith, within, low)))
      (last d (omega (arith, low)))
  by_test false e =
      let same : place - 1 ≡ k = grind (arith, nat_tests, e, low) in
      subst (λ (j : ℕ). IsNotBefore flight (get_or flights j d)) same (last d (omega (arith, low)))

pub put-sorted : (flights : List Flight) (place : ℕ) (flight : Flight) → AreSorted flights → place ≤ length flights
    → ((k : ℕ) (d : Flight) → place ≤ k → k < length flights → less (order_of flight) (order_of (get_or flights k d)) ≡ true)
    → ((d : Flight) → 0 < place → less (order_of flight) (order_of (get_or flights (place - 1) d)) ≡ false)
    → AreSorted (insert flights place flight)
put-sorted flights place flight sorted within behind last i j d before below = by_tests (nat_lt i place) refl (nat_lt j place) refl where
  new : List Flight
  new = insert flights place flight

  long : length new ≡ length flights + 1
  long = length-insert flights place flight within

  front : (k : ℕ) → k < place → get_or new k d ≡ get_or flights k d
  front k low = get_or-insert_below flights place flight d k low within

  here : get_or new place d ≡ flight
  here = get_or-insert_at flights place flight d within

  back : (k : ℕ) → place ≤ k → get_or new (k + 1) d ≡ get_or flights k d
  back k high = get_or-insert_above flights place flight d k high within

  -- an element behind the place
  past : (k : ℕ) → place < k → get_or new k d ≡ get_or flights (k - 1) d
  past k high =
      let one : (k - 1) + 1 ≡ k = omega (arith, high) in
      ap (λ (m : ℕ). get_or new m d) (sym one) ∙ back (k - 1) (omega (arith, high))

  pair : (f g : Flight) → get_or new i d ≡ f → get_or new j d ≡ g → IsNotBefore g f → IsNotBefore (get_or new j d) (get_or new i d)
  pair f g a b is = subst (λ (x : Flight). IsNotBefore (get_or new j d) x) (sym a) (subst (λ (y : Flight). IsNotBefore y f) (sym b) is)

  is_here : (k : ℕ) → k ≡ place → get_or new k d ≡ flight
  is_here k same = ap (λ (m : ℕ). get_or new m d) same ∙ here

  by_second : place < j → (t : Bool) → nat_lt place i ≡ t → place ≤ i → IsNotBefore (get_or new j d) (get_or new i d)
  by_second high true e low =
      pair (get_or flights (i - 1) d) (get_or flights (j - 1) d) (past i (grind (arith, nat_tests, e))) (past j high)
      (sorted (i - 1) (j - 1) d (grind (arith, nat_tests, e, before)) (omega (arith, below, long, high)))
  by_second high false e low =
      pair flight (get_or flights (j - 1) d) (is_here i (grind (arith, nat_tests, e, low))) (past j high)
      (less-once (order_of flight) (order_of (get_or flights (j - 1) d)) (behind (j - 1) d (omega (arith, high)) (omega (arith, below, long, high))))

  by_last : i < place → (t : Bool) → nat_lt place j ≡ t → place ≤ j → IsNotBefore (get_or new j d) (get_or new i d)
  by_last low true e high =
      pair (get_or flights i d) (get_or flights (j - 1) d) (front i low) (past j (grind (arith, nat_tests, e)))
      (sorted i (j - 1) d (grind (arith, nat_tests, e, low)) (grind (arith, nat_tests, e, below, long)))
  by_last low false e high =
      pair (get_or flights i d) flight (front i low) (is_here j (grind (arith, nat_tests, e, high)))
      (ahead flights place flight sorted within last i d low)

  by_tests : (s : Bool) → nat_lt i place ≡ s → (t : Bool) → nat_lt j place ≡ t → IsNotBefore (get_or new j d) (get_or new i d)
  by_tests true a true b =
      pair (get_or flights i d) (get_or flights j d) (front i (grind (arith, nat_tests, a))) (front j (grind (arith, nat_tests, b)))
      (sorted i j d before (grind (arith, nat_tests, b, within)))
  by_tests true a false b = by_last (grind (arith, nat_tests, a)) (nat_lt place j) refl (grind (arith, nat_tests, b))
  by_tests false a true b = absurd (grind (arith, nat_tests, a, b, before))
  by_tests false a false b = by_second (grind (arith, nat_tests, a, before)) (nat_lt place i) refl (grind (arith, nat_tests, a))

-- the rest of a sorted list is sorted
pub rest-sorted : (f : Flight) (fs : List Flight) → AreSorted (f ∷ fs) → AreSorted fs
rest-sorted f fs sorted i j d before below = sorted (suc i) (suc j) d (omega (arith, before)) (omega (arith, below))
