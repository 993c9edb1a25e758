-- Items count for the same numbers in any order.
use Rattle.std.proofs.Common.{◌≡◌, ◌≢◌, ℕ, zero, suc, ◌+◌, ◌<◌, ◌≤◌, ◌==◌, Bool, true, false, nat_lt, List, [], ◌∷◌, ◌++◌, length, get_or, set, Option, Some, None, refl, sym, ap, ◌∙◌, arith}
use Rattle.std.proofs.lemmas.Bool.Decides.{nat_tests}
use Rattle.std.proofs.lemmas.List.{get_or-set_same, get_or-set_other, set-set, set_past}
use Rattle.run_account.specs.declared.item.Item.{Item}
use Rattle.run_account.specs.Measure.{measure_index}
use Rattle.run_account.specs.Items.{group_of}
use Rattle.run_account.specs.Tallies.{Tallies, capped, one_more_at, raised_in, with_item, with_items}

pub set-commute : {X : Type 0} (xs : List X) (i j : ℕ) (a b : X) → i ≢ j → set (set xs i a) j b ≡ set (set xs j b) i a
set-commute [] i j a b other = refl
set-commute (x ∷ xs) zero zero a b other = absurd (other refl)
set-commute (x ∷ xs) zero (suc j) a b other = refl
set-commute (x ∷ xs) (suc i) zero a b other = refl
set-commute (x ∷ xs) (suc i) (suc j) a b other = ap (λ ys. x ∷ ys) (set-commute xs i j a b (λ e. other (ap suc e)))

raised-commute : (row : List ℕ) (i j : ℕ) → one_more_at j (one_more_at i row) ≡ one_more_at i (one_more_at j row)
raised-commute row i j = by_test (i == j) refl where
  by_test : (t : Bool) → (i == j) ≡ t → one_more_at j (one_more_at i row) ≡ one_more_at i (one_more_at j row)
  by_test true e = let same : i ≡ j = grind (arith, nat_tests) in rw same refl
  by_test false e =
      let other : i ≢ j = grind (arith, nat_tests) in
      let back : j ≢ i = grind (arith, nat_tests) in
      rw (get_or-set_other row i j (capped (get_or row i 0 + 1)) 0 back, get_or-set_other row j i (capped (get_or row j 0 + 1)) 0 other)
      (set-commute row i j (capped (get_or row i 0 + 1)) (capped (get_or row j 0 + 1)) other)

twice : (numbers : List (List ℕ)) (g i j : ℕ) → g < length numbers
    → raised_in (Some g) j (raised_in (Some g) i numbers) ≡ set numbers g (one_more_at j (one_more_at i (get_or numbers g [])))
twice numbers g i j inside =
    rw (get_or-set_same numbers g (one_more_at i (get_or numbers g [])) [] inside) (set-set numbers g (one_more_at i (get_or numbers g [])) (one_more_at j (one_more_at i (get_or numbers g []))))

past : (numbers : List (List ℕ)) (g i : ℕ) → length numbers ≤ g → raised_in (Some g) i numbers ≡ numbers
past numbers g i out = set_past numbers g (one_more_at i (get_or numbers g [])) out

raised_in-commute : (numbers : List (List ℕ)) (a b : Option ℕ) (i j : ℕ) → raised_in b j (raised_in a i numbers) ≡ raised_in a i (raised_in b j numbers)
raised_in-commute numbers None b i j = refl
raised_in-commute numbers (Some g) None i j = refl
raised_in-commute numbers (Some g) (Some h) i j = by_test (g == h) refl where
  here : (t : Bool) → nat_lt g (length numbers) ≡ t → raised_in (Some g) j (raised_in (Some g) i numbers) ≡ raised_in (Some g) i (raised_in (Some g) j numbers)
  here true e =
      let inside : g < length numbers = grind (arith, nat_tests) in
      twice numbers g i j inside ∙ ap (λ row. set numbers g row) (raised-commute (get_or numbers g []) i j) ∙ sym (twice numbers g j i inside)
  here false e =
      let out : length numbers ≤ g = grind (arith, nat_tests) in
      ap (λ ns. raised_in (Some g) j ns) (past numbers g i out) ∙ past numbers g j out
      ∙ sym (ap (λ ns. raised_in (Some g) i ns) (past numbers g j out) ∙ past numbers g i out)

  by_test : (t : Bool) → (g == h) ≡ t → raised_in (Some h) j (raised_in (Some g) i numbers) ≡ raised_in (Some g) i (raised_in (Some h) j numbers)
  by_test true e = let same : h ≡ g = grind (arith, nat_tests) in rw same (here (nat_lt g (length numbers)) refl)
  by_test false e =
      let other : g ≢ h = grind (arith, nat_tests) in
      let back : h ≢ g = grind (arith, nat_tests) in
      rw (get_or-set_other numbers g h (one_more_at i (get_or numbers g [])) [] back, get_or-set_other numbers h g (one_more_at j (get_or numbers h [])) [] other)
      (set-commute numbers g h (one_more_at i (get_or numbers g [])) (one_more_at j (get_or numbers h [])) other)

item-commute : (t : Tallies) (a b : Item) → with_item (with_item t a) b ≡ with_item (with_item t b) a
unfolding with_item
item-commute t a b =
    ap (λ (numbers : List (List ℕ)). record t { numbers = numbers })
    (raised_in-commute t.numbers (group_of t.regions t.by a) (group_of t.regions t.by b) (measure_index a.measure) (measure_index b.measure))

pub items-then : (t : Tallies) (xs ys : List Item) → with_items t (xs ++ ys) ≡ with_items (with_items t xs) ys
items-then t [] ys = refl
items-then t (x ∷ xs) ys = items-then (with_item t x) xs ys

item-last : (t : Tallies) (a : Item) (xs : List Item) → with_items (with_item t a) xs ≡ with_item (with_items t xs) a
item-last t a [] = refl
item-last t a (x ∷ xs) = ap (λ (u : Tallies). with_items u xs) (item-commute t a x) ∙ item-last (with_item t x) a xs

pub lists-commute : (t : Tallies) (xs ys : List Item) → with_items (with_items t xs) ys ≡ with_items (with_items t ys) xs
lists-commute t [] ys = refl
lists-commute t (x ∷ xs) ys =
    lists-commute (with_item t x) xs ys ∙ ap (λ (u : Tallies). with_items u xs) (item-last t x ys)
