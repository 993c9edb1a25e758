-- What the numbers of a table come to.
use Rattle.std.proofs.Common.{◌≡◌, ◌≢◌, ℕ, ◌+◌, ◌<◌, ◌==◌, Bool, true, false, cond, List, [], ◌∷◌, ◌++◌, length, get_or, replicate, Option, Some, None, refl, sym, ap, ◌∙◌, arith, length-set}
use Rattle.std.specs.Prelude.{◌&&◌}
use Rattle.std.proofs.lemmas.Bool.Decides.{nat_tests}
use Rattle.std.proofs.lemmas.List.{get_or-replicate, get_or-set_same, get_or-set_other, length-replicate}
use Rattle.std.proofs.lemmas.List.Sums.{sum_by-cons}
use Rattle.region_table.specs.Program.{ProgramParts}
use Rattle.run_account.specs.declared.measure.Measure.{Measure}
use Rattle.run_account.specs.declared.item.Item.{Item}
use Rattle.run_account.specs.declared.item.Grouping.{Grouping}
use Rattle.run_account.specs.Measure.{measure_index}
use Rattle.run_account.specs.Items.{regions_from, group_of, groups_in, is_group, counts_for, count_in}
use Rattle.run_account.specs.Tallies.{Tallies, no_tallies, tally_of, capped, one_more_at, raised_in, with_item, with_items}

pub with_items-append : (t : Tallies) (items more : List Item) → with_items t (items ++ more) ≡ with_items (with_items t items) more
with_items-append t [] more = refl
with_items-append t (item ∷ items) more = with_items-append (with_item t item) items more

index-within : (m : Measure) → measure_index m < 58
index-within m = grind arith

-- a row of numbers
abbrev row : List (List ℕ) → ℕ → List ℕ
row numbers group = get_or numbers group []

-- each group has a number for each measure, which is this count
record AreNumbers (numbers : List (List ℕ)) (N : ℕ → ℕ → ℕ) : Type 0 where
  wide : (group : ℕ) → group < length numbers → length (row numbers group) ≡ 58
  are : (index group : ℕ) → index < 58 → group < length numbers → get_or (row numbers group) index 0 ≡ capped (N index group)

capped-more : (n k : ℕ) → n ≡ capped k → capped (n + 1) ≡ capped (k + 1)
capped-more n k e = grind (arith, e)

-- one more at an index of a row
raised-here : (numbers : List ℕ) (index k : ℕ) → index < length numbers → get_or numbers index 0 ≡ capped k → get_or (one_more_at index numbers) index 0 ≡ capped (k + 1)
raised-here numbers index k within is =
    get_or-set_same numbers index (capped (get_or numbers index 0 + 1)) 0 within ∙ capped-more (get_or numbers index 0) k is

raised-there : (numbers : List ℕ) (index other k : ℕ) → other ≢ index → get_or numbers other 0 ≡ capped k → get_or (one_more_at index numbers) other 0 ≡ capped k
raised-there numbers index other k apart is = get_or-set_other numbers index other (capped (get_or numbers index 0 + 1)) 0 apart ∙ is

-- one more at an index, in a group if there is one
abbrev more_at : Option ℕ → ℕ → ℕ → ℕ → ℕ
more_at there index i group = cond ((i == index) && is_group group there) 1 0

raised_in-are : (numbers : List (List ℕ)) (N : ℕ → ℕ → ℕ) (there : Option ℕ) (index : ℕ) → index < 58 → AreNumbers numbers N
    → AreNumbers (raised_in there index numbers) (λ i group. N i group + more_at there index i group)
raised_in-are numbers N None index within are = record { wide = are.wide; are = same } where
  same : (i group : ℕ) → i < 58 → group < length numbers → get_or (row numbers group) i 0 ≡ capped (N i group + more_at None index i group)
  same i group low inside = by_test (i == index) where
    by_test : (t : Bool) → get_or (row numbers group) i 0 ≡ capped (N i group + cond (t && false) 1 0)
    by_test true = grind (arith, are.are i group low inside)
    by_test false = grind (arith, are.are i group low inside)
raised_in-are numbers N (Some g) index within are = record { wide = wide; are = told } where
  length-is : length (raised_in (Some g) index numbers) ≡ length numbers
  length-is = length-set numbers g (one_more_at index (row numbers g))

  wide-row : (group : ℕ) → group < length numbers → (t : Bool) → (g == group) ≡ t → length (row (raised_in (Some g) index numbers) group) ≡ 58
  wide-row group inside true e =
      let same : g ≡ group = grind (arith, nat_tests) in
      rw (same, get_or-set_same numbers group (one_more_at index (row numbers group)) [] inside)
      (length-set (row numbers group) index (capped (get_or (row numbers group) index 0 + 1)) ∙ are.wide group inside)
  wide-row group inside false e =
      let other : group ≢ g = grind (arith, nat_tests) in
      rw (get_or-set_other numbers g group (one_more_at index (row numbers g)) [] other) (are.wide group inside)

  wide : (group : ℕ) → group < length (raised_in (Some g) index numbers) → length (row (raised_in (Some g) index numbers) group) ≡ 58
  wide group inside = wide-row group (rw (sym length-is) inside) (g == group) refl

  in_row : (i group : ℕ) → i < 58 → group < length numbers → (t : Bool) → (i == index) ≡ t → get_or (one_more_at index (row numbers group)) i 0 ≡ capped (N i group + cond t 1 0)
  in_row i group low inside true e =
      let same : i ≡ index = grind (arith, nat_tests) in
      rw same (raised-here (row numbers group) index (N index group) (rw (are.wide group inside) within) (are.are index group within inside))
  in_row i group low inside false e =
      let other : i ≢ index = grind (arith, nat_tests) in
      rw (plus-none (N i group)) (raised-there (row numbers group) index i (N i group) other (are.are i group low inside))
    where
      plus-none : (n : ℕ) → n + 0 ≡ n
      plus-none n = omega arith

  by_group : (i group : ℕ) → i < 58 → group < length numbers → (t : Bool) → (g == group) ≡ t → get_or (row (raised_in (Some g) index numbers) group) i 0 ≡ capped (N i group + cond ((i == index) && t) 1 0)
  by_group i group low inside true e =
      let same : g ≡ group = grind (arith, nat_tests) in
      rw (same, get_or-set_same numbers group (one_more_at index (row numbers group)) [] inside) (and-true (i == index) refl)
    where
      and-true : (t : Bool) → (i == index) ≡ t → get_or (one_more_at index (row numbers group)) i 0 ≡ capped (N i group + cond (t && true) 1 0)
      and-true true f = in_row i group low inside true f
      and-true false f = in_row i group low inside false f
  by_group i group low inside false e =
      let other : group ≢ g = grind (arith, nat_tests) in
      rw (get_or-set_other numbers g group (one_more_at index (row numbers g)) [] other) (and-false (i == index))
    where
      and-false : (t : Bool) → get_or (row numbers group) i 0 ≡ capped (N i group + cond (t && false) 1 0)
      and-false true = grind (arith, are.are i group low inside)
      and-false false = grind (arith, are.are i group low inside)

  told : (i group : ℕ) → i < 58 → group < length (raised_in (Some g) index numbers) → get_or (row (raised_in (Some g) index numbers) group) i 0 ≡ capped (N i group + more_at (Some g) index i group)
  told i group low inside = by_group i group low (rw (sym length-is) inside) (g == group) refl

-- the same for the tables
abbrev counts_of : (ℕ → ℕ → ℕ) → Tallies → Item → ℕ → ℕ → ℕ
counts_of N t item index group = N index group + more_at (group_of t.regions t.by item) (measure_index item.measure) index group

after-item : (t : Tallies) (N : ℕ → ℕ → ℕ) (item : Item) → AreNumbers t.numbers N → AreNumbers (with_item t item).numbers (counts_of N t item)
unfolding with_item
after-item t N item are = raised_in-are t.numbers N (group_of t.regions t.by item) (measure_index item.measure) (index-within item.measure) are

keeps-regions : (t : Tallies) (item : Item) → (with_item t item).regions ≡ t.regions
unfolding with_item
keeps-regions t item = refl

keeps-by : (t : Tallies) (item : Item) → (with_item t item).by ≡ t.by
unfolding with_item
keeps-by t item = refl

keeps-length : (t : Tallies) (item : Item) → length (with_item t item).numbers ≡ length t.numbers
unfolding with_item
keeps-length t item = by_group (group_of t.regions t.by item) where
  by_group : (there : Option ℕ) → length (raised_in there (measure_index item.measure) t.numbers) ≡ length t.numbers
  by_group None = refl
  by_group (Some g) = length-set t.numbers g (one_more_at (measure_index item.measure) (row t.numbers g))

-- so many more items
counted : (t : Tallies) (N : ℕ → ℕ → ℕ) (m : Measure) (group : ℕ) (items : List Item) → AreNumbers t.numbers N → group < length t.numbers
    → tally_of m group (with_items t items) ≡ capped (N (measure_index m) group + count_in t.regions t.by m group items)
counted t N m group [] are inside = are.are (measure_index m) group (index-within m) inside ∙ rw (plus-none (N (measure_index m) group)) refl where
  plus-none : (n : ℕ) → n + 0 ≡ n
  plus-none n = omega arith
counted t N m group (item ∷ items) are inside =
    counted (with_item t item) (counts_of N t item) m group items (after-item t N item are) (rw (keeps-length t item) inside)
    ∙ rw (keeps-regions t item, keeps-by t item) (ap capped (omega (arith, sum_by-cons (λ (x : Item). cond (counts_for t.regions t.by m group x) 1 0) item items)))

nothing-yet : (groups : ℕ) → AreNumbers (replicate groups (replicate {A = ℕ} 58 0)) (λ index group. 0)
nothing-yet groups = record { wide = wide; are = none } where
  here : (group : ℕ) → group < length (replicate groups (replicate {A = ℕ} 58 0)) → row (replicate groups (replicate {A = ℕ} 58 0)) group ≡ replicate {A = ℕ} 58 0
  here group inside = get_or-replicate groups group (replicate {A = ℕ} 58 0) [] (rw (sym (length-replicate groups (replicate {A = ℕ} 58 0))) inside)

  wide : (group : ℕ) → group < length (replicate groups (replicate {A = ℕ} 58 0)) → length (row (replicate groups (replicate {A = ℕ} 58 0)) group) ≡ 58
  wide group inside = rw (here group inside) refl

  none : (index group : ℕ) → index < 58 → group < length (replicate groups (replicate {A = ℕ} 58 0)) → get_or (row (replicate groups (replicate {A = ℕ} 58 0)) group) index 0 ≡ capped 0
  none index group low inside = rw (here group inside) (get_or-replicate 58 index 0 0 low)

pub number-is : (P : ProgramParts) (cores : ℕ) (by : Grouping) (items : List Item) (m : Measure) (group : ℕ) → group < groups_in P cores by
    → tally_of m group (with_items (no_tallies P cores by) items) ≡ capped (count_in (regions_from 0 P.regions) by m group items)
number-is P cores by items m group inside =
    counted (no_tallies P cores by) (λ index g. 0) m group items (nothing-yet (groups_in P cores by)) (rw (length-replicate (groups_in P cores by) (replicate {A = ℕ} 58 0)) inside)
    ∙ ap capped (none-plus (count_in (regions_from 0 P.regions) by m group items))
  where
    none-plus : (n : ℕ) → 0 + n ≡ n
    none-plus n = omega arith
