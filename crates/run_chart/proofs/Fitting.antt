-- How many rows have room on a slide.
use Rattle.std.proofs.Common.{◌≡◌, ◌⊎◌, inl, inr, ℕ, zero, suc, ◌+◌, ◌-◌, ◌<◌, ◌≤◌, ◌==◌, ◌&&◌, Bool, true, false, nat_le, List, [], ◌∷◌, length, take, drop, Some, refl, sym, ap, subst, ◌∙◌, arith}
use Rattle.std.specs.Prelude.{position}
use Rattle.std.proofs.lemmas.Bool.{eqb-true}
use Rattle.std.proofs.lemmas.Bool.Decides.{nat_tests}
use Rattle.std.proofs.lemmas.List.{length-drop, take_all}
use Rattle.std.proofs.lemmas.List.Quantifiers.{position-Some}
use Rattle.std.proofs.lemmas.Option.{none-some}
use Rattle.message_net.specs.declared.actor.Actor.TheVariants.{Keeper}
use Rattle.run_chart.specs.declared.keeping.Keeping.{Keeping}
use Rattle.run_chart.specs.declared.parts.Chart.{Chart}
use Rattle.run_chart.specs.declared.parts.ChartRow.{ChartRow}
use Rattle.run_chart.specs.Places.{place_of}
use Rattle.run_chart.specs.Slides.{is_shown_first, slide_fits, fits_on_slide, most_rows, on_slide, slide_of, within_rows, FitsOnSlide}

-- what is behind a place ends with the list
pub rest_is : (rows : List ChartRow) (place : ℕ) → take (length rows - place) (drop place rows) ≡ drop place rows
rest_is rows place = take_all (length rows - place) (drop place rows) (omega (arith, length-drop place rows))

-- the place of a row is one of its list
pub place_within : (rows : List ChartRow) (place : ℕ) → position is_shown_first rows ≡ Some place → place ≤ length rows
place_within rows place is = by_row rows is where
  within : (row : ChartRow) (others : List ChartRow) → position is_shown_first (row ∷ others) ≡ Some place → place ≤ length (row ∷ others)
  within row others found = let less : place < length (row ∷ others) = (position-Some is_shown_first (row ∷ others) place row found).0 in omega (arith, less)

  by_row : (rows : List ChartRow) → position is_shown_first rows ≡ Some place → place ≤ length rows
  by_row [] found = absurd (none-some place found)
  by_row (row ∷ others) found = within row others found

module _ (K : Keeping) (chart : Chart) where
  abbrev rows-fit : ℕ → Bool
  rows-fit n = slide_fits (within_rows K chart n) chart

  -- one step of the search
  most-here : (n : ℕ) → rows-fit (suc n) ≡ true → most_rows K chart (suc n) ≡ suc n
  most-here n e = rw e refl

  most-below : (n : ℕ) → rows-fit (suc n) ≡ false → most_rows K chart (suc n) ≡ most_rows K chart n
  most-below n e = rw e refl

  -- the same, counted down from 31
  left-is : (fewer : ℕ) → fewer < 31 → 31 - fewer ≡ suc (30 - fewer)
  left-is fewer less = omega (arith, less)

  pub found : (fewer : ℕ) → fewer < 31 → slide_fits (within_rows K chart (31 - fewer)) chart ≡ true → most_rows K chart (31 - fewer) ≡ 31 - fewer
  found fewer less = rw (left-is fewer less) (most-here (30 - fewer))

  pub passed : (fewer : ℕ) → fewer < 31 → slide_fits (within_rows K chart (31 - fewer)) chart ≡ false → most_rows K chart (31 - (fewer + 1)) ≡ most_rows K chart (31 - fewer)
  passed fewer less = rw (left-is fewer less, next) (λ e. sym (most-below (30 - fewer) e)) where
    next : 31 - (fewer + 1) ≡ 30 - fewer
    next = omega (arith, less)

  -- what is found has room, or is one row
  pub has-room : (n : ℕ) → (slide_fits (within_rows K chart (most_rows K chart n)) chart ≡ true) ⊎ (most_rows K chart n ≡ 1)
  has-room zero = inr refl
  has-room (suc n) = by_test (rows-fit (suc n)) refl (has-room n) where
    by_test : (t : Bool) → rows-fit (suc n) ≡ t → (slide_fits (within_rows K chart (most_rows K chart n)) chart ≡ true) ⊎ (most_rows K chart n ≡ 1)
        → (slide_fits (within_rows K chart (most_rows K chart (suc n))) chart ≡ true) ⊎ (most_rows K chart (suc n) ≡ 1)
    by_test true e later = inl (rw (most-here n e) e)
    by_test false e later = rw (most-below n e) later

  -- no greater number of rows has
  pub none-greater : (n count : ℕ) → most_rows K chart n < count → count ≤ n → slide_fits (within_rows K chart count) chart ≡ false
  none-greater zero count more most = absurd (omega (arith, more, most))
  none-greater (suc n) count more most = by_test (rows-fit (suc n)) refl (count == suc n) refl (λ fewer under. none-greater n count fewer under) where
    by_test : (t : Bool) → rows-fit (suc n) ≡ t → (s : Bool) → (count == suc n) ≡ s
        → (most_rows K chart n < count → count ≤ n → slide_fits (within_rows K chart count) chart ≡ false) → slide_fits (within_rows K chart count) chart ≡ false
    by_test true e s f later = absurd (let is : most_rows K chart (suc n) ≡ suc n = most-here n e in omega (arith, more, most, is))
    by_test false e true f later = rw (eqb-true count (suc n) f) e
    by_test false e false f later =
        later (subst (λ (x : ℕ). x < count) (most-below n e) more) (let under : count ≤ n = grind (arith, nat_tests, most, f) in under)

  -- where none of 31 has room
  pub finished : (fewer : ℕ) → 31 ≤ fewer → most_rows K chart (31 - fewer) ≡ 1
  finished fewer all = rw none refl where
    none : 31 - fewer ≡ 0
    none = omega (arith, all)

  -- the test of room is what it says
  room-is : (c : Chart) → fits_on_slide c ≡ true → FitsOnSlide c
  room-is c e = by_lines (nat_le c.lines 31) refl (nat_le (place_of c Keeper) 5) refl e where
    by_lines : (s : Bool) → nat_le c.lines 31 ≡ s → (t : Bool) → nat_le (place_of c Keeper) 5 ≡ t → (s && t) ≡ true → FitsOnSlide c
    by_lines true f true g e = (grind (arith, nat_tests, f), grind (arith, nat_tests, g))
    by_lines true f false g e = absurd cc
    by_lines false f t g e = absurd cc

  room-tested : (c : Chart) → FitsOnSlide c → fits_on_slide c ≡ true
  room-tested c (lines, columns) =
      let first : nat_le c.lines 31 ≡ true = grind (arith, nat_tests, lines) in
      let second : nat_le (place_of c Keeper) 5 ≡ true = grind (arith, nat_tests, columns) in
      rw (first, second) refl

  -- the two cases of a slide
  pub whole-slide : slide_fits K chart ≡ true → on_slide K chart ≡ K
  whole-slide e = rw e refl

  pub part-slide : slide_fits K chart ≡ false → on_slide K chart ≡ within_rows K chart (most_rows K chart 31)
  part-slide e = rw e refl

  -- a slide has room for its rows, or it is one row
  pub slide-room : FitsOnSlide (slide_of (on_slide K chart) chart) ⊎ (on_slide K chart ≡ within_rows K chart 1)
  slide-room = by_test (slide_fits K chart) refl (has-room 31) where
    by_count : (n : ℕ) → (slide_fits (within_rows K chart n) chart ≡ true) ⊎ (n ≡ 1) → FitsOnSlide (slide_of (within_rows K chart n) chart) ⊎ (within_rows K chart n ≡ within_rows K chart 1)
    by_count n (inl e) = inl (room-is (slide_of (within_rows K chart n) chart) e)
    by_count n (inr one) = inr (ap (within_rows K chart) one)

    by_test : (t : Bool) → slide_fits K chart ≡ t → (slide_fits (within_rows K chart (most_rows K chart 31)) chart ≡ true) ⊎ (most_rows K chart 31 ≡ 1)
        → FitsOnSlide (slide_of (on_slide K chart) chart) ⊎ (on_slide K chart ≡ within_rows K chart 1)
    by_test true e has =
        subst (λ (k : Keeping). FitsOnSlide (slide_of k chart) ⊎ (k ≡ within_rows K chart 1)) (sym (whole-slide e)) (inl (room-is (slide_of K chart) e))
    by_test false e has =
        subst (λ (k : Keeping). FitsOnSlide (slide_of k chart) ⊎ (k ≡ within_rows K chart 1)) (sym (part-slide e)) (by_count (most_rows K chart 31) has)

  pub no-room : (count : ℕ) → most_rows K chart 31 < count → count ≤ 31 → FitsOnSlide (slide_of (within_rows K chart count) chart) → ⊥
  no-room count more most room =
      let both : true ≡ false = sym (room-tested (slide_of (within_rows K chart count) chart) room) ∙ none-greater 31 count more most in
      absurd cc
