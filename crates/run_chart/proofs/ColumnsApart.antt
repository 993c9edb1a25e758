-- Actors that have a column have different ones.
use Rattle.std.proofs.Common.{◌≡◌, ◌≢◌, ℕ, zero, suc, ◌+◌, ◌*◌, ◌<◌, ◌≤◌, ◌==◌, ◌&&◌, Bool, true, false, cond, nat_lt, List, refl, sym, ap, ◌∙◌, arith}
use Rattle.std.specs.Prelude.{count_by}
use Rattle.std.specs.List.{range_with_len}
use Rattle.std.proofs.lemmas.Bool.Decides.{nat_tests}
use Rattle.std.proofs.lemmas.List.Sums.{sum_by-cons}
use Rattle.dn_base.specs.declared.ids.CoreId.{CoreId}
use Rattle.dn_base.specs.declared.ids.BankId.{BankId}
use Rattle.message_net.specs.declared.actor.Actor.{Actor}
use Rattle.message_net.specs.declared.actor.Actor.TheVariants.{Core, Bank, Keeper}
use Rattle.run_chart.specs.declared.parts.Chart.{Chart}
use Rattle.run_chart.specs.Places.{is_shown, place_of, shown_below, column, HasColumn, IsShownAt}

module _ (shown : List Bool) (b d : ℕ) where
  abbrev bit : Bool → ℕ
  bit t = cond t 1 0

  fewer : b < d → (x : ℕ) → bit (nat_lt x b && is_shown shown x) ≤ bit (nat_lt x d && is_shown shown x)
  fewer less x = by_test (nat_lt x b) refl (nat_lt x d) refl (is_shown shown x) where
    by_test : (s : Bool) → nat_lt x b ≡ s → (t : Bool) → nat_lt x d ≡ t → (u : Bool) → bit (s && u) ≤ bit (t && u)
    by_test false e t f u = omega arith
    by_test true e true f u = omega arith
    by_test true e false f u = absurd (grind (arith, nat_tests, less, e, f))

  none-more : b < d → (n from : ℕ) → count_by (λ x. nat_lt x b && is_shown shown x) (range_with_len from n) ≤ count_by (λ x. nat_lt x d && is_shown shown x) (range_with_len from n)
  none-more less zero from = omega arith
  none-more less (suc n) from =
      omega (
        arith,
        sum_by-cons (λ (x : ℕ). bit (nat_lt x b && is_shown shown x)) from (range_with_len (from + 1) n),
        sum_by-cons (λ (x : ℕ). bit (nat_lt x d && is_shown shown x)) from (range_with_len (from + 1) n),
        fewer less from,
        none-more less n (from + 1),
      )

  one-more : b < d → is_shown shown b ≡ true → (n from : ℕ) → from ≤ b → b < from + n
      → count_by (λ x. nat_lt x b && is_shown shown x) (range_with_len from n) + 1 ≤ count_by (λ x. nat_lt x d && is_shown shown x) (range_with_len from n)
  one-more less has zero from least most = absurd (omega (arith, least, most))
  one-more less has (suc n) from least most = by_test (from == b) refl (λ more. one-more less has n (from + 1) more (omega (arith, most))) where
    low : count_by (λ x. nat_lt x b && is_shown shown x) (range_with_len from (suc n)) ≡ bit (nat_lt from b && is_shown shown from) + count_by (λ x. nat_lt x b && is_shown shown x) (range_with_len (from + 1) n)
    low = sum_by-cons (λ (x : ℕ). bit (nat_lt x b && is_shown shown x)) from (range_with_len (from + 1) n)

    high : count_by (λ x. nat_lt x d && is_shown shown x) (range_with_len from (suc n)) ≡ bit (nat_lt from d && is_shown shown from) + count_by (λ x. nat_lt x d && is_shown shown x) (range_with_len (from + 1) n)
    high = sum_by-cons (λ (x : ℕ). bit (nat_lt x d && is_shown shown x)) from (range_with_len (from + 1) n)

    by_test : (t : Bool) → (from == b) ≡ t
        → (from + 1 ≤ b → count_by (λ x. nat_lt x b && is_shown shown x) (range_with_len (from + 1) n) + 1 ≤ count_by (λ x. nat_lt x d && is_shown shown x) (range_with_len (from + 1) n))
        → count_by (λ x. nat_lt x b && is_shown shown x) (range_with_len from (suc n)) + 1 ≤ count_by (λ x. nat_lt x d && is_shown shown x) (range_with_len from (suc n))
    by_test true e rest =
        let same : from ≡ b = grind (arith, nat_tests) in
        let not_low : nat_lt from b ≡ false = grind (arith, nat_tests, same) in
        let is_high : nat_lt from d ≡ true = grind (arith, nat_tests, same, less) in
        let there : is_shown shown from ≡ true = ap (λ (x : ℕ). is_shown shown x) same ∙ has in
        let zero_here : bit (nat_lt from b && is_shown shown from) ≡ 0 = rw not_low refl in
        let one_here : bit (nat_lt from d && is_shown shown from) ≡ 1 = rw (is_high, there) refl in
        omega (arith, low, high, zero_here, one_here, none-more less n (from + 1))
    by_test false e rest =
        let more : from + 1 ≤ b = grind (arith, nat_tests, least) in
        omega (arith, low, high, fewer less from, rest more)

  pub below-less : b < d → b < 32 → is_shown shown b ≡ true → shown_below shown b < shown_below shown d
  below-less less within has = omega (arith, one-more less has 32 0 (omega arith) (omega (arith, within)))

-- no other index has as many shown ones below it as one that is shown
below-apart : (shown : List Bool) (i j : ℕ) → IsShownAt shown i → i < j → shown_below shown i ≢ shown_below shown j
below-apart shown i j has less same = omega (arith, same, below-less shown i j less has.0 has.1)

below-same : (shown : List Bool) (i j : ℕ) → IsShownAt shown i → IsShownAt shown j → shown_below shown i ≡ shown_below shown j → i ≡ j
below-same shown i j has has' same = by_test (nat_lt i j) refl (nat_lt j i) refl where
  by_test : (s : Bool) → nat_lt i j ≡ s → (t : Bool) → nat_lt j i ≡ t → i ≡ j
  by_test true e t f = absurd (below-apart shown i j has (grind (arith, nat_tests, e)) same)
  by_test false e true f = absurd (below-apart shown j i has' (grind (arith, nat_tests, f)) (sym same))
  by_test false e false f = grind (arith, nat_tests, e, f)

same-place : (x y : ℕ) → 300 + 132 * x ≡ 300 + 132 * y → x ≡ y
same-place x y same = omega (arith, same)

same-core : (c d : CoreId) → c.0 ≡ d.0 → Core c ≡ Core d
same-core c d same = ap (λ (n : ℕ). Core (record { 0 = n })) same

same-bank : (c d : BankId) → c.0 ≡ d.0 → Bank c ≡ Bank d
same-bank c d same = ap (λ (n : ℕ). Bank (record { 0 = n })) same

pub same-actor : (chart : Chart) (a b : Actor) → HasColumn chart a → HasColumn chart b → column chart a ≡ column chart b → a ≡ b
same-actor chart a b has has' same = by_actors a b has has' (same-place (place_of chart a) (place_of chart b) same) where
  by_actors : (a b : Actor) → HasColumn chart a → HasColumn chart b → place_of chart a ≡ place_of chart b → a ≡ b
  by_actors (Core c) (Core d) has has' same = same-core c d (below-same chart.shown c.0 d.0 has.1 has'.1 same)
  by_actors (Core c) (Bank d) has has' same = absurd (below-apart chart.shown c.0 (chart.shape.cores + d.0) has.1 (omega (arith, has.0)) same)
  by_actors (Core c) Keeper has has' same = absurd (below-apart chart.shown c.0 (chart.shape.cores + chart.shape.banks) has.1 (omega (arith, has.0)) same)
  by_actors (Bank c) (Core d) has has' same = absurd (below-apart chart.shown d.0 (chart.shape.cores + c.0) has'.1 (omega (arith, has'.0)) (sym same))
  by_actors (Bank c) (Bank d) has has' same = same-bank c d (omega (arith, below-same chart.shown (chart.shape.cores + c.0) (chart.shape.cores + d.0) has.1 has'.1 same))
  by_actors (Bank c) Keeper has has' same = absurd (below-apart chart.shown (chart.shape.cores + c.0) (chart.shape.cores + chart.shape.banks) has.1 (omega (arith, has.0)) same)
  by_actors Keeper (Core d) has has' same = absurd (below-apart chart.shown d.0 (chart.shape.cores + chart.shape.banks) has'.1 (omega (arith, has'.0)) (sym same))
  by_actors Keeper (Bank d) has has' same = absurd (below-apart chart.shown (chart.shape.cores + d.0) (chart.shape.cores + chart.shape.banks) has'.1 (omega (arith, has'.0)) (sym same))
  by_actors Keeper Keeper has has' same = refl
