-- Sums over workers, and a history by the passes that made its calls.
use Rattle.std.proofs.Common.{◌≡◌, ◌≢◌, ℕ, ◌<◌, Bool, true, false, ◌==◌, ◌&&◌, cond, nat_lt, List, [], ◌∷◌, get_or, Option, refl, sym, ap, subst, ◌∙◌, arith}
use Rattle.std.specs.Prelude.{sum_by, count_by, filter, filter_map, All, not}
use Rattle.std.specs.Option.{is_some}
use Rattle.std.specs.List.{range_with_len}
use Rattle.std.proofs.lemmas.Bool.Decides.{nat_tests}
use Rattle.std.proofs.lemmas.Bool.{eqb-true, eqb-false}
use Rattle.std.proofs.lemmas.List.Elements.{All-head, All-tail, filter_passes}
use Rattle.machine_rules.specs.Flight.{bit}
use Rattle.host_workers.proofs.Weights.{sum-zero, zero-sum, sum-same, sum-agree, parts-weigh, one-weighs, count-range, told-filter, none-told, filter-false}
use Rattle.host_workers.proofs.Actors.{in-range}
use Rattle.host_workers.proofs.Numbers.{is-below, turned}

pub once-in-range : (m n : ℕ) → count_by (λ k. m == k) (range_with_len 0 n) ≡ bit (nat_lt m n)
once-in-range m n =
    let count = count-range m 0 n in
    sum-same (λ k. cond (m == k) 1 0) (λ k. cond (k == m) 1 0) (range_with_len 0 n) (λ k. ap (λ b. cond b 1 0) (turned m k)) ∙ grind (arith, nat_tests, count)

-- a sum of which one worker's share is all
pub one-share : (g : ℕ → ℕ) (own n : ℕ) → own < n → ((k : ℕ) → k < n → k ≢ own → g k ≡ 0) → sum_by g (range_with_len 0 n) ≡ g own
one-share g own n below others =
    sum-agree g (λ k. cond (own == k) (g own) 0) (range_with_len 0 n) (in-range (λ k. g k ≡ cond (own == k) (g own) 0) n share)
    ∙ one-weighs (λ k. own == k) (g own) (range_with_len 0 n) (once-in-range own n ∙ ap bit (is-below own n below)) where
      share : (k : ℕ) → k < n → g k ≡ cond (own == k) (g own) 0
      share k h = by_test (own == k) refl where
        by_test : (t : Bool) → (own == k) ≡ t → g k ≡ cond t (g own) 0
        by_test true e = ap g (sym (eqb-true own k e))
        by_test false e = others k h (λ is. eqb-false own k e (sym is))

pub none-of : {X : Type 0} (p : X → Bool) (xs : List X) → All (λ x. p x ≡ false) xs → filter p xs ≡ []
none-of p [] all = refl
none-of p (x ∷ xs) all = filter-false p x xs (All-head (λ y. p y ≡ false) x xs all) ∙ none-of p xs (All-tail (λ y. p y ≡ false) x xs all)

module _ {X : Type 0} (pass : X → ℕ) (H : List X) (workers : ℕ) (named : All (λ e. pass e < workers) H) where
  abbrev by_pass : ℕ → X → Bool
  by_pass k e = pass e == k

  -- the calls of all passes weigh what the history does
  pub by-passes : (f : X → ℕ) → sum_by (λ k. sum_by f (filter (λ e. pass e == k) H)) (range_with_len 0 workers) ≡ sum_by f H
  by-passes f =
      parts-weigh by_pass (λ e. nat_lt (pass e) workers) (range_with_len 0 workers) (λ e. once-in-range (pass e) workers) f H
      (λ k d within. is-below (pass (get_or H k d)) workers (named k d within))

  -- what the history tells is told by one pass, where the others tell nothing
  pub one-tells : {Y : Type 0} (h : X → Option Y) (own : ℕ) → ((k : ℕ) → k < workers → k ≢ own → filter_map h (filter (λ e. pass e == k) H) ≡ []) → filter_map h (filter (λ e. pass e == own) H) ≡ filter_map h H
  one-tells h own quiet = told-filter h (by_pass own) H (zero-sum other H (sym (by-passes other) ∙ sum-zero (λ k. sum_by other (filter (by_pass k) H)) (range_with_len 0 workers) (in-range (λ k. sum_by other (filter (by_pass k) H) ≡ 0) workers share))) where
    other : X → ℕ
    other e = bit (is_some (h e) && not (by_pass own e))

    hers : (e : X) → by_pass own e ≡ true → other e ≡ 0
    hers e is = ap (λ b. bit (is_some (h e) && not b)) is ∙ nothing (is_some (h e)) where
      nothing : (b : Bool) → bit (b && false) ≡ 0
      nothing true = refl
      nothing false = refl

    share : (k : ℕ) → k < workers → sum_by other (filter (by_pass k) H) ≡ 0
    share k below = by_test (k == own) refl where
      by_test : (t : Bool) → (k == own) ≡ t → sum_by other (filter (by_pass k) H) ≡ 0
      by_test true e =
          let is : k ≡ own = eqb-true k own e in
          subst (λ j. sum_by other (filter (by_pass j) H) ≡ 0) (sym is)
          (sum-zero other (filter (by_pass own) H) (λ i d within. hers (get_or (filter (by_pass own) H) i d) (filter_passes (by_pass own) H i d within)))
      by_test false e = none-told h (λ x. not (by_pass own x)) (filter (by_pass k) H) (quiet k below (eqb-false k own e))
