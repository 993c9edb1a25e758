-- The columns, one after the other.
use Rattle.std.proofs.Common.{◌≡◌, ℕ, suc, ◌+◌, List, ◌++◌, flat_map, refl, sym, ap, ◌∙◌, arith, append_assoc}
use Rattle.std.specs.List.{range_with_len}
use Rattle.std.proofs.lemmas.List.{append-nil}

lanes-more : (f : ℕ → List ℕ) (a k m : ℕ) → k ≡ m + 1 → flat_map f (range_with_len a k) ≡ f a ++ flat_map f (range_with_len (a + 1) m)
lanes-more f a k m one =
    let on : k ≡ suc m = omega (arith, one) in
    rw on refl

pub lanes-step : (f : ℕ → List ℕ) (out : List ℕ) (a k m : ℕ) (whole : List ℕ) → k ≡ m + 1 → out ++ flat_map f (range_with_len a k) ≡ whole
    → (out ++ f a) ++ flat_map f (range_with_len (a + 1) m) ≡ whole
lanes-step f out a k m whole one so_far =
    append_assoc out (f a) (flat_map f (range_with_len (a + 1) m)) ∙ ap (λ (r : List ℕ). out ++ r) (sym (lanes-more f a k m one)) ∙ so_far

pub lanes-done : (f : ℕ → List ℕ) (out : List ℕ) (a k : ℕ) (whole : List ℕ) → k ≡ 0 → out ++ flat_map f (range_with_len a k) ≡ whole → out ≡ whole
lanes-done f out a k whole none so_far =
    sym (append-nil out) ∙ ap (λ (n : ℕ). out ++ flat_map f (range_with_len a n)) (sym none) ∙ so_far
