-- What one more step of a loop adds: of a range of numbers, and of a list from its front on.
use Rattle.std.proofs.Common.{◌≡◌, ℕ, zero, suc, ◌+◌, ◌≤◌, List, [], ◌∷◌, ◌++◌, map, length, drop, flat_map, slice_get, Some, refl, sym, ap, ◌∙◌, arith, append_assoc}
use Rattle.std.specs.List.{range_with_len}
use Rattle.std.proofs.lemmas.List.{append-nil}

range-more : {X : Type 0} (f : ℕ → List X) (a k m : ℕ) → k ≡ m + 1 → flat_map f (range_with_len a k) ≡ f a ++ flat_map f (range_with_len (a + 1) m)
range-more f a k m one =
    let on : k ≡ suc m = omega (arith, one) in
    rw on refl

pub range-step : {X : Type 0} (f : ℕ → List X) (out : List X) (a k m : ℕ) (whole : List X) → k ≡ m + 1 → out ++ flat_map f (range_with_len a k) ≡ whole
    → (out ++ f a) ++ flat_map f (range_with_len (a + 1) m) ≡ whole
range-step {X} f out a k m whole one so_far =
    append_assoc out (f a) (flat_map f (range_with_len (a + 1) m)) ∙ ap (λ (r : List X). out ++ r) (sym (range-more f a k m one)) ∙ so_far

-- the item at a place, and those behind it
pub drop-item : {X : Type 0} (xs : List X) (i : ℕ) (x : X) → slice_get xs i ≡ Some x → drop i xs ≡ x ∷ drop (i + 1) xs
drop-item [] i x is = absurd (cc)
drop-item {X} (y ∷ ys) zero x is = let same : y ≡ x = cc in ap (λ (z : X). z ∷ ys) same
drop-item (y ∷ ys) (suc i) x is = let on : suc i + 1 ≡ suc (i + 1) = omega arith in rw on (drop-item ys i x is)

pub item-step : {X Y : Type 0} (f : X → List Y) (out : List Y) (xs : List X) (i : ℕ) (x : X) (whole : List Y) → slice_get xs i ≡ Some x → out ++ flat_map f (drop i xs) ≡ whole
    → (out ++ f x) ++ flat_map f (drop (i + 1) xs) ≡ whole
item-step {X} {Y} f out xs i x whole here so_far =
    append_assoc out (f x) (flat_map f (drop (i + 1) xs))
    ∙ ap (λ (r : List Y). out ++ r) (sym (ap (flat_map f) (drop-item xs i x here)))
    ∙ so_far

pub map-step : {X Y : Type 0} (f : X → Y) (out : List Y) (xs : List X) (i : ℕ) (x : X) (whole : List Y) → slice_get xs i ≡ Some x → out ++ map f (drop i xs) ≡ whole
    → (out ++ f x ∷ []) ++ map f (drop (i + 1) xs) ≡ whole
map-step {X} {Y} f out xs i x whole here so_far =
    append_assoc out (f x ∷ []) (map f (drop (i + 1) xs))
    ∙ ap (λ (r : List Y). out ++ r) (sym (ap (map f) (drop-item xs i x here)))
    ∙ so_far

-- nothing is left behind the last item
pub drop-past : {X : Type 0} (xs : List X) (i : ℕ) → length xs ≤ i → drop i xs ≡ []
drop-past [] zero past = refl
drop-past [] (suc i) past = refl
drop-past (x ∷ xs) zero past = absurd (omega (arith, past))
drop-past (x ∷ xs) (suc i) past = drop-past xs i (omega (arith, past))

pub nothing-left : {X Y : Type 0} (f : X → List Y) (out : List Y) (xs : List X) (i : ℕ) (whole : List Y) → length xs ≤ i → out ++ flat_map f (drop i xs) ≡ whole → out ≡ whole
nothing-left {X} {Y} f out xs i whole past so_far = sym (append-nil out) ∙ ap (λ (r : List X). out ++ flat_map f r) (sym (drop-past xs i past)) ∙ so_far
