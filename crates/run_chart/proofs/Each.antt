-- What one more step of a loop over a list adds.
use Rattle.std.proofs.Common.{◌≡◌, ℕ, ◌+◌, ◌<◌, List, ◌∷◌, ◌++◌, length, get_or, drop, flat_map, sym, ap, ◌∙◌, append_assoc}
use Rattle.std.proofs.lemmas.List.{drop_more}

pub drop-item : {X : Type 0} (xs : List X) (i : ℕ) (x : X) → i < length xs → x ≡ get_or xs i x → drop i xs ≡ x ∷ drop (i + 1) xs
drop-item {X} xs i x within is = drop_more xs i x within ∙ ap (λ (y : X). y ∷ drop (i + 1) xs) (sym is)

pub each-step : {X Y : Type 0} (f : X → List Y) (out : List Y) (xs : List X) (i : ℕ) (x : X) (whole : List Y) → i < length xs → x ≡ get_or xs i x
    → out ++ flat_map f (drop i xs) ≡ whole → (out ++ f x) ++ flat_map f (drop (i + 1) xs) ≡ whole
each-step {X} {Y} f out xs i x whole within is so_far =
    append_assoc out (f x) (flat_map f (drop (i + 1) xs))
    ∙ ap (λ (r : List Y). out ++ r) (sym (ap (flat_map f) (drop-item xs i x within is)))
    ∙ so_far

-- the same of items that are copied, of which the loop reads one from the list
pub each-read : {X Y : Type 0} (f : X → List Y) (out : List Y) (xs : List X) (i : ℕ) (d : X) (whole : List Y) → i < length xs
    → out ++ flat_map f (drop i xs) ≡ whole → (out ++ f (get_or xs i d)) ++ flat_map f (drop (i + 1) xs) ≡ whole
each-read {X} {Y} f out xs i d whole within so_far =
    append_assoc out (f (get_or xs i d)) (flat_map f (drop (i + 1) xs))
    ∙ ap (λ (r : List Y). out ++ r) (sym (ap (flat_map f) (drop_more xs i d within)))
    ∙ so_far
