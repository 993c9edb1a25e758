-- What one more step of a loop over a list adds.
use Rattle.std.proofs.Common.{◌≡◌, ℕ, ◌+◌, ◌<◌, List, ◌++◌, length, get_or, drop, flat_map, sym, ap, ◌∙◌, append_assoc}
use Rattle.std.proofs.lemmas.List.{drop_more}

pub each-read : {X Y : Type 0} (f : X → List Y) (out : List Y) (xs : List X) (i : ℕ) (d : X) (whole : List Y) → i < length xs
    → out ++ flat_map f (drop i xs) ≡ whole → (out ++ f (get_or xs i d)) ++ flat_map f (drop (i + 1) xs) ≡ whole
each-read {X} {Y} f out xs i d whole within so_far =
    append_assoc out (f (get_or xs i d)) (flat_map f (drop (i + 1) xs))
    ∙ ap (λ (r : List Y). out ++ r) (sym (ap (flat_map f) (drop_more xs i d within)))
    ∙ so_far
