-- Lists that a loop changes place by place.
use Rattle.std.proofs.Common.{◌≡◌, ℕ, zero, suc, ◌+◌, List, [], ◌∷◌, ◌++◌, map, take, drop, get_or, slice_set, refl, ap, ◌∙◌, arith}

changed : {X : Type 0} (f : X → X) (xs : List X) (i : ℕ) (d : X)
    → slice_set (map f (take i xs) ++ drop i xs) i (f (get_or (map f (take i xs) ++ drop i xs) i d)) ≡ map f (take (suc i) xs) ++ drop (suc i) xs
changed f [] zero d = refl
changed f [] (suc i) d = refl
changed f (x ∷ xs) zero d = refl
changed f (x ∷ xs) (suc i) d = ap (λ (y : List _). f x ∷ y) (changed f xs i d)

-- the first i elements are changed; and one more
pub one-changed : {X : Type 0} (f : X → X) (xs now : List X) (i : ℕ) (d : X) → now ≡ map f (take i xs) ++ drop i xs
    → slice_set now i (f (get_or now i d)) ≡ map f (take (i + 1) xs) ++ drop (i + 1) xs
one-changed f xs now i d is =
    let next : suc i ≡ i + 1 = omega arith in
    ap (λ (y : List _). slice_set y i (f (get_or y i d))) is ∙ changed f xs i d ∙ ap (λ (k : ℕ). map f (take k xs) ++ drop k xs) next
