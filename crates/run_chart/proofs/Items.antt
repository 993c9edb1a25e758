-- Items of lists, one after the other.
use Rattle.std.proofs.Common.{◌≡◌, ℕ, zero, suc, ◌+◌, List, [], ◌∷◌, ◌++◌, map, drop, slice_get, Some, sym, ap, ◌∙◌, arith, append_assoc}
use Rattle.std.proofs.lemmas.Option.{none-some, same_Some}

-- from an item on
pub mapped-more : {X Y : Type 0} (f : X → Y) (xs : List X) (k : ℕ) (x : X) → slice_get xs k ≡ Some x → map f (drop k xs) ≡ f x ∷ map f (drop (k + 1) xs)
mapped-more f [] k x is = absurd (none-some x is)
mapped-more f (y ∷ xs) zero x is = ap (λ z. f z ∷ map f xs) (same_Some y x is)
mapped-more f (y ∷ xs) (suc k) x is =
    let on : suc k + 1 ≡ suc (k + 1) = omega arith in
    rw on (mapped-more f xs k x is)

-- one item more is mapped, of those that are to be
pub mapped-step : {X Y : Type 0} (f : X → Y) (xs : List X) (k : ℕ) (x : X) (out out' : List Y) (y : Y) (whole : List Y) → slice_get xs k ≡ Some x → y ≡ f x → out' ≡ out ++ y ∷ []
    → out ++ map f (drop k xs) ≡ whole → out' ++ map f (drop (k + 1) xs) ≡ whole
mapped-step {Y = Y} f xs k x out out' y whole is made pushed so_far =
    let rest : List Y = map f (drop (k + 1) xs) in
    let more : map f (drop k xs) ≡ y ∷ rest = mapped-more f xs k x is ∙ ap (λ (z : Y). z ∷ rest) (sym made) in
    rw pushed (append_assoc out (y ∷ []) rest ∙ ap (λ (l : List Y). out ++ l) (sym more) ∙ so_far)
