-- What one more step of a loop over a list adds: to items with commas between them, and to texts that follow one another.
use Rattle.std.proofs.Common.{◌≡◌, ℕ, Bool, false, ◌+◌, ◌<◌, List, ◌∷◌, ◌++◌, length, get_or, drop, flat_map, sym, ap, ◌∙◌, append_assoc}
use Rattle.std.proofs.lemmas.List.{drop_more}
use Rattle.page_data.specs.Json.{gap, item_texts}

-- the items that are left, of which the loop writes the first after its gap
item-next : {X : Type 0} (f : X → List ℕ) (first : Bool) (out : List ℕ) (left : List X) (x : X) (xs : List X) (whole : List ℕ) → left ≡ x ∷ xs
    → out ++ item_texts f first left ≡ whole → ((out ++ gap first) ++ f x) ++ item_texts f false xs ≡ whole
item-next {X} f first out left x xs whole parts so_far =
    append_assoc (out ++ gap first) (f x) (item_texts f false xs)
    ∙ append_assoc out (gap first) (f x ++ item_texts f false xs)
    ∙ ap (λ (l : List X). out ++ item_texts f first l) (sym parts)
    ∙ so_far

pub item-step : {X : Type 0} (f : X → List ℕ) (first : Bool) (out : List ℕ) (xs : List X) (i : ℕ) (x : X) (whole : List ℕ) → i < length xs
    → x ≡ get_or xs i x → out ++ item_texts f first (drop i xs) ≡ whole → ((out ++ gap first) ++ f x) ++ item_texts f false (drop (i + 1) xs) ≡ whole
item-step {X} f first out xs i x whole within is so_far =
    item-next f first out (drop i xs) x (drop (i + 1) xs) whole (drop_more xs i x within ∙ ap (λ (y : X). y ∷ drop (i + 1) xs) (sym is)) so_far

-- of texts that follow one another
pub text-read : {X : Type 0} (f : X → List ℕ) (out : List ℕ) (xs : List X) (i : ℕ) (d : X) (whole : List ℕ) → i < length xs
    → out ++ flat_map f (drop i xs) ≡ whole → (out ++ f (get_or xs i d)) ++ flat_map f (drop (i + 1) xs) ≡ whole
text-read {X} f out xs i d whole within so_far =
    append_assoc out (f (get_or xs i d)) (flat_map f (drop (i + 1) xs))
    ∙ ap (λ (l : List X). out ++ flat_map f l) (sym (drop_more xs i d within))
    ∙ so_far
