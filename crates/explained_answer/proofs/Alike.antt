-- What two texts begin with alike, place by place; and the front of an answer.
use Rattle.std.proofs.Common.{◌≡◌, ℕ, ◌+◌, ◌-◌, ◌<◌, ◌≤◌, ◌==◌, min, Bool, true, false, if◌then◌else◌, List, [], ◌∷◌, ◌++◌, length, get_or, take, drop, refl, sym, ap, ◌∙◌, ⊎_elim, arith, append_assoc, length-append}
use Rattle.std.proofs.lemmas.Bool.{cases_lt}
use Rattle.std.proofs.lemmas.List.{append-nil, at_drop_more, drop_all, take_more}
use Rattle.std.proofs.Math.Seq.{take-append_seam}
use Rattle.explained_answer.specs.Fronts.{alike}

-- what stands in front of a rest is as long as the rest leaves it
pub front_of : (xs front rest : List ℕ) → xs ≡ front ++ rest → take (length xs - length rest) xs ≡ front
front_of xs front rest is =
    let size : length xs - length rest ≡ length front = omega (arith, ap length is, length-append front rest) in
    ap (λ k. take k xs) size ∙ ap (take (length front)) is ∙ take-append_seam front rest

pub no_longer : (xs front rest : List ℕ) → xs ≡ front ++ rest → length rest ≤ length xs
no_longer xs front rest is = omega (arith, ap length is, length-append front rest)

-- what is alike up to a place, and from it on
abbrev pub alike_from : List ℕ → List ℕ → ℕ → List ℕ
alike_from xs ys i = take i xs ++ alike (drop i xs) (drop i ys)

-- two lists that have one more element
left_by : (xs ys : List ℕ) (i x y : ℕ) (b : Bool) → i < length xs → i < length ys → x ≡ get_or xs i x → y ≡ get_or ys i y → (x == y) ≡ b
    → alike (drop i xs) (drop i ys) ≡ (if b then get_or xs i x ∷ alike (drop (i + 1) xs) (drop (i + 1) ys) else [])
left_by xs ys i x y b lx ly hx hy t =
    let e : (get_or xs i x == get_or ys i y) ≡ b = sym (ap (λ (v : ℕ). v == get_or ys i y) hx) ∙ sym (ap (λ (v : ℕ). x == v) hy) ∙ t in
    at_drop_more (λ (l : List ℕ). alike l (drop i ys)) xs i x lx
    ∙ at_drop_more (λ (l : List ℕ). alike (get_or xs i x ∷ drop (i + 1) xs) l) ys i y ly
    ∙ ap (λ (v : Bool). if v then get_or xs i x ∷ alike (drop (i + 1) xs) (drop (i + 1) ys) else []) e

pub alike-more : (xs ys : List ℕ) (i x y : ℕ) → i < length xs → i < length ys → x ≡ get_or xs i x → y ≡ get_or ys i y → (x == y) ≡ true
    → alike_from xs ys i ≡ alike_from xs ys (i + 1)
alike-more xs ys i x y lx ly hx hy t =
    let behind = alike (drop (i + 1) xs) (drop (i + 1) ys) in
    ap (λ (l : List ℕ). take i xs ++ l) (left_by xs ys i x y true lx ly hx hy t)
    ∙ sym (append_assoc (take i xs) (get_or xs i x ∷ []) behind)
    ∙ ap (λ (l : List ℕ). l ++ behind) (sym (take_more xs i x lx))

pub alike-here : (xs ys : List ℕ) (i x y : ℕ) → i < length xs → i < length ys → x ≡ get_or xs i x → y ≡ get_or ys i y → (x == y) ≡ false
    → alike_from xs ys i ≡ take i xs
alike-here xs ys i x y lx ly hx hy t = ap (λ (l : List ℕ). take i xs ++ l) (left_by xs ys i x y false lx ly hx hy t) ∙ append-nil (take i xs)

alike-nil : (xs : List ℕ) → alike xs [] ≡ []
alike-nil [] = refl
alike-nil (x ∷ xs) = refl

none-left : (xs ys : List ℕ) (i : ℕ) → min (length xs) (length ys) ≤ i → alike (drop i xs) (drop i ys) ≡ []
none-left xs ys i past =
    ⊎_elim (λ (h : length xs < length ys). ap (λ (l : List ℕ). alike l (drop i ys)) (drop_all i xs (omega arith)))
    (λ (h : length ys ≤ length xs). ap (λ (l : List ℕ). alike (drop i xs) l) (drop_all i ys (omega arith)) ∙ alike-nil (drop i xs))
    (cases_lt (length xs) (length ys))

pub alike-end : (xs ys : List ℕ) (i : ℕ) → min (length xs) (length ys) ≤ i → alike_from xs ys i ≡ take i xs
alike-end xs ys i past = ap (λ (l : List ℕ). take i xs ++ l) (none-left xs ys i past) ∙ append-nil (take i xs)
