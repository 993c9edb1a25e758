-- The first place where two lists differ, found place by place.
use Rattle.std.proofs.Common.{◌≡◌, ◌≢◌, ℕ, zero, suc, ◌+◌, ◌<◌, ◌≤◌, min, Bool, true, false, if◌then◌else◌, List, [], ◌∷◌, length, get_or, drop, Option, Some, None, option_map, refl, sym, ap, ◌∙◌, ⊎_elim, zero-add, add-zero, arith}
use Rattle.std.proofs.lemmas.Bool.{cases_lt}
use Rattle.std.proofs.lemmas.List.{at_drop_more, drop_all}
use Rattle.claims.specs.Differences.{first_difference}

-- where what is left of two lists behind their first elements differs
abbrev pub from_place : {A : Type 0} → (A → A → Bool) → List A → List A → ℕ → Option ℕ
from_place same xs ys i = option_map (λ (k : ℕ). i + k) (first_difference same (drop i xs) (drop i ys))

unshifted : (o : Option ℕ) → o ≡ option_map (λ (k : ℕ). 0 + k) o
unshifted None = refl
unshifted (Some k) = ap Some (sym (zero-add k))

shifted : (i : ℕ) (o : Option ℕ) → option_map (λ (k : ℕ). i + k) (option_map suc o) ≡ option_map (λ (k : ℕ). i + 1 + k) o
shifted i None = refl
shifted i (Some k) = let e : i + suc k ≡ i + 1 + k = omega arith in ap Some e

pub from_start : {A : Type 0} (same : A → A → Bool) (xs ys : List A) → first_difference same xs ys ≡ from_place same xs ys 0
from_start same xs ys = unshifted (first_difference same xs ys)

-- what is left, where each list has one more element
left_by : {A : Type 0} (same : A → A → Bool) (xs ys : List A) (i : ℕ) (x y : A) (b : Bool) → i < length xs → i < length ys → x ≡ get_or xs i x → y ≡ get_or ys i y → same x y ≡ b
    → first_difference same (drop i xs) (drop i ys) ≡ (if b then option_map suc (first_difference same (drop (i + 1) xs) (drop (i + 1) ys)) else Some 0)
left_by {A} same xs ys i x y b lx ly hx hy t =
    let e : same (get_or xs i x) (get_or ys i y) ≡ b = sym (ap (λ (v : A). same v (get_or ys i y)) hx) ∙ sym (ap (λ (v : A). same x v) hy) ∙ t in
    at_drop_more (λ (l : List A). first_difference same l (drop i ys)) xs i x lx
    ∙ at_drop_more (λ (l : List A). first_difference same (get_or xs i x ∷ drop (i + 1) xs) l) ys i y ly
    ∙ ap (λ (v : Bool). if v then option_map suc (first_difference same (drop (i + 1) xs) (drop (i + 1) ys)) else Some 0) e

pub from_more : {A : Type 0} (same : A → A → Bool) (xs ys : List A) (i : ℕ) (x y : A) → i < length xs → i < length ys → x ≡ get_or xs i x → y ≡ get_or ys i y → same x y ≡ true
    → from_place same xs ys i ≡ from_place same xs ys (i + 1)
from_more same xs ys i x y lx ly hx hy t =
    ap (option_map (λ (k : ℕ). i + k)) (left_by same xs ys i x y true lx ly hx hy t)
    ∙ shifted i (first_difference same (drop (i + 1) xs) (drop (i + 1) ys))

pub from_here : {A : Type 0} (same : A → A → Bool) (xs ys : List A) (i : ℕ) (x y : A) → i < length xs → i < length ys → x ≡ get_or xs i x → y ≡ get_or ys i y → same x y ≡ false
    → from_place same xs ys i ≡ Some i
from_here same xs ys i x y lx ly hx hy t =
    ap (option_map (λ (k : ℕ). i + k)) (left_by same xs ys i x y false lx ly hx hy t) ∙ ap Some (add-zero i)

-- ---- where one list ends

some_left : {A : Type 0} (xs : List A) (i : ℕ) → i < length xs → (x : A) × (rest : List A) × (drop i xs ≡ x ∷ rest)
some_left [] i h = absurd (omega arith)
some_left (x ∷ xs) zero h = (x, xs, refl)
some_left (x ∷ xs) (suc i) h = some_left xs i (omega arith)

pub from_end : {A : Type 0} (same : A → A → Bool) (xs ys : List A) (i : ℕ) → length xs ≤ i → length ys ≤ i → from_place same xs ys i ≡ None
from_end {A} same xs ys i lx ly =
    ap (λ (l : List A). option_map (λ (k : ℕ). i + k) (first_difference same l (drop i ys))) (drop_all i xs lx)
    ∙ ap (λ (l : List A). option_map (λ (k : ℕ). i + k) (first_difference same [] l)) (drop_all i ys ly)

left_end : {A : Type 0} (same : A → A → Bool) (xs ys : List A) (i : ℕ) → length xs ≤ i → i < length ys → from_place same xs ys i ≡ Some i
left_end {A} same xs ys i lx ly =
    ap (λ (l : List A). option_map (λ (k : ℕ). i + k) (first_difference same l (drop i ys))) (drop_all i xs lx)
    ∙ ap (λ (l : List A). option_map (λ (k : ℕ). i + k) (first_difference same [] l)) (some_left ys i ly).2
    ∙ ap Some (add-zero i)

right_end : {A : Type 0} (same : A → A → Bool) (xs ys : List A) (i : ℕ) → i < length xs → length ys ≤ i → from_place same xs ys i ≡ Some i
right_end {A} same xs ys i lx ly =
    ap (λ (l : List A). option_map (λ (k : ℕ). i + k) (first_difference same (drop i xs) l)) (drop_all i ys ly)
    ∙ ap (λ (l : List A). option_map (λ (k : ℕ). i + k) (first_difference same l [])) (some_left xs i lx).2
    ∙ ap Some (add-zero i)

pub from_short : {A : Type 0} (same : A → A → Bool) (xs ys : List A) (i n : ℕ) → i ≡ n → n ≡ min (length xs) (length ys) → length xs ≢ length ys → from_place same xs ys i ≡ Some n
from_short same xs ys i n is short apart =
    ⊎_elim (λ (h : length xs < length ys). left_end same xs ys i (omega arith) (omega arith))
    (λ (h : length ys ≤ length xs). right_end same xs ys i (omega arith) (omega arith))
    (cases_lt (length xs) (length ys))
    ∙ ap Some is
