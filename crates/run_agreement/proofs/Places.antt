-- Elements at their places in lists.
use Rattle.std.proofs.Common.{◌≡◌, ◌≢◌, ℕ, zero, suc, ◌<◌, List, [], ◌∷◌, ◌++◌, length, map, slice_get, slice_set, Some, refl, sym, ap, ◌∙◌, subst, arith}
use Rattle.std.proofs.lemmas.Option.{none-some, same_Some}

-- what holds of the new element, and of each old one at another place, holds of the list in which one is replaced
pub by-place : {X : Type 0} (G : ℕ → X → Type 0) (xs : List X) (i : ℕ) (x : X) → ((y : X) → slice_get xs i ≡ Some y → G i x)
    → ((j : ℕ) (y : X) → j ≢ i → slice_get xs j ≡ Some y → G j y) → (j : ℕ) (y : X) → slice_get (slice_set xs i x) j ≡ Some y → G j y
by-place G [] i x new old j y at' = absurd (none-some y at')
by-place G (z ∷ zs) zero x new old zero y at' = subst (G zero) (same_Some x y at') (new z refl)
by-place G (z ∷ zs) zero x new old (suc j) y at' = old (suc j) y (λ e. absurd (omega arith)) at'
by-place G (z ∷ zs) (suc i) x new old zero y at' = old zero y (λ e. absurd (omega arith)) at'
by-place {X} G (z ∷ zs) (suc i) x new old (suc j) y at' =
    let Behind : ℕ → X → Type 0 = λ k q. G (suc k) q in
    by-place Behind zs i x new (λ k q apart there. old (suc k) q (λ e. apart (omega arith)) there) j y at'

pub set-there : {X : Type 0} (xs : List X) (i : ℕ) (x y : X) → slice_get xs i ≡ Some y → slice_get (slice_set xs i x) i ≡ Some x
set-there [] i x y there = absurd (none-some y there)
set-there (z ∷ zs) zero x y there = refl
set-there (z ∷ zs) (suc i) x y there = set-there zs i x y there

pub set-other : {X : Type 0} (xs : List X) (i j : ℕ) (x : X) → j ≢ i → slice_get (slice_set xs i x) j ≡ slice_get xs j
set-other [] i j x apart = refl
set-other (z ∷ zs) zero zero x apart = absurd (apart refl)
set-other (z ∷ zs) zero (suc j) x apart = refl
set-other (z ∷ zs) (suc i) zero x apart = refl
set-other (z ∷ zs) (suc i) (suc j) x apart = set-other zs i j x (λ e. apart (ap suc e))

pub set-length : {X : Type 0} (xs : List X) (i : ℕ) (x : X) → length (slice_set xs i x) ≡ length xs
set-length [] i x = refl
set-length (z ∷ zs) zero x = refl
set-length (z ∷ zs) (suc i) x = ap suc (set-length zs i x)

-- whether an element is in its place
pub get-cases : {X : Type 0} (xs : List X) (i : ℕ) → i < length xs → (x : X) × (slice_get xs i ≡ Some x)
get-cases [] i within = absurd (omega arith)
get-cases (x ∷ xs) zero within = (x, refl)
get-cases (x ∷ xs) (suc i) within = get-cases xs i (omega arith)

-- lists of one length whose elements are the same at each place
pub same-places : {X : Type 0} (xs ys : List X) → length xs ≡ length ys → ((i : ℕ) (x : X) → slice_get xs i ≡ Some x → slice_get ys i ≡ Some x) → xs ≡ ys
same-places [] [] e same = refl
same-places [] (y ∷ ys) e same = absurd (omega arith)
same-places (x ∷ xs) [] e same = absurd (omega arith)
same-places {X} (x ∷ xs) (y ∷ ys) e same =
    let head : y ≡ x = same_Some y x (same zero x refl) in
    let rest : xs ≡ ys = same-places xs ys (omega arith) (λ i z there. same (suc i) z there) in
    ap (λ (z : X). z ∷ xs) (sym head) ∙ ap (λ (zs : List X). y ∷ zs) rest

-- an element of the front of two lists
pub front-place : {X : Type 0} (xs ys : List X) (i : ℕ) (x : X) → slice_get xs i ≡ Some x → slice_get (xs ++ ys) i ≡ Some x
front-place [] ys i x there = absurd (none-some x there)
front-place (z ∷ xs) ys zero x there = there
front-place (z ∷ xs) ys (suc i) x there = front-place xs ys i x there

-- what a list is mapped to, place by place
pub map-place : {X Y : Type 0} (f : X → Y) (xs : List X) (i : ℕ) (y : Y) → slice_get (map f xs) i ≡ Some y → (x : X) × (slice_get xs i ≡ Some x) × (f x ≡ y)
map-place f [] i y at' = absurd (none-some y at')
map-place f (x ∷ xs) zero y at' = (x, refl, same_Some (f x) y at')
map-place f (x ∷ xs) (suc i) y at' = map-place f xs i y at'

pub place-map : {X Y : Type 0} (f : X → Y) (xs : List X) (i : ℕ) (x : X) → slice_get xs i ≡ Some x → slice_get (map f xs) i ≡ Some (f x)
place-map f [] i x at' = absurd (none-some x at')
place-map f (z ∷ xs) zero x at' = ap (λ y. Some (f y)) (same_Some z x at')
place-map f (z ∷ xs) (suc i) x at' = place-map f xs i x at'
