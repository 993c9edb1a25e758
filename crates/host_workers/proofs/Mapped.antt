-- Lists of what is told of the elements of another list.
use Rattle.std.proofs.Common.{◌≡◌, ℕ, zero, suc, ◌<◌, Bool, true, false, cond, List, [], ◌∷◌, length, get_or, map, slice_get, Option, Some, None, refl, ap, subst, ◌∙◌, arith}
use Rattle.std.specs.Prelude.{filter, filter_map, option_map, All, AllPairs}
use Rattle.std.specs.List.{cons_option}
use Rattle.std.proofs.lemmas.List.Elements.{All-head, All-tail}

abbrev pub held : {Z : Type 0} → Z → Option Z → Z
held d None = d
held d (Some x) = x

module _ {X Y : Type 0} where
  pub map-agree : (f g : X → Y) (xs : List X) → All (λ x. f x ≡ g x) xs → map f xs ≡ map g xs
  map-agree f g [] all = refl
  map-agree f g (x ∷ xs) all =
      let here : f x ≡ g x = All-head (λ y. f y ≡ g y) x xs all in
      let rest = map-agree f g xs (All-tail (λ y. f y ≡ g y) x xs all) in
      λ i. here i ∷ rest i

  pub map-map : {Z : Type 0} (f : Y → Z) (g : X → Y) (xs : List X) → map f (map g xs) ≡ map (λ x. f (g x)) xs
  map-map f g [] = refl
  map-map f g (x ∷ xs) = ap (λ l. f (g x) ∷ l) (map-map f g xs)

  pub filter_map-map : {Z : Type 0} (h : Y → Option Z) (f : X → Y) (xs : List X) → filter_map h (map f xs) ≡ filter_map (λ x. h (f x)) xs
  filter_map-map h f [] = refl
  filter_map-map h f (x ∷ xs) = ap (λ l. cons_option (h (f x)) l) (filter_map-map h f xs)

  pub filter-map : (p : Y → Bool) (f : X → Y) (xs : List X) → filter p (map f xs) ≡ map f (filter (λ x. p (f x)) xs)
  filter-map p f [] = refl
  filter-map p f (x ∷ xs) = by_test (p (f x)) (filter-map p f xs) where
    by_test : (t : Bool) → filter p (map f xs) ≡ map f (filter (λ y. p (f y)) xs) → cond t (f x ∷ filter p (map f xs)) (filter p (map f xs)) ≡ map f (cond t (x ∷ filter (λ y. p (f y)) xs) (filter (λ y. p (f y)) xs))
    by_test true rest = ap (λ l. f x ∷ l) rest
    by_test false rest = rest

  get-map : (f : X → Y) (xs : List X) (i : ℕ) (d : X) → get_or (map f xs) i (f d) ≡ f (get_or xs i d)
  get-map f [] i d = refl
  get-map f (x ∷ xs) zero d = refl
  get-map f (x ∷ xs) (suc i) d = get-map f xs i d

  pub long-map : (f : X → Y) (xs : List X) → length (map f xs) ≡ length xs
  long-map f [] = refl
  long-map f (x ∷ xs) = ap suc (long-map f xs)

  pub pairs-map : (R : Y → Y → Type 0) (f : X → Y) (xs : List X) → AllPairs R (map f xs) → AllPairs (λ x y. R (f x) (f y)) xs
  pairs-map R f xs pairs i j d before within =
      subst (λ x. R x (f (get_or xs j d))) (get-map f xs i d)
      (subst (λ y. R (get_or (map f xs) i (f d)) y) (get-map f xs j d) (pairs i j (f d) before (omega (arith, within, long-map f xs))))

  pub all-map : (P : Y → Type 0) (f : X → Y) (xs : List X) → All P (map f xs) → All (λ x. P (f x)) xs
  all-map P f xs all i d within = subst P (get-map f xs i d) (all i (f d) (omega (arith, within, long-map f xs)))

  -- where an element is told, it stands
  pub stands-map : (f : X → Y) (xs : List X) (i : ℕ) (y : Y) → slice_get (map f xs) i ≡ Some y → (x : X) × (slice_get xs i ≡ Some x) × (f x ≡ y)
  stands-map f [] i y at = absurd (cc)
  stands-map f (x ∷ xs) zero y at = (x, refl, ap (held (f x)) at)
  stands-map f (x ∷ xs) (suc i) y at = stands-map f xs i y at

-- lists with the same elements at each place
pub same-places : {X : Type 0} (xs ys : List X) → length xs ≡ length ys → ((i : ℕ) → i < length xs → slice_get xs i ≡ slice_get ys i) → xs ≡ ys
same-places [] [] long same = refl
same-places [] (y ∷ ys) long same = absurd (omega (arith, long))
same-places (x ∷ xs) [] long same = absurd (omega (arith, long))
same-places (x ∷ xs) (y ∷ ys) long same =
    let here : x ≡ y = ap (held x) (same 0 (omega arith)) in
    let rest = same-places xs ys (omega (arith, long)) (λ i within. same (suc i) (omega (arith, within))) in
    λ j. here j ∷ rest j

pub slice_get_at : {X : Type 0} (xs : List X) (i : ℕ) (d : X) → i < length xs → slice_get xs i ≡ Some (get_or xs i d)
slice_get_at [] i d within = absurd (omega (arith, within))
slice_get_at (x ∷ xs) zero d within = refl
slice_get_at (x ∷ xs) (suc i) d within = slice_get_at xs i d (omega (arith, within))

-- what is made of what is told
pub map-first : {X Y : Type 0} (f : X → Y) (o : Option X) (xs : List X) → map f (cons_option o xs) ≡ cons_option (option_map f o) (map f xs)
map-first f None xs = refl
map-first f (Some x) xs = refl

pub map-told : {X Y Z : Type 0} (f : Y → Z) (h : X → Option Y) (g : X → Option Z) (xs : List X) → ((x : X) → option_map f (h x) ≡ g x) → map f (filter_map h xs) ≡ filter_map g xs
map-told f h g [] same = refl
map-told f h g (x ∷ xs) same =
    map-first f (h x) (filter_map h xs)
    ∙ (ap (λ o. cons_option o (map f (filter_map h xs))) (same x) ∙ ap (λ l. cons_option (g x) l) (map-told f h g xs same))
