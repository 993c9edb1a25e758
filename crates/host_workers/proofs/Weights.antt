-- Lists by what their elements weigh.
use Rattle.std.proofs.Common.{◌≡◌, ℕ, zero, suc, ◌+◌, ◌≤◌, Bool, true, false, ◌&&◌, ◌==◌, cond, nat_lt, nat_le, List, [], ◌∷◌, get_or, map, slice_get, Option, Some, None, refl, sym, ap, subst, ◌∙◌, arith}
use Rattle.std.specs.Prelude.{sum_by, count_by, filter, flat_map, filter_map, All, not}
use Rattle.std.specs.Option.{is_some}
use Rattle.std.specs.List.{range_with_len, cons_option}
use Rattle.std.proofs.lemmas.Bool.{ltb-false}
use Rattle.std.proofs.lemmas.Bool.Decides.{nat_tests}
use Rattle.std.proofs.lemmas.List.Sums.{sum_by-cons, sum_by-append}
use Rattle.std.proofs.lemmas.List.Elements.{All-nil, All-cons, All-head, All-tail}
use Rattle.machine_rules.specs.Flight.{bit}

-- ---- what passes a filter

module _ {X : Type 0} (p : X → Bool) where
  pub filter-true : (x : X) (xs : List X) → p x ≡ true → filter p (x ∷ xs) ≡ x ∷ filter p xs
  filter-true x xs e = ap (λ b. cond b (x ∷ filter p xs) (filter p xs)) e

  pub filter-false : (x : X) (xs : List X) → p x ≡ false → filter p (x ∷ xs) ≡ filter p xs
  filter-false x xs e = ap (λ b. cond b (x ∷ filter p xs) (filter p xs)) e

  -- what passes weighs what it weighs, and the rest nothing
  pub sum-filter : (f : X → ℕ) (xs : List X) → sum_by f (filter p xs) ≡ sum_by (λ x. cond (p x) (f x) 0) xs
  sum-filter f [] = refl
  sum-filter f (x ∷ xs) = by_test (p x) refl (sum-filter f xs) where
    by_test : (t : Bool) → p x ≡ t → sum_by f (filter p xs) ≡ sum_by (λ y. cond (p y) (f y) 0) xs → sum_by f (filter p (x ∷ xs)) ≡ sum_by (λ y. cond (p y) (f y) 0) (x ∷ xs)
    by_test true e rest =
        let here : cond (p x) (f x) 0 ≡ f x = ap (λ b. cond b (f x) 0) e in
        ap (λ l. sum_by f l) (filter-true x xs e) ∙ omega (arith, here, rest, sum_by-cons f x (filter p xs), sum_by-cons (λ y. cond (p y) (f y) 0) x xs)
    by_test false e rest =
        let here : cond (p x) (f x) 0 ≡ 0 = ap (λ b. cond b (f x) 0) e in
        ap (λ l. sum_by f l) (filter-false x xs e) ∙ omega (arith, here, rest, sum_by-cons (λ y. cond (p y) (f y) 0) x xs)

-- ---- sums

module _ {X : Type 0} where
  pub sum-map : {Y : Type 0} (f : Y → ℕ) (g : X → Y) (xs : List X) → sum_by f (map g xs) ≡ sum_by (λ x. f (g x)) xs
  sum-map f g [] = refl
  sum-map f g (x ∷ xs) = omega (arith, sum_by-cons f (g x) (map g xs), sum_by-cons (λ y. f (g y)) x xs, sum-map f g xs)

  pub sum-flat : {Y : Type 0} (f : Y → ℕ) (g : X → List Y) (xs : List X) → sum_by f (flat_map g xs) ≡ sum_by (λ x. sum_by f (g x)) xs
  sum-flat f g [] = refl
  sum-flat f g (x ∷ xs) = sum_by-append f (g x) (flat_map g xs) ∙ omega (arith, sum-flat f g xs, sum_by-cons (λ y. sum_by f (g y)) x xs)

  pub sum-zero : (f : X → ℕ) (xs : List X) → All (λ x. f x ≡ 0) xs → sum_by f xs ≡ 0
  sum-zero f [] all = refl
  sum-zero f (x ∷ xs) all =
      let here : f x ≡ 0 = All-head (λ y. f y ≡ 0) x xs all in
      omega (arith, sum_by-cons f x xs, here, sum-zero f xs (All-tail (λ y. f y ≡ 0) x xs all))

  -- where the elements weigh nothing, none of them does
  pub zero-sum : (f : X → ℕ) (xs : List X) → sum_by f xs ≡ 0 → All (λ x. f x ≡ 0) xs
  zero-sum f [] none = All-nil (λ x. f x ≡ 0)
  zero-sum f (x ∷ xs) none =
      All-cons (λ y. f y ≡ 0) x xs (omega (arith, sum_by-cons f x xs, none)) (zero-sum f xs (omega (arith, sum_by-cons f x xs, none)))

  pub sum-agree : (f g : X → ℕ) (xs : List X) → All (λ x. f x ≡ g x) xs → sum_by f xs ≡ sum_by g xs
  sum-agree f g [] all = refl
  sum-agree f g (x ∷ xs) all =
      let here : f x ≡ g x = All-head (λ y. f y ≡ g y) x xs all in
      omega (arith, sum_by-cons f x xs, sum_by-cons g x xs, here, sum-agree f g xs (All-tail (λ y. f y ≡ g y) x xs all))

  pub sum-same : (f g : X → ℕ) (xs : List X) → ((x : X) → f x ≡ g x) → sum_by f xs ≡ sum_by g xs
  sum-same f g xs same = sum-agree f g xs (λ k d within. same (get_or xs k d))

  pub sum-both : (f g : X → ℕ) (xs : List X) → sum_by (λ x. f x + g x) xs ≡ sum_by f xs + sum_by g xs
  sum-both f g [] = refl
  sum-both f g (x ∷ xs) =
      omega (arith, sum-both f g xs, sum_by-cons (λ y. f y + g y) x xs, sum_by-cons f x xs, sum_by-cons g x xs)

  pub sum-flip : {A : Type 0} (f : A → X → ℕ) (ks : List A) (xs : List X) → sum_by (λ a. sum_by (f a) xs) ks ≡ sum_by (λ x. sum_by (λ a. f a x) ks) xs
  sum-flip f [] xs = sym (sum-zero (λ x. 0) xs (λ k d within. refl))
  sum-flip f (a ∷ ks) xs =
      sum_by-cons (λ b. sum_by (f b) xs) a ks
      ∙ (ap (λ n. sum_by (f a) xs + n) (sum-flip f ks xs)
      ∙ (sym (sum-both (f a) (λ x. sum_by (λ b. f b x) ks) xs)
      ∙ sum-same (λ x. f a x + sum_by (λ b. f b x) ks) (λ x. sum_by (λ b. f b x) (a ∷ ks)) xs (λ x. sym (sum_by-cons (λ b. f b x) a ks))))

  -- where the elements weigh something, one of them does
  pub somewhere : (f : X → ℕ) (xs : List X) → 1 ≤ sum_by f xs → (place : ℕ) × (x : X) × (slice_get xs place ≡ Some x) × (1 ≤ f x)
  somewhere f [] some = absurd (omega arith)
  somewhere f (x ∷ xs) some = by_test (nat_lt 0 (f x)) refl (somewhere f xs) where
    by_test : (t : Bool) → nat_lt 0 (f x) ≡ t → (1 ≤ sum_by f xs → (place : ℕ) × (y : X) × (slice_get xs place ≡ Some y) × (1 ≤ f y)) → (place : ℕ) × (y : X) × (slice_get (x ∷ xs) place ≡ Some y) × (1 ≤ f y)
    by_test true e rest = (0, x, refl, grind (arith, nat_tests))
    by_test false e rest =
        let none = ltb-false 0 (f x) e in
        let found = rest (omega (arith, some, none, sum_by-cons f x xs)) in
        (suc found.0, found.1, found.2, found.3)

-- ---- lists in parts

module _ {A : Type 0} (p : A → Bool) (v : ℕ) where
  none-weighs : (ks : List A) → count_by p ks ≡ 0 → sum_by (λ a. cond (p a) v 0) ks ≡ 0
  none-weighs [] none = refl
  none-weighs (a ∷ ks) none = by_test (p a) refl (none-weighs ks) where
    by_test : (t : Bool) → p a ≡ t → (count_by p ks ≡ 0 → sum_by (λ b. cond (p b) v 0) ks ≡ 0) → sum_by (λ b. cond (p b) v 0) (a ∷ ks) ≡ 0
    by_test true e rest =
        let one : bit (p a) ≡ 1 = ap bit e in
        absurd (omega (arith, none, one, sum_by-cons (λ b. cond (p b) 1 0) a ks))
    by_test false e rest =
        let no : bit (p a) ≡ 0 = ap bit e in
        let here : cond (p a) v 0 ≡ 0 = ap (λ b. cond b v 0) e in
        omega (arith, here, rest (omega (arith, none, no, sum_by-cons (λ b. cond (p b) 1 0) a ks)), sum_by-cons (λ b. cond (p b) v 0) a ks)

  -- where one passes, it weighs all
  pub one-weighs : (ks : List A) → count_by p ks ≡ 1 → sum_by (λ a. cond (p a) v 0) ks ≡ v
  one-weighs [] one = absurd (omega (arith, one))
  one-weighs (a ∷ ks) one = by_test (p a) refl (one-weighs ks) where
    by_test : (t : Bool) → p a ≡ t → (count_by p ks ≡ 1 → sum_by (λ b. cond (p b) v 0) ks ≡ v) → sum_by (λ b. cond (p b) v 0) (a ∷ ks) ≡ v
    by_test true e rest =
        let yes : bit (p a) ≡ 1 = ap bit e in
        let here : cond (p a) v 0 ≡ v = ap (λ b. cond b v 0) e in
        let later = none-weighs ks (omega (arith, one, yes, sum_by-cons (λ b. cond (p b) 1 0) a ks)) in
        omega (arith, here, later, sum_by-cons (λ b. cond (p b) v 0) a ks)
    by_test false e rest =
        let no : bit (p a) ≡ 0 = ap bit e in
        let here : cond (p a) v 0 ≡ 0 = ap (λ b. cond b v 0) e in
        omega (arith, here, rest (omega (arith, one, no, sum_by-cons (λ b. cond (p b) 1 0) a ks)), sum_by-cons (λ b. cond (p b) v 0) a ks)

  pub parted-at : (ks : List A) (t : Bool) → count_by p ks ≡ bit t → sum_by (λ a. cond (p a) v 0) ks ≡ cond t v 0
  parted-at ks true count = one-weighs ks count
  parted-at ks false count = none-weighs ks count

module _ {A X : Type 0} (is : A → X → Bool) (inside : X → Bool) (ks : List A) (count : (x : X) → count_by (λ a. is a x) ks ≡ bit (inside x)) where
  -- each element inside is in one part, and the others in none
  pub sum-parted : (f : X → ℕ) (xs : List X) → sum_by (λ a. sum_by (λ x. cond (is a x) (f x) 0) xs) ks ≡ sum_by (λ x. cond (inside x) (f x) 0) xs
  sum-parted f xs =
      sum-flip (λ a x. cond (is a x) (f x) 0) ks xs
      ∙ sum-same (λ x. sum_by (λ a. cond (is a x) (f x) 0) ks) (λ x. cond (inside x) (f x) 0) xs (λ x. parted-at (λ a. is a x) (f x) ks (inside x) (count x))

  -- where all are inside, the parts weigh what the whole does
  pub parts-weigh : (f : X → ℕ) (xs : List X) → All (λ x. inside x ≡ true) xs → sum_by (λ a. sum_by f (filter (is a) xs)) ks ≡ sum_by f xs
  parts-weigh f xs all =
      sum-same (λ a. sum_by f (filter (is a) xs)) (λ a. sum_by (λ x. cond (is a x) (f x) 0) xs) ks (λ a. sum-filter (is a) f xs)
      ∙ (sum-parted f xs
      ∙ sum-agree (λ x. cond (inside x) (f x) 0) f xs (λ k d within. ap (λ b. cond b (f (get_or xs k d)) 0) (all k d within)))

-- how often a number is in a range
pub count-range : (m a n : ℕ) → count_by (λ k. k == m) (range_with_len a n) ≡ bit (nat_le a m && nat_lt m (a + n))
count-range m a zero = grind (arith, nat_tests)
count-range m a (suc n) =
    let rest = count-range m (a + 1) n in
    let step = sum_by-cons (λ k. cond (k == m) 1 0) a (range_with_len (a + 1) n) in
    grind (arith, nat_tests, rest, step)

-- what holds of each element of every part holds of all
pub all-of-parts : {K X : Type 0} (is : K → X → Bool) (key : X → K) → ((x : X) → is (key x) x ≡ true) → (P : X → Type 0) (xs : List X) → ((k : K) → All P (filter (is k) xs)) → All P xs
all-of-parts is key own P [] all = All-nil P
all-of-parts is key own P (x ∷ xs) all =
    All-cons P x xs (All-head P x (filter (is (key x)) xs) (subst (All P) (filter-true (is (key x)) x xs (own x)) (all (key x))))
    (all-of-parts is key own P xs (λ k. by_test k (is k x) refl)) where
      by_test : (k : _) (t : Bool) → is k x ≡ t → All P (filter (is k) xs)
      by_test k true e = All-tail P x (filter (is k) xs) (subst (All P) (filter-true (is k) x xs e) (all k))
      by_test k false e = subst (All P) (filter-false (is k) x xs e) (all k)

-- ---- options

pub told-cons : {X Y : Type 0} (h : X → Option Y) (x : X) (xs : List X) (o : Option Y) → h x ≡ o → filter_map h (x ∷ xs) ≡ cons_option o (filter_map h xs)
told-cons h x xs o e = ap (λ a. cons_option a (filter_map h xs)) e

-- where none but those that pass tell something, the others may be left out
pub told-filter : {X Y : Type 0} (h : X → Option Y) (p : X → Bool) (xs : List X) → All (λ x. bit (is_some (h x) && not (p x)) ≡ 0) xs → filter_map h (filter p xs) ≡ filter_map h xs
told-filter h p [] all = refl
told-filter {X} {Y} h p (x ∷ xs) all =
    by_test (p x) refl (told-filter h p xs (All-tail (λ y. bit (is_some (h y) && not (p y)) ≡ 0) x xs all)) (All-head (λ y. bit (is_some (h y) && not (p y)) ≡ 0) x xs all) where
      quiet : (o : Option Y) → bit (is_some o && true) ≡ 0 → o ≡ None
      quiet None e = refl
      quiet (Some y) e = absurd (omega (arith, e))

      by_test : (t : Bool) → p x ≡ t → filter_map h (filter p xs) ≡ filter_map h xs → bit (is_some (h x) && not (p x)) ≡ 0 → filter_map h (filter p (x ∷ xs)) ≡ filter_map h (x ∷ xs)
      by_test true e rest here = ap (λ l. filter_map h l) (filter-true p x xs e) ∙ ap (λ l. cons_option (h x) l) rest
      by_test false e rest here =
          let none : h x ≡ None = quiet (h x) (subst (λ b. bit (is_some (h x) && not b) ≡ 0) e here) in
          ap (λ l. filter_map h l) (filter-false p x xs e) ∙ (rest ∙ sym (told-cons h x xs None none))

pub none-told : {X Y : Type 0} (h : X → Option Y) (p : X → Bool) (xs : List X) → filter_map h xs ≡ [] → sum_by (λ x. bit (is_some (h x) && p x)) xs ≡ 0
none-told h p [] none = refl
none-told {X} {Y} h p (x ∷ xs) none = by_told (h x) refl (none-told h p xs) where
  by_told : (o : Option Y) → h x ≡ o → (filter_map h xs ≡ [] → sum_by (λ y. bit (is_some (h y) && p y)) xs ≡ 0) → sum_by (λ y. bit (is_some (h y) && p y)) (x ∷ xs) ≡ 0
  by_told None e rest =
      let here : bit (is_some (h x) && p x) ≡ 0 = ap (λ o. bit (is_some o && p x)) e in
      omega (arith, here, rest (sym (told-cons h x xs None e) ∙ none), sum_by-cons (λ y. bit (is_some (h y) && p y)) x xs)
  by_told (Some y) e rest =
      let never : y ∷ filter_map h xs ≡ [] = sym (told-cons h x xs (Some y) e) ∙ none in
      absurd (cc)
