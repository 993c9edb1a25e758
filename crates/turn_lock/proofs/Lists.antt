-- Lists: sums of the weights of seats, calls of one pass, beginnings.
use Rattle.std.proofs.Common.{◌≡◌, ℕ, zero, suc, ◌+◌, ◌<◌, ◌≤◌, ◌≢◌, ◌⊎◌, Bool, false, cond, eqb, eq-eqb, ne_eqb, List, [], ◌∷◌, ◌++◌, length, get_or, set, sum_by, filter, sym, refl, ap, subst, ◌∙◌, inl, inr, ⊎_elim, arith, append_assoc, append-nil}
use Rattle.std.specs.List.{All, Any}
use Rattle.std.proofs.lemmas.List.Sums.{sum_by-cons}
use Rattle.std.proofs.lemmas.List.Elements.{filter-append, All-head, All-tail}
use mathlib.Core.Option.{some, some-injective, some-ne-none}
use Rattle.atomic_table.proofs.Lists.{at_set}
use lib.ListN.{get_elem?}
use Rattle.turn_lock.specs.History.{BeginsWith}

-- a row of one place has no value left once that one is taken
pub one_taken : (l : List Bool) (k n : ℕ) → n ≡ 1 → k < n → get_or (set l 0 false) k false ≡ false
one_taken [] k n one few = refl
one_taken (b ∷ bs) zero n one few = refl
one_taken (b ∷ bs) (suc k) n one few = absurd (omega arith)

module _ {A : Type 0} where
  pub at_less : (l : List A) (i : ℕ) (a : A) → get_elem? l i ≡ some a → i < length l
  at_less [] i a e = absurd (some-ne-none a (sym e))
  at_less (x ∷ xs) zero a e = omega arith
  at_less (x ∷ xs) (suc i) a e = let h = at_less xs i a e in omega arith

  pub at_same : (l : List A) (i : ℕ) (a b : A) → get_elem? l i ≡ some a → get_elem? l i ≡ some b → a ≡ b
  at_same l i a b p q = some-injective a b (sym p ∙ q)

  pub or_at : (l : List A) (i : ℕ) (a d : A) → get_elem? l i ≡ some a → get_or l i d ≡ a
  or_at [] i a d e = absurd (some-ne-none a (sym e))
  or_at (x ∷ xs) zero a d e = some-injective x a e
  or_at (x ∷ xs) (suc i) a d e = or_at xs i a d e

  pub any_at : (P : A → Type 0) (l : List A) (i : ℕ) (a : A) → get_elem? l i ≡ some a → P a → Any P l
  any_at P l i a e p = (i, a, at_less l i a e, or_at l i a a e, p)

  -- the sum after a change at one place
  pub sum_set : (f : A → ℕ) (l : List A) (i : ℕ) (a b : A) → get_elem? l i ≡ some a → sum_by f (set l i b) + f a ≡ sum_by f l + f b
  sum_set f [] i a b e = absurd (some-ne-none a (sym e))
  sum_set f (x ∷ xs) zero a b e = let s = ap f (some-injective x a e) in omega (arith, sum_by-cons f x xs, sum_by-cons f b xs)
  sum_set f (x ∷ xs) (suc i) a b e = let h = sum_set f xs i a b e in omega (arith, sum_by-cons f x xs, sum_by-cons f x (set xs i b))

  pub sum_at : (f : A → ℕ) (l : List A) (i : ℕ) (a : A) → get_elem? l i ≡ some a → f a ≤ sum_by f l
  sum_at f [] i a e = absurd (some-ne-none a (sym e))
  sum_at f (x ∷ xs) zero a e = let s = ap f (some-injective x a e) in omega (arith, sum_by-cons f x xs)
  sum_at f (x ∷ xs) (suc i) a e = let h = sum_at f xs i a e in omega (arith, sum_by-cons f x xs)

  -- two places have no more than the whole
  pub sum_two : (f : A → ℕ) (l : List A) (i j : ℕ) (a b : A) → i ≢ j → get_elem? l i ≡ some a → get_elem? l j ≡ some b → f a + f b ≤ sum_by f l
  sum_two f [] i j a b n p q = absurd (some-ne-none a (sym p))
  sum_two f (x ∷ xs) zero zero a b n p q = absurd (n refl)
  sum_two f (x ∷ xs) zero (suc j) a b n p q =
      let s = ap f (some-injective x a p) in let h = sum_at f xs j b q in omega (arith, sum_by-cons f x xs)
  sum_two f (x ∷ xs) (suc i) zero a b n p q =
      let s = ap f (some-injective x b q) in let h = sum_at f xs i a p in omega (arith, sum_by-cons f x xs)
  sum_two f (x ∷ xs) (suc i) (suc j) a b n p q =
      let h = sum_two f xs i j a b (λ e. n (ap suc e)) p q in omega (arith, sum_by-cons f x xs)

  pub at_snoc_place : (l : List A) (a b : A) (j : ℕ) → get_elem? (l ++ a ∷ []) j ≡ some b → (get_elem? l j ≡ some b) ⊎ ((j ≡ length l) × (a ≡ b))
  at_snoc_place [] a b zero e = inr (refl, some-injective a b e)
  at_snoc_place [] a b (suc j) e = absurd (some-ne-none b (sym e))
  at_snoc_place (x ∷ xs) a b zero e = inl e
  at_snoc_place (x ∷ xs) a b (suc j) e = ⊎_elim (λ h. inl h) (λ h. inr (ap suc h.0, h.1)) (at_snoc_place xs a b j e)

  -- what stands in the second of two lists stands behind the first
  pub at_behind : (xs ys : List A) (i : ℕ) → get_elem? (xs ++ ys) (length xs + i) ≡ get_elem? ys i
  at_behind [] ys i = let here : 0 + i ≡ i = omega arith in ap (get_elem? ys) here
  at_behind (x ∷ xs) ys i =
      let next : length (x ∷ xs) + i ≡ suc (length xs + i) = omega arith in ap (get_elem? (x ∷ (xs ++ ys))) next ∙ at_behind xs ys i

  pub tail : List A → List A
  tail [] = []
  tail (x ∷ xs) = xs

  pub at_tail : (l : List A) (i : ℕ) → get_elem? (tail l) i ≡ get_elem? l (suc i)
  unfolding tail
  at_tail [] i = refl
  at_tail (x ∷ xs) i = refl

  pub length-tail : (l : List A) (a : A) → get_elem? l 0 ≡ some a → length l ≡ 1 + length (tail l)
  unfolding tail
  length-tail [] a e = absurd (some-ne-none a (sym e))
  length-tail (x ∷ xs) a e = omega arith

  -- what holds at each place, after a change at one
  pub all_but : (Q : ℕ → A → Type 0) (l : List A) (i : ℕ) (a : A) → Q i a → ((j : ℕ) (b : A) → j ≢ i → get_elem? l j ≡ some b → Q j b) → (j : ℕ) (b : A) → get_elem? (set l i a) j ≡ some b → Q j b
  all_but Q l i a here others j b e =
      ⊎_elim (λ h. subst (λ k. Q k b) (sym h.0) (subst (Q i) h.1 here)) (λ h. others j b h.0 h.1) (at_set l i j a b e)

  -- a beginning of a history is a beginning of a longer one
  pub begins_longer : (log seen more : List A) → BeginsWith log seen → BeginsWith (log ++ more) seen
  begins_longer log seen more b = (b.0 ++ more, ap (λ l. l ++ more) b.1 ∙ append_assoc seen b.0 more)

module _ {E : Type 0} (by : E → ℕ) where
  -- the pass's own calls are added to its calls
  pub own_more : (p : ℕ) (log more : List E) → All (λ e. by e ≡ p) more → filter (λ c. eqb (by c) p) (log ++ more) ≡ filter (λ c. eqb (by c) p) log ++ more
  own_more p log [] all = ap (filter (λ c. eqb (by c) p)) (append-nil log) ∙ sym (append-nil _)
  own_more p log (e ∷ es) all =
      let h = All-head (λ c. by c ≡ p) e es all in
      let more = own_more p [] es (All-tail (λ c. by c ≡ p) e es all) in
      filter-append (λ c. eqb (by c) p) log (e ∷ es)
      ∙ ap (λ l. filter (λ c. eqb (by c) p) log ++ l) (ap (λ b. cond b (e ∷ filter (λ c. eqb (by c) p) es) (filter (λ c. eqb (by c) p) es)) (eq-eqb (by e) p h) ∙ ap (λ l. e ∷ l) more)

  pub none_in : (p q : ℕ) (more : List E) → p ≢ q → All (λ e. by e ≡ p) more → filter (λ c. eqb (by c) q) more ≡ []
  none_in p q [] ne all = refl
  none_in p q (e ∷ es) ne all =
      let h = All-head (λ c. by c ≡ p) e es all in
      ap (λ b. cond b (e ∷ filter (λ c. eqb (by c) q) es) (filter (λ c. eqb (by c) q) es)) (ne_eqb (by e) q (λ is. ne (sym h ∙ is)))
      ∙ none_in p q es ne (All-tail (λ c. by c ≡ p) e es all)

  -- another pass's calls stay
  pub others_same : (p q : ℕ) (log more : List E) → p ≢ q → All (λ e. by e ≡ p) more → filter (λ c. eqb (by c) q) (log ++ more) ≡ filter (λ c. eqb (by c) q) log
  others_same p q log more ne all =
      filter-append (λ c. eqb (by c) q) log more ∙ (ap (λ l. filter (λ c. eqb (by c) q) log ++ l) (none_in p q more ne all) ∙ append-nil _)

  -- a number that is not given yet has no call
  pub none_of : (log : List E) (n p : ℕ) → n ≤ p → All (λ e. by e < n) log → filter (λ c. eqb (by c) p) log ≡ []
  none_of [] n p le all = refl
  none_of (e ∷ es) n p le all =
      let h = All-head (λ c. by c < n) e es all in
      ap (λ b. cond b (e ∷ filter (λ c. eqb (by c) p) es) (filter (λ c. eqb (by c) p) es)) (ne_eqb (by e) p (λ is. omega arith))
      ∙ none_of es n p le (All-tail (λ c. by c < n) e es all)
