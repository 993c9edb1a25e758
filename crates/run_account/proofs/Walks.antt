-- A walk over a cache's sets and places sees its pairs, in another order.
use Rattle.std.proofs.Common.{◌≡◌, ℕ, zero, suc, ◌+◌, ◌%◌, ◌<◌, ◌≤◌, ◌==◌, Bool, true, false, cond, nat_lt, List, [], ◌∷◌, ◌++◌, Option, Some, None, refl, sym, ap, ◌∙◌, arith}
use Rattle.std.specs.List.{fold, filter, cons_option}
use Rattle.std.proofs.lemmas.Bool.Decides.{nat_tests}
use Rattle.std.proofs.lemmas.List.Sums.{fold-append}
use Rattle.std.proofs.lemmas.Nat.{mod_below}
use Rattle.word_cache.specs.declared.row.Place.{Place}
use Rattle.word_cache.specs.Cache.{Pair, in_set}
use Rattle.word_cache.specs.Row.{put_by_use, by_use, pairs_of, pairs_by_use}

-- the pairs of so many sets from one on
abbrev pub of_sets : ℕ → ℕ → ℕ → List Pair → List Pair
of_sets sets set zero ps = []
of_sets sets set (suc n) ps = filter (in_set sets set) ps ++ of_sets sets (set + 1) n ps

module _ {B : Type 0} (f : B → Pair → B) (commute : (b : B) (p q : Pair) → f (f b p) q ≡ f (f b q) p) where
  fold-first : (b : B) (p : Pair) (ps : List Pair) → fold f (f b p) ps ≡ f (fold f b ps) p
  fold-first b p [] = refl
  fold-first b p (q ∷ ps) = ap (λ (c : B). fold f c ps) (commute b p q) ∙ fold-first (f b q) p ps

  fold-swap : (b : B) (o u : Option Pair) (ps : List Pair) → fold f b (cons_option o (cons_option u ps)) ≡ fold f b (cons_option u (cons_option o ps))
  fold-swap b None u ps = refl
  fold-swap b (Some p) None ps = refl
  fold-swap b (Some p) (Some q) ps = ap (λ (c : B). fold f c ps) (commute b p q)

  fold-option : (b : B) (o : Option Pair) (xs ys : List Pair) → ((c : B) → fold f c xs ≡ fold f c ys) → fold f b (cons_option o xs) ≡ fold f b (cons_option o ys)
  fold-option b None xs ys same = same b
  fold-option b (Some p) xs ys same = same (f b p)

  fold-put : (x : Place) (rs : List Place) (b : B) → fold f b (pairs_of (put_by_use x rs)) ≡ fold f b (pairs_of (x ∷ rs))
  fold-put x [] b = refl
  fold-put x (r ∷ rs) b = by_test (nat_lt x.used r.used) (fold-put x rs) where
    by_test : (t : Bool) → ((c : B) → fold f c (pairs_of (put_by_use x rs)) ≡ fold f c (pairs_of (x ∷ rs)))
        → fold f b (pairs_of (cond t (x ∷ r ∷ rs) (r ∷ put_by_use x rs))) ≡ fold f b (pairs_of (x ∷ r ∷ rs))
    by_test true rest = refl
    by_test false rest = fold-option b r.pair (pairs_of (put_by_use x rs)) (pairs_of (x ∷ rs)) rest ∙ fold-swap b r.pair x.pair (pairs_of rs)

  -- the order of places
  pub fold-by_use : (row : List Place) (b : B) → fold f b (pairs_of row) ≡ fold f b (pairs_by_use row)
  fold-by_use [] b = refl
  fold-by_use (x ∷ row) b =
      fold-option b x.pair (pairs_of row) (pairs_by_use row) (fold-by_use row) ∙ sym (fold-put x (by_use row) b)

  before-first : (sets : ℕ) (p : Pair) (ps : List Pair) (set n : ℕ) → p.0.0 % sets < set → of_sets sets set n (p ∷ ps) ≡ of_sets sets set n ps
  before-first sets p ps set zero below = refl
  before-first sets p ps set (suc n) below =
      let other : (p.0.0 % sets == set) ≡ false = grind (arith, nat_tests) in
      rw (other, before-first sets p ps (set + 1) n (omega (arith, below))) refl

  one-more : (sets : ℕ) (p : Pair) (ps : List Pair) (set n : ℕ) (b : B) → set ≤ p.0.0 % sets → p.0.0 % sets < set + n
      → fold f b (of_sets sets set n (p ∷ ps)) ≡ fold f (f b p) (of_sets sets set n ps)
  one-more sets p ps set zero b from within = absurd (omega (arith, from, within))
  one-more sets p ps set (suc n) b from within = by_test (p.0.0 % sets == set) refl (λ c more. one-more sets p ps (set + 1) n c more (omega (arith, within))) where
    by_test : (t : Bool) → (p.0.0 % sets == set) ≡ t → ((c : B) → set + 1 ≤ p.0.0 % sets → fold f c (of_sets sets (set + 1) n (p ∷ ps)) ≡ fold f (f c p) (of_sets sets (set + 1) n ps))
        → fold f b (cond t (p ∷ filter (in_set sets set) ps) (filter (in_set sets set) ps) ++ of_sets sets (set + 1) n (p ∷ ps)) ≡ fold f (f b p) (filter (in_set sets set) ps ++ of_sets sets (set + 1) n ps)
    by_test true e later =
        let here : p.0.0 % sets ≡ set = grind (arith, nat_tests) in
        rw (before-first sets p ps (set + 1) n (omega (arith, here))) refl
    by_test false e later =
        let more : set + 1 ≤ p.0.0 % sets = grind (arith, nat_tests, from) in
        fold-append f b (filter (in_set sets set) ps) (of_sets sets (set + 1) n (p ∷ ps))
        ∙ later (fold f b (filter (in_set sets set) ps)) more
        ∙ ap (λ (c : B). fold f c (of_sets sets (set + 1) n ps)) (sym (fold-first b p (filter (in_set sets set) ps)))
        ∙ sym (fold-append f (f b p) (filter (in_set sets set) ps) (of_sets sets (set + 1) n ps))

  none-of_sets : (sets set n : ℕ) → of_sets sets set n [] ≡ []
  none-of_sets sets set zero = refl
  none-of_sets sets set (suc n) = none-of_sets sets (set + 1) n

  -- the order of sets
  pub fold-sets : (sets : ℕ) → 0 < sets → (ps : List Pair) (b : B) → fold f b (of_sets sets 0 sets ps) ≡ fold f b ps
  fold-sets sets some [] b = rw (none-of_sets sets 0 sets) refl
  fold-sets sets some (p ∷ ps) b =
      one-more sets p ps 0 sets b (omega arith) (omega (arith, mod_below p.0.0 sets some)) ∙ fold-sets sets some ps (f b p)
