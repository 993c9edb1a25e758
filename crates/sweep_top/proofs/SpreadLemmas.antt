-- No number is outside of the least and the most of numbers, and both are among them.
use Rattle.std.proofs.lemmas.Bool.Decides.{nat_tests}
use Rattle.std.proofs.Common.{◌≡◌, ◌⊎◌, inl, inr, ◌≤◌, ◌<◌, ℕ, zero, suc, Bool, true, false, nat_lt, min, max, List, [], ◌∷◌, length, fold, slice_index_or, Contains, refl, sym, ◌∙◌, arith}
use Rattle.sweep_top.specs.SpreadLaws.{IsSpreadOf}
use Rattle.sweep_top.specs.Tally.{spread_of}

least-first : (a : ℕ) (xs : List ℕ) → fold min a xs ≤ a
least-first a [] = omega arith
least-first a (x ∷ xs) = let h = least-first (min a x) xs in omega (arith, h)

most-first : (a : ℕ) (xs : List ℕ) → a ≤ fold max a xs
most-first a [] = omega arith
most-first a (x ∷ xs) = let h = most-first (max a x) xs in omega (arith, h)

least-at : (a : ℕ) (xs : List ℕ) (k d : ℕ) → k < length xs → fold min a xs ≤ slice_index_or xs k d
least-at a [] k d within = absurd (omega (arith, within))
least-at a (x ∷ xs) zero d within = let h = least-first (min a x) xs in omega (arith, h)
least-at a (x ∷ xs) (suc k) d within = least-at (min a x) xs k d (omega (arith, within))

most-at : (a : ℕ) (xs : List ℕ) (k d : ℕ) → k < length xs → slice_index_or xs k d ≤ fold max a xs
most-at a [] k d within = absurd (omega (arith, within))
most-at a (x ∷ xs) zero d within = let h = most-first (max a x) xs in omega (arith, h)
most-at a (x ∷ xs) (suc k) d within = most-at (max a x) xs k d (omega (arith, within))

-- one that picks either of two numbers picks one of all
module _ (f : ℕ → ℕ → ℕ) (picks : (a x : ℕ) → (f a x ≡ a) ⊎ (f a x ≡ x)) where
  picked : (a : ℕ) (xs : List ℕ) → Contains (a ∷ xs) (fold f a xs)
  picked a [] = (0, omega arith, refl)
  picked a (x ∷ xs) = by_pick (picks a x) (picked (f a x) xs) where
    by_pick : (f a x ≡ a) ⊎ (f a x ≡ x) → Contains (f a x ∷ xs) (fold f (f a x) xs) → Contains (a ∷ x ∷ xs) (fold f (f a x) xs)
    by_pick (inl first) (zero, within, is) = (0, omega arith, sym first ∙ is)
    by_pick (inr second) (zero, within, is) = (1, omega arith, sym second ∙ is)
    by_pick one (suc k, within, is) = (suc (suc k), omega (arith, within), is)

min-picks : (a x : ℕ) → (min a x ≡ a) ⊎ (min a x ≡ x)
min-picks a x = by_test (nat_lt a x) refl where
  by_test : (b : Bool) → nat_lt a x ≡ b → (min a x ≡ a) ⊎ (min a x ≡ x)
  by_test true e = inl (grind (arith, nat_tests, e))
  by_test false e = inr (grind (arith, nat_tests, e))

max-picks : (a x : ℕ) → (max a x ≡ a) ⊎ (max a x ≡ x)
max-picks a x = by_test (nat_lt a x) refl where
  by_test : (b : Bool) → nat_lt a x ≡ b → (max a x ≡ a) ⊎ (max a x ≡ x)
  by_test true e = inr (grind (arith, nat_tests, e))
  by_test false e = inl (grind (arith, nat_tests, e))

pub is-spread : (x : ℕ) (xs : List ℕ) → IsSpreadOf (x ∷ xs) (spread_of (x ∷ xs))
is-spread x xs = record { between = between; least = picked min min-picks x xs; most = picked max max-picks x xs } where
  between : (k d : ℕ) → k < length (x ∷ xs) → (fold min x xs ≤ slice_index_or (x ∷ xs) k d) × (slice_index_or (x ∷ xs) k d ≤ fold max x xs)
  between zero d within = (least-first x xs, most-first x xs)
  between (suc k) d within = (least-at x xs k d (omega (arith, within)), most-at x xs k d (omega (arith, within)))
