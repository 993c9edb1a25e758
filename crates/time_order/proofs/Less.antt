-- The order of lists of numbers by their first part that differs.
use Rattle.std.proofs.Common.{◌≡◌, ℕ, ◌≤◌, Bool, true, false, nat_lt, ◌==◌, List, [], ◌∷◌, length, refl, sym, ap, ◌∙◌, arith}
use Rattle.std.proofs.lemmas.Bool.{eqb-true}
use Rattle.std.proofs.lemmas.Bool.Decides.{nat_tests}
use Rattle.time_order.specs.TimeOrder.{less}

-- a list with the greater or equal head isn't less, if its rest isn't where the heads are equal
pub less-not : (x y : ℕ) (xs ys : List ℕ) → y ≤ x → (x ≡ y → less xs ys ≡ false) → less (x ∷ xs) (y ∷ ys) ≡ false
less-not x y xs ys low rest = by_test (x == y) refl where
  by_test : (t : Bool) → (x == y) ≡ t → less (x ∷ xs) (y ∷ ys) ≡ false
  by_test true e = let tail = rest (eqb-true x y e) in grind (arith, nat_tests, low, e, tail)
  by_test false e = grind (arith, nat_tests, low, e)

-- what isn't less is at least as great in the first part, and in the rest where the first parts are equal
pub not-less : (x y : ℕ) (xs ys : List ℕ) → less (x ∷ xs) (y ∷ ys) ≡ false → y ≤ x
not-less x y xs ys is = grind (arith, nat_tests, is)

pub not-less-rest : (x y : ℕ) (xs ys : List ℕ) → less (x ∷ xs) (y ∷ ys) ≡ false → x ≡ y → less xs ys ≡ false
not-less-rest x y xs ys is same = grind (arith, nat_tests, is, same)

-- of two lists of one length, if neither is less they are the same
pub same-keys : (xs ys : List ℕ) → length xs ≡ length ys → less xs ys ≡ false → less ys xs ≡ false → xs ≡ ys
same-keys [] [] long a b = refl
same-keys [] (y ∷ ys) long a b = absurd (omega (arith, long))
same-keys (x ∷ xs) [] long a b = absurd (omega (arith, long))
same-keys (x ∷ xs) (y ∷ ys) long a b =
    let same : x ≡ y = omega (arith, not-less x y xs ys a, not-less y x ys xs b) in
    let rest = same-keys xs ys (omega (arith, long)) (not-less-rest x y xs ys a same) (not-less-rest y x ys xs b (sym same)) in
    ap (λ (z : ℕ). z ∷ xs) same ∙ ap (λ (zs : List ℕ). y ∷ zs) rest

-- what is less isn't greater, and what isn't less is a chain
pub less-once : (xs ys : List ℕ) → less xs ys ≡ true → less ys xs ≡ false
less-once [] ys is = absurd (cc)
less-once (x ∷ xs) [] is = absurd (cc)
less-once (x ∷ xs) (y ∷ ys) is = by_test (nat_lt x y) refl (less-once xs ys) where
  by_test : (t : Bool) → nat_lt x y ≡ t → (less xs ys ≡ true → less ys xs ≡ false) → less (y ∷ ys) (x ∷ xs) ≡ false
  by_test true e rest = grind (arith, nat_tests, e)
  by_test false e rest =
      let tail : less xs ys ≡ true = grind (arith, nat_tests, e, is) in
      let back = rest tail in
      grind (arith, nat_tests, e, is, back)

pub not-less-chain : (xs ys zs : List ℕ) → length xs ≡ length ys → length ys ≡ length zs → less ys xs ≡ false → less zs ys ≡ false → less zs xs ≡ false
not-less-chain [] [] [] a b is also = refl
not-less-chain [] [] (z ∷ zs) a b is also = absurd (omega (arith, b))
not-less-chain [] (y ∷ ys) zs a b is also = absurd (omega (arith, a))
not-less-chain (x ∷ xs) [] zs a b is also = absurd (omega (arith, a))
not-less-chain (x ∷ xs) (y ∷ ys) [] a b is also = refl
not-less-chain (x ∷ xs) (y ∷ ys) (z ∷ zs) a b is also =
    less-not z x zs xs (omega (arith, not-less y x ys xs is, not-less z y zs ys also))
    (λ same. let xy : y ≡ x = omega (arith, same, not-less y x ys xs is, not-less z y zs ys also) in
    let yz : z ≡ y = omega (arith, same, xy) in
    not-less-chain xs ys zs (omega (arith, a)) (omega (arith, b)) (not-less-rest y x ys xs is xy) (not-less-rest z y zs ys also yz))
