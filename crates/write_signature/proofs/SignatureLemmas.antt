-- The laws of insertion and join.
use Rattle.std.proofs.Common.{◌≡◌, ◌≢◌, ℕ, ◌-◌, ◌<◌, ◌≤◌, max, Bool, true, false, ◌||◌, ◌==◌, refl, arith}
use Rattle.std.proofs.lemmas.Bool.{eqb-true, eqb-false}
use Rattle.std.proofs.lemmas.Bool.Decides.{nat_tests}
use Rattle.write_signature.specs.declared.signature.Signature.{Signature}
use Rattle.write_signature.specs.Signature.{h1, h2, tag, has_bit, with_bit, in_phase, empty, may_hold, inserted, joined}
use Rattle.write_signature.proofs.Bits.{or_has, has_bit-with_bit}

tag-with_bit : (k : ℕ) (s : Signature) → tag (with_bit k s) ≡ tag s
tag-with_bit k s = grind (arith, nat_tests)

pub tag-empty : (p : ℕ) → tag (empty p) ≡ p
unfolding empty
tag-empty p = refl

pub tag-in_phase : (p : ℕ) (s : Signature) → tag (in_phase p s) ≡ p
tag-in_phase p s = grind (arith, nat_tests, tag-empty p)

pub tag-inserted : (s : Signature) (w p : ℕ) → tag (inserted s w p) ≡ p
unfolding inserted
tag-inserted s w p =
    rw (tag-with_bit (h2 w) (with_bit (h1 w) (in_phase p s)), tag-with_bit (h1 w) (in_phase p s)) (tag-in_phase p s)

pub tag-joined : (a b : Signature) → tag (joined a b) ≡ max (tag a) (tag b)
unfolding joined
tag-joined a b = grind (arith, nat_tests)

pub holds-empty : (w p q : ℕ) → may_hold (empty p) w q ≡ false
unfolding may_hold empty
holds-empty w p q = grind (arith, nat_tests)

pub holds-other_phase : (s : Signature) (w p : ℕ) → tag s ≢ p → may_hold s w p ≡ false
unfolding may_hold
holds-other_phase s w p other = grind (arith, nat_tests)

-- the bits of an inserted word are set, and those that were set in its phase stay
has_bit-inserted : (s : Signature) (w p i : ℕ) → has_bit (inserted s w p) i ≡ ((has_bit (in_phase p s) i || (i == h1 w)) || (i == h2 w))
unfolding inserted
has_bit-inserted s w p i =
    rw (has_bit-with_bit (with_bit (h1 w) (in_phase p s)) (h2 w) i, has_bit-with_bit (in_phase p s) (h1 w) i) refl

pub inserted_holds : (s : Signature) (w p : ℕ) → may_hold (inserted s w p) w p ≡ true
unfolding may_hold
inserted_holds s w p =
    rw (tag-inserted s w p, has_bit-inserted s w p (h1 w), has_bit-inserted s w p (h2 w)) (grind (arith, nat_tests))

pub inserted_keeps : (s : Signature) (v w p : ℕ) → may_hold s v p ≡ true → may_hold (inserted s w p) v p ≡ true
unfolding may_hold
inserted_keeps s v w p held =
    rw (tag-inserted s w p, has_bit-inserted s w p (h1 v), has_bit-inserted s w p (h2 v)) (grind (arith, nat_tests))

pub inserted-other_phase : (s : Signature) (w p : ℕ) → tag s ≢ p → inserted s w p ≡ inserted (empty p) w p
unfolding inserted
inserted-other_phase s w p other = grind (arith, nat_tests, tag-empty p)

pub joined-later : (a b : Signature) → tag b < tag a → joined a b ≡ a
unfolding joined
joined-later a b later = grind (arith, nat_tests)

pub joined-earlier : (a b : Signature) → tag a < tag b → joined a b ≡ b
unfolding joined
joined-earlier a b earlier = grind (arith, nat_tests)

pub has_bit-joined : (a b : Signature) (i : ℕ) → tag a ≡ tag b → has_bit (joined a b) i ≡ (has_bit a i || has_bit b i)
unfolding joined
has_bit-joined a b i same = grind (arith, nat_tests, or_has a.low b.low i, or_has a.high b.high (i - 128))

-- what is held in a phase was written in it
pub tag-held : (s : Signature) (w p : ℕ) → may_hold s w p ≡ true → tag s ≡ p
unfolding may_hold
tag-held s w p held = grind (arith, nat_tests)

pub in_phase-same : (p : ℕ) (s : Signature) → tag s ≡ p → in_phase p s ≡ s
in_phase-same p s same = grind (arith, nat_tests)

pub in_phase-other : (p : ℕ) (s : Signature) → tag s ≢ p → in_phase p s ≡ empty p
in_phase-other p s other = grind (arith, nat_tests)

pub holds-in_phase : (p : ℕ) (s : Signature) (w : ℕ) → may_hold (in_phase p s) w p ≡ may_hold s w p
holds-in_phase p s w =
    by_test (tag s == p) refl where
      by_test : (t : Bool) → (tag s == p) ≡ t → may_hold (in_phase p s) w p ≡ may_hold s w p
      by_test true e = rw e refl
      by_test false e =
          let other : tag s ≢ p = eqb-false (tag s) p e in
          rw (e, holds-empty w p p, holds-other_phase s w p other) refl

pub tag-joined_below : (a b : Signature) (p : ℕ) → tag a ≤ p → tag b ≤ p → tag (joined a b) ≤ p
tag-joined_below a b p first second = grind (arith, nat_tests, tag-joined a b)

same_covers : (a b : Signature) (w p : ℕ) → tag a ≡ p → tag b ≡ p → (may_hold a w p || may_hold b w p) ≡ true → may_hold (joined a b) w p ≡ true
unfolding may_hold
same_covers a b w p of_first of_second held =
    let same : tag a ≡ tag b = grind (arith, nat_tests) in
    rw (tag-joined a b, has_bit-joined a b (h1 w) same, has_bit-joined a b (h2 w) same) (grind (arith, nat_tests))

-- a join with a signature of that phase or an earlier one holds what was held
pub joined_covers_first : (a b : Signature) (w p : ℕ) → tag b ≤ p → may_hold a w p ≡ true → may_hold (joined a b) w p ≡ true
joined_covers_first a b w p earlier held =
    let of_first = tag-held a w p held in
    by_test (tag b == p) refl of_first where
      by_test : (t : Bool) → (tag b == p) ≡ t → tag a ≡ p → may_hold (joined a b) w p ≡ true
      by_test true e of_first = same_covers a b w p of_first (eqb-true (tag b) p e) (rw held refl)
      by_test false e of_first =
          let before : tag b < tag a = grind (arith, nat_tests) in
          rw (joined-later a b before) held

pub joined_covers_second : (a b : Signature) (w p : ℕ) → tag a ≤ p → may_hold b w p ≡ true → may_hold (joined a b) w p ≡ true
joined_covers_second a b w p earlier held =
    let of_second = tag-held b w p held in
    by_test (tag a == p) refl of_second where
      by_test : (t : Bool) → (tag a == p) ≡ t → tag b ≡ p → may_hold (joined a b) w p ≡ true
      by_test true e of_second = same_covers a b w p (eqb-true (tag a) p e) of_second (grind (arith, nat_tests))
      by_test false e of_second =
          let before : tag a < tag b = grind (arith, nat_tests) in
          rw (joined-earlier a b before) held
