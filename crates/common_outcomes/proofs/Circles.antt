-- Ways between locks; and ranks of the locks where none is on a circle.
use Rattle.std.proofs.Common.{◌≡◌, ◌≢◌, ◌⊎◌, inl, inr, ℕ, zero, suc, ◌+◌, ◌<◌, ◌≤◌, Bool, true, false, ◌&&◌, List, [], ◌∷◌, ◌++◌, refl, sym, ap, ◌∙◌, subst, arith, ⊎_elim}
use Rattle.std.proofs.lemmas.Bool.{false≢true, and_parts, and_from, or_cases, or_left, or_right, cases_eq}
use Rattle.common_outcomes.specs.Phases.{Summary, is_nested, IsLockWay, IsOnCircle, leads, leads_to, is_on_circle}

-- ---- one way after the other

leads-more : (rs : List Summary) (n a b : ℕ) → leads rs n a b ≡ true → leads rs (suc n) a b ≡ true
leads-more rs n a b e = or_left (leads rs n a b) (leads rs n a n && leads rs n n b) e

leads-by : (rs : List Summary) (n a b : ℕ) → leads rs n a n ≡ true → leads rs n n b ≡ true → leads rs (suc n) a b ≡ true
leads-by rs n a b e f = or_right (leads rs n a b) (leads rs n a n && leads rs n n b) (and_from (leads rs n a n) (leads rs n n b) e f)

leads-first : (rs : List Summary) (n a b : ℕ) → is_nested rs a b ≡ true → leads rs n a b ≡ true
leads-first rs zero a b e = e
leads-first rs (suc n) a b e = leads-more rs n a b (leads-first rs n a b e)

-- a way to the lock n, and one from it, needn't pass it
to-last : (rs : List Summary) (n a : ℕ) → leads rs (suc n) a n ≡ true → leads rs n a n ≡ true
to-last rs n a e =
    ⊎_elim (λ (h : leads rs n a n ≡ true). h) (λ (h : (leads rs n a n && leads rs n n n) ≡ true). (and_parts (leads rs n a n) (leads rs n n n) h).0)
    (or_cases (leads rs n a n) (leads rs n a n && leads rs n n n) e)

from-last : (rs : List Summary) (n b : ℕ) → leads rs (suc n) n b ≡ true → leads rs n n b ≡ true
from-last rs n b e =
    ⊎_elim (λ (h : leads rs n n b ≡ true). h) (λ (h : (leads rs n n n && leads rs n n b) ≡ true). (and_parts (leads rs n n n) (leads rs n n b) h).1)
    (or_cases (leads rs n n b) (leads rs n n n && leads rs n n b) e)

leads-through : (rs : List Summary) (n a b c : ℕ) → b < n → leads rs n a b ≡ true → leads rs n b c ≡ true → leads rs n a c ≡ true
leads-through rs zero a b c low e f = absurd (omega arith)
leads-through rs (suc n) a b c low e f = by_lock (λ x y z. leads-through rs n x y z)
  where
    by_lock : ((x y z : ℕ) → y < n → leads rs n x y ≡ true → leads rs n y z ≡ true → leads rs n x z ≡ true) → leads rs (suc n) a c ≡ true
    by_lock again =
        ⊎_elim
        (λ (is : b ≡ n).
        leads-by rs n a c (to-last rs n a (subst (λ (x : ℕ). leads rs (suc n) a x ≡ true) is e)) (from-last rs n c (subst (λ (x : ℕ). leads rs (suc n) x c ≡ true) is f)))
        (λ (apart : b ≢ n).
        let within : b < n = omega arith in
        ⊎_elim
        (λ (ab : leads rs n a b ≡ true).
        ⊎_elim (λ (bc : leads rs n b c ≡ true). leads-more rs n a c (again a b c within ab bc))
        (λ (bnc : (leads rs n b n && leads rs n n c) ≡ true).
        let parts = and_parts (leads rs n b n) (leads rs n n c) bnc in leads-by rs n a c (again a b n within ab parts.0) parts.1)
        (or_cases (leads rs n b c) (leads rs n b n && leads rs n n c) f))
        (λ (anb : (leads rs n a n && leads rs n n b) ≡ true).
        let first = and_parts (leads rs n a n) (leads rs n n b) anb in
        ⊎_elim (λ (bc : leads rs n b c ≡ true). leads-by rs n a c first.0 (again n b c within first.1 bc))
        (λ (bnc : (leads rs n b n && leads rs n n c) ≡ true). leads-by rs n a c first.0 (and_parts (leads rs n b n) (leads rs n n c) bnc).1)
        (or_cases (leads rs n b c) (leads rs n b n && leads rs n n c) f))
        (or_cases (leads rs n a b) (leads rs n a n && leads rs n n b) e))
        (cases_eq b n)

pub to-next : (rs : List Summary) (a b : ℕ) → is_nested rs a b ≡ true → leads_to rs a b ≡ true
unfolding leads_to
to-next rs a b e = leads-first rs 32 a b e

pub to-further : (rs : List Summary) (a b c : ℕ) → b < 32 → leads_to rs a b ≡ true → leads_to rs b c ≡ true → leads_to rs a c ≡ true
unfolding leads_to
to-further rs a b c low e f = leads-through rs 32 a b c low e f

-- ---- the test tells whether there is a way

way-joined : (rs : List Summary) (a n b : ℕ) (ls ks : List ℕ) → IsLockWay rs a ls n → IsLockWay rs n ks b → IsLockWay rs a (ls ++ n ∷ ks) b
way-joined rs a n b [] ks w v = (w, v)
way-joined rs a n b (l ∷ ls) ks w v = (w.0, way-joined rs l n b ls ks w.1 v)

leads-way : (rs : List Summary) (n a b : ℕ) → leads rs n a b ≡ true → (ls : List ℕ) × IsLockWay rs a ls b
leads-way rs zero a b e = ([], e)
leads-way rs (suc n) a b e = by_test (λ x y. leads-way rs n x y) (or_cases (leads rs n a b) (leads rs n a n && leads rs n n b) e)
  where
    by_test : ((x y : ℕ) → leads rs n x y ≡ true → (ls : List ℕ) × IsLockWay rs x ls y) → (leads rs n a b ≡ true) ⊎ ((leads rs n a n && leads rs n n b) ≡ true) → (ls : List ℕ) × IsLockWay rs a ls b
    by_test again (inl h) = again a b h
    by_test again (inr h) =
        let parts = and_parts (leads rs n a n) (leads rs n n b) h in
        let one = again a n parts.0 in
        let two = again n b parts.1 in
        (one.0 ++ n ∷ two.0, way-joined rs a n b one.0 two.0 one.1 two.1)

pub circle-way : (rs : List Summary) (lock : ℕ) → is_on_circle rs lock ≡ true → IsOnCircle rs lock
unfolding leads_to
circle-way rs lock e = let w = leads-way rs 32 lock lock e in record { between = w.0; way = w.1 }

-- each lock that a task acquires is one of the 32
abbrev pub AreLocks : List Summary → Type 0
AreLocks rs = (a b : ℕ) → is_nested rs a b ≡ true → b < 32

way-leads : (rs : List Summary) (a b : ℕ) (ls : List ℕ) → AreLocks rs → IsLockWay rs a ls b → leads_to rs a b ≡ true
way-leads rs a b [] locks w = to-next rs a b w
way-leads rs a b (l ∷ ls) locks w = to-further rs a l b (locks a l w.0) (to-next rs a l w.0) (way-leads rs l b ls locks w.1)

pub way-circle : (rs : List Summary) (lock : ℕ) → AreLocks rs → IsOnCircle rs lock → is_on_circle rs lock ≡ true
way-circle rs lock locks h = way-leads rs lock lock h.between locks h.way

-- ---- ranks

one_if : Bool → ℕ
one_if true = 1
one_if false = 0

-- how many of the first n pass
count_to : (ℕ → Bool) → ℕ → ℕ
count_to test zero = 0
count_to test (suc n) = count_to test n + one_if (test n)

AreMore : (ℕ → Bool) → (ℕ → Bool) → Type 0
AreMore few many = (k : ℕ) → few k ≡ true → many k ≡ true

one-less : (x y : Bool) → (x ≡ true → y ≡ true) → one_if x ≤ one_if y
unfolding one_if
one-less true true h = omega arith
one-less true false h = absurd (false≢true (h refl))
one-less false true h = omega arith
one-less false false h = omega arith

count-less : (few many : ℕ → Bool) (n : ℕ) → AreMore few many → count_to few n ≤ count_to many n
unfolding count_to AreMore
count-less few many zero h = omega arith
count-less few many (suc n) h =
    let before = count-less few many n h in
    let here = one-less (few n) (many n) (h n) in
    omega arith

-- and fewer, where one that passes the second test fails the first
count-falls : (few many : ℕ → Bool) (n k : ℕ) → AreMore few many → k < n → few k ≡ false → many k ≡ true → count_to few n < count_to many n
unfolding count_to one_if AreMore
count-falls few many zero k h low out in' = absurd (omega arith)
count-falls few many (suc n) k h low out in' =
    let again = count-falls few many n k h in
    ⊎_elim
    (λ (e : k ≡ n).
    let before = count-less few many n h in
    let zero' : one_if (few n) ≡ 0 = ap one_if (ap few (sym e) ∙ out) in
    let one' : one_if (many n) ≡ 1 = ap one_if (ap many (sym e) ∙ in') in
    omega arith)
    (λ (apart : k ≡ n → ⊥).
    let before = again (omega arith) out in' in
    let here = one-less (few n) (many n) (h n) in
    omega arith)
    (cases_eq k n)

-- to how many locks a way leads from this one
pub rank : List Summary → ℕ → ℕ
rank rs lock = count_to (leads_to rs lock) 32

pub rank-falls : (rs : List Summary) (lock next : ℕ) → next < 32 → is_on_circle rs next ≡ false → is_nested rs lock next ≡ true → rank rs next < rank rs lock
unfolding rank AreMore
rank-falls rs lock next low apart before =
    count-falls (leads_to rs next) (leads_to rs lock) 32 next (λ k e. to-further rs lock next k low (to-next rs lock next before) e) low apart (to-next rs lock next before)

count-most : (test : ℕ → Bool) (n : ℕ) → count_to test n ≤ n
unfolding count_to one_if
count-most test zero = omega arith
count-most test (suc n) = by_test (test n) (count-most test n)
  where
    by_test : (b : Bool) → count_to test n ≤ n → count_to test n + one_if b ≤ suc n
    by_test true before = omega (arith, before)
    by_test false before = omega (arith, before)

pub rank-most : (rs : List Summary) (lock : ℕ) → rank rs lock ≤ 32
unfolding rank
rank-most rs lock = count-most (leads_to rs lock) 32
