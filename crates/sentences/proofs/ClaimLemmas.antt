-- The words that an effect gives to a task are those of the definition's claim.
use Rattle.std.proofs.Common.{◌≡◌, ℕ, zero, suc, ◌+◌, ◌-◌, ◌<◌, ◌≤◌, Bool, true, false, cond, ◌&&◌, nat_le, nat_lt, leb, ltb, ltb-true, ltb-false, leb-true, ℤ, pos, negsuc, neg_ℤ, ◌+ℤ◌, ◌*ℤ◌, int_le, int_lt, Some, refl, sym, ap, ◌∙◌, arith}
use Rattle.std.specs.List.{list_all, range_with_len}
use Rattle.std.proofs.lemmas.Int.{ints}
use Rattle.std.proofs.lemmas.Bool.{leb-false, le-leb, lt-leb, lt-ltb, le-ltb, and_parts, and_from, not-false}
use Rattle.rv_assembler.specs.declared.draft.Usage.{Usage}
use Rattle.rv_assembler.specs.declared.draft.Cores.{Cores}
use Rattle.rv_assembler.specs.declared.draft.Span.{Span}
use Rattle.rv_assembler.specs.declared.statement.Extent.{Extent}
use Rattle.rv_assembler.specs.declared.statement.Extent as extent
use Rattle.rv_assembler.specs.Number.{natural_of, is_within, is_interval}
use Rattle.rv_assembler.specs.Rows.{use_at}
use Rattle.rv_assembler.specs.Fault.{fits_at, stepped_fits, extent_far}
use Rattle.sentences.specs.Claims.{extent_has, claim_has}

-- a test of numbers that are moved on
le-moved : (s a i : ℕ) (b : Bool) → leb a i ≡ b → leb a i ≡ leb (s + a) (s + i)
le-moved s a i true e = let h = leb-true a i e in e ∙ sym (le-leb (s + a) (s + i) (omega (arith, h)))
le-moved s a i false e = let h = leb-false a i e in e ∙ sym (lt-leb (s + a) (s + i) (omega (arith, h)))

lt-moved : (s i c : ℕ) (b : Bool) → ltb i c ≡ b → ltb i c ≡ ltb (s + i) (s + c)
lt-moved s i c true e = let h = ltb-true i c e in e ∙ sym (lt-ltb (s + i) (s + c) (omega (arith, h)))
lt-moved s i c false e = let h = ltb-false i c e in e ∙ sym (le-ltb (s + i) (s + c) (omega (arith, h)))

-- the three tests of an interval
first-of : (lo hi len : ℤ) → is_interval lo hi len ≡ true → (int_le (pos 0) lo ≡ true) × (int_lt lo hi ≡ true) × (int_le hi len ≡ true)
first-of lo hi len e =
    let a = and_parts (int_le (pos 0) lo && int_lt lo hi) (int_le hi len) e in
    let b = and_parts (int_le (pos 0) lo) (int_lt lo hi) a.0 in
    (b.0, b.1, a.1)

-- an index within bounds of a region is a word within the bounds behind the region's first word
words-within : (s i : ℕ) (lo hi len : ℤ) → is_interval lo hi len ≡ true
    → is_within lo hi (pos i) ≡ (nat_le (s + natural_of lo) (s + i) && nat_lt (s + i) (s + natural_of hi))
words-within s i (negsuc a) hi len e = let no : false ≡ true = e in absurd cc
words-within s i (pos a) (negsuc c) len e = let no : false ≡ true = (first-of (pos a) (negsuc c) len e).1 in absurd cc
words-within s i (pos a) (pos c) len e =
    ap (λ (b : Bool). b && ltb i c) (le-moved s a i (leb a i) refl) ∙ ap (λ (b : Bool). leb (s + a) (s + i) && b) (lt-moved s i c (ltb i c) refl)

no-step : (z : ℤ) (k : ℕ) → z +ℤ pos k *ℤ pos 0 ≡ z
no-step z k = omega (arith, ints)

claim-form : (s i : ℕ) (lo hi lo' hi' len : ℤ) → lo' ≡ lo → hi' ≡ hi → is_interval lo hi len ≡ true
    → is_within lo hi (pos i) ≡ (nat_le (s + natural_of lo') (s + i) && nat_lt (s + i) (s + natural_of hi'))
claim-form s i lo hi lo' hi' len from to e =
    words-within s i lo hi len e
    ∙ ap (λ (z : ℤ). nat_le (s + natural_of z) (s + i) && nat_lt (s + i) (s + natural_of hi)) (sym from)
    ∙ ap (λ (z : ℤ). nat_le (s + natural_of lo') (s + i) && nat_lt (s + i) (s + natural_of z)) (sym to)

-- all words of a region are an interval of it
whole-fits : (len : ℤ) (i : ℕ) → int_lt (pos i) len ≡ true → is_interval (pos 0) len len ≡ true
whole-fits (negsuc n) i e = let no : false ≡ true = e in absurd cc
whole-fits (pos n) i e = let h = ltb-true i n e in and_from (ltb 0 n) (leb n n) (lt-ltb 0 n (omega (arith, h))) (le-leb n n (omega arith))

-- an interval of a region that is moved on within the region isn't moved far
bounded : (hi len : ℤ) (a : ℕ) → int_lt (pos a) hi ≡ true → int_le hi len ≡ true → int_le len (pos 65536) ≡ true → (c : ℕ) × (a < c) × (c ≤ 65536)
bounded (negsuc c) len a low high few = let no : false ≡ true = low in absurd cc
bounded (pos c) (negsuc n) a low high few = let no : false ≡ true = high in absurd cc
bounded (pos c) (pos n) a low high few =
    let x = ltb-true a c low in
    let y = leb-true c n high in
    let z = leb-true n 65536 few in
    (c, omega (arith, x), omega (arith, y, z))

small-move : (lo hi hi' len m : ℤ) → is_interval lo hi len ≡ true → is_interval (lo +ℤ m) hi' len ≡ true → int_le len (pos 65536) ≡ true
    → is_within (neg_ℤ (pos 65536)) (pos 65537) m ≡ true
small-move (negsuc a) hi hi' len m e f few = let no : false ≡ true = e in absurd cc
small-move (pos a) hi hi' len (pos k) e f few =
    let parts = first-of (pos (a + k)) hi' len f in
    let b = bounded hi' len (a + k) parts.1 parts.2 few in
    lt-ltb k 65537 (omega (arith, b.1, b.2))
small-move (pos a) hi hi' len (negsuc k) e f few = back (ltb a (suc k)) refl f
  where
    parts : (int_le (pos 0) (pos a) ≡ true) × (int_lt (pos a) hi ≡ true) × (int_le hi len ≡ true)
    parts = first-of (pos a) hi len e

    back : (b : Bool) → ltb a (suc k) ≡ b → is_interval (cond b (negsuc (suc k - suc a)) (pos (a - suc k))) hi' len ≡ true
        → is_within (neg_ℤ (pos 65536)) (pos 65537) (negsuc k) ≡ true
    back true f e = let no : false ≡ true = e in absurd cc
    back false f e =
        let l = ltb-false a (suc k) f in
        let b = bounded hi len a parts.1 parts.2 few in
        and_from (leb k 65535) true (le-leb k 65535 (omega (arith, l, b.1, b.2))) refl

all-at : (test : ℕ → Bool) (k n j : ℕ) → list_all test (range_with_len k n) ≡ true → j < n → test (k + j) ≡ true
all-at test k zero j e h = absurd (omega (arith, h))
all-at test k (suc n) zero e h =
    let parts = and_parts (test k) (list_all test (range_with_len (k + 1) n)) e in
    let same : k + zero ≡ k = omega arith in
    ap test same ∙ parts.0
all-at test k (suc n) (suc j) e h =
    let parts = and_parts (test k) (list_all test (range_with_len (k + 1) n)) e in
    let same : k + suc j ≡ k + 1 + j = omega arith in
    ap test same ∙ all-at test (k + 1) n j parts.1 (omega (arith, h))

of-all : (test : ℕ → Bool) (n j : ℕ) → list_all test (range_with_len 0 n) ≡ true → j < n → test j ≡ true
of-all test n j e h = let same : j ≡ 0 + j = omega arith in ap test same ∙ all-at test 0 n j e h

-- an effect whose words lie in the region gives a task the words of the definition's claim
pub claims-words : (phase : ℕ) (family : Cores) (u : Usage) (p : Span) (e : Extent) (part index : ℕ) → part < family.count
    → int_lt (pos index) p.len ≡ true → int_le p.len (pos 65536) ≡ true → extent_far (Some p) e family.count ≡ false
    → extent_has e part index ≡ claim_has (use_at phase family u p e part) (p.start + index)
claims-words phase family u p extent.TheVariants.Whole part index here inside few near =
    let within : is_within (pos 0) p.len (pos index) ≡ true = and_from (int_le (pos 0) (pos index)) (int_lt (pos index) p.len) (le-leb 0 index (omega arith)) inside in
    sym within ∙ claim-form p.start index (pos 0) p.len _ _ p.len (no-step (pos 0) part) (no-step p.len part) (whole-fits p.len index inside)
claims-words phase family u p (extent.TheVariants.Part lo hi) part index here inside few near =
    claim-form p.start index lo hi _ _ p.len (no-step lo part) (no-step hi part) (not-false (is_interval lo hi p.len) near)
claims-words phase family u p (extent.TheVariants.Stepped lo hi step) part index here inside few near =
    let all = not-false (stepped_fits p.len step lo hi family.count) near in
    let there = of-all (fits_at p.len step lo hi) family.count part all here in
    let first = of-all (fits_at p.len step lo hi) family.count 0 all (omega (arith, here)) in
    let low : lo +ℤ pos 0 *ℤ step ≡ lo = omega (arith, ints) in
    let high : hi +ℤ pos 0 *ℤ step ≡ hi = omega (arith, ints) in
    let start : is_interval lo hi p.len ≡ true = ap (λ (z : ℤ). is_interval z hi p.len) (sym low) ∙ ap (λ (z : ℤ). is_interval (lo +ℤ pos 0 *ℤ step) z p.len) (sym high) ∙ first in
    let m : ℤ = pos part *ℤ step in
    let near_by : is_within (neg_ℤ (pos 65536)) (pos 65537) m ≡ true = small-move lo hi (hi +ℤ m) p.len m start there few in
    ap (λ (b : Bool). b && is_within (lo +ℤ m) (hi +ℤ m) (pos index)) near_by
    ∙ claim-form p.start index (lo +ℤ m) (hi +ℤ m) _ _ p.len refl refl there
