-- A branch goes to the successor whose row the task lies in.
use Rattle.std.proofs.Common.{◌≡◌, ℕ, ◌^◌, ◌<◌, ◌≤◌, Bool, true, false, not, ◌&&◌, ◌==◌, nat_lt, int_lt, if◌then◌else◌, List, length, Option, Some, None, refl, sym, ap, ◌∙◌, subst, arith}
use Rattle.std.proofs.lemmas.Bool.{cond_both, and_parts, ltb-true, ltb-false, eqb-true, eqb-false}
use Rattle.std.proofs.lemmas.Bool.Decides.{nat_tests}
use Rattle.std.proofs.lemmas.Int.{ints}
use Rattle.rv_isa.specs.Meaning.{signed, taken_of}
use Rattle.rv_isa.specs.declared.instr.Cond.{Cond}
use Rattle.rv_isa.specs.declared.instr.Cond.TheVariants.{Eq, Ne, Lt, Ge, Ltu, Geu}
use Rattle.rv_core.specs.Registers.{value_in}
use Rattle.effect_prover.specs.declared.range.Range.{Range}
use Rattle.effect_prover.specs.declared.row.Row.{Row}
use Rattle.effect_prover.specs.declared.successors.Successors.{Successors}
use Rattle.effect_prover.specs.Range.{Has, is_one, common, below, above, at_least, at_most}
use Rattle.effect_prover.specs.Row.{range_of}
use Rattle.effect_prover.specs.Successors.{falls_through, jumps, narrowed, where_equal, where_less, where_not_less, where_different, are_low, less_branches, not_less_branches, any_branches, branches, branch_on}
use Rattle.effect_prover.proofs.RangeLemmas.{one-is}
use Rattle.effect_prover.proofs.RowLemmas.{with-length}
use Rattle.effect_prover.proofs.Follow.{Lies, LiesAt, narrowed-lies}

-- the row of the way that a branch takes
abbrev pub way : Bool → Successors → Option Row
way true s = s.target
way false s = s.next

-- two registers with their values
record HasPair (regs : List ℕ) (held : ℕ) (row : Row) (a b x y : ℕ) : Type 0 where
  count : length row.ranges ≡ 32
  lies : Lies regs held row
  first : Has (range_of row a) x
  second : Has (range_of row b) y
  first_is : value_in regs a ≡ x
  second_is : value_in regs b ≡ y

pair-narrowed : (regs : List ℕ) (held : ℕ) (row : Row) (a b x y : ℕ) (u v : Range) → HasPair regs held row a b x y → Has u x → Has v y
    → LiesAt regs held (narrowed row a u b v)
pair-narrowed regs held row a b x y u v p h k =
    narrowed-lies regs held row a u b v p.count (with-length row a u ∙ p.count) p.lies
    (subst (Has u) (sym p.first_is) h) (subst (Has v) (sym p.second_is) k)

equal-lies : (regs : List ℕ) (held : ℕ) (row : Row) (a b x y : ℕ) → HasPair regs held row a b x y → x ≡ y → LiesAt regs held (where_equal row a b)
equal-lies regs held row a b x y p e =
    let h = p.first in
    let k = p.second in
    pair-narrowed regs held row a b x y (common (range_of row a) (range_of row b)) (common (range_of row a) (range_of row b)) p
    (record { low = omega arith; high = omega arith }) (record { low = omega arith; high = omega arith })

less-lies : (regs : List ℕ) (held : ℕ) (row : Row) (a b x y : ℕ) → HasPair regs held row a b x y → x < y → LiesAt regs held (where_less row a b)
less-lies regs held row a b x y p e =
    let h = p.first in
    let k = p.second in
    pair-narrowed regs held row a b x y (below (range_of row a) (range_of row b)) (above (range_of row b) (range_of row a)) p
    (record { low = omega arith; high = omega arith }) (record { low = omega arith; high = omega arith })

not_less-lies : (regs : List ℕ) (held : ℕ) (row : Row) (a b x y : ℕ) → HasPair regs held row a b x y → y ≤ x → LiesAt regs held (where_not_less row a b)
not_less-lies regs held row a b x y p e =
    let h = p.first in
    let k = p.second in
    pair-narrowed regs held row a b x y (at_least (range_of row a) (range_of row b)) (at_most (range_of row b) (range_of row a)) p
    (record { low = omega arith; high = omega arith }) (record { low = omega arith; high = omega arith })

different-lies : (regs : List ℕ) (held : ℕ) (row : Row) (a b x y : ℕ) → HasPair regs held row a b x y → (x ≡ y → ⊥) → LiesAt regs held (where_different row a b)
different-lies regs held row a b x y p apart =
    let first : Bool = is_one (range_of row a) in
    let second : Bool = is_one (range_of row b) in
    let same : Bool = (range_of row a).lo == (range_of row b).lo in
    cond_both (first && second && same) None (Some row) (LiesAt regs held)
    (λ e.
    let outer = and_parts (first && second) same e in
    let inner = and_parts first second outer.0 in
    let h = one-is (range_of row a) x inner.0 p.first in
    let k = one-is (range_of row b) y inner.1 p.second in
    let lows = eqb-true (range_of row a).lo (range_of row b).lo outer.1 in
    absurd (apart (omega arith)))
    (λ e. p.lies)

-- below 2^31 the order with sign is that without
signed-low : (x y : ℕ) → x < 2 ^ 31 → y < 2 ^ 31 → int_lt (signed x) (signed y) ≡ nat_lt x y
signed-low x y h k = grind (arith, nat_tests, ints)

low-same : (regs : List ℕ) (held : ℕ) (row : Row) (a b x y : ℕ) → HasPair regs held row a b x y → are_low row a b ≡ true → int_lt (signed x) (signed y) ≡ nat_lt x y
low-same regs held row a b x y p e =
    let parts = and_parts (nat_lt (range_of row a).hi (2 ^ 31)) (nat_lt (range_of row b).hi (2 ^ 31)) e in
    let one' = ltb-true (range_of row a).hi (2 ^ 31) parts.0 in
    let two = ltb-true (range_of row b).hi (2 ^ 31) parts.1 in
    let h = p.first in
    let k = p.second in
    signed-low x y (omega arith) (omega arith)

-- the way of a test that is whether x is less than y
less-way : (regs : List ℕ) (held : ℕ) (row : Row) (a b x y : ℕ) → HasPair regs held row a b x y → (taken : Bool) → nat_lt x y ≡ taken → LiesAt regs held (way taken (less_branches row a b))
less-way regs held row a b x y p true e = less-lies regs held row a b x y p (ltb-true x y e)
less-way regs held row a b x y p false e = not_less-lies regs held row a b x y p (ltb-false x y e)

-- and of one that is whether it isn't
not_less-way : (regs : List ℕ) (held : ℕ) (row : Row) (a b x y : ℕ) → HasPair regs held row a b x y → (taken : Bool) → not (nat_lt x y) ≡ taken
    → LiesAt regs held (way taken (not_less_branches row a b))
not_less-way regs held row a b x y p taken e = by_test (nat_lt x y) refl e
  where
    by_test : (b' : Bool) → nat_lt x y ≡ b' → not b' ≡ taken → LiesAt regs held (way taken (not_less_branches row a b))
    by_test true is k = subst (λ (t : Bool). LiesAt regs held (way t (not_less_branches row a b))) k (less-lies regs held row a b x y p (ltb-true x y is))
    by_test false is k = subst (λ (t : Bool). LiesAt regs held (way t (not_less_branches row a b))) k (not_less-lies regs held row a b x y p (ltb-false x y is))

any-way : (regs : List ℕ) (held : ℕ) (row : Row) (taken : Bool) → Lies regs held row → LiesAt regs held (way taken (any_branches row))
any-way regs held row true h = h
any-way regs held row false h = h

equal-way : (regs : List ℕ) (held : ℕ) (row : Row) (a b x y : ℕ) → HasPair regs held row a b x y → (taken : Bool) → (x == y) ≡ taken
    → LiesAt regs held (way taken (branches Eq row a b)) × LiesAt regs held (way (not taken) (branches Ne row a b))
equal-way regs held row a b x y p true e =
    let h = equal-lies regs held row a b x y p (eqb-true x y e) in (h, h)
equal-way regs held row a b x y p false e =
    let h = different-lies regs held row a b x y p (eqb-false x y e) in (h, h)

branches-lie : (test : Cond) (regs : List ℕ) (held : ℕ) (row : Row) (a b x y : ℕ) → HasPair regs held row a b x y → (taken : Bool) → taken_of test x y ≡ taken
    → LiesAt regs held (way taken (branches test row a b))
branches-lie Eq regs held row a b x y p taken e = (equal-way regs held row a b x y p taken e).0
branches-lie Ne regs held row a b x y p taken e =
    subst (λ (t : Bool). LiesAt regs held (way t (branches Ne row a b))) e (equal-way regs held row a b x y p (x == y) refl).1
branches-lie Ltu regs held row a b x y p taken e = less-way regs held row a b x y p taken e
branches-lie Geu regs held row a b x y p taken e = not_less-way regs held row a b x y p taken e
branches-lie Lt regs held row a b x y p taken e =
    cond_both (are_low row a b) (less_branches row a b) (any_branches row) (λ (s : Successors). LiesAt regs held (way taken s))
    (λ l. less-way regs held row a b x y p taken (sym (low-same regs held row a b x y p l) ∙ e))
    (λ l. any-way regs held row taken p.lies)
branches-lie Ge regs held row a b x y p taken e =
    cond_both (are_low row a b) (not_less_branches row a b) (any_branches row) (λ (s : Successors). LiesAt regs held (way taken s))
    (λ l. not_less-way regs held row a b x y p taken (ap not (sym (low-same regs held row a b x y p l)) ∙ e))
    (λ l. any-way regs held row taken p.lies)

-- a number compares with itself as 0 does
itself : (test : Cond) (x : ℕ) → taken_of test x x ≡ taken_of test 0 0
itself Eq x = grind (arith, nat_tests)
itself Ne x = grind (arith, nat_tests)
itself Lt x = grind (arith, nat_tests, ints)
itself Ge x = grind (arith, nat_tests, ints)
itself Ltu x = grind (arith, nat_tests)
itself Geu x = grind (arith, nat_tests)

pub branch-lies : (test : Cond) (regs : List ℕ) (held : ℕ) (row : Row) (a b : ℕ) → length row.ranges ≡ 32 → a < 32 → b < 32 → Lies regs held row
    → (taken : Bool) → taken_of test (value_in regs a) (value_in regs b) ≡ taken → LiesAt regs held (way taken (branch_on test row a b))
branch-lies test regs held row a b count j k h taken e = by_same (a == b) refl
  where
    one_way : (s : Bool) → s ≡ taken → LiesAt regs held (way taken (if s then jumps row else falls_through row))
    one_way true is = subst (λ (t : Bool). LiesAt regs held (way t (jumps row))) is h
    one_way false is = subst (λ (t : Bool). LiesAt regs held (way t (falls_through row))) is h

    by_same : (s : Bool) → (a == b) ≡ s → LiesAt regs held (way taken (if s then (if taken_of test 0 0 then jumps row else falls_through row) else branches test row a b))
    by_same true is =
        let same = eqb-true a b is in
        let zero_taken : taken_of test 0 0 ≡ taken =
        sym (itself test (value_in regs a)) ∙ ap (λ (n : ℕ). taken_of test (value_in regs a) (value_in regs n)) same ∙ e in
        one_way (taken_of test 0 0) zero_taken
    by_same false is =
        branches-lie test regs held row a b (value_in regs a) (value_in regs b)
        (record { count = count; lies = h; first = h.values a j; second = h.values b k; first_is = refl; second_is = refl }) taken e
