-- The successors of a wider row are wider, and the successors of a row are rows.
use Rattle.std.proofs.Common.{◌≡◌, ℕ, ◌+◌, ◌*◌, ◌%◌, ◌^◌, ◌<◌, ◌≤◌, Bool, true, false, ◌&&◌, ◌||◌, ◌==◌, nat_lt, if◌then◌else◌, Option, Some, None, refl, sym, ◌∙◌, subst, arith, ⊎_elim}
use Rattle.std.proofs.lemmas.Bool.{true≢false, ltb-true, ltb-false, lt-ltb, eqb-true, eq-eqb, cond_both, and_parts, and_from, or_cases, or_parts}
use Rattle.std.proofs.lemmas.Bool.Decides.{nat_tests}
use Rattle.std.proofs.lemmas.Int.{ints}
use Rattle.std.proofs.lemmas.Nat.{mod_below}
use lib.IntN.{ℤ, pos, negsuc}
use Rattle.rv_isa.specs.Meaning.{taken_of}
use Rattle.rv_isa.specs.Word.{pattern}
use Rattle.rv_isa.specs.Range.{IsSigned, IsAmount, IsOperand, IsEncodable, HasRegisters}
use Rattle.rv_isa.specs.Table.{is_shift}
use Rattle.rv_isa.specs.declared.instr.Cond.{Cond}
use Rattle.rv_isa.specs.declared.instr.Cond.TheVariants.{Eq, Ne, Lt, Ge, Ltu, Geu}
use Rattle.rv_isa.specs.declared.instr.Width.{Width}
use Rattle.rv_isa.specs.declared.instr.Width as width
use Rattle.rv_isa.specs.declared.instr.Instr.{Instr}
use Rattle.rv_isa.specs.declared.instr.Instr.TheVariants.{Lui, Auipc, Jal, Jalr, Branch, Load, Store, OpImm, Op, Fence, Ecall, Ebreak}
use Rattle.flat_machine.specs.Laws.{HoldsLess}
use Rattle.effect_prover.specs.declared.range.Range.{Range}
use Rattle.effect_prover.specs.declared.row.Row.{Row}
use Rattle.effect_prover.specs.declared.successors.Successors.{Successors}
use Rattle.effect_prover.specs.Range.{LiesWithin, IsRange, one, is_one, is_empty, computed, computed_imm, common, below, above, at_least, at_most}
use Rattle.effect_prover.specs.Row.{a0, a7, range_of, with_range, IsRow, IsBelow, IsUnder}
use Rattle.effect_prover.specs.Successors.{no_successors, falls_through, jumps, narrowed, where_equal, where_less, where_not_less, where_different, are_low, less_branches, not_less_branches, any_branches, branches, branch_on, loadable, held_with, held_without, held_after_acquire, held_after_release, calls, successors}
use Rattle.effect_prover.proofs.RangeLemmas.{in-itself, one-range, every-range, computed-range, computed-in, computed_imm-range, computed_imm-in}
use Rattle.effect_prover.proofs.RowLemmas.{with-row, held-row, with-below, narrow-below, held-below, none-less, without-less, with-less, more-less, with-small, without-small}

-- the rows of the second contain those of the first
pub record AreUnder (s t : Successors) : Type 0 where
  pub next : IsUnder s.next t.next
  pub target : IsUnder s.target t.target

-- what is there is a row
abbrev pub IsRowIn : Option Row → Type 0
IsRowIn None = Unit {0}
IsRowIn (Some row) = IsRow row

pub record AreRows (s : Successors) : Type 0 where
  pub next : IsRowIn s.next
  pub target : IsRowIn s.target

goes-under : (row all : Row) → IsBelow row all → AreUnder (falls_through row) (falls_through all)
goes-under row all h = record { next = h; target = tt }

goes-row : (row : Row) → IsRow row → AreRows (falls_through row)
goes-row row h = record { next = h; target = tt }

stays-under : (t : Successors) → AreUnder no_successors t
stays-under t = record { next = tt; target = tt }

-- ---- narrowed rows

kept : (x y : Range) → (is_empty x || is_empty y) ≡ false → (x.lo ≤ x.hi) × (y.lo ≤ y.hi)
kept x y e = let parts = or_parts (is_empty x) (is_empty y) e in (ltb-false x.hi x.lo parts.0, ltb-false y.hi y.lo parts.1)

narrowed-row : (row : Row) (a : ℕ) (x : Range) (b : ℕ) (y : Range) → IsRow row → x.hi < 2 ^ 32 → y.hi < 2 ^ 32 → IsRowIn (narrowed row a x b y)
narrowed-row row a x b y h j k =
    cond_both (is_empty x || is_empty y) None (Some (with_range (with_range row a x) b y)) IsRowIn
    (λ e. tt)
    (λ e.
    let some = kept x y e in
    with-row (with_range row a x) b y (with-row row a x h (record { some = some.0; within = j })) (record { some = some.1; within = k }))

narrowed-under : (row all : Row) (a : ℕ) (x u : Range) (b : ℕ) (y v : Range) → IsRow row → IsRow all → IsBelow row all → u.hi < 2 ^ 32 → v.hi < 2 ^ 32 → LiesWithin x u → LiesWithin y v
    → IsUnder (narrowed row a x b y) (narrowed all a u b v)
narrowed-under row all a x u b y v hr ha h su sv p q =
    cond_both (is_empty x || is_empty y) None (Some (with_range (with_range row a x) b y)) (λ (z : Option Row). IsUnder z (narrowed all a u b v))
    (λ e. tt)
    (λ e.
    let some = kept x y e in
    let low = some.0 in
    let high = some.1 in
    cond_both (is_empty u || is_empty v) None (Some (with_range (with_range all a u) b v)) (λ (z : Option Row). IsUnder (Some (with_range (with_range row a x) b y)) z)
    (λ f.
    ⊎_elim
    (λ (gone : is_empty u ≡ true). let l = ltb-true u.hi u.lo gone in absurd (omega arith))
    (λ (gone : is_empty v ≡ true). let l = ltb-true v.hi v.lo gone in absurd (omega arith))
    (or_cases (is_empty u) (is_empty v) f))
    (λ f.
    with-below (with_range row a x) (with_range all a u) b y v
    (with-row row a x hr (record { some = low; within = omega arith }))
    (with-row all a u ha (record { some = omega arith; within = su }))
    (with-below row all a x u hr ha h p) q))

-- a row whose registers are narrowed lies below each row above it
narrowed-within : (row all : Row) (a : ℕ) (x : Range) (b : ℕ) (y : Range) → IsRow row → IsBelow row all → x.hi < 2 ^ 32 → LiesWithin x (range_of all a) → LiesWithin y (range_of all b)
    → IsUnder (narrowed row a x b y) (Some all)
narrowed-within row all a x b y hr h sx p q =
    cond_both (is_empty x || is_empty y) None (Some (with_range (with_range row a x) b y)) (λ (z : Option Row). IsUnder z (Some all))
    (λ e. tt)
    (λ e.
    let some = kept x y e in
    narrow-below (with_range row a x) all b y (with-row row a x hr (record { some = some.0; within = sx })) (narrow-below row all a x hr h p) q)

-- two registers of a row, and of a wider one
record ArePair (row all : Row) (a b : ℕ) : Type 0 where
  row_is : IsRow row
  all_is : IsRow all
  under : IsBelow row all
  first : IsRange (range_of row a)
  second : IsRange (range_of row b)
  first_all : IsRange (range_of all a)
  second_all : IsRange (range_of all b)
  first_in : LiesWithin (range_of row a) (range_of all a)
  second_in : LiesWithin (range_of row b) (range_of all b)

pair : (row all : Row) (a b : ℕ) → IsRow row → IsRow all → IsBelow row all → a < 32 → b < 32 → ArePair row all a b
pair row all a b hr ha h j k =
    record {
      row_is = hr;
      all_is = ha;
      under = h;
      first = hr.each a j;
      second = hr.each b k;
      first_all = ha.each a j;
      second_all = ha.each b k;
      first_in = h.ranges a j;
      second_in = h.ranges b k;
    }

equal-under : (row all : Row) (a b : ℕ) → ArePair row all a b → IsUnder (where_equal row a b) (where_equal all a b)
equal-under row all a b p =
    narrowed-under row all a (common (range_of row a) (range_of row b)) (common (range_of all a) (range_of all b))
    b (common (range_of row a) (range_of row b)) (common (range_of all a) (range_of all b)) p.row_is p.all_is p.under (omega arith) (omega arith)
    (record { low = omega arith; high = omega arith }) (record { low = omega arith; high = omega arith })

less-under : (row all : Row) (a b : ℕ) → ArePair row all a b → IsUnder (where_less row a b) (where_less all a b)
less-under row all a b p =
    narrowed-under row all a (below (range_of row a) (range_of row b)) (below (range_of all a) (range_of all b))
    b (above (range_of row b) (range_of row a)) (above (range_of all b) (range_of all a)) p.row_is p.all_is p.under (omega arith) (omega arith)
    (record { low = omega arith; high = omega arith }) (record { low = omega arith; high = omega arith })

not_less-under : (row all : Row) (a b : ℕ) → ArePair row all a b → IsUnder (where_not_less row a b) (where_not_less all a b)
not_less-under row all a b p =
    narrowed-under row all a (at_least (range_of row a) (range_of row b)) (at_least (range_of all a) (range_of all b))
    b (at_most (range_of row b) (range_of row a)) (at_most (range_of all b) (range_of all a)) p.row_is p.all_is p.under (omega arith) (omega arith)
    (record { low = omega arith; high = omega arith }) (record { low = omega arith; high = omega arith })

same_one : (x y u v : Range) → IsRange x → IsRange y → LiesWithin x u → LiesWithin y v → (is_one u && is_one v && u.lo == v.lo) ≡ true → (is_one x && is_one y && x.lo == y.lo) ≡ true
same_one x y u v hx hy p q e =
    let first = hx.some in
    let second = hy.some in
    grind (arith, nat_tests)

different-under : (row all : Row) (a b : ℕ) → ArePair row all a b → IsUnder (where_different row a b) (where_different all a b)
different-under row all a b p =
    let here : Bool = is_one (range_of row a) && is_one (range_of row b) && (range_of row a).lo == (range_of row b).lo in
    let there : Bool = is_one (range_of all a) && is_one (range_of all b) && (range_of all a).lo == (range_of all b).lo in
    cond_both here None (Some row) (λ (z : Option Row). IsUnder z (where_different all a b))
    (λ e. tt)
    (λ e.
    cond_both there None (Some all) (λ (z : Option Row). IsUnder (Some row) z)
    (λ f. absurd (true≢false (sym (same_one (range_of row a) (range_of row b) (range_of all a) (range_of all b) p.first p.second p.first_in p.second_in f) ∙ e)))
    (λ f. p.under))

less-within : (row all : Row) (a b : ℕ) → ArePair row all a b → IsUnder (where_less row a b) (Some all)
less-within row all a b p =
    narrowed-within row all a (below (range_of row a) (range_of row b)) b (above (range_of row b) (range_of row a)) p.row_is p.under (omega arith)
    (record { low = omega arith; high = omega arith }) (record { low = omega arith; high = omega arith })

not_less-within : (row all : Row) (a b : ℕ) → ArePair row all a b → IsUnder (where_not_less row a b) (Some all)
not_less-within row all a b p =
    narrowed-within row all a (at_least (range_of row a) (range_of row b)) b (at_most (range_of row b) (range_of row a)) p.row_is p.under (omega arith)
    (record { low = omega arith; high = omega arith }) (record { low = omega arith; high = omega arith })

-- ---- branches

low-less : (row all : Row) (a b : ℕ) → ArePair row all a b → are_low all a b ≡ true → are_low row a b ≡ true
low-less row all a b p e =
    let parts = and_parts (nat_lt (range_of all a).hi (2 ^ 31)) (nat_lt (range_of all b).hi (2 ^ 31)) e in
    let one' = ltb-true (range_of all a).hi (2 ^ 31) parts.0 in
    let two = ltb-true (range_of all b).hi (2 ^ 31) parts.1 in
    let x = p.first_in.high in
    let y = p.second_in.high in
    and_from (nat_lt (range_of row a).hi (2 ^ 31)) (nat_lt (range_of row b).hi (2 ^ 31))
    (lt-ltb (range_of row a).hi (2 ^ 31) (omega arith)) (lt-ltb (range_of row b).hi (2 ^ 31) (omega arith))

-- a signed branch, with what it is below 2^31
signed-under : (row all : Row) (a b : ℕ) (s t : Successors) → ArePair row all a b → AreUnder s t → AreUnder s (any_branches all)
    → AreUnder (if are_low row a b then s else any_branches row) (if are_low all a b then t else any_branches all)
signed-under row all a b s t p both wide =
    cond_both (are_low row a b) s (any_branches row) (λ (z : Successors). AreUnder z (if are_low all a b then t else any_branches all))
    (λ e. cond_both (are_low all a b) t (any_branches all) (AreUnder s) (λ f. both) (λ f. wide))
    (λ e.
    cond_both (are_low all a b) t (any_branches all) (AreUnder (any_branches row))
    (λ f. absurd (true≢false (sym (low-less row all a b p f) ∙ e)))
    (λ f. record { next = p.under; target = p.under }))

branches-under : (test : Cond) (row all : Row) (a b : ℕ) → ArePair row all a b → AreUnder (branches test row a b) (branches test all a b)
branches-under Eq row all a b p = record { next = different-under row all a b p; target = equal-under row all a b p }
branches-under Ne row all a b p = record { next = equal-under row all a b p; target = different-under row all a b p }
branches-under Ltu row all a b p = record { next = not_less-under row all a b p; target = less-under row all a b p }
branches-under Geu row all a b p = record { next = less-under row all a b p; target = not_less-under row all a b p }
branches-under Lt row all a b p =
    signed-under row all a b (less_branches row a b) (less_branches all a b) p
    (record { next = not_less-under row all a b p; target = less-under row all a b p })
    (record { next = not_less-within row all a b p; target = less-within row all a b p })
branches-under Ge row all a b p =
    signed-under row all a b (not_less_branches row a b) (not_less_branches all a b) p
    (record { next = less-under row all a b p; target = not_less-under row all a b p })
    (record { next = less-within row all a b p; target = not_less-within row all a b p })

branch-under : (test : Cond) (row all : Row) (a b : ℕ) → IsRow row → IsRow all → IsBelow row all → a < 32 → b < 32 → AreUnder (branch_on test row a b) (branch_on test all a b)
branch-under test row all a b hr ha h j k = by_test (a == b) (taken_of test 0 0)
  where
    by_test : (s t : Bool) → AreUnder (if s then (if t then jumps row else falls_through row) else branches test row a b) (if s then (if t then jumps all else falls_through all) else branches test all a b)
    by_test true true = record { next = tt; target = h }
    by_test true false = goes-under row all h
    by_test false t = branches-under test row all a b (pair row all a b hr ha h j k)

branches-rows : (test : Cond) (row : Row) (a b : ℕ) → IsRow row → IsRange (range_of row a) → IsRange (range_of row b) → AreRows (branches test row a b)
branches-rows test row a b h j k = by_test test
  where
    equal : IsRowIn (where_equal row a b)
    equal = narrowed-row row a (common (range_of row a) (range_of row b)) b (common (range_of row a) (range_of row b)) h (omega arith) (omega arith)

    less : IsRowIn (where_less row a b)
    less = narrowed-row row a (below (range_of row a) (range_of row b)) b (above (range_of row b) (range_of row a)) h (omega arith) (omega arith)

    not_less : IsRowIn (where_not_less row a b)
    not_less = narrowed-row row a (at_least (range_of row a) (range_of row b)) b (at_most (range_of row b) (range_of row a)) h (omega arith) (omega arith)

    different : IsRowIn (where_different row a b)
    different =
        cond_both (is_one (range_of row a) && is_one (range_of row b) && (range_of row a).lo == (range_of row b).lo) None (Some row) IsRowIn (λ e. tt) (λ e. h)

    by_test : (c : Cond) → AreRows (branches c row a b)
    by_test Eq = record { next = different; target = equal }
    by_test Ne = record { next = equal; target = different }
    by_test Ltu = record { next = not_less; target = less }
    by_test Geu = record { next = less; target = not_less }
    by_test Lt =
        cond_both (are_low row a b) (less_branches row a b) (any_branches row) AreRows
        (λ e. record { next = not_less; target = less }) (λ e. record { next = h; target = h })
    by_test Ge =
        cond_both (are_low row a b) (not_less_branches row a b) (any_branches row) AreRows
        (λ e. record { next = less; target = not_less }) (λ e. record { next = h; target = h })

branch-rows : (test : Cond) (row : Row) (a b : ℕ) → IsRow row → a < 32 → b < 32 → AreRows (branch_on test row a b)
branch-rows test row a b h j k = by_test (a == b) (taken_of test 0 0)
  where
    by_test : (s t : Bool) → AreRows (if s then (if t then jumps row else falls_through row) else branches test row a b)
    by_test true true = record { next = tt; target = h }
    by_test true false = goes-row row h
    by_test false t = branches-rows test row a b h (h.each a j) (h.each b k)

-- ---- calls

same_number : (x u : Range) → IsRange x → LiesWithin x u → is_one u ≡ true → (is_one x ≡ true) × (x.lo ≡ u.lo)
same_number x u h p e =
    let same = eqb-true u.lo u.hi e in
    (eq-eqb x.lo x.hi (omega arith), omega arith)

acquire-less : (locks held all : ℕ) (x u : Range) → IsRange x → LiesWithin x u → HoldsLess all held → HoldsLess (held_after_acquire locks all u) (held_after_acquire locks held x)
acquire-less locks held all x u h p less =
    cond_both (is_one u && nat_lt u.lo locks) (held_with all u.lo) all (λ (n : ℕ). HoldsLess n (held_after_acquire locks held x))
    (λ e.
    let parts = and_parts (is_one u) (nat_lt u.lo locks) e in
    let number = same_number x u h p parts.0 in
    let both : (is_one x && nat_lt x.lo locks) ≡ true =
    and_from (is_one x) (nat_lt x.lo locks) number.0 (subst (λ (n : ℕ). nat_lt n locks ≡ true) (sym number.1) parts.1) in
    rw both (subst (λ (n : ℕ). HoldsLess (held_with all u.lo) (held_with held n)) (sym number.1) (with-less all held u.lo less)))
    (λ e. cond_both (is_one x && nat_lt x.lo locks) (held_with held x.lo) held (HoldsLess all) (λ f. more-less all held x.lo less) (λ f. less))

release-less : (held all : ℕ) (x u : Range) → IsRange x → LiesWithin x u → HoldsLess all held → HoldsLess (held_after_release all u) (held_after_release held x)
release-less held all x u h p less =
    cond_both (is_one u) (held_without all u.lo) 0 (λ (n : ℕ). HoldsLess n (held_after_release held x))
    (λ e.
    let number = same_number x u h p e in
    let one' = number.0 in
    rw one' (subst (λ (n : ℕ). HoldsLess (held_without all u.lo) (held_without held n)) (sym number.1) (without-less all held u.lo less)))
    (λ e. none-less (held_after_release held x))

-- an ECALL with this number
known : ℕ → Row → ℕ → Range → Successors
known locks row number lock =
    if number == 1 then falls_through (record row { held = held_after_acquire locks row.held lock })
    else if number == 2 then falls_through (record row { held = held_after_release row.held lock })
    else no_successors

calls-known : (locks : ℕ) (row : Row) (x y : Range) → calls locks row x y ≡ (if is_one x then known locks row x.lo y else falls_through (record row { held = 0 }))
unfolding known
calls-known locks row x y = refl

known-under : (locks : ℕ) (row all : Row) (number : ℕ) (y v : Range) → IsRange y → LiesWithin y v → IsBelow row all → AreUnder (known locks row number y) (known locks all number v)
unfolding known
known-under locks row all number y v k q h = by_test (number == 1) (number == 2)
  where
    by_test : (s t : Bool) → AreUnder
        (if s then falls_through (record row { held = held_after_acquire locks row.held y }) else if t then falls_through (record row { held = held_after_release row.held y }) else no_successors)
        (if s then falls_through (record all { held = held_after_acquire locks all.held v }) else if t then falls_through (record all { held = held_after_release all.held v }) else no_successors)
    by_test true t =
        goes-under (record row { held = held_after_acquire locks row.held y }) (record all { held = held_after_acquire locks all.held v })
        (held-below row all (held_after_acquire locks row.held y) (held_after_acquire locks all.held v) h (acquire-less locks row.held all.held y v k q h.locks))
    by_test false true =
        goes-under (record row { held = held_after_release row.held y }) (record all { held = held_after_release all.held v })
        (held-below row all (held_after_release row.held y) (held_after_release all.held v) h (release-less row.held all.held y v k q h.locks))
    by_test false false = stays-under no_successors

-- whatever the number, no lock may be held after
known-within : (locks : ℕ) (row all : Row) (number : ℕ) (y : Range) → IsBelow row all → AreUnder (known locks row number y) (falls_through (record all { held = 0 }))
unfolding known
known-within locks row all number y h = by_test (number == 1) (number == 2)
  where
    lax : (held : ℕ) → AreUnder (falls_through (record row { held = held })) (falls_through (record all { held = 0 }))
    lax held = goes-under (record row { held = held }) (record all { held = 0 }) (held-below row all held 0 h (none-less held))

    by_test : (s t : Bool) → AreUnder
        (if s then falls_through (record row { held = held_after_acquire locks row.held y }) else if t then falls_through (record row { held = held_after_release row.held y }) else no_successors)
        (falls_through (record all { held = 0 }))
    by_test true t = lax (held_after_acquire locks row.held y)
    by_test false true = lax (held_after_release row.held y)
    by_test false false = stays-under (falls_through (record all { held = 0 }))

calls-under : (locks : ℕ) (row all : Row) (x u y v : Range) → IsRange x → IsRange y → LiesWithin x u → LiesWithin y v → IsBelow row all → AreUnder (calls locks row x y) (calls locks all u v)
calls-under locks row all x u y v j k p q h =
    subst (λ (z : Successors). AreUnder z (calls locks all u v)) (sym (calls-known locks row x y))
    (subst (AreUnder (if is_one x then known locks row x.lo y else falls_through (record row { held = 0 }))) (sym (calls-known locks all u v)) (
    cond_both (is_one u) (known locks all u.lo v) (falls_through (record all { held = 0 })) (AreUnder (if is_one x then known locks row x.lo y else falls_through (record row { held = 0 })))
    (λ e.
    let number = same_number x u j p e in
    let one' = number.0 in
    rw one' (subst (λ (n : ℕ). AreUnder (known locks row n y) (known locks all u.lo v)) (sym number.1) (known-under locks row all u.lo y v k q h)))
    (λ e.
    cond_both (is_one x) (known locks row x.lo y) (falls_through (record row { held = 0 })) (λ (z : Successors). AreUnder z (falls_through (record all { held = 0 })))
    (λ f. known-within locks row all x.lo y h)
    (λ f. goes-under (record row { held = 0 }) (record all { held = 0 }) (held-below row all 0 0 h (none-less 0))))))

acquire-small : (locks held : ℕ) (x : Range) → locks ≤ 32 → held < 2 ^ 32 → held_after_acquire locks held x < 2 ^ 32
acquire-small locks held x l h =
    cond_both (is_one x && nat_lt x.lo locks) (held_with held x.lo) held (λ (n : ℕ). n < 2 ^ 32)
    (λ e.
    let parts = and_parts (is_one x) (nat_lt x.lo locks) e in
    let low = ltb-true x.lo locks parts.1 in
    with-small held x.lo h (omega arith))
    (λ e. h)

release-small : (held : ℕ) (x : Range) → held < 2 ^ 32 → held_after_release held x < 2 ^ 32
release-small held x h = cond_both (is_one x) (held_without held x.lo) 0 (λ (n : ℕ). n < 2 ^ 32) (λ e. without-small held x.lo h) (λ e. omega arith)

calls-rows : (locks : ℕ) (row : Row) (x y : Range) → locks ≤ 32 → IsRow row → AreRows (calls locks row x y)
calls-rows locks row x y l h = by_test (is_one x) (x.lo == 1) (x.lo == 2)
  where
    by_test : (q s t : Bool) → AreRows
        (if q then (if s then falls_through (record row { held = held_after_acquire locks row.held y }) else if t then falls_through (record row { held = held_after_release row.held y }) else no_successors)
        else falls_through (record row { held = 0 }))
    by_test true true t =
        goes-row (record row { held = held_after_acquire locks row.held y }) (held-row row (held_after_acquire locks row.held y) h (acquire-small locks row.held y l h.held))
    by_test true false true =
        goes-row (record row { held = held_after_release row.held y }) (held-row row (held_after_release row.held y) h (release-small row.held y h.held))
    by_test true false false = record { next = tt; target = tt }
    by_test false s t = goes-row (record row { held = 0 }) (held-row row (0) h (omega arith))

-- ---- every form

loadable-range : (w : Width) → IsRange (loadable w)
loadable-range width.TheVariants.B = every-range
loadable-range width.TheVariants.H = every-range
loadable-range width.TheVariants.W = every-range
loadable-range width.TheVariants.Bu = record { some = omega arith; within = omega arith }
loadable-range width.TheVariants.Hu = record { some = omega arith; within = omega arith }

-- the immediate of an operation has 32 bits
pub signed-small : (z : ℤ) → IsSigned 12 z → pattern z < 2 ^ 32
signed-small (pos m) h = let high = h.high in omega (arith, ints)
signed-small (negsuc m) h = omega arith

amount-small : (z : ℤ) → IsAmount z → pattern z < 2 ^ 32
amount-small (pos m) h = let high = h.high in omega (arith, ints)
amount-small (negsuc m) h = omega arith

pub operand-small : (b : Bool) (z : ℤ) → IsOperand b z → pattern z < 2 ^ 32
operand-small true z h = amount-small z h
operand-small false z h = signed-small z h

pub successors-under : (locks pc : ℕ) (row all : Row) (i : Instr) → HasRegisters i → IsEncodable i → IsRow row → IsRow all → IsBelow row all
    → AreUnder (successors locks pc row i) (successors locks pc all i)
successors-under locks pc row all (Lui rd imm) g f hr ha h =
    let x : Range = one (imm * 4096 % 2 ^ 32) in
    goes-under (with_range row rd x) (with_range all rd x) (with-below row all rd x x hr ha h (in-itself x))
successors-under locks pc row all (Auipc rd imm) g f hr ha h =
    let x : Range = one ((pc + imm * 4096) % 2 ^ 32) in
    goes-under (with_range row rd x) (with_range all rd x) (with-below row all rd x x hr ha h (in-itself x))
successors-under locks pc row all (Jal rd offset) g f hr ha h =
    record { next = tt; target = with-below row all rd (one (pc + 4)) (one (pc + 4)) hr ha h (in-itself (one (pc + 4))) }
successors-under locks pc row all (Jalr rd base offset) g f hr ha h = stays-under no_successors
successors-under locks pc row all (Branch test a b offset) g f hr ha h = branch-under test row all a b hr ha h g.0 g.1
successors-under locks pc row all (Load w rd base offset) g f hr ha h =
    goes-under (with_range row rd (loadable w)) (with_range all rd (loadable w)) (with-below row all rd (loadable w) (loadable w) hr ha h (in-itself (loadable w)))
successors-under locks pc row all (Store w src base offset) g f hr ha h = goes-under row all h
successors-under locks pc row all (OpImm op rd a imm) g f hr ha h =
    let x : Range = computed_imm op (range_of row a) (pattern imm) in
    let u : Range = computed_imm op (range_of all a) (pattern imm) in
    goes-under (with_range row rd x) (with_range all rd u)
    (with-below row all rd x u hr ha h
    (computed_imm-in op (range_of row a) (range_of all a) (pattern imm) (hr.each a g.1) (ha.each a g.1) (operand-small (is_shift op) imm f.1) (h.ranges a g.1)))
successors-under locks pc row all (Op op rd a b) g f hr ha h =
    let x : Range = computed op (range_of row a) (range_of row b) in
    let u : Range = computed op (range_of all a) (range_of all b) in
    goes-under (with_range row rd x) (with_range all rd u)
    (with-below row all rd x u hr ha h
    (computed-in op (range_of row a) (range_of row b) (range_of all a) (range_of all b) (hr.each a g.1) (hr.each b g.2) (ha.each a g.1) (ha.each b g.2) (h.ranges a g.1) (h.ranges b g.2)))
successors-under locks pc row all Fence g f hr ha h = goes-under row all h
successors-under locks pc row all Ecall g f hr ha h =
    calls-under locks row all (range_of row a7) (range_of all a7) (range_of row a0) (range_of all a0) (hr.each 17 (omega arith)) (hr.each 10 (omega arith))
    (h.ranges 17 (omega arith)) (h.ranges 10 (omega arith)) h
successors-under locks pc row all Ebreak g f hr ha h = stays-under no_successors

pub successors-rows : (locks pc : ℕ) (row : Row) (i : Instr) → locks ≤ 32 → pc + 4 < 2 ^ 32 → HasRegisters i → IsEncodable i → IsRow row → AreRows (successors locks pc row i)
successors-rows locks pc row (Lui rd imm) l p g f h =
    let x : Range = one (imm * 4096 % 2 ^ 32) in
    goes-row (with_range row rd x) (with-row row rd x h (one-range (imm * 4096 % 2 ^ 32) (mod_below (imm * 4096) (2 ^ 32) (omega arith))))
successors-rows locks pc row (Auipc rd imm) l p g f h =
    let x : Range = one ((pc + imm * 4096) % 2 ^ 32) in
    goes-row (with_range row rd x) (with-row row rd x h (one-range ((pc + imm * 4096) % 2 ^ 32) (mod_below (pc + imm * 4096) (2 ^ 32) (omega arith))))
successors-rows locks pc row (Jal rd offset) l p g f h = record { next = tt; target = with-row row rd (one (pc + 4)) h (one-range (pc + 4) p) }
successors-rows locks pc row (Jalr rd base offset) l p g f h = record { next = tt; target = tt }
successors-rows locks pc row (Branch test a b offset) l p g f h = branch-rows test row a b h g.0 g.1
successors-rows locks pc row (Load w rd base offset) l p g f h = goes-row (with_range row rd (loadable w)) (with-row row rd (loadable w) h (loadable-range w))
successors-rows locks pc row (Store w src base offset) l p g f h = goes-row row h
successors-rows locks pc row (OpImm op rd a imm) l p g f h =
    let x : Range = computed_imm op (range_of row a) (pattern imm) in
    goes-row (with_range row rd x) (with-row row rd x h (computed_imm-range op (range_of row a) (pattern imm) (h.each a g.1) (operand-small (is_shift op) imm f.1)))
successors-rows locks pc row (Op op rd a b) l p g f h =
    let x : Range = computed op (range_of row a) (range_of row b) in
    goes-row (with_range row rd x) (with-row row rd x h (computed-range op (range_of row a) (range_of row b) (h.each a g.1) (h.each b g.2)))
successors-rows locks pc row Fence l p g f h = goes-row row h
successors-rows locks pc row Ecall l p g f h = calls-rows locks row (range_of row a7) (range_of row a0) l h
successors-rows locks pc row Ebreak l p g f h = record { next = tt; target = tt }

pub ruleset wider = (successors-under, successors-rows)
