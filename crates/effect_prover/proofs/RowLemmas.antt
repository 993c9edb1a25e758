-- Rows: their registers after a write, their order, and their locks.
use Rattle.std.proofs.Common.{◌≡◌, ℕ, ◌^◌, ◌<◌, ◌≤◌, Bool, true, false, ◌&&◌, not, ◌==◌, if◌then◌else◌, length, replicate, slice_index_or, slice_set, Option, Some, None, refl, sym, ◌∙◌, subst, arith, ⊎_elim, bit_xor}
use Rattle.std.proofs.lemmas.Bool.{true≢false, false≢true, eqb-false, eq-eqb, cond_both, cases_eq, and_parts, or_cases, or_left, or_right, and_from, ne_eqb, cases_lt}
use Rattle.std.proofs.lemmas.List.{length-set, get_or-set_same, get_or-set_other, get_or-replicate, length-replicate}
use Rattle.std.proofs.lemmas.Nat.{or_lt, xor_lt, pow_below}
use Rattle.region_table.specs.declared.declared.TaskDecl.{TaskDecl}
use Rattle.rv_core.specs.Access.{is_held}
use Rattle.rv_core.proofs.HeldLemmas.{holds-none, holds-acquired, holds-released}
use Rattle.rv_core.proofs.HighLocks.{holds-high}
use Rattle.flat_machine.specs.Laws.{HoldsLess}
use Rattle.effect_prover.specs.declared.range.Range.{Range}
use Rattle.effect_prover.specs.declared.row.Row.{Row}
use Rattle.effect_prover.specs.Range.{one, LiesWithin, IsRange}
use Rattle.effect_prover.specs.Row.{x0, range_of, with_range, start_row, IsRow, IsBelow, IsUnder}
use Rattle.effect_prover.specs.Successors.{held_with, held_without}
use Rattle.effect_prover.proofs.RangeLemmas.{in-itself, in-trans, one-range}

pub ruleset high_locks = holds-high

-- ---- registers after a write

pub with-length : (row : Row) (rd : ℕ) (x : Range) → length (with_range row rd x).ranges ≡ length row.ranges
with-length row rd x =
    cond_both (rd == 0) row (record row { ranges = slice_set row.ranges rd x }) (λ (z : Row). length z.ranges ≡ length row.ranges)
    (λ e. refl)
    (λ e. length-set row.ranges rd x)

pub with-held : (row : Row) (rd : ℕ) (x : Range) → (with_range row rd x).held ≡ row.held
with-held row rd x =
    cond_both (rd == 0) row (record row { ranges = slice_set row.ranges rd x }) (λ (z : Row). z.held ≡ row.held) (λ e. refl) (λ e. refl)

-- what holds of what is written, and of each register before, holds of each register after
pub with-has : (row : Row) (rd : ℕ) (x : Range) (r : ℕ) → r < length row.ranges → (Q : Range → Type 0) → (r ≡ rd → Q x) → Q (range_of row r) → Q (range_of (with_range row rd x) r)
with-has row rd x r within Q new old =
    cond_both (rd == 0) row (record row { ranges = slice_set row.ranges rd x }) (λ (z : Row). Q (range_of z r))
    (λ e. old)
    (λ e.
    ⊎_elim
    (λ (same : r ≡ rd). subst Q (sym (subst (λ (k : ℕ). slice_index_or (slice_set row.ranges rd x) k (one 0) ≡ x) (sym same)
    (get_or-set_same row.ranges rd x (one 0) (subst (λ (k : ℕ). k < length row.ranges) same within)))) (new same))
    (λ (apart : r ≡ rd → ⊥). subst Q (sym (get_or-set_other row.ranges rd r x (one 0) apart)) old)
    (cases_eq r rd))

pub with-zero : (row : Row) (rd : ℕ) (x : Range) → range_of (with_range row rd x) 0 ≡ range_of row x0
with-zero row rd x =
    cond_both (rd == 0) row (record row { ranges = slice_set row.ranges rd x }) (λ (z : Row). range_of z 0 ≡ range_of row x0)
    (λ e. refl)
    (λ e. get_or-set_other row.ranges rd 0 x (one 0) (λ (same : 0 ≡ rd). eqb-false rd 0 e (sym same)))

-- the same of two rows
pub with-pair : (row all : Row) (rd : ℕ) (x y : Range) (r : ℕ) → r < length row.ranges → r < length all.ranges → (Q : Range → Range → Type 0)
    → Q x y → Q (range_of row r) (range_of all r) → Q (range_of (with_range row rd x) r) (range_of (with_range all rd y) r)
with-pair row all rd x y r within inside Q new old =
    by_test (rd == 0) refl
  where
    written : Row → Range → Row
    written z v = record z { ranges = slice_set z.ranges rd v }

    by_test : (b : Bool) → (rd == 0) ≡ b → Q (range_of (if b then row else written row x) r) (range_of (if b then all else written all y) r)
    by_test true e = old
    by_test false e =
        ⊎_elim
        (λ (same : r ≡ rd).
        let at_row : range_of (written row x) r ≡ x =
        subst (λ (k : ℕ). slice_index_or (slice_set row.ranges rd x) k (one 0) ≡ x) (sym same)
        (get_or-set_same row.ranges rd x (one 0) (subst (λ (k : ℕ). k < length row.ranges) same within)) in
        let at_all : range_of (written all y) r ≡ y =
        subst (λ (k : ℕ). slice_index_or (slice_set all.ranges rd y) k (one 0) ≡ y) (sym same)
        (get_or-set_same all.ranges rd y (one 0) (subst (λ (k : ℕ). k < length all.ranges) same inside)) in
        subst (λ (v : Range). Q v (range_of (written all y) r)) (sym at_row) (subst (λ (v : Range). Q x v) (sym at_all) new))
        (λ (apart : r ≡ rd → ⊥).
        let at_row : range_of (written row x) r ≡ range_of row r = get_or-set_other row.ranges rd r x (one 0) apart in
        let at_all : range_of (written all y) r ≡ range_of all r = get_or-set_other all.ranges rd r y (one 0) apart in
        subst (λ (v : Range). Q v (range_of (written all y) r)) (sym at_row) (subst (λ (v : Range). Q (range_of row r) v) (sym at_all) old))
        (cases_eq r rd)

pub with-row : (row : Row) (rd : ℕ) (x : Range) → IsRow row → IsRange x → IsRow (with_range row rd x)
with-row row rd x h k =
    let same = with-length row rd x in
    let locks = with-held row rd x in
    let count = h.count in
    record {
      count = same ∙ h.count;
      each = λ r within. with-has row rd x r (omega arith) IsRange (λ e. k) (h.each r within);
      zero_register = with-zero row rd x ∙ h.zero_register;
      held = let l = h.held in omega arith;
    }

pub held-row : (row : Row) (held : ℕ) → IsRow row → held < 2 ^ 32 → IsRow (record row { held = held })
held-row row held h k = record { count = h.count; each = h.each; zero_register = h.zero_register; held = k }

pub start-row : (d : TaskDecl) → d.arg < 2 ^ 32 → IsRow (start_row d)
start-row d h =
    let zeros : Row = record { ranges = replicate 32 (one 0); held = 0 } in
    let plain : IsRow zeros = record {
      count = length-replicate 32 (one 0);
      each = λ r within. subst IsRange (sym (get_or-replicate 32 r (one 0) (one 0) within)) (one-range 0 (omega arith));
      zero_register = refl;
      held = omega arith;
    } in
    with-row zeros 10 (one d.arg) plain (one-range d.arg h)

-- ---- the order of rows

pub less-itself : (held : ℕ) → HoldsLess held held
less-itself held = record { among = λ lock h. h }

pub less-trans : (a b c : ℕ) → HoldsLess a b → HoldsLess b c → HoldsLess a c
less-trans a b c h k = record { among = λ lock l. k.among lock (h.among lock l) }

pub below-itself : (row : Row) → IsBelow row row
below-itself row = record { ranges = λ r within. in-itself (range_of row r); locks = less-itself row.held }

pub below-trans : (a b c : Row) → IsBelow a b → IsBelow b c → IsBelow a c
below-trans a b c h k =
    record {
      ranges = λ r within. in-trans (range_of a r) (range_of b r) (range_of c r) (h.ranges r within) (k.ranges r within);
      locks = less-trans c.held b.held a.held k.locks h.locks;
    }

pub under-itself : (a : Option Row) → IsUnder a a
under-itself None = tt
under-itself (Some row) = below-itself row

pub under-trans : (a b c : Option Row) → IsUnder a b → IsUnder b c → IsUnder a c
under-trans None b c h k = tt
under-trans (Some x) None c h k = absurd h
under-trans (Some x) (Some y) None h k = absurd k
under-trans (Some x) (Some y) (Some z) h k = below-trans x y z h k

pub with-below : (row all : Row) (rd : ℕ) (x y : Range) → IsRow row → IsRow all → IsBelow row all → LiesWithin x y → IsBelow (with_range row rd x) (with_range all rd y)
with-below row all rd x y hr ha h k =
    let one_count = hr.count in
    let other_count = ha.count in
    let one_held = with-held row rd x in
    let other_held = with-held all rd y in
    record {
      ranges = λ r within. with-pair row all rd x y r (omega arith) (omega arith) LiesWithin k (h.ranges r within);
      locks = subst (λ (n : ℕ). HoldsLess n (with_range row rd x).held) (sym other_held) (subst (HoldsLess all.held) (sym one_held) h.locks);
    }

-- a row in which one register is narrowed stays below
pub narrow-below : (row all : Row) (rd : ℕ) (x : Range) → IsRow row → IsBelow row all → LiesWithin x (range_of all rd) → IsBelow (with_range row rd x) all
narrow-below row all rd x hr h k =
    let count = hr.count in
    let same = with-held row rd x in
    record {
      ranges = λ r within. with-has row rd x r (omega arith) (λ (v : Range). LiesWithin v (range_of all r)) (λ (e : r ≡ rd). subst (λ (n : ℕ). LiesWithin x (range_of all n)) (sym e) k) (h.ranges r within);
      locks = subst (HoldsLess all.held) (sym same) h.locks;
    }

pub held-below : (row all : Row) (held other : ℕ) → IsBelow row all → HoldsLess other held → IsBelow (record row { held = held }) (record all { held = other })
held-below row all held other h k = record { ranges = h.ranges; locks = k }

-- ---- locks

pub none-less : (held : ℕ) → HoldsLess 0 held
none-less held = record { among = λ lock h. absurd (false≢true (sym (holds-none lock) ∙ h)) }

pub holds-without : (held lock k : ℕ) → is_held (held_without held lock) k ≡ (not (k == lock) && is_held held k)
holds-without held lock k = by_test (is_held held lock) refl
  where
    by_test : (b : Bool) → is_held held lock ≡ b → is_held (if b then bit_xor held (2 ^ lock) else held) k ≡ (not (k == lock) && is_held held k)
    by_test true e = holds-released held lock k e
    by_test false e =
        ⊎_elim
        (λ (same : k ≡ lock). let none : is_held held k ≡ false = subst (λ (n : ℕ). is_held held n ≡ false) (sym same) e in
        rw (none, eq-eqb k lock same) refl)
        (λ (apart : k ≡ lock → ⊥). rw (ne_eqb k lock apart) refl)
        (cases_eq k lock)

pub without-less : (held all lock : ℕ) → HoldsLess held all → HoldsLess (held_without held lock) (held_without all lock)
without-less held all lock h =
    record {
      among = λ k e.
          let parts = and_parts (not (k == lock)) (is_held held k) (sym (holds-without held lock k) ∙ e) in
          holds-without all lock k ∙ and_from (not (k == lock)) (is_held all k) parts.0 (h.among k parts.1);
    }

pub with-less : (held all lock : ℕ) → HoldsLess held all → HoldsLess (held_with held lock) (held_with all lock)
with-less held all lock h =
    record {
      among = λ k e.
          holds-acquired all lock k
          ∙ ⊎_elim (λ (l : (k == lock) ≡ true). or_left (k == lock) (is_held all k) l) (λ (l : is_held held k ≡ true). or_right (k == lock) (is_held all k) (h.among k l))
          (or_cases (k == lock) (is_held held k) (sym (holds-acquired held lock k) ∙ e));
    }

pub more-less : (held all lock : ℕ) → HoldsLess held all → HoldsLess held (held_with all lock)
more-less held all lock h =
    record { among = λ k e. holds-acquired all lock k ∙ or_right (k == lock) (is_held all k) (h.among k e) }

pub with-small : (held lock : ℕ) → held < 2 ^ 32 → lock < 32 → held_with held lock < 2 ^ 32
with-small held lock h k = or_lt 32 held (2 ^ lock) h (pow_below lock 32 k)

pub without-small : (held lock : ℕ) → held < 2 ^ 32 → held_without held lock < 2 ^ 32
without-small held lock h =
    cond_both (is_held held lock) (bit_xor held (2 ^ lock)) held (λ (n : ℕ). n < 2 ^ 32)
    (λ e.
    ⊎_elim
    (λ (low : lock < 32). xor_lt 32 held (2 ^ lock) h (pow_below lock 32 low))
    (λ (high : 32 ≤ lock). absurd (true≢false (sym e ∙ holds-high held lock h high)))
    (cases_lt lock 32))
    (λ e. h)
