-- What a row says of a task: its registers lie in the row's ranges, and it holds the row's locks.
use Rattle.std.proofs.Common.{◌≡◌, ℕ, ◌^◌, ◌<◌, Bool, true, false, ◌&&◌, ◌||◌, ◌==◌, nat_lt, if◌then◌else◌, List, length, replicate, slice_index, slice_set, Option, Some, None, refl, sym, ap, ◌∙◌, subst, arith, ⊎_elim, bit_or, bit_xor}
use Rattle.std.proofs.lemmas.Bool.{ltb-true, cond_both, or_cases, and_parts, cases_eq}
use Rattle.std.proofs.lemmas.List.{length-set, length-replicate, get_or-set_same, get_or-set_other, get_or-replicate}
use Rattle.region_table.specs.declared.declared.TaskDecl.{TaskDecl}
use Rattle.rv_core.specs.Access.{is_held}
use Rattle.rv_core.specs.Registers.{value_in, with_value}
use Rattle.rv_core.specs.Task.{started}
use Rattle.flat_machine.specs.Laws.{HoldsLess}
use Rattle.effect_prover.specs.declared.range.Range.{Range}
use Rattle.effect_prover.specs.declared.row.Row.{Row}
use Rattle.effect_prover.specs.Range.{Has, one, is_one, is_empty}
use Rattle.effect_prover.specs.Row.{range_of, with_range, start_row, IsBelow, IsUnder}
use Rattle.effect_prover.specs.Successors.{narrowed, held_with, held_without, held_after_acquire, held_after_release}
use Rattle.effect_prover.proofs.RangeLemmas.{has-in, one-has, one-is}
use Rattle.effect_prover.proofs.RowLemmas.{with-has, with-held, less-itself, less-trans, none-less, with-less, more-less, without-less}

-- the 32 registers have numbers of the row's ranges, and the row's locks are held
pub record Lies (regs : List ℕ) (held : ℕ) (row : Row) : Type 0 where
  pub count : length regs ≡ 32
  pub values : (r : ℕ) → r < 32 → Has (range_of row r) (value_in regs r)
  pub locks : HoldsLess row.held held

-- the same where there may be no row: then the task can't be there
abbrev pub LiesAt : List ℕ → ℕ → Option Row → Type 0
LiesAt regs held None = ⊥
LiesAt regs held (Some row) = Lies regs held row

pub below-lies : (regs : List ℕ) (held : ℕ) (row all : Row) → IsBelow row all → Lies regs held row → Lies regs held all
below-lies regs held row all h k =
    record {
      count = k.count;
      values = λ r within. has-in (range_of row r) (range_of all r) (value_in regs r) (h.ranges r within) (k.values r within);
      locks = less-trans all.held row.held held h.locks k.locks;
    }

pub under-lies : (regs : List ℕ) (held : ℕ) (a b : Option Row) → IsUnder a b → LiesAt regs held a → LiesAt regs held b
under-lies regs held None b h k = absurd k
under-lies regs held (Some row) None h k = absurd h
under-lies regs held (Some row) (Some all) h k = below-lies regs held row all h k

-- ---- writes

value-same : (regs : List ℕ) (rd v : ℕ) → rd < length regs → (rd == 0) ≡ false → value_in (slice_set regs rd v) rd ≡ v
value-same regs rd v within e = rw e (get_or-set_same regs rd v 0 within)

value-other : (regs : List ℕ) (rd r v : ℕ) → (r ≡ rd → ⊥) → value_in (slice_set regs rd v) r ≡ value_in regs r
value-other regs rd r v apart = ap (λ (n : ℕ). if r == 0 then 0 else n) (get_or-set_other regs rd r v 0 apart)

-- a value is written to a register, and its range to the row
pub lies-written : (regs : List ℕ) (held : ℕ) (row : Row) (rd v : ℕ) (x : Range) → length row.ranges ≡ 32 → Lies regs held row → Has x v → Lies (with_value regs rd v) held (with_range row rd x)
lies-written regs held row rd v x count h k = by_test (rd == 0) refl
  where
    written : Row
    written = record row { ranges = slice_set row.ranges rd x }

    same : (r : ℕ) → r < 32 → r ≡ rd → (rd == 0) ≡ false → Has (range_of written r) (value_in (slice_set regs rd v) r)
    same r within is e =
        let regs_count = h.count in
        let at_rd : rd < 32 = subst (λ (n : ℕ). n < 32) is within in
        let range : range_of written rd ≡ x = get_or-set_same row.ranges rd x (one 0) (omega arith) in
        let value : value_in (slice_set regs rd v) rd ≡ v = value-same regs rd v (omega arith) e in
        subst (λ (n : ℕ). Has (range_of written n) (value_in (slice_set regs rd v) n)) (sym is)
        (subst (λ (n : ℕ). Has (range_of written rd) n) (sym value) (subst (λ (z : Range). Has z v) (sym range) k))

    other : (r : ℕ) → r < 32 → (r ≡ rd → ⊥) → Has (range_of written r) (value_in (slice_set regs rd v) r)
    other r within apart =
        let range : range_of written r ≡ range_of row r = get_or-set_other row.ranges rd r x (one 0) apart in
        let value : value_in (slice_set regs rd v) r ≡ value_in regs r = value-other regs rd r v apart in
        subst (λ (n : ℕ). Has (range_of written r) n) (sym value) (subst (λ (z : Range). Has z (value_in regs r)) (sym range) (h.values r within))

    by_test : (b : Bool) → (rd == 0) ≡ b → Lies (if b then regs else slice_set regs rd v) held (if b then row else record row { ranges = slice_set row.ranges rd x })
    by_test true e = h
    by_test false e = record {
      count = length-set regs rd v ∙ h.count;
      values = λ r within. ⊎_elim (λ (is : r ≡ rd). same r within is e) (λ (apart : r ≡ rd → ⊥). other r within apart) (cases_eq r rd);
      locks = h.locks;
    }

-- the range of a register is narrowed to one that has its value
pub lies-narrowed : (regs : List ℕ) (held : ℕ) (row : Row) (a : ℕ) (x : Range) → length row.ranges ≡ 32 → Lies regs held row → Has x (value_in regs a) → Lies regs held (with_range row a x)
lies-narrowed regs held row a x count h k =
    record {
      count = h.count;
      values = λ r within. with-has row a x r (omega arith) (λ (z : Range). Has z (value_in regs r)) (λ (e : r ≡ a). subst (λ (n : ℕ). Has x (value_in regs n)) (sym e) k) (h.values r within);
      locks = subst (λ (n : ℕ). HoldsLess n held) (sym (with-held row a x)) h.locks;
    }

-- other locks
pub lies-held : (regs : List ℕ) (held : ℕ) (row : Row) (now known : ℕ) → Lies regs held row → HoldsLess known now → Lies regs now (record row { held = known })
lies-held regs held row now known h k = record { count = h.count; values = h.values; locks = k }

-- ---- locks

pub acquire-holds : (locks known held lock : ℕ) (y : Range) → Has y lock → HoldsLess known held → HoldsLess (held_after_acquire locks known y) (bit_or held (2 ^ lock))
acquire-holds locks known held lock y h less =
    cond_both (is_one y && nat_lt y.lo locks) (held_with known y.lo) known (λ (n : ℕ). HoldsLess n (bit_or held (2 ^ lock)))
    (λ e.
    let is = one-is y lock (and_parts (is_one y) (nat_lt y.lo locks) e).0 h in
    subst (λ (n : ℕ). HoldsLess (held_with known n) (bit_or held (2 ^ lock))) is (with-less known held lock less))
    (λ e. more-less known held lock less)

pub release-holds : (known held lock : ℕ) (y : Range) → Has y lock → is_held held lock ≡ true → HoldsLess known held → HoldsLess (held_after_release known y) (bit_xor held (2 ^ lock))
release-holds known held lock y h there less =
    cond_both (is_one y) (held_without known y.lo) 0 (λ (n : ℕ). HoldsLess n (bit_xor held (2 ^ lock)))
    (λ e.
    let is = one-is y lock e h in
    let gone : held_without held lock ≡ bit_xor held (2 ^ lock) = rw there refl in
    subst (λ (n : ℕ). HoldsLess (held_without known n) (bit_xor held (2 ^ lock))) is
    (subst (HoldsLess (held_without known lock)) gone (without-less known held lock less)))
    (λ e. none-less (bit_xor held (2 ^ lock)))

-- ---- the start

pub start-lies : (d : TaskDecl) → Lies (started d).regs 0 (start_row d)
start-lies d =
    let zeros : Row = record { ranges = replicate 32 (one 0); held = 0 } in
    let plain : Lies (replicate 32 0) 0 zeros = record {
      count = length-replicate {A = ℕ} 32 0;
      values = λ r within.
          let range : range_of zeros r ≡ one 0 = get_or-replicate 32 r (one 0) (one 0) within in
          let value : value_in (replicate 32 0) r ≡ 0 =
          cond_both (r == 0) 0 (slice_index (replicate 32 0) r) (λ (n : ℕ). n ≡ 0) (λ e. refl) (λ e. get_or-replicate {A = ℕ} 32 r 0 0 within) in
          subst (λ (n : ℕ). Has (range_of zeros r) n) (sym value) (subst (λ (z : Range). Has z 0) (sym range) (one-has 0));
      locks = less-itself 0;
    } in
    lies-written (replicate 32 0) 0 zeros 10 d.arg (one d.arg) (length-replicate 32 (one 0)) plain (one-has d.arg)

-- ---- narrowed rows

-- a row that is narrowed to ranges that have the values isn't empty
pub narrowed-lies : (regs : List ℕ) (held : ℕ) (row : Row) (a : ℕ) (x : Range) (b : ℕ) (y : Range) → length row.ranges ≡ 32 → length (with_range row a x).ranges ≡ 32 → Lies regs held row
    → Has x (value_in regs a) → Has y (value_in regs b) → LiesAt regs held (narrowed row a x b y)
narrowed-lies regs held row a x b y count more h p q =
    cond_both (is_empty x || is_empty y) None (Some (with_range (with_range row a x) b y)) (LiesAt regs held)
    (λ e.
    ⊎_elim
    (λ (gone : is_empty x ≡ true). let l = ltb-true x.hi x.lo gone in absurd (omega arith))
    (λ (gone : is_empty y ≡ true). let l = ltb-true y.hi y.lo gone in absurd (omega arith))
    (or_cases (is_empty x) (is_empty y) e))
    (λ e. lies-narrowed regs held (with_range row a x) b y more (lies-narrowed regs held row a x count h p) q)
