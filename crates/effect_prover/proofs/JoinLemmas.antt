-- Joined ranges and rows, and the room that they leave.
use Rattle.std.proofs.Common.{◌≡◌, ◌≢◌, ℕ, suc, ◌*◌, ◌<◌, ◌≤◌, min, max, Bool, true, ◌&&◌, inl, inr, List, [], ◌∷◌, length, slice_index_or, sum_by, None, refl, sym, ◌∙◌, subst, arith, ⊎_elim, bit_and}
use Rattle.std.proofs.lemmas.Bool.{and_parts, and_from, cases_lt}
use Rattle.std.proofs.lemmas.Bool.Decides.{nat_tests}
use Rattle.std.proofs.lemmas.List.Sums.{sum_by-cons}
use Rattle.std.proofs.lemmas.Nat.{and_le_l}
use Rattle.std.proofs.lemmas.Nat.Bits.{bit_at_and, bit_at-lt}
use Rattle.rv_core.specs.Access.{is_held}
use Rattle.rv_core.proofs.HeldLemmas.{holds-bit}
use Rattle.flat_machine.specs.Laws.{HoldsLess}
use Rattle.effect_prover.specs.declared.range.Range.{Range}
use Rattle.effect_prover.specs.declared.row.Row.{Row}
use Rattle.effect_prover.specs.Range.{LiesWithin, IsRange, one}
use Rattle.effect_prover.specs.Row.{range_of, IsRow, IsBelow}
use Rattle.effect_prover.specs.Table.{IsHeadRange}
use Rattle.effect_prover.specs.Sweep.{IsEndUpTo, IsEndFrom, IsJoinedRange, IsRowJoined, range_room, row_room, room_of}
use Rattle.effect_prover.proofs.RangeLemmas.{in-itself}

made-range : (a b c d : ℕ) → a ≡ c → b ≡ d → ◌≡◌ {A = Range} (record { lo = a; hi = b }) (record { lo = c; hi = d })
made-range a b c d p q = rw (p, q) refl

pub same_range : (x y : Range) → x.lo ≡ y.lo → x.hi ≡ y.hi → x ≡ y
same_range x y p q = made-range x.lo x.hi y.lo y.hi p q

made-row : (a : List Range) (b : ℕ) (c : List Range) (d : ℕ) → a ≡ c → b ≡ d → ◌≡◌ {A = Row} (record { ranges = a; held = b }) (record { ranges = c; held = d })
made-row a b c d p q = rw (p, q) refl

pub same_row : (x y : Row) → x.ranges ≡ y.ranges → x.held ≡ y.held → x ≡ y
same_row x y p q = made-row x.ranges x.held y.ranges y.held p q

-- at a head the joined range goes from end to end
pub head-joined : (head : Bool) (argument : ℕ) (old given : Range) (lo hi e f : ℕ) → IsRange old → IsRange given → head ≡ true → lo ≡ min old.lo given.lo → hi ≡ max old.hi given.hi
    → lo ≢ hi → IsEndUpTo argument lo e → IsEndFrom argument hi f → IsJoinedRange head argument old given (record { lo = e; hi = f })
head-joined head argument old given lo hi e f ho hg is_head low high apart up from =
    record {
      first = record { low = omega arith; high = omega arith };
      second = record { low = omega arith; high = omega arith };
      range = record { some = omega arith; within = let most = from.least 4294967295 (inr (inr (inr (inr refl)))) (omega arith) in omega arith };
      head_range = λ _. inr (up.end, from.end);
      least = λ all headed p q. least all (headed is_head) p q;
    }
  where
    least : (all : Range) → IsHeadRange argument all → LiesWithin old all → LiesWithin given all → LiesWithin (record { lo = e; hi = f }) all
    least all (inl same) p q = absurd (apart (omega arith))
    least all (inr ends) p q =
        let below = up.greatest all.lo ends.0 (omega arith) in
        let above = from.least all.hi ends.1 (omega arith) in
        record { low = below; high = above }

-- ---- locks that are held for sure on both ways

pub holds-both : (a b k : ℕ) → is_held (bit_and a b) k ≡ (is_held a k && is_held b k)
holds-both a b k =
    rw (holds-bit (bit_and a b) k, holds-bit a k, holds-bit b k, bit_at_and a b k) (
    let x = bit_at-lt a k in
    let y = bit_at-lt b k in
    grind (arith, nat_tests))

both-less : (a b : ℕ) → HoldsLess (bit_and a b) a
both-less a b =
    record { among = λ k e. (and_parts (is_held a k) (is_held b k) (sym (holds-both a b k) ∙ e)).0 }

both-less_right : (a b : ℕ) → HoldsLess (bit_and a b) b
both-less_right a b =
    record { among = λ k e. (and_parts (is_held a k) (is_held b k) (sym (holds-both a b k) ∙ e)).1 }

-- ---- joined rows

pub joined-row : (head : Bool) (argument : ℕ) (old given new : Row) → IsRow old → IsRow given → IsRowJoined head argument old given new → IsRow new
joined-row head argument old given new ho hg j =
    record {
      count = j.count;
      each = λ r within. (j.ranges r within).range;
      zero_register = none (range_of new 0) first.range (first.least (one 0) (λ _. inl refl) (at_zero (range_of old 0) ho.zero_register) (at_zero (range_of given 0) hg.zero_register));
      held = let l = and_le_l old.held given.held in let is = j.held in let small = ho.held in omega arith;
    }
  where
    first : IsJoinedRange head argument (range_of old 0) (range_of given 0) (range_of new 0)
    first = j.ranges 0 (omega arith)

    at_zero : (x : Range) → x ≡ one 0 → LiesWithin x (one 0)
    at_zero x e = subst (λ (y : Range). LiesWithin y (one 0)) (sym e) (in-itself (one 0))

    none : (x : Range) → IsRange x → LiesWithin x (one 0) → x ≡ one 0
    none x k h = same_range x (one 0) (omega arith) (omega arith)

pub joined-first : (head : Bool) (argument : ℕ) (old given new : Row) → IsRowJoined head argument old given new → IsBelow old new
joined-first head argument old given new j =
    record { ranges = λ r within. (j.ranges r within).first; locks = subst (λ (n : ℕ). HoldsLess n old.held) (sym j.held) (both-less old.held given.held) }

pub joined-second : (head : Bool) (argument : ℕ) (old given new : Row) → IsRowJoined head argument old given new → IsBelow given new
joined-second head argument old given new j =
    record { ranges = λ r within. (j.ranges r within).second; locks = subst (λ (n : ℕ). HoldsLess n given.held) (sym j.held) (both-less_right old.held given.held) }

pub joined-least : (head : Bool) (argument : ℕ) (old given new all : Row) → IsRowJoined head argument old given new
    → (head ≡ true → (r : ℕ) → r < 32 → IsHeadRange argument (range_of all r)) → IsBelow old all → IsBelow given all → IsBelow new all
joined-least head argument old given new all j headed p q =
    record {
      ranges = λ r within. (j.ranges r within).least (range_of all r) (λ e. headed e r within) (p.ranges r within) (q.ranges r within);
      locks = subst (HoldsLess all.held) (sym j.held)
          (record { among = λ k e. holds-both old.held given.held k ∙ and_from (is_held old.held k) (is_held given.held k) (p.locks.among k e) (q.locks.among k e) });
    }

-- ---- room

-- two lists of ranges of which the second are wider
record AreWider (xs ys : List Range) : Type 0 where
  count : length xs ≡ length ys
  each : (k : ℕ) → k < length xs → LiesWithin (slice_index_or xs k (one 0)) (slice_index_or ys k (one 0))
  ranges : (k : ℕ) → k < length xs → IsRange (slice_index_or xs k (one 0)) × IsRange (slice_index_or ys k (one 0))

wider-tail : (x y : Range) (xs ys : List Range) → AreWider (x ∷ xs) (y ∷ ys) → AreWider xs ys
wider-tail x y xs ys h =
    let count = h.count in
    record { count = omega arith; each = λ k l. h.each (suc k) (omega arith); ranges = λ k l. h.ranges (suc k) (omega arith) }

wider-room : (xs ys : List Range) → AreWider xs ys → sum_by range_room ys ≤ sum_by range_room xs
wider-room [] [] h = omega arith
wider-room [] (y ∷ ys) h = let e = h.count in absurd (omega arith)
wider-room (x ∷ xs) [] h = let e = h.count in absurd (omega arith)
wider-room (x ∷ xs) (y ∷ ys) h =
    let rest = wider-room xs ys (wider-tail x y xs ys h) in
    let here : LiesWithin x y = h.each 0 (omega arith) in
    let sound : IsRange x × IsRange y = h.ranges 0 (omega arith) in
    let one' = sound.0 in
    let two = sound.1 in
    let sum_x = sum_by-cons range_room x xs in
    let sum_y = sum_by-cons range_room y ys in
    omega arith

wider-same : (xs ys : List Range) → AreWider xs ys → sum_by range_room xs ≤ sum_by range_room ys → xs ≡ ys
wider-same [] [] h l = refl
wider-same [] (y ∷ ys) h l = let e = h.count in absurd (omega arith)
wider-same (x ∷ xs) [] h l = let e = h.count in absurd (omega arith)
wider-same (x ∷ xs) (y ∷ ys) h l =
    let tail = wider-tail x y xs ys h in
    let more = wider-room xs ys tail in
    let here : LiesWithin x y = h.each 0 (omega arith) in
    let sound : IsRange x × IsRange y = h.ranges 0 (omega arith) in
    let one' = sound.0 in
    let two = sound.1 in
    let sum_x = sum_by-cons range_room x xs in
    let sum_y = sum_by-cons range_room y ys in
    let rest = wider-same xs ys tail (omega arith) in
    let head : x ≡ y = same_range x y (omega arith) (omega arith) in
    cc

rows-wider : (old new : Row) → IsRow old → IsRow new → IsBelow old new → AreWider old.ranges new.ranges
rows-wider old new ho hn h =
    let one' = ho.count in
    let two = hn.count in
    record {
      count = omega arith;
      each = λ k l. h.ranges k (omega arith);
      ranges = λ k l. (ho.each k (omega arith), hn.each k (omega arith));
    }

-- a row that grows has less room
pub grown-room : (old new : Row) → IsRow old → IsRow new → IsBelow old new → new.held ≤ old.held → old ≢ new → row_room new < row_room old
grown-room old new ho hn h held apart =
    ⊎_elim
    (λ (less : row_room new < row_room old). less)
    (λ (more : row_room old ≤ row_room new).
    let wide = rows-wider old new ho hn h in
    let ranges = wider-room old.ranges new.ranges wide in
    let same = wider-same old.ranges new.ranges wide (omega arith) in
    absurd (apart (same_row old new same (omega arith))))
    (cases_lt (row_room new) (row_room old))

-- a row has less room than a word that isn't reached
ranges-room : (xs : List Range) → ((k : ℕ) → k < length xs → IsRange (slice_index_or xs k (one 0))) → sum_by range_room xs ≤ length xs * 4294967295
ranges-room [] h = omega arith
ranges-room (x ∷ xs) h =
    let rest = ranges-room xs (λ k l. h (suc k) (omega arith)) in
    let here : IsRange x = h 0 (omega arith) in
    let sum = sum_by-cons range_room x xs in
    omega arith

pub row-room : (row : Row) → IsRow row → row_room row < room_of None
row-room row h =
    let count = h.count in
    let held = h.held in
    let all = ranges-room row.ranges (λ k l. h.each k (omega arith)) in
    omega arith
