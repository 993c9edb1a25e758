-- Regions that lie one behind the other, and the regions of which a set has a word.
use Rattle.std.proofs.Common.{◌≡◌, ◌↔◌, ℕ, zero, suc, ◌+◌, ◌<◌, ◌≤◌, ◌&&◌, ◌||◌, Bool, true, false, IsTrue, Some, None, List, [], ◌∷◌, length, get_or, drop, take, leb, ltb, refl, sym, ap, ◌∙◌, arith, ⊎_elim}
use Rattle.std.specs.List.{All, find}
use Rattle.std.proofs.lemmas.Bool.{cases_lt, lt-ltb, le-ltb, le-leb, ltb-true, leb-true, and_parts, and_left, and_right, and_from, or_cases, or_from, or_left, or_right}
use Rattle.std.proofs.lemmas.List.{drop_more}
use Rattle.std.proofs.lemmas.List.Elements.{All-nil, All-cons, All-head, All-weaker}
use Rattle.std.proofs.lemmas.List.Folds.{Any-from_list_any, list_any-from_Any, list_any_more}
use Rattle.region_table.specs.declared.interval.Interval.{Interval}
use Rattle.region_table.specs.declared.declared.Region.{Region}
use Rattle.region_table.specs.declared.declared.Phase.{Phase}
use Rattle.region_table.specs.Words.{in_interval, has, AreApart, IsCanonical}
use Rattle.region_table.specs.Program.{AreTiled}
use Rattle.region_table.specs.Plan.{in_region, phase_writes, IsInTouchedRegion}
use Rattle.region_table.specs.Overlap.{overlaps, in_overlapped}
use Rattle.region_table.proofs.WordLemmas.{in_interval-true}
use Rattle.region_table.proofs.MergeLemmas.{RisesTo, rises_on}

and_true : (x y : Bool) → (x || (y && true)) ≡ (x || y)
and_true true y = refl
and_true false true = refl
and_true false false = refl

and_false : (x y : Bool) → (x || (y && false)) ≡ x
and_false true y = refl
and_false false true = refl
and_false false false = refl

-- tiled regions begin at `from` or later
pub regions_from : (from : ℕ) (rs : List Region) (end : ℕ) → AreTiled from rs end → All (λ (r : Region). from ≤ r.start) rs
regions_from from [] end t = All-nil (λ (r : Region). from ≤ r.start)
regions_from from (r ∷ rs) end t =
    All-cons (λ (r : Region). from ≤ r.start) r rs (omega arith)
    (All-weaker (λ (s : Region). r.start + r.len ≤ s.start) (λ (s : Region). from ≤ s.start) (λ s h. omega arith) rs (regions_from (r.start + r.len) rs end t.2))

-- what is left of tiled regions is tiled from some word on
pub AreTiled-drop : (k from : ℕ) (rs : List Region) (end : ℕ) → AreTiled from rs end → (at' : ℕ) × AreTiled at' (drop k rs) end
AreTiled-drop zero from rs end t = (from, t)
AreTiled-drop (suc k) from [] end t = (from, t)
AreTiled-drop (suc k) from (r ∷ rs) end t = AreTiled-drop k (r.start + r.len) rs end t.2

-- tiled regions end within the whole
tiled-ends : (from : ℕ) (rs : List Region) (end : ℕ) → AreTiled from rs end → from ≤ end
tiled-ends from [] end t = omega arith
tiled-ends from (r ∷ rs) end t = let e = tiled-ends (r.start + r.len) rs end t.2 in omega arith

-- each of tiled regions has a word, and lies before the end
pub regions-within : (from : ℕ) (rs : List Region) (end : ℕ) → AreTiled from rs end → All (λ (r : Region). (0 < r.len) × (r.start + r.len ≤ end)) rs
regions-within from [] end t = All-nil (λ (r : Region). (0 < r.len) × (r.start + r.len ≤ end))
regions-within from (r ∷ rs) end t =
    All-cons (λ (r : Region). (0 < r.len) × (r.start + r.len ≤ end)) r rs (t.1, tiled-ends (r.start + r.len) rs end t.2) (regions-within (r.start + r.len) rs end t.2)

-- the regions behind a region begin no earlier than it
pub regions_behind : (k : ℕ) (rs : List Region) (end : ℕ) (r : Region) → AreTiled 0 rs end → k < length rs → r ≡ get_or rs k r → All (λ (s : Region). r.start ≤ s.start) (drop (k + 1) rs)
regions_behind k rs end r t l e =
    let left = AreTiled-drop k 0 rs end t in
    let split : AreTiled left.0 (get_or rs k r ∷ drop (k + 1) rs) end = rw (drop_more rs k r l) at left.1 in
    let first : AreTiled left.0 (r ∷ drop (k + 1) rs) end = rw (sym e) at split in
    All-weaker (λ (s : Region). r.start + r.len ≤ s.start) (λ (s : Region). r.start ≤ s.start) (λ s h. omega arith) (drop (k + 1) rs) (regions_from (r.start + r.len) (drop (k + 1) rs) end first.2)

-- region number `k` has a word, and lies before the end
pub region-fits : (k : ℕ) (rs : List Region) (end : ℕ) (r : Region) → AreTiled 0 rs end → k < length rs → r ≡ get_or rs k r → (0 < r.len) × (r.start + r.len ≤ end)
region-fits k rs end r t l e =
    let found : (0 < (get_or rs k r).len) × ((get_or rs k r).start + (get_or rs k r).len ≤ end) = regions-within 0 rs end t k r l in rw (sym e) at found

-- no interval that begins at the region's end or later overlaps it
overlaps-behind : (from : ℕ) (set : List Interval) (r : Region) → AreApart from set → r.start + r.len ≤ from → overlaps set r ≡ false
overlaps-behind from [] r a l = refl
overlaps-behind from (i ∷ is) r a l =
    or_from _ _ (and_left _ _ (le-ltb i.lo (r.start + r.len) (omega arith))) (overlaps-behind (i.hi + 1) is r a.2 (omega arith))

overlaps-past : (i : Interval) (is : List Interval) (r : Region) → i.hi ≤ r.start → overlaps (i ∷ is) r ≡ overlaps is r
overlaps-past i is r l = rw (and_right (ltb i.lo (r.start + r.len)) (ltb r.start i.hi) (le-ltb r.start i.hi l)) refl

overlaps-first : (i : Interval) (is : List Interval) (r : Region) → AreApart (i.hi + 1) is → r.start < i.hi → i.lo < i.hi → ltb i.lo (r.start + r.len) ≡ overlaps (i ∷ is) r
overlaps-first i is r a l m =
    ⊎_elim
    (λ (n : i.lo < r.start + r.len). rw (lt-ltb i.lo (r.start + r.len) n, lt-ltb r.start i.hi l) refl)
    (λ (n : r.start + r.len ≤ i.lo). rw (le-ltb i.lo (r.start + r.len) n, overlaps-behind (i.hi + 1) is r a (omega arith)) refl)
    (cases_lt i.lo (r.start + r.len))

-- the set overlaps a region exactly if the first interval that ends behind the region's start begins before its end
pub overlaps-found : (from : ℕ) (set : List Interval) (r : Region) (f : Interval) → AreApart from set → find (λ (i : Interval). ltb r.start i.hi) set ≡ Some f → ltb f.lo (r.start + r.len) ≡ overlaps set r
overlaps-found from [] r f a e = absurd cc
overlaps-found from (i ∷ is) r f a e =
    ⊎_elim
    (λ (l : r.start < i.hi).
    let t : Some i ≡ Some f = rw (lt-ltb r.start i.hi l) at e in
    let s : i ≡ f = cc in
    let first : ltb i.lo (r.start + r.len) ≡ overlaps (i ∷ is) r = overlaps-first i is r a.2 l a.1 in
    ap (λ (x : Interval). ltb x.lo (r.start + r.len)) (sym s) ∙ first)
    (λ (l : i.hi ≤ r.start).
    let rest : ltb f.lo (r.start + r.len) ≡ overlaps is r = overlaps-found (i.hi + 1) is r f a.2 (rw (le-ltb r.start i.hi l) at e) in
    rest ∙ sym (overlaps-past i is r l))
    (cases_lt r.start i.hi)

-- the set overlaps no region that begins where all its intervals have ended
pub overlaps-missing : (set : List Interval) (r : Region) → find (λ (i : Interval). ltb r.start i.hi) set ≡ None → overlaps set r ≡ false
overlaps-missing [] r e = refl
overlaps-missing (i ∷ is) r e =
    ⊎_elim
    (λ (l : r.start < i.hi). let t : Some i ≡ None = rw (lt-ltb r.start i.hi l) at e in absurd cc)
    (λ (l : i.hi ≤ r.start). overlaps-past i is r l ∙ overlaps-missing is r (rw (le-ltb r.start i.hi l) at e))
    (cases_lt r.start i.hi)

in_region-true : (r : Region) (v : ℕ) → r.start ≤ v → v < r.start + r.len → in_region r v ≡ true
in_region-true r v l h = and_from _ _ (le-leb r.start v l) (lt-ltb v (r.start + r.len) h)

word_of-first : (i : Interval) (is : List Interval) (r : Region) → i.lo < i.hi → 0 < r.len → i.lo < r.start + r.len → r.start < i.hi → (v : ℕ) × IsTrue (in_region r v) × IsTrue (has (i ∷ is) v)
word_of-first i is r m p l h =
    ⊎_elim
    (λ (n : i.lo < r.start).
    let found : (v : ℕ) × IsTrue (in_region r v) × IsTrue (has (i ∷ is) v) = (r.start, in_region-true r r.start (omega arith) (omega arith), or_left _ _ (in_interval-true i r.start (omega arith) h)) in found)
    (λ (n : r.start ≤ i.lo).
    let found : (v : ℕ) × IsTrue (in_region r v) × IsTrue (has (i ∷ is) v) = (i.lo, in_region-true r i.lo n l, or_left _ _ (in_interval-true i i.lo (omega arith) m)) in found)
    (cases_lt i.lo r.start)

-- a set that overlaps a region has one of its words
pub word_of-overlap : (from : ℕ) (set : List Interval) (r : Region) → AreApart from set → 0 < r.len → overlaps set r ≡ true → (v : ℕ) × IsTrue (in_region r v) × IsTrue (has set v)
word_of-overlap from [] r a p o = absurd cc
word_of-overlap from (i ∷ is) r a p o =
    ⊎_elim
    (λ (h : (ltb i.lo (r.start + r.len) && ltb r.start i.hi) ≡ true).
    let both = and_parts _ _ h in
    word_of-first i is r a.1 p (ltb-true _ _ both.0) (ltb-true _ _ both.1))
    (λ (h : overlaps is r ≡ true).
    let w = word_of-overlap (i.hi + 1) is r a.2 p h in (w.0, w.1, or_right _ _ w.2))
    (or_cases (ltb i.lo (r.start + r.len) && ltb r.start i.hi) (overlaps is r) o)

-- a set that has a word of a region overlaps it
pub overlap-from_word : (set : List Interval) (r : Region) (v : ℕ) → IsTrue (in_region r v) → IsTrue (has set v) → overlaps set r ≡ true
overlap-from_word [] r v m h = absurd cc
overlap-from_word (i ∷ is) r v m h =
    let both = and_parts (leb r.start v) (ltb v (r.start + r.len)) m in
    let low = leb-true _ _ both.0 in
    let high = ltb-true _ _ both.1 in
    ⊎_elim
    (λ (e : in_interval i v ≡ true).
    let parts = and_parts (leb i.lo v) (ltb v i.hi) e in
    let l = leb-true _ _ parts.0 in
    let n = ltb-true _ _ parts.1 in
    or_left _ _ (and_from _ _ (lt-ltb i.lo (r.start + r.len) (omega arith)) (lt-ltb r.start i.hi (omega arith))))
    (λ (e : has is v ≡ true). or_right _ _ (overlap-from_word is r v m e))
    (or_cases (in_interval i v) (has is v) h)

-- a word in an overlapped region is written
written-from_overlapped : (regions : List Region) (end : ℕ) (p : Phase) (set : List Interval) (w : ℕ) → AreTiled 0 regions end → IsCanonical set
    → ((v : ℕ) → has set v ≡ phase_writes p v) → in_overlapped regions set w ≡ true → IsInTouchedRegion regions p w
written-from_overlapped regions end p set w t c same h =
    let some = Any-from_list_any (λ (r : Region). in_region r w && overlaps set r) regions h in
    let r : Region = some.1 in
    let parts = and_parts (in_region r w) (overlaps set r) some.4 in
    let fits = region-fits some.0 regions end r t some.2 (sym some.3) in
    let word = word_of-overlap 0 set r c fits.0 parts.1 in
    (some.0, r, some.2, some.3, (parts.0, (word.0, word.1, sym (same word.0) ∙ word.2)))

-- a written word is in an overlapped region
overlapped-from_written : (regions : List Region) (p : Phase) (set : List Interval) (w : ℕ) → ((v : ℕ) → has set v ≡ phase_writes p v) → IsInTouchedRegion regions p w → in_overlapped regions set w ≡ true
overlapped-from_written regions p set w same h =
    let r : Region = h.1 in
    let word = h.4.1 in
    list_any-from_Any (λ (r : Region). in_region r w && overlaps set r) regions
    (h.0, r, h.2, h.3, and_from (in_region r w) (overlaps set r) h.4.0 (overlap-from_word set r word.0 word.1 (same word.0 ∙ word.2)))

-- the words of the regions that the written words overlap are the words that a plan says are written
pub written-overlapped : (regions : List Region) (end : ℕ) (p : Phase) (set : List Interval) (w : ℕ) → AreTiled 0 regions end → IsCanonical set
    → ((v : ℕ) → has set v ≡ phase_writes p v) → IsTrue (in_overlapped regions set w) ↔ IsInTouchedRegion regions p w
written-overlapped regions end p set w t c same =
    (written-from_overlapped regions end p set w t c same, overlapped-from_written regions p set w same)

-- every interval of what is done begins no later than each region that is left
abbrev pub RegionsFollow : List Interval → List Region → Type 0
RegionsFollow done rest = All (λ (r : Region). RisesTo done r.start) rest

-- the regions before number `k` are spread into `done`
pub record Spreads (regions : List Region) (set : List Interval) (k : ℕ) (done : List Interval) : Type 0 where
  pub canonical : IsCanonical done
  pub follows : RegionsFollow done (drop k regions)
  pub words : (w : ℕ) → has done w ≡ in_overlapped (take k regions) set w

-- at the start nothing is spread
pub spreads-none : (regions : List Region) (set : List Interval) → Spreads regions set 0 []
spreads-none regions set = record {
  canonical = tt;
  follows = λ k d l. All-nil (λ (i : Interval). i.lo ≤ (get_or regions k d).start);
  words = λ w. refl;
}

-- what is done rises to the next region
pub region-rises : (regions : List Region) (k : ℕ) (done : List Interval) (r : Region) → RegionsFollow done (drop k regions) → k < length regions → r ≡ get_or regions k r → RisesTo done r.start
region-rises regions k done r f l e =
    let split : RegionsFollow done (get_or regions k r ∷ drop (k + 1) regions) = rw (drop_more regions k r l) at f in
    let first : RisesTo done (get_or regions k r).start = All-head (λ (r : Region). RisesTo done r.start) (get_or regions k r) (drop (k + 1) regions) split in
    rw (sym e) at first

-- what rises to a region is followed by the regions behind it
pub regions_follow : (regions : List Region) (end : ℕ) (k : ℕ) (done : List Interval) (r : Region) → AreTiled 0 regions end → RisesTo done r.start → k < length regions → r ≡ get_or regions k r → RegionsFollow done (drop (k + 1) regions)
regions_follow regions end k done r t rises l e =
    All-weaker (λ (s : Region). r.start ≤ s.start) (λ (s : Region). RisesTo done s.start) (λ s h. rises_on done r.start s.start h rises) (drop (k + 1) regions) (regions_behind k regions end r t l e)

-- one region more
overlapped_more : (regions : List Region) (set : List Interval) (k w : ℕ) (r : Region) → k < length regions → r ≡ get_or regions k r → in_overlapped (take (k + 1) regions) set w ≡ (in_overlapped (take k regions) set w || (in_region r w && overlaps set r))
overlapped_more regions set k w r l e =
    let more = list_any_more (λ (r : Region). in_region r w && overlaps set r) regions k r l in
    more ∙ ap (λ (s : Region). in_overlapped (take k regions) set w || (in_region s w && overlaps set s)) (sym e)

-- a region that the set overlaps is added
pub spreads-joined : (regions : List Region) (end : ℕ) (set : List Interval) (k : ℕ) (done more : List Interval) (r : Region) → AreTiled 0 regions end → k < length regions → r ≡ get_or regions k r
    → Spreads regions set k done → overlaps set r ≡ true
    → IsCanonical more → RisesTo more r.start → ((w : ℕ) → has more w ≡ (has done w || in_interval (record { lo = r.start; hi = r.start + r.len }) w))
    → Spreads regions set (k + 1) more
spreads-joined regions end set k done more r t l e s o canonical rises words = record {
  canonical = canonical;
  follows = regions_follow regions end k more r t rises l e;
  words = λ w. words w ∙ (rw (s.words w) (sym (overlapped_more regions set k w r l e ∙ rw o (and_true (in_overlapped (take k regions) set w) (in_region r w)))));
}

-- a region that the set doesn't overlap is passed
pub spreads-passed : (regions : List Region) (end : ℕ) (set : List Interval) (k : ℕ) (done : List Interval) (r : Region) → AreTiled 0 regions end → k < length regions → r ≡ get_or regions k r
    → Spreads regions set k done → overlaps set r ≡ false → Spreads regions set (k + 1) done
spreads-passed regions end set k done r t l e s o = record {
  canonical = s.canonical;
  follows = regions_follow regions end k done r t (region-rises regions k done r s.follows l e) l e;
  words = λ w. s.words w ∙ sym (overlapped_more regions set k w r l e ∙ rw o (and_false (in_overlapped (take k regions) set w) (in_region r w)));
}
