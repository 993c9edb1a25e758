use Rattle.std.proofs.Common.{◌≡◌, ◌↔◌, ◌⊎◌, IsTrue, ℕ, zero, suc, ◌+◌, ◌<◌, ◌≤◌, ◌||◌, ◌++◌, drop, true, false, leb, ltb, Some, None, List, [], ◌∷◌, length, get_or, refl, sym, ◌∙◌, arith, ⊎_elim}
use Rattle.std.specs.List.{All, AllWithin, find}
use Rattle.std.proofs.lemmas.Bool.{lt-leb, le-ltb, le-leb, lt-ltb, leb-false, leb-true, or_from, or_right, or_left, or_cases, and_parts, ltb-true, and_left, and_right, cases_lt, cases_order, both_ways}
use Rattle.std.proofs.lemmas.List.Elements.{All-nil, All-cons, All-head, All-tail}
use Rattle.region_table.specs.declared.interval.Interval.{Interval}
use Rattle.region_table.specs.Words.{in_interval, has, AreApart, IsCanonical, IsUnion}

-- a word is in an interval
pub in_interval-true : (i : Interval) (w : ℕ) → i.lo ≤ w → w < i.hi → in_interval i w ≡ true
in_interval-true i w l h = rw (le-leb i.lo w l, lt-ltb w i.hi h) refl

-- a word before an interval isn't in it
pub in_interval-below : (i : Interval) (w : ℕ) → w < i.lo → in_interval i w ≡ false
in_interval-below i w h = and_left _ _ (lt-leb i.lo w h)

-- a word behind an interval isn't in it
pub in_interval-past : (i : Interval) (w : ℕ) → i.hi ≤ w → in_interval i w ≡ false
in_interval-past i w h = and_right _ _ (le-ltb w i.hi h)

-- no word before the start of separated intervals is in them
pub has-below : (from : ℕ) (is : List Interval) (w : ℕ) → AreApart from is → w < from → has is w ≡ false
has-below from [] w a h = refl
has-below from (i ∷ is) w a h =
    or_from _ _ (in_interval-below i w (omega arith)) (has-below (i.hi + 1) is w a.2 (omega arith))

-- separated intervals begin at any earlier word too
pub AreApart-earlier : (from to : ℕ) (is : List Interval) → from ≤ to → AreApart to is → AreApart from is
AreApart-earlier from to [] l a = tt
AreApart-earlier from to (i ∷ is) l a = (omega arith, a.1, a.2)

-- an interval ends behind the start of the list
pub end_past : (from : ℕ) (is : List Interval) → AreApart from is → (k : ℕ) (d : Interval) → k < length is → from < (get_or is k d).hi
end_past from [] a k d h = omega arith
end_past from (i ∷ is) a zero d h = omega arith
end_past from (i ∷ is) a (suc k) d h = let e = end_past (i.hi + 1) is a.2 k d (omega arith) in omega arith

-- the ends rise
pub ends_rise : (from : ℕ) (is : List Interval) → AreApart from is → (k j : ℕ) (d : Interval) → k ≤ j → j < length is → (get_or is k d).hi ≤ (get_or is j d).hi
ends_rise from [] a k j d l h = omega arith
ends_rise from (i ∷ is) a zero zero d l h = omega arith
ends_rise from (i ∷ is) a zero (suc j) d l h = let e = end_past (i.hi + 1) is a.2 j d (omega arith) in omega arith
ends_rise from (i ∷ is) a (suc k) zero d l h = absurd (omega arith)
ends_rise from (i ∷ is) a (suc k) (suc j) d l h = ends_rise (i.hi + 1) is a.2 k j d (omega arith) (omega arith)

-- the first interval that ends behind a word stands where a halving search finds it
pub find-at : (is : List Interval) (w p : ℕ) (d : Interval) → p < length is → AllWithin (λ (i : Interval). leb i.hi w ≡ true) is 0 p → leb (get_or is p d).hi w ≡ false
    → find (λ (i : Interval). ltb w i.hi) is ≡ Some (get_or is p d)
find-at [] w p d l before at = absurd (omega arith)
find-at (i ∷ is) w zero d l before at = rw (lt-ltb w i.hi (leb-false i.hi w at)) refl
find-at (i ∷ is) w (suc p) d l before at =
    let b = leb-true i.hi w (before 0 d (omega arith) (omega arith)) in
    rw (le-ltb w i.hi b) (find-at is w p d (omega arith) (λ k e m n. before (suc k) e (omega arith) (omega arith)) at)

-- there is none where all intervals end at or before the word
pub find-past : (is : List Interval) (w : ℕ) → AllWithin (λ (i : Interval). leb i.hi w ≡ true) is 0 (length is) → find (λ (i : Interval). ltb w i.hi) is ≡ None
find-past [] w before = refl
find-past (i ∷ is) w before =
    let b = leb-true i.hi w (before 0 i (omega arith) (omega arith)) in
    rw (le-ltb w i.hi b) (find-past is w (λ k e m n. before (suc k) e (omega arith) (omega arith)))

-- a word is in the list exactly if it isn't before the first interval that ends behind it
pub has-found : (from : ℕ) (is : List Interval) (w : ℕ) (f : Interval) → AreApart from is → find (λ (i : Interval). ltb w i.hi) is ≡ Some f → leb f.lo w ≡ has is w
has-found from [] w f a e = absurd cc
has-found from (i ∷ is) w f a e =
    ⊎_elim
    (λ l. let t : Some i ≡ Some f = rw (lt-ltb w i.hi l) at e in let s : i ≡ f = cc in
    rw (← s, lt-ltb w i.hi l, has-below (i.hi + 1) is w a.2 (omega arith)) (grind arith))
    (λ l. rw (in_interval-past i w l) (has-found (i.hi + 1) is w f a.2 (rw (le-ltb w i.hi l) at e)))
    (cases_lt w i.hi)

-- a word is in no interval where none ends behind it
pub has-missing : (is : List Interval) (w : ℕ) → find (λ (i : Interval). ltb w i.hi) is ≡ None → has is w ≡ false
has-missing [] w e = refl
has-missing (i ∷ is) w e =
    ⊎_elim
    (λ l. let t : Some i ≡ None = rw (lt-ltb w i.hi l) at e in absurd cc)
    (λ l. rw (in_interval-past i w l) (has-missing is w (rw (le-ltb w i.hi l) at e)))
    (cases_lt w i.hi)

-- the interval from `lo` to before `hi` is the record of the two
interval-same : (i j : Interval) → i.lo ≡ j.lo → i.hi ≡ j.hi → i ≡ j
interval-same i j l h =
    let e : record { lo = i.lo; hi = i.hi } ≡ j = rw (l, h) refl in e

no_word_first : (from : ℕ) (i : Interval) (is : List Interval) (j : Interval) (js : List Interval) → AreApart from (i ∷ is) → AreApart from (j ∷ js) → ((w : ℕ) → has (i ∷ is) w ≡ has (j ∷ js) w) → i.lo < j.lo → ⊥
no_word_first from i is j js a b e l =
    both_ways (has (i ∷ is) i.lo) (e i.lo ∙ has-below j.lo (j ∷ js) i.lo (omega arith, b.1, b.2) l) (rw (in_interval-true i i.lo (omega arith) a.1) refl)

no_word_last : (from : ℕ) (i : Interval) (is : List Interval) (j : Interval) (js : List Interval) → AreApart from (i ∷ is) → AreApart from (j ∷ js) → ((w : ℕ) → has (i ∷ is) w ≡ has (j ∷ js) w) → i.lo ≡ j.lo → i.hi < j.hi → ⊥
no_word_last from i is j js a b e s l =
    both_ways (has (i ∷ is) i.hi) (or_from _ _ (in_interval-past i i.hi (omega arith)) (has-below (i.hi + 1) is i.hi a.2 (omega arith))) (e i.hi ∙ rw (in_interval-true j i.hi (omega arith) l) refl)

same_rest : (i : Interval) (is : List Interval) (j : Interval) (js : List Interval) → AreApart (i.hi + 1) is → AreApart (j.hi + 1) js → i.hi ≡ j.hi → ((w : ℕ) → has (i ∷ is) w ≡ has (j ∷ js) w) → (w : ℕ) → has is w ≡ has js w
same_rest i is j js a b h e w =
    ⊎_elim
    (λ l. has-below (i.hi + 1) is w a (omega arith) ∙ sym (has-below (j.hi + 1) js w b (omega arith)))
    (λ l. rw (in_interval-past i w l, in_interval-past j w (omega arith)) at (e w))
    (cases_lt w i.hi)

-- two lists of separated intervals with the same words are equal
pub same_words : (from : ℕ) (is js : List Interval) → AreApart from is → AreApart from js → ((w : ℕ) → has is w ≡ has js w) → is ≡ js
same_words from [] [] a b e = refl
same_words from [] (j ∷ js) a b e = absurd (both_ways (has (j ∷ js) j.lo) (sym (e j.lo)) (rw (in_interval-true j j.lo (omega arith) b.1) refl))
same_words from (i ∷ is) [] a b e = absurd (both_ways (has (i ∷ is) i.lo) (e i.lo) (rw (in_interval-true i i.lo (omega arith) a.1) refl))
same_words from (i ∷ is) (j ∷ js) a b e =
    let lows : i.lo ≡ j.lo = ⊎_elim (λ s. s) (λ o. absurd (⊎_elim (no_word_first from i is j js a b e) (no_word_first from j js i is b a (λ w. sym (e w))) o)) (cases_order i.lo j.lo) in
    let highs : i.hi ≡ j.hi = ⊎_elim (λ s. s) (λ o. absurd (⊎_elim (no_word_last from i is j js a b e lows) (no_word_last from j js i is b a (λ w. sym (e w)) (sym lows)) o)) (cases_order i.hi j.hi) in
    let rest : is ≡ js = same_words (i.hi + 1) is js a.2 (rw highs b.2) (same_rest i is j js a.2 b.2 highs e) in
    rw (interval-same i j lows highs, rest) refl

-- the words of two lists, one behind the other
pub has-append : (is js : List Interval) (w : ℕ) → has (is ++ js) w ≡ (has is w || has js w)
has-append [] js w = refl
has-append (i ∷ is) js w = rw (has-append is js w) (grind arith)

-- what is left of separated intervals is separated
pub AreApart-drop : (k from : ℕ) (is : List Interval) → AreApart from is → AreApart from (drop k is)
AreApart-drop zero from is a = a
AreApart-drop (suc k) from [] a = a
AreApart-drop (suc k) from (i ∷ is) a = AreApart-drop k from is (AreApart-earlier from (i.hi + 1) is (omega arith) a.2)

-- a word of what is left of a list is a word of the list
pub has-drop : (k : ℕ) (is : List Interval) (w : ℕ) → has (drop k is) w ≡ true → has is w ≡ true
has-drop zero is w h = h
has-drop (suc k) [] w h = h
has-drop (suc k) (i ∷ is) w h = or_right _ _ (has-drop k is w h)

-- all separated intervals begin at `from` or later
pub starts_from : (from : ℕ) (is : List Interval) → AreApart from is → All (λ (i : Interval). from ≤ i.lo) is
starts_from from [] a = All-nil (λ (i : Interval). from ≤ i.lo)
starts_from from (i ∷ is) a =
    All-cons (λ (i : Interval). from ≤ i.lo) i is a.0
    (starts_from from is (AreApart-earlier from (i.hi + 1) is (omega arith) a.2))

-- an interval behind separated ones, which touches none of them
pub AreApart-push : (from : ℕ) (is : List Interval) (i : Interval) → AreApart from is → from ≤ i.lo → i.lo < i.hi → All (λ (j : Interval). j.hi < i.lo) is → AreApart from (is ++ i ∷ [])
AreApart-push from [] i a l m h = (l, m, tt)
AreApart-push from (j ∷ is) i a l m h =
    let e : j.hi < i.lo = All-head (λ (j : Interval). j.hi < i.lo) j is h in
    (a.0, a.1, AreApart-push (j.hi + 1) is i a.2 (omega arith) m (All-tail (λ (j : Interval). j.hi < i.lo) j is h))

-- what it means that the last of separated intervals is `i`
pub AreApart-last : (from : ℕ) (is : List Interval) (i : Interval) → AreApart from (is ++ i ∷ []) → (AreApart from is) × (from ≤ i.lo) × (i.lo < i.hi) × All (λ (j : Interval). j.hi < i.lo) is
AreApart-last from [] i a = (tt, a.0, a.1, All-nil (λ (j : Interval). j.hi < i.lo))
AreApart-last from (j ∷ is) i a =
    let r = AreApart-last (j.hi + 1) is i a.2 in
    ((a.0, a.1, r.0), omega arith, r.2, All-cons (λ (j : Interval). j.hi < i.lo) j is (omega arith) r.3)

-- an interval that begins within another and ends behind it makes one with it
pub in_interval-joined : (i j : Interval) (w : ℕ) → i.lo ≤ j.lo → j.lo ≤ i.hi → i.hi < j.hi → in_interval (record { lo = i.lo; hi = j.hi }) w ≡ (in_interval i w || in_interval j w)
in_interval-joined i j w a b c =
    let k : Interval = record { lo = i.lo; hi = j.hi } in
    ⊎_elim
    (λ (l : w < i.lo). rw (in_interval-below k w l, in_interval-below i w l, in_interval-below j w (omega arith)) refl)
    (λ (l : i.lo ≤ w). ⊎_elim
    (λ (m : w < i.hi). rw (in_interval-true k w l (omega arith), in_interval-true i w l m) refl)
    (λ (m : i.hi ≤ w). ⊎_elim
    (λ (n : w < j.hi). rw (in_interval-true k w l n, in_interval-past i w m, in_interval-true j w (omega arith) n) refl)
    (λ (n : j.hi ≤ w). rw (in_interval-past k w n, in_interval-past i w m, in_interval-past j w n) refl)
    (cases_lt w j.hi))
    (cases_lt w i.hi))
    (cases_lt w i.lo)

-- an interval within another adds no words
pub in_interval-covered : (i j : Interval) (w : ℕ) → i.lo ≤ j.lo → j.hi ≤ i.hi → in_interval i w ≡ (in_interval i w || in_interval j w)
in_interval-covered i j w a b =
    ⊎_elim
    (λ (l : w < i.lo). rw (in_interval-below i w l, in_interval-below j w (omega arith)) refl)
    (λ (l : i.lo ≤ w). ⊎_elim
    (λ (m : w < i.hi). rw (in_interval-true i w l m) refl)
    (λ (m : i.hi ≤ w). rw (in_interval-past i w m, in_interval-past j w (omega arith)) refl)
    (cases_lt w i.hi))
    (cases_lt w i.lo)

-- the words of a range are those from `lo` to before `hi`
pub has-range : (lo hi w : ℕ) → IsTrue (has (record { lo = lo; hi = hi } ∷ []) w) ↔ ((lo ≤ w) × (w < hi))
has-range lo hi w =
    let i : Interval = record { lo = lo; hi = hi } in (
      λ h. ⊎_elim (λ (e : in_interval i w ≡ true). let b = and_parts (leb lo w) (ltb w hi) e in (leb-true lo w b.0, ltb-true w hi b.1)) (λ (e : false ≡ true). absurd cc) (or_cases (in_interval i w) false h),
      λ b. or_left (in_interval i w) false (in_interval-true i w b.0 b.1),
    )

-- the words of a union come from one of the two
pub has_of-union : (a b all : List Interval) (w : ℕ) → IsUnion a b all → IsTrue (has all w) ↔ (IsTrue (has a w) ⊎ IsTrue (has b w))
has_of-union a b all w u = (
  λ h. or_cases (has a w) (has b w) (sym (u w) ∙ h),
  λ e. u w ∙ ⊎_elim (λ (l : has a w ≡ true). or_left (has a w) (has b w) l) (λ (r : has b w ≡ true). or_right (has a w) (has b w) r) e,
)

-- a canonical list with the words of `a` and those of `b` is the only one
pub union_unique : (a b u v : List Interval) → IsCanonical u → IsCanonical v → IsUnion a b u → IsUnion a b v → u ≡ v
union_unique a b u v cu cv hu hv = same_words 0 u v cu cv (λ w. hu w ∙ sym (hv w))
