-- An interval that begins no earlier than the last of a canonical list is added to it.
use Rattle.std.proofs.Common.{◌≡◌, ℕ, ◌+◌, ◌<◌, ◌≤◌, ◌||◌, ◌++◌, Bool, true, false, Some, List, [], ◌∷◌, length, get_or, take, refl, sym, ap, ◌∙◌, arith}
use Rattle.std.specs.List.{All, list_any}
use Rattle.std.specs.List.Sorted.{IsPermutation, IsNonDecreasingBy}
use Rattle.std.proofs.lemmas.List.{take_more, get_or_default}
use Rattle.std.proofs.lemmas.List.Sorted.{list_any-IsPermutation, All-permutation}
use Rattle.std.proofs.lemmas.List.Elements.{All-push, All-pop, All-weaker}
use Rattle.region_table.specs.declared.interval.Interval.{Interval}
use Rattle.region_table.specs.Words.{in_interval, has, IsCanonical}
use Rattle.region_table.proofs.WordLemmas.{AreApart-push, AreApart-last, has-append, in_interval-joined, in_interval-covered}

or_regroup : (x y z : Bool) → (x || ((y || z) || false)) ≡ ((x || (y || false)) || z)
or_regroup true y z = refl
or_regroup false true z = refl
or_regroup false false true = refl
or_regroup false false false = refl

or_regroup' : (x y : Bool) → (x || (y || false)) ≡ (x || y)
or_regroup' true y = refl
or_regroup' false true = refl
or_regroup' false false = refl

absorbed : (x y z : Bool) → y ≡ (y || z) → (x || (y || false)) ≡ ((x || (y || false)) || z)
absorbed true y z e = refl
absorbed false true z e = refl
absorbed false false z e = e

-- behind the last: the list stays canonical
pub canonical-behind : (init : List Interval) (last next : Interval) → IsCanonical (init ++ last ∷ []) → last.hi < next.lo → next.lo < next.hi → IsCanonical (init ++ last ∷ [] ++ next ∷ [])
canonical-behind init last next a l m =
    let r = AreApart-last 0 init last a in
    let before : All (λ (j : Interval). j.hi < next.lo) init = All-weaker (λ (j : Interval). j.hi < last.lo) (λ (j : Interval). j.hi < next.lo) (λ j h. omega arith) init r.3 in
    AreApart-push 0 (init ++ last ∷ []) next a (omega arith) m (All-push (λ (j : Interval). j.hi < next.lo) init last before l)

-- behind the last: its words are added
pub words-behind : (is : List Interval) (next : Interval) (w : ℕ) → has (is ++ next ∷ []) w ≡ (has is w || in_interval next w)
words-behind is next w = rw (has-append is (next ∷ []) w) (or_regroup' (has is w) (in_interval next w))

-- joined with the last: the list stays canonical
pub canonical-joined : (init : List Interval) (last next : Interval) → IsCanonical (init ++ last ∷ []) → last.hi < next.hi → IsCanonical (init ++ record { lo = last.lo; hi = next.hi } ∷ [])
canonical-joined init last next a l =
    let r = AreApart-last 0 init last a in
    AreApart-push 0 init (record { lo = last.lo; hi = next.hi }) r.0 (omega arith) (omega arith) r.3

-- joined with the last: its words are added
pub words-joined : (init : List Interval) (last next : Interval) (w : ℕ) → last.lo ≤ next.lo → next.lo ≤ last.hi → last.hi < next.hi
    → has (init ++ record { lo = last.lo; hi = next.hi } ∷ []) w ≡ (has (init ++ last ∷ []) w || in_interval next w)
words-joined init last next w a b c =
    rw (has-append init (record { lo = last.lo; hi = next.hi } ∷ []) w, has-append init (last ∷ []) w, in_interval-joined last next w a b c) (or_regroup (has init w) (in_interval last w) (in_interval next w))

-- joined with the last: the list begins no later than the new interval
pub rising-joined : (init : List Interval) (last next : Interval) → All (λ (i : Interval). i.lo ≤ next.lo) (init ++ last ∷ []) → All (λ (i : Interval). i.lo ≤ next.lo) (init ++ record { lo = last.lo; hi = next.hi } ∷ [])
rising-joined init last next a =
    let parts = All-pop (λ (i : Interval). i.lo ≤ next.lo) (init ++ last ∷ []) init (Some last) refl a in
    All-push (λ (i : Interval). i.lo ≤ next.lo) init (record { lo = last.lo; hi = next.hi }) parts.0 parts.1

-- within the last: there is no word to add
pub words-covered : (init : List Interval) (last next : Interval) (w : ℕ) → last.lo ≤ next.lo → next.hi ≤ last.hi
    → has (init ++ last ∷ []) w ≡ (has (init ++ last ∷ []) w || in_interval next w)
words-covered init last next w a b =
    rw (has-append init (last ∷ []) w) (absorbed (has init w) (in_interval last w) (in_interval next w) (in_interval-covered last next w a b))

-- the last of a list begins no later than all may begin
pub last_rises : (init : List Interval) (last next : Interval) → All (λ (i : Interval). i.lo ≤ next.lo) (init ++ last ∷ []) → last.lo ≤ next.lo
last_rises init last next a = (All-pop (λ (i : Interval). i.lo ≤ next.lo) (init ++ last ∷ []) init (Some last) refl a).1

-- every interval of `done` begins no later than those of `rest` from number `k` on
abbrev pub IsBehind : List Interval → List Interval → ℕ → Type 0
IsBehind done rest k = (j : ℕ) (d : Interval) → k ≤ j → j < length rest → All (λ (i : Interval). i.lo ≤ (get_or rest j d).lo) done

pub behind-rises : (done rest : List Interval) (k : ℕ) (d : Interval) → k < length rest → IsBehind done rest k → All (λ (i : Interval). i.lo ≤ (get_or rest k d).lo) done
behind-rises done rest k d l h = h k d (omega arith) l

-- what begins no later than an interval begins no later than those behind it, where they rise
pub behind-more : (done rest : List Interval) (k : ℕ) (d : Interval) → IsNonDecreasingBy (λ (i : Interval). i.lo) rest → k < length rest → All (λ (i : Interval). i.lo ≤ (get_or rest k d).lo) done → IsBehind done rest (k + 1)
behind-more done rest k d rising within h j e l m =
    let same : get_or rest k d ≡ get_or rest k e = get_or_default rest k d e within in
    let up : (get_or rest k e).lo ≤ (get_or rest j e).lo = rising k j e (omega arith) m in
    let f : (get_or rest k d).lo ≡ (get_or rest k e).lo = ap (λ (i : Interval). i.lo) same in
    All-weaker (λ (i : Interval). i.lo ≤ (get_or rest k d).lo) (λ (i : Interval). i.lo ≤ (get_or rest j e).lo) (λ i b. omega arith) done h

-- one interval more
pub has-more : (before after rest : List Interval) (k : ℕ) (d : Interval) (w : ℕ) → k < length rest → ((v : ℕ) → has before v ≡ has (take k rest) v)
    → ((v : ℕ) → has after v ≡ (has before v || in_interval (get_or rest k d) v)) → has after w ≡ has (take (k + 1) rest) w
has-more before after rest k d w l h e =
    e w ∙ rw (h w, take_more rest k d l) (sym (words-behind (take k rest) (get_or rest k d) w))

-- the words of the intervals, as a search among them
has-any : (is : List Interval) (w : ℕ) → has is w ≡ list_any (λ (i : Interval). in_interval i w) is
has-any [] w = refl
has-any (i ∷ is) w = rw (has-any is w) refl

-- intervals in another order have the same words
pub has-permutation : (is js : List Interval) (w : ℕ) → IsPermutation is js → has js w ≡ has is w
has-permutation is js w p = has-any js w ∙ sym (list_any-IsPermutation (λ (i : Interval). in_interval i w) is js p) ∙ sym (has-any is w)

-- and each has a word
pub some-permutation : (is js : List Interval) → IsPermutation is js → All (λ (i : Interval). i.lo < i.hi) is → All (λ (i : Interval). i.lo < i.hi) js
some-permutation is js p a = All-permutation (λ (i : Interval). i.lo < i.hi) is js p a
