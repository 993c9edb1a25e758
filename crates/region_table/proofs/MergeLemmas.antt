-- Two canonical lists are merged: at each step the interval that begins earlier is added to what is done.
use Rattle.std.proofs.Common.{◌≡◌, ℕ, ◌+◌, ◌<◌, ◌≤◌, ◌||◌, Bool, true, false, List, [], ◌∷◌, length, get_or, drop, refl, sym, ◌∙◌, arith, ⊎_elim}
use Rattle.std.specs.List.{All}
use Rattle.std.proofs.lemmas.Bool.{cases_lt}
use Rattle.std.proofs.lemmas.List.{drop_more, drop_all}
use Rattle.std.proofs.lemmas.List.Elements.{All-nil, All-weaker, All-head}
use Rattle.region_table.specs.declared.interval.Interval.{Interval}
use Rattle.region_table.specs.Words.{in_interval, has, AreApart, IsCanonical, IsUnion}
use Rattle.region_table.proofs.WordLemmas.{AreApart-drop, AreApart-earlier, starts_from}

-- every interval of `done` begins no later than word `from`
abbrev pub RisesTo : List Interval → ℕ → Type 0
RisesTo done from = All (λ (i : Interval). i.lo ≤ from) done

-- every interval of `rest` begins no earlier than all of `done`
abbrev pub Follows : List Interval → List Interval → Type 0
Follows done rest = All (λ (n : Interval). RisesTo done n.lo) rest

-- the first `i` intervals of `a` and the first `j` of `b` are merged into `done`
pub record Merges (a b : List Interval) (i j : ℕ) (done : List Interval) : Type 0 where
  pub canonical : IsCanonical done
  pub left : Follows done (drop i a)
  pub right : Follows done (drop j b)
  pub words : (w : ℕ) → (has done w || (has (drop i a) w || has (drop j b) w)) ≡ (has a w || has b w)

or_move : (x y z v : Bool) → (x || ((y || z) || v)) ≡ ((x || y) || (z || v))
or_move true y z v = refl
or_move false true z v = refl
or_move false false z v = refl

or_swap : (x y z : Bool) → (x || (y || z)) ≡ (x || (z || y))
or_swap true y z = refl
or_swap false true true = refl
or_swap false true false = refl
or_swap false false true = refl
or_swap false false false = refl

or_comm : (x y : Bool) → (x || y) ≡ (y || x)
or_comm true true = refl
or_comm true false = refl
or_comm false true = refl
or_comm false false = refl

or_nil : (x : Bool) → x ≡ (x || (false || false))
or_nil true = refl
or_nil false = refl

-- and then to any later word
pub rises_on : (done : List Interval) (from to : ℕ) → from ≤ to → RisesTo done from → RisesTo done to
rises_on done from to l r = All-weaker (λ (i : Interval). i.lo ≤ from) (λ (i : Interval). i.lo ≤ to) (λ i h. omega arith) done r

-- what begins at `from` or later follows what rises to `from`
follows-from : (done rest : List Interval) (from : ℕ) → RisesTo done from → All (λ (i : Interval). from ≤ i.lo) rest → Follows done rest
follows-from done rest from r a = All-weaker (λ (i : Interval). from ≤ i.lo) (λ (n : Interval). RisesTo done n.lo) (λ n h. rises_on done from n.lo h r) rest a

-- the next interval of a canonical list isn't empty
pub next-some : (a : List Interval) (i : ℕ) (d : Interval) → IsCanonical a → i < length a → (get_or a i d).lo < (get_or a i d).hi
next-some a i d c l =
    let rest : AreApart 0 (get_or a i d ∷ drop (i + 1) a) = rw (drop_more a i d l) at (AreApart-drop i 0 a c) in rest.1

-- what is done rises to the next interval
pub next-rises : (done a : List Interval) (i : ℕ) (d : Interval) → Follows done (drop i a) → i < length a → RisesTo done (get_or a i d).lo
next-rises done a i d f l =
    let rest : Follows done (get_or a i d ∷ drop (i + 1) a) = rw (drop_more a i d l) at f in
    All-head (λ (n : Interval). RisesTo done n.lo) (get_or a i d) (drop (i + 1) a) rest

-- at the start nothing is done
pub merges-none : (a b : List Interval) → Merges a b 0 0 []
merges-none a b = record {
  canonical = tt;
  left = λ k d l. All-nil (λ (i : Interval). i.lo ≤ (get_or a k d).lo);
  right = λ k d l. All-nil (λ (i : Interval). i.lo ≤ (get_or b k d).lo);
  words = λ w. refl;
}

-- the two lists change places
pub merges-swap : (a b : List Interval) (i j : ℕ) (done : List Interval) → Merges a b i j done → Merges b a j i done
merges-swap a b i j done m = record {
  canonical = m.canonical;
  left = m.right;
  right = m.left;
  words = λ w. or_swap (has done w) (has (drop j b) w) (has (drop i a) w) ∙ m.words w ∙ or_comm (has a w) (has b w);
}

follows-right : (b : List Interval) (j : ℕ) (more : List Interval) (from : ℕ) (d : Interval) → IsCanonical b → (j < length b → from ≤ (get_or b j d).lo) → RisesTo more from → Follows more (drop j b)
follows-right b j more from d cb first rises =
    ⊎_elim
    (λ (l : j < length b).
    let y : Interval = get_or b j d in
    let split : drop j b ≡ y ∷ drop (j + 1) b = drop_more b j d l in
    let rest : AreApart 0 (y ∷ drop (j + 1) b) = rw split at (AreApart-drop j 0 b cb) in
    let after : Follows more (drop j b) = rw split (follows-from more (y ∷ drop (j + 1) b) from rises (starts_from from (y ∷ drop (j + 1) b) (first l, rest.1, rest.2))) in
    after)
    (λ (l : length b ≤ j).
    let after : Follows more (drop j b) = rw (drop_all j b l) (All-nil (λ (n : Interval). RisesTo more n.lo)) in
    after)
    (cases_lt j (length b))

-- the next interval of `a` is added, which begins no later than that of `b`
pub merges-left : (a b : List Interval) (i j : ℕ) (done more : List Interval) (d : Interval) → IsCanonical a → IsCanonical b → i < length a
    → (j < length b → (get_or a i d).lo ≤ (get_or b j d).lo) → Merges a b i j done
    → IsCanonical more → RisesTo more (get_or a i d).lo → ((w : ℕ) → has more w ≡ (has done w || in_interval (get_or a i d) w))
    → Merges a b (i + 1) j more
merges-left a b i j done more d ca cb l first m canonical rises words =
    let x : Interval = get_or a i d in
    let split : drop i a ≡ get_or a i d ∷ drop (i + 1) a = drop_more a i d l in
    let rest : AreApart 0 (get_or a i d ∷ drop (i + 1) a) = rw split at (AreApart-drop i 0 a ca) in
    record {
      canonical = canonical;
      left = follows-from more (drop (i + 1) a) x.lo rises (starts_from x.lo (drop (i + 1) a) (AreApart-earlier x.lo (x.hi + 1) (drop (i + 1) a) (omega arith) rest.2));
      right = follows-right b j more x.lo d cb first rises;
      words = λ w. rw (words w) (sym (or_move (has done w) (in_interval x w) (has (drop (i + 1) a) w) (has (drop j b) w)) ∙ (rw split at (m.words w)));
    }

-- at the end all is done
pub merges-all : (a b : List Interval) (i j : ℕ) (done : List Interval) → length a ≤ i → length b ≤ j → Merges a b i j done → IsUnion a b done
merges-all a b i j done l m h = λ w. or_nil (has done w) ∙ (rw (drop_all i a l, drop_all j b m) at (h.words w))
