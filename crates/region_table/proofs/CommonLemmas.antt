-- The least common word of two canonical lists: intervals that end before the other list goes on are passed.
use Rattle.std.proofs.Common.{◌≡◌, ℕ, ◌+◌, ◌<◌, ◌≤◌, true, List, ◌∷◌, length, get_or, drop, arith, ⊎_elim}
use Rattle.std.proofs.lemmas.Bool.{cases_lt, both_ways, or_left}
use Rattle.std.proofs.lemmas.List.{drop_more}
use Rattle.region_table.specs.declared.interval.Interval.{Interval}
use Rattle.region_table.specs.Words.{has, AreApart, IsCanonical, IsCommon, IsLeastCommon}
use Rattle.region_table.proofs.WordLemmas.{AreApart-drop, has-below, has-drop, in_interval-true, in_interval-past}

-- the words of separated intervals come at `from` or later
pub has-from : (from : ℕ) (is : List Interval) (w : ℕ) → AreApart from is → has is w ≡ true → from ≤ w
has-from from is w a h =
    ⊎_elim (λ (l : w < from). absurd (both_ways (has is w) (has-below from is w a l) h)) (λ (l : from ≤ w). l) (cases_lt w from)

-- the words of what is left of a canonical list come no earlier than its next interval
left-from : (a : List Interval) (i : ℕ) (d : Interval) (w : ℕ) → IsCanonical a → i < length a → has (drop i a) w ≡ true → (get_or a i d).lo ≤ w
left-from a i d w c l h =
    let split : drop i a ≡ get_or a i d ∷ drop (i + 1) a = drop_more a i d l in
    let rest : AreApart 0 (get_or a i d ∷ drop (i + 1) a) = rw split at (AreApart-drop i 0 a c) in
    has-from (get_or a i d).lo (get_or a i d ∷ drop (i + 1) a) w (omega arith, rest.1, rest.2) (rw split at h)

-- the words of an interval are in what is left of the list
left-has : (a : List Interval) (i : ℕ) (d : Interval) (w : ℕ) → i < length a → (get_or a i d).lo ≤ w → w < (get_or a i d).hi → has a w ≡ true
left-has a i d w l m n =
    has-drop i a w (rw (drop_more a i d l) (or_left _ _ (in_interval-true (get_or a i d) w m n)))

-- a word behind the next interval is in what follows it
left-past : (a : List Interval) (i : ℕ) (d : Interval) (w : ℕ) → i < length a → (get_or a i d).hi ≤ w → has (drop i a) w ≡ true → has (drop (i + 1) a) w ≡ true
left-past a i d w l m h =
    let both : has (get_or a i d ∷ drop (i + 1) a) w ≡ true = rw (drop_more a i d l) at h in
    rw (in_interval-past (get_or a i d) w m) at both

-- the next interval of `a` ends before `b` goes on: no common word is passed with it
pub passed-left : (a b : List Interval) (i j : ℕ) (d : Interval) → IsCanonical b → i < length a → j < length b → (get_or a i d).hi ≤ (get_or b j d).lo
    → (w : ℕ) → IsCommon (drop i a) (drop j b) w → IsCommon (drop (i + 1) a) (drop j b) w
passed-left a b i j d cb l m h w both =
    let e : (get_or b j d).lo ≤ w = left-from b j d w cb m both.1 in
    (left-past a i d w l (omega arith) both.0, both.1)

-- the same where the two change places
pub passed-right : (a b : List Interval) (i j : ℕ) (d : Interval) → IsCanonical a → i < length a → j < length b → (get_or b j d).hi ≤ (get_or a i d).lo
    → (w : ℕ) → IsCommon (drop i a) (drop j b) w → IsCommon (drop i a) (drop (j + 1) b) w
passed-right a b i j d ca l m h w both =
    let r = passed-left b a j i d ca m l h w (both.1, both.0) in (r.1, r.0)

-- a word of the next intervals of both, which is the start of one of them, is the least common word
pub least_at : (a b : List Interval) (i j : ℕ) (d : Interval) (w : ℕ) → IsCanonical a → IsCanonical b → i < length a → j < length b
    → ((v : ℕ) → IsCommon a b v → IsCommon (drop i a) (drop j b) v)
    → (get_or a i d).lo ≤ w → w < (get_or a i d).hi → (get_or b j d).lo ≤ w → w < (get_or b j d).hi
    → ((v : ℕ) → (get_or a i d).lo ≤ v → (get_or b j d).lo ≤ v → w ≤ v)
    → IsLeastCommon a b w
least_at a b i j d w ca cb l m kept al ah bl bh least = record {
  common = (left-has a i d w l al ah, left-has b j d w m bl bh);
  least = λ v both. least v (left-from a i d v ca l (kept v both).0) (left-from b j d v cb m (kept v both).1);
}
