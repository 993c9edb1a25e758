use Rattle.std.specs.Prelude.{◌≡◌, ℕ, ◌+◌, ◌<◌, ◌≤◌, Bool, false, ◌&&◌, ◌||◌, IsTrue, nat_le, nat_lt, List, [], ◌∷◌}
use Rattle.region_table.specs.declared.interval.Interval.{Interval}

-- whether a word lies in an interval
abbrev pub in_interval : Interval → ℕ → Bool
in_interval i w = nat_le i.lo w && nat_lt w i.hi

-- whether a word lies in some interval of a list
abbrev pub has : List Interval → ℕ → Bool
has [] w = false
has (i ∷ is) w = in_interval i w || has is w

-- the intervals begin at `from` or later, none is empty, and each ends below the start of the next
abbrev pub AreApart : ℕ → List Interval → Type 0
AreApart from [] = Unit {0}
AreApart from (i ∷ is) = (from ≤ i.lo) × (i.lo < i.hi) × AreApart (i.hi + 1) is

-- the intervals rise, none is empty, and no two touch: the only list of intervals of that form with their words
abbrev pub IsCanonical : List Interval → Type 0
IsCanonical is = AreApart 0 is

-- the words of `all` are those of `a` and those of `b`
abbrev pub IsUnion : List Interval → List Interval → List Interval → Type 0
IsUnion a b all = (w : ℕ) → has all w ≡ (has a w || has b w)

-- the word is in both
abbrev pub IsCommon : List Interval → List Interval → ℕ → Type 0
IsCommon a b w = IsTrue (has a w) × IsTrue (has b w)

-- some word is in both
abbrev pub Meet : List Interval → List Interval → Type 0
Meet a b = (w : ℕ) × IsCommon a b w

-- the word is the least one in both
pub record IsLeastCommon (a b : List Interval) (w : ℕ) : Type 0 where
  pub common : IsCommon a b w
  pub least : (v : ℕ) → IsCommon a b v → w ≤ v
