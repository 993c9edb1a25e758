use Rattle.std.specs.Prelude.{ℕ, ◌+◌, Bool, ◌&&◌, nat_lt, List}
use Rattle.std.specs.List.{list_any}
use Rattle.region_table.specs.declared.interval.Interval.{Interval}
use Rattle.region_table.specs.declared.declared.Region.{Region}
use Rattle.region_table.specs.Plan.{in_region}

-- whether some interval begins before the region ends, and ends after the region begins
abbrev pub overlaps : List Interval → Region → Bool
overlaps set r = list_any (λ (i : Interval). nat_lt i.lo (r.start + r.len) && nat_lt r.start i.hi) set

-- whether a word lies in a region that the set overlaps
abbrev pub in_overlapped : List Region → List Interval → ℕ → Bool
in_overlapped regions set w = list_any (λ (r : Region). in_region r w && overlaps set r) regions
