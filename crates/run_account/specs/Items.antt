-- What an account counts: the group of an item, and how many items of a measure a group has.
use Rattle.std.specs.Prelude.{◌≡◌, ℕ, ◌+◌, ◌<◌, ◌==◌, Bool, true, false, ◌&&◌, List, [], ◌∷◌, ◌++◌, length, map, replicate, slice_get, Option, Some, None, count_by, sum}
use Rattle.std.specs.List.{range_with_len}
use Rattle.dn_base.specs.declared.ids.WordId.{WordId}
use Rattle.region_table.specs.declared.declared.Region.{Region}
use Rattle.region_table.specs.Plan.{in_region}
use Rattle.region_table.specs.Program.{ProgramParts}
use Rattle.run_account.specs.declared.measure.Measure.{Measure}
use Rattle.run_account.specs.declared.item.Item.{Item}
use Rattle.run_account.specs.declared.item.Grouping.{Grouping}
use Rattle.run_account.specs.declared.item.Grouping.TheVariants as by
use Rattle.run_account.specs.Measure.{same_measure}

-- the region of each word, in the order of words, where the first region is number `number`; the regions are adjacent from word
-- 0 on
abbrev pub regions_from : ℕ → List Region → List ℕ
regions_from number [] = []
regions_from number (r ∷ rs) = replicate r.len number ++ regions_from (number + 1) rs

abbrev pub region_of : List ℕ → Option WordId → Option ℕ
region_of regions None = None
region_of regions (Some word) = slice_get regions word.0

-- the group of an item, where `regions` has the region of each word
abbrev pub group_of : List ℕ → Grouping → Item → Option ℕ
group_of regions by.Run item = Some 0
group_of regions by.Phase item = Some item.phase.0
group_of regions by.Core item = Some item.core.0
group_of regions by.Region item = region_of regions item.word

-- how many groups there are
abbrev pub groups_in : ProgramParts → ℕ → Grouping → ℕ
groups_in P cores by.Run = 1
groups_in P cores by.Phase = length P.phases
groups_in P cores by.Core = cores
groups_in P cores by.Region = length P.regions

-- whether this is the group
abbrev pub is_group : ℕ → Option ℕ → Bool
is_group group None = false
is_group group (Some other) = other == group

-- whether an item counts for a measure in a group
abbrev pub counts_for : List ℕ → Grouping → Measure → ℕ → Item → Bool
counts_for regions by m group item = same_measure m item.measure && is_group group (group_of regions by item)

-- how many of the items count for a measure in a group, and how many count for it at all
abbrev pub count_in : List ℕ → Grouping → Measure → ℕ → List Item → ℕ
count_in regions by m group items = count_by (counts_for regions by m group) items

abbrev pub items_of_measure : Measure → List Item → ℕ
items_of_measure m items = count_by (λ (item : Item). same_measure m item.measure) items

-- the sum of the numbers of all groups for a measure
abbrev pub sum_of_groups : List ℕ → Grouping → ℕ → Measure → List Item → ℕ
sum_of_groups regions by groups m items = sum (map (λ (group : ℕ). count_in regions by m group items) (range_with_len 0 groups))

-- the group of an item is below the number of groups
abbrev pub IsGrouped : List ℕ → Grouping → ℕ → Item → Type 0
IsGrouped regions by groups item = (group : ℕ) × (group_of regions by item ≡ Some group) × (group < groups)

-- the group of a word by region is the region in which it lies
pub record IsRegionOf (regions : List Region) (w : ℕ) : Type 0 where
  pub number : ℕ
  pub region : Region
  pub group : slice_get (regions_from 0 regions) w ≡ Some number
  pub there : slice_get regions number ≡ Some region
  pub lies : in_region region w ≡ true
