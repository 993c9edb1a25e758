-- The numbers of an account, while items are counted one by one.
use Rattle.std.specs.Prelude.{ℕ, ◌+◌, List, [], ◌∷◌, min, replicate, slice_set, slice_index_or, Option, Some, None}
use Rattle.region_table.specs.Program.{ProgramParts}
use Rattle.run_account.specs.declared.measure.Measure.{Measure}
use Rattle.run_account.specs.declared.item.Item.{Item}
use Rattle.run_account.specs.declared.item.Grouping.{Grouping}
use Rattle.run_account.specs.Measure.{measure_index}
use Rattle.run_account.specs.Items.{group_of, groups_in, regions_from}

-- what the groups are, the region of each word, and the numbers by group and measure
pub record Tallies : Type 0 where
  pub by : Grouping
  pub regions : List ℕ
  pub numbers : List (List ℕ)

-- no item of any measure in any group
abbrev pub no_tallies : ProgramParts → ℕ → Grouping → Tallies
no_tallies P cores by =
    record { by = by; regions = regions_from 0 P.regions; numbers = replicate (groups_in P cores by) (replicate 58 0) }

-- the number of a measure in a group
abbrev pub tally_of : Measure → ℕ → Tallies → ℕ
tally_of m group t = slice_index_or (slice_index_or t.numbers group []) (measure_index m) 0

-- a number of 64 bits stays at its greatest value
abbrev pub capped : ℕ → ℕ
capped n = min n 18446744073709551615

-- one more of a measure, in the row of a group, and in the table if there is such a group
abbrev pub one_more_at : ℕ → List ℕ → List ℕ
one_more_at index row = slice_set row index (capped (slice_index_or row index 0 + 1))

abbrev pub raised_in : Option ℕ → ℕ → List (List ℕ) → List (List ℕ)
raised_in None index numbers = numbers
raised_in (Some group) index numbers = slice_set numbers group (one_more_at index (slice_index_or numbers group []))

-- one more item, and several
unfoldable pub with_item : Tallies → Item → Tallies
with_item t item = record t { numbers = raised_in (group_of t.regions t.by item) (measure_index item.measure) t.numbers }

abbrev pub with_items : Tallies → List Item → Tallies
with_items t [] = t
with_items t (item ∷ items) = with_items (with_item t item) items
