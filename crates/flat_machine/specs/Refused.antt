-- The first grant of a list that isn't legal, and the result of a list of grants.
use Rattle.std.specs.Prelude.{◌≡◌, ℕ, ◌≤◌, false, List, length, take, slice_get, Option, Some, None}
use Rattle.dn_base.specs.declared.limits.TheConstants.{MOST_WORDS}
use Rattle.dn_base.specs.declared.ids.Grant.{Grant}
use Rattle.region_table.specs.Program.{ProgramParts}
use Rattle.flat_machine.specs.declared.refused.FlatRun.{FlatRun}
use Rattle.flat_machine.specs.declared.refused.FlatRun.TheVariants.{Whole, Refused}
use Rattle.flat_machine.specs.Phases.{Flat}
use Rattle.flat_machine.specs.Grants.{granted, grants_are_whole, so_far}
use Rattle.flat_machine.specs.Ending.{flat_end}

-- what comes next in a list isn't legal in F: a grant that no task can take, or the end of the list although it isn't whole
abbrev pub MayNotCome : ProgramParts → ℕ → Flat → Option Grant → Type 0
MayNotCome P fuel F (Some g) = granted P fuel g F ≡ None
MayNotCome P fuel F None = grants_are_whole P fuel F ≡ false

-- the grants of the list before this index, from 0, are legal, and what comes there isn't; the index after the last grant says
-- that the list is legal, but not whole
pub record IsFirstRefused (P : ProgramParts) (fuel : ℕ) (gs : List Grant) (place : ℕ) : Type 0 where
  pub within : place ≤ length gs
  pub flat : Flat
  pub front : so_far P fuel (take place gs) ≡ Some flat
  pub refused : MayNotCome P fuel flat (slice_get gs place)

-- the answer is true of the list: the run by it has this end, or this is the index of its first grant that isn't legal
abbrev pub IsRunBy : ProgramParts → ℕ → List Grant → FlatRun → Type 0
IsRunBy P fuel gs (Whole end') = flat_end P fuel gs ≡ Some end'
IsRunBy P fuel gs (Refused place) = IsFirstRefused P fuel gs place

-- an end has no more words and tasks than a program may have
abbrev pub IsShort : FlatRun → Type 0
IsShort (Whole end') = (length end'.ending.memory ≤ MOST_WORDS) × (length end'.ending.tasks ≤ 64)
IsShort (Refused place) = Unit {0}
