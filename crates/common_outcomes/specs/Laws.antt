-- What the laws of the answer say of runs.
use Rattle.std.specs.Prelude.{◌≡◌, ℕ, ◌%◌, ◌^◌, List, [], length, map, slice_index, slice_index_or, Some, sum_by}
use Rattle.std.specs.List.{All}
use Rattle.region_table.specs.Program.{ProgramParts}
use Rattle.rv_core.specs.declared.ending.Ending.{Ending}
use Rattle.flat_machine.specs.declared.ending.FlatEnd.{FlatEnd}
use Rattle.flat_machine.specs.Ending.{flat_end}
use Rattle.common_outcomes.specs.declared.value.Kind.TheVariants.{Known}
use Rattle.common_outcomes.specs.declared.value.Value.{Value}
use Rattle.common_outcomes.specs.declared.value.Effect.{Effect}
use Rattle.common_outcomes.specs.declared.value.Effect.TheVariants.{Kept, Added, Set, Other}
use Rattle.common_outcomes.specs.declared.answer.Common.{Common}
use Rattle.common_outcomes.specs.declared.answer.Outcomes.TheVariants.{Settled}
use Rattle.common_outcomes.specs.Values.{known}
use Rattle.common_outcomes.specs.Answer.{outcomes}

-- an ending has what is common: the outcome, how each task ends and how many instructions it has retired, and the value of each
-- word that is known
pub record IsCommonTo (common : Common) (e : Ending) : Type 0 where
  pub outcome : e.outcome ≡ common.outcome
  pub tasks : e.tasks ≡ common.tasks
  pub count : length e.memory ≡ length common.memory
  pub words : (w : ℕ) → (slice_index_or common.memory w (known 0)).kind ≡ Known → slice_index e.memory w ≡ (slice_index_or common.memory w (known 0)).number

-- the ending of which all is known
abbrev pub ending_in : Common → Ending
ending_in common =
    record { outcome = common.outcome; tasks = common.tasks; memory = map (λ (v : Value). v.number) common.memory }

-- the answer is settled, each word is known, and the flat machine's run without grants ends so
pub record HasOneEnd (P : ProgramParts) (fuel : ℕ) : Type 0 where
  pub common : Common
  pub settled : outcomes P fuel ≡ Settled common
  pub known : (w : ℕ) → (slice_index_or common.memory w (known 0)).kind ≡ Known
  pub end' : FlatEnd
  pub run : flat_end P fuel [] ≡ Some end'
  pub ending : end'.ending ≡ ending_in common

-- ---- what several sections did

-- the section adds a number, or doesn't store
abbrev pub AddsOrKeeps : Effect → Type 0
AddsOrKeeps Kept = Unit {0}
AddsOrKeeps (Added n) = Unit {0}
AddsOrKeeps _ = ⊥

-- the section sets this number, or doesn't store
abbrev pub SetsOrKeeps : ℕ → Effect → Type 0
SetsOrKeeps n Kept = Unit {0}
SetsOrKeeps n (Set m) = m ≡ n
SetsOrKeeps n _ = ⊥

abbrev pub KeepsAll : List Effect → Type 0
KeepsAll es = All (λ (e : Effect). e ≡ Kept) es

abbrev pub addend : Effect → ℕ
addend (Added n) = n
addend _ = 0

-- what the sections did together: nothing, if none stored; a sum, if each that stored added; a number, if each that stored set
-- it; anything else otherwise
abbrev pub IsJoint : List Effect → Effect → Type 0
IsJoint es Kept = KeepsAll es
IsJoint es (Added n) = (KeepsAll es → ⊥) × All AddsOrKeeps es × (n % 2 ^ 32 ≡ sum_by addend es % 2 ^ 32)
IsJoint es (Set n) = (KeepsAll es → ⊥) × All (SetsOrKeeps n) es
IsJoint es Other = (All AddsOrKeeps es → ⊥) × ((n : ℕ) → All (SetsOrKeeps n) es → ⊥)
