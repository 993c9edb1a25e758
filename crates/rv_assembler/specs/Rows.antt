-- The rows that a statement gives: first values, tasks, and the words that tasks use.
use Rattle.std.specs.Prelude.{ℕ, ◌+◌, ◌*◌, ◌%◌, ◌^◌, ℤ, pos, ◌+ℤ◌, ◌*ℤ◌, List, [], ◌∷◌, map, Option, Some, None}
use Rattle.std.specs.List.{range_with_len}
use Rattle.rv_assembler.specs.declared.statement.Extent.{Extent}
use Rattle.rv_assembler.specs.declared.statement.Extent as extent
use Rattle.rv_assembler.specs.declared.draft.FirstValue.{FirstValue}
use Rattle.rv_assembler.specs.declared.draft.Start.{Start}
use Rattle.rv_assembler.specs.declared.draft.Usage.{Usage}
use Rattle.rv_assembler.specs.declared.draft.Claim.{Claim}
use Rattle.rv_assembler.specs.declared.draft.Cores.{Cores}
use Rattle.rv_assembler.specs.declared.draft.Span.{Span}
use Rattle.rv_assembler.specs.Number.{natural_of}

-- the first value of the region's word with this index
abbrev pub first_values : Option Span → ℤ → ℕ → List FirstValue
first_values None index value = []
first_values (Some p) index value = record { word = p.start + natural_of index; value = value } ∷ []

-- the tasks of a family: task i is on core f + i, and has the argument a + i s modulo 2^32
abbrev pub start_at : Start → ℕ → ℕ → Start
start_at first step i = record { phase = first.phase; core = first.core + i; entry = first.entry; arg = (first.arg + i * step) % 2 ^ 32 }

abbrev pub starts : Start → ℕ → ℕ → List Start
starts first step n = map (start_at first step) (range_with_len 0 n)

-- the interval of an effect for the first task, and by how much it is moved on from each task to the next
abbrev pub from_index : Extent → ℤ
from_index extent.TheVariants.Whole = pos 0
from_index (extent.TheVariants.Part lo hi) = lo
from_index (extent.TheVariants.Stepped lo hi step) = lo

abbrev pub to_index : ℤ → Extent → ℤ
to_index len extent.TheVariants.Whole = len
to_index len (extent.TheVariants.Part lo hi) = hi
to_index len (extent.TheVariants.Stepped lo hi step) = hi

abbrev pub moved_by : Extent → ℤ
moved_by (extent.TheVariants.Stepped lo hi step) = step
moved_by _ = pos 0

-- the words that an effect gives task i of the family: those of the interval, moved on i times by the step
abbrev pub use_at : ℕ → Cores → Usage → Span → Extent → ℕ → Claim
use_at phase family u p e i =
    record {
      phase = phase;
      core = family.first + i;
      usage = u;
      lo = p.start + natural_of (from_index e +ℤ pos i *ℤ moved_by e);
      hi = p.start + natural_of (to_index p.len e +ℤ pos i *ℤ moved_by e);
    }

-- the words that an effect gives each of the current tasks
abbrev pub uses_of : ℕ → Cores → Option Span → Option Usage → Extent → List Claim
uses_of phase family (Some p) (Some u) e = map (use_at phase family u p e) (range_with_len 0 family.count)
uses_of phase family (Some p) None e = []
uses_of phase family None u e = []
