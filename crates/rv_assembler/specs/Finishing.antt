-- How the assembler makes the program from the tables: it stores the first values one by one, and a claim counts if its words
-- are words of the memory. Program defines the program; for the tables of a text without a fault this gives the same.
use Rattle.std.specs.Prelude.{ℕ, ◌&&◌, nat_lt, nat_le, List, [], ◌∷◌, length, map, replicate, slice_set, Option, Some, None, option_map, find, filter, filter_map, if◌then◌else◌}
use Rattle.std.specs.List.{range_with_len}
use Rattle.region_table.specs.declared.interval.Interval.{Interval}
use Rattle.region_table.specs.declared.declared.Effects.{Effects}
use Rattle.region_table.specs.declared.declared.TaskDecl.{TaskDecl}
use Rattle.region_table.specs.declared.declared.Phase.{Phase}
use Rattle.region_table.specs.Program.{ProgramParts}
use Rattle.rv_assembler.specs.declared.draft.FirstValue.{FirstValue}
use Rattle.rv_assembler.specs.declared.draft.Start.{Start}
use Rattle.rv_assembler.specs.declared.draft.Usage.{Usage}
use Rattle.rv_assembler.specs.declared.draft.Usage.TheVariants.{Reads, Writes, GuardedReads, GuardedWrites}
use Rattle.rv_assembler.specs.declared.draft.Claim.{Claim}
use Rattle.rv_assembler.specs.declared.draft.Draft.{Draft}
use Rattle.rv_assembler.specs.Union.{united}
use Rattle.rv_assembler.specs.Program.{same_usage, is_claim_of, is_task}

-- the memory with its first values; of two for one word the later one wins
abbrev pub with_first_values : List ℕ → List FirstValue → List ℕ
with_first_values memory [] = memory
with_first_values memory (v ∷ vs) = with_first_values (slice_set memory v.word v.value) vs

-- the words of a claim of this usage, if they are words of the memory
abbrev pub interval_within : ℕ → Usage → Claim → Option Interval
interval_within words usage c =
    if same_usage c.usage usage && (nat_lt c.lo c.hi && nat_le c.hi words) then Some (record { lo = c.lo; hi = c.hi }) else None

-- the words that claims of this usage have
abbrev pub words_within : ℕ → List Claim → Usage → List Interval
words_within words claims usage = united (filter_map (interval_within words usage) claims)

-- the words that claims name under a lock
abbrev pub guarded_reads_within : ℕ → List Claim → ℕ → List Interval
guarded_reads_within words claims lock = words_within words claims (GuardedReads lock)

abbrev pub guarded_writes_within : ℕ → List Claim → ℕ → List Interval
guarded_writes_within words claims lock = words_within words claims (GuardedWrites lock)

-- the effects of a task by its claims
abbrev pub effects_within : ℕ → ℕ → List Claim → Effects
effects_within words locks claims =
    record {
      reads = words_within words claims Reads;
      writes = words_within words claims Writes;
      guarded_reads = map (guarded_reads_within words claims) (range_with_len 0 locks);
      guarded_writes = map (guarded_writes_within words claims) (range_with_len 0 locks);
    }

abbrev pub task_within : ℕ → ℕ → List Claim → Start → TaskDecl
task_within words locks claims t =
    record { core = record { 0 = t.core }; entry = t.entry; arg = t.arg; effects = effects_within words locks (filter (is_claim_of t) claims) }

-- the task of a core in a phase, if there is one
abbrev pub core_task_within : ℕ → ℕ → List Claim → List Start → ℕ → ℕ → Option TaskDecl
core_task_within words locks claims tasks phase core = option_map (task_within words locks claims) (find (is_task phase core) tasks)

-- the tasks of a phase, by their cores
abbrev pub phase_within : ℕ → ℕ → List Claim → List Start → ℕ → Phase
phase_within words locks claims tasks phase = record { tasks = filter_map (core_task_within words locks claims tasks phase) (range_with_len 0 16) }

abbrev pub finished_program : Draft → ProgramParts
finished_program d =
    record {
      code = d.code;
      memory = with_first_values (replicate d.count.words 0) d.values;
      regions = d.regions;
      locks = d.locks;
      phases = map (phase_within d.count.words (length d.locks) d.claims d.tasks) (range_with_len 1 d.phases);
    }
