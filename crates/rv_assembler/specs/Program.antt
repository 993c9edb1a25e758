-- The program that the tables of a text say.
use Rattle.std.specs.Prelude.{ℕ, Bool, true, false, ◌&&◌, ◌==◌, List, length, map, Option, Some, None, option_map, unwrap_or, find, filter, filter_map, if◌then◌else◌}
use Rattle.std.specs.List.{range_with_len, last_or}
use Rattle.region_table.specs.declared.interval.Interval.{Interval}
use Rattle.region_table.specs.declared.declared.Effects.{Effects}
use Rattle.region_table.specs.declared.declared.TaskDecl.{TaskDecl}
use Rattle.region_table.specs.declared.declared.Phase.{Phase}
use Rattle.region_table.specs.Program.{ProgramParts}
use Rattle.rv_assembler.specs.declared.draft.FirstValue.{FirstValue}
use Rattle.rv_assembler.specs.declared.draft.Start.{Start}
use Rattle.rv_assembler.specs.declared.draft.Usage.{Usage}
use Rattle.rv_assembler.specs.declared.draft.Usage.TheVariants.{Reads, Writes, GuardedReads, GuardedWrites}
use Rattle.rv_assembler.specs.declared.draft.Claim.{Claim}
use Rattle.rv_assembler.specs.declared.draft.Draft.{Draft}
use Rattle.rv_assembler.specs.Union.{united}

-- the first value of a word: that of the last `.word` that names it, or 0
abbrev pub value_for : ℕ → FirstValue → Option ℕ
value_for word v = if v.word == word then Some v.value else None

abbrev pub first_value : List FirstValue → ℕ → ℕ
first_value values word = unwrap_or (last_or None (filter_map (value_for word) values)) 0

abbrev pub same_usage : Usage → Usage → Bool
same_usage Reads Reads = true
same_usage Writes Writes = true
same_usage (GuardedReads k) (GuardedReads l) = k == l
same_usage (GuardedWrites k) (GuardedWrites l) = k == l
same_usage _ _ = false

abbrev pub is_claim_of : Start → Claim → Bool
is_claim_of t c = c.phase == t.phase && c.core == t.core

-- the words of a claim of this usage
abbrev pub interval_of : Usage → Claim → Option Interval
interval_of usage c = if same_usage c.usage usage then Some (record { lo = c.lo; hi = c.hi }) else None

-- the words that claims of this usage have
abbrev pub words_of : List Claim → Usage → List Interval
words_of claims usage = united (filter_map (interval_of usage) claims)

-- the words that claims have while their tasks hold a lock
abbrev pub read_under : List Claim → ℕ → List Interval
read_under claims lock = words_of claims (GuardedReads lock)

abbrev pub written_under : List Claim → ℕ → List Interval
written_under claims lock = words_of claims (GuardedWrites lock)

-- the effects of a task by its claims
abbrev pub effects_of : ℕ → List Claim → Effects
effects_of locks claims =
    record {
      reads = words_of claims Reads;
      writes = words_of claims Writes;
      guarded_reads = map (read_under claims) (range_with_len 0 locks);
      guarded_writes = map (written_under claims) (range_with_len 0 locks);
    }

abbrev pub task_of : ℕ → List Claim → Start → TaskDecl
task_of locks claims t =
    record { core = record { 0 = t.core }; entry = t.entry; arg = t.arg; effects = effects_of locks (filter (is_claim_of t) claims) }

abbrev pub is_task : ℕ → ℕ → Start → Bool
is_task phase core t = t.phase == phase && t.core == core

-- the task of a core in a phase, if there is one
abbrev pub task_at : ℕ → List Claim → List Start → ℕ → ℕ → Option TaskDecl
task_at locks claims tasks phase core = option_map (task_of locks claims) (find (is_task phase core) tasks)

-- the tasks of a phase, by their cores
abbrev pub phase_of : ℕ → List Claim → List Start → ℕ → Phase
phase_of locks claims tasks phase = record { tasks = filter_map (task_at locks claims tasks phase) (range_with_len 0 16) }

-- the code, the data words with their first values, the regions, the locks, and the phases, which are numbered from 1
abbrev pub program_of : Draft → ProgramParts
program_of d =
    record {
      code = d.code;
      memory = map (first_value d.values) (range_with_len 0 d.count.words);
      regions = d.regions;
      locks = d.locks;
      phases = map (phase_of (length d.locks) d.claims d.tasks) (range_with_len 1 d.phases);
    }
