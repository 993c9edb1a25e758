-- The claims of a text in rows. There is one row for each phase, core and usage, with the intervals that are claimed so. Each
-- claim goes into its row, and the words of a task are read from its rows.
use Rattle.std.specs.Prelude.{◌≡◌, ℕ, ◌+◌, ◌*◌, ◌<◌, ◌≤◌, Bool, true, false, ◌&&◌, nat_lt, List, [], ◌++◌, length, map, slice_set, slice_index_or, Option, option_map, find, filter, filter_map, if◌then◌else◌}
use Rattle.std.specs.List.{All, range_with_len}
use Rattle.std.specs.Option.{option_to_list}
use Rattle.region_table.specs.declared.interval.Interval.{Interval}
use Rattle.region_table.specs.declared.declared.Effects.{Effects}
use Rattle.region_table.specs.declared.declared.TaskDecl.{TaskDecl}
use Rattle.region_table.specs.declared.declared.Phase.{Phase}
use Rattle.rv_assembler.specs.declared.draft.Start.{Start}
use Rattle.rv_assembler.specs.declared.draft.Usage.{Usage}
use Rattle.rv_assembler.specs.declared.draft.Usage.TheVariants.{Reads, Writes, GuardedReads, GuardedWrites}
use Rattle.rv_assembler.specs.declared.draft.Claim.{Claim}
use Rattle.rv_assembler.specs.Union.{united}
use Rattle.rv_assembler.specs.Program.{is_claim_of, is_task}
use Rattle.rv_assembler.specs.Named.{under_lock}
use Rattle.rv_assembler.specs.Finishing.{interval_within}

-- the number of a usage among those of a task; with the most locks there are 66
abbrev pub usage_number : Usage → ℕ
usage_number Reads = 0
usage_number Writes = 1
usage_number (GuardedReads lock) = 2 + 2 * lock
usage_number (GuardedWrites lock) = 3 + 2 * lock

-- the index of the row of a phase, a core and a usage
abbrev pub claim_row : ℕ → ℕ → Usage → ℕ
claim_row phase core usage = 1056 * phase + 66 * core + usage_number usage

-- whether there are rows for this core and usage
abbrev pub has_claim_row : ℕ → Usage → Bool
has_claim_row core usage = nat_lt core 16 && nat_lt (usage_number usage) 66

abbrev pub intervals_at : List (List Interval) → ℕ → List Interval
intervals_at rows place = slice_index_or rows place []

-- the rows with one claim more
abbrev pub noted_claim : ℕ → Claim → List (List Interval) → List (List Interval)
noted_claim words c rows =
    if has_claim_row c.core c.usage
    then slice_set rows (claim_row c.phase c.core c.usage) (intervals_at rows (claim_row c.phase c.core c.usage) ++ option_to_list (interval_within words c.usage c))
    else rows

-- the intervals that a task claims by a usage
abbrev pub claimed_so : ℕ → Start → Usage → List Claim → List Interval
claimed_so words t usage claims = filter_map (interval_within words usage) (filter (is_claim_of t) claims)

-- the rows have all claims except those of `rest`, which are the last ones
abbrev pub HasClaimsBut : ℕ → List Claim → List Claim → List (List Interval) → Type 0
HasClaimsBut words claims rest rows =
    (t : Start) (usage : Usage) → has_claim_row t.core usage ≡ true → claim_row t.phase t.core usage < length rows
    → intervals_at rows (claim_row t.phase t.core usage) ++ claimed_so words t usage rest ≡ claimed_so words t usage claims

-- the rows have all claims
abbrev pub HasClaims : ℕ → List Claim → List (List Interval) → Type 0
HasClaims words claims rows =
    (t : Start) (usage : Usage) → has_claim_row t.core usage ≡ true → claim_row t.phase t.core usage < length rows
    → intervals_at rows (claim_row t.phase t.core usage) ≡ claimed_so words t usage claims

-- the interval isn't empty, and has only words of the memory
abbrev pub IsSomeWithin : ℕ → Interval → Type 0
IsSomeWithin words i = (i.lo < i.hi) × (i.hi ≤ words)

abbrev pub AreRowsWithin : ℕ → List (List Interval) → Type 0
AreRowsWithin words rows = All (λ (row : List Interval). All (IsSomeWithin words) row) rows

-- the words that a task claims by a usage, from the rows
abbrev pub words_by_rows : List (List Interval) → Start → Usage → List Interval
words_by_rows rows t usage = united (intervals_at rows (claim_row t.phase t.core usage))

-- the words that a task claims under a lock, to read or to write
abbrev pub guarded_by_rows : List (List Interval) → Start → Bool → ℕ → List Interval
guarded_by_rows rows t writes lock = words_by_rows rows t (under_lock writes lock)

-- the effects of a task, from the rows
abbrev pub effects_by_rows : ℕ → List (List Interval) → Start → Effects
effects_by_rows locks rows t =
    record {
      reads = words_by_rows rows t Reads;
      writes = words_by_rows rows t Writes;
      guarded_reads = map (guarded_by_rows rows t false) (range_with_len 0 locks);
      guarded_writes = map (guarded_by_rows rows t true) (range_with_len 0 locks);
    }

abbrev pub task_by_rows : ℕ → List (List Interval) → Start → TaskDecl
task_by_rows locks rows t = record { core = record { 0 = t.core }; entry = t.entry; arg = t.arg; effects = effects_by_rows locks rows t }

abbrev pub core_task_by_rows : ℕ → List (List Interval) → List Start → ℕ → ℕ → Option TaskDecl
core_task_by_rows locks rows tasks phase core = option_map (task_by_rows locks rows) (find (is_task phase core) tasks)

-- the tasks of a phase, by their cores
abbrev pub phase_by_rows : ℕ → List (List Interval) → List Start → ℕ → Phase
phase_by_rows locks rows tasks phase = record { tasks = filter_map (core_task_by_rows locks rows tasks phase) (range_with_len 0 16) }
