use Rattle.std.specs.Prelude.{◌≡◌, ◌↔◌, ℕ, ◌+◌, ◌<◌, Bool, ◌&&◌, ◌||◌, IsTrue, nat_le, nat_lt, List, [], length, slice_index_or}
use Rattle.std.specs.List.{Any, AllZip, list_any}
use Rattle.region_table.specs.declared.interval.Interval.{Interval}
use Rattle.region_table.specs.declared.declared.Region.{Region}
use Rattle.region_table.specs.declared.declared.TaskDecl.{TaskDecl}
use Rattle.region_table.specs.declared.declared.Phase.{Phase}
use Rattle.region_table.specs.declared.plan.PhasePlan.{PhasePlan}
use Rattle.region_table.specs.Words.{has}
use Rattle.region_table.specs.Program.{ProgramParts}

-- whether a word is one of the region
abbrev pub in_region : Region → ℕ → Bool
in_region r w = nat_le r.start w && nat_lt w (r.start + r.len)

-- whether a task may use a word without a lock
abbrev pub uses_plainly : TaskDecl → ℕ → Bool
uses_plainly t w = has t.effects.reads w || has t.effects.writes w

-- whether a lock guards a word for a task
abbrev pub task_guards : TaskDecl → ℕ → ℕ → Bool
task_guards t lock w =
    has (slice_index_or t.effects.guarded_reads lock []) w || has (slice_index_or t.effects.guarded_writes lock []) w

-- whether a word is one of the task's plain writes, or of its guarded writes under some lock
abbrev pub task_writes : TaskDecl → ℕ → Bool
task_writes t w =
    has t.effects.writes w || list_any (λ (set : List Interval). has set w) t.effects.guarded_writes

-- whether a lock guards a word for some task of the phase
abbrev pub phase_guards : Phase → ℕ → ℕ → Bool
phase_guards p lock w = list_any (λ (t : TaskDecl). task_guards t lock w) p.tasks

-- whether some task of the phase writes a word, plainly or under a lock
abbrev pub phase_writes : Phase → ℕ → Bool
phase_writes p w = list_any (λ (t : TaskDecl). task_writes t w) p.tasks

-- some task of the phase writes some word of the region
abbrev pub IsTouched : Phase → Region → Type 0
IsTouched p r = (v : ℕ) × IsTrue (in_region r v) × IsTrue (phase_writes p v)

-- the word lies in a region in which some task of the phase writes a word
abbrev pub IsInTouchedRegion : List Region → Phase → ℕ → Type 0
IsInTouchedRegion regions p w = Any (λ (r : Region). IsTrue (in_region r w) × IsTouched p r) regions

-- the plan of a phase
pub record IsPlan (program : ProgramParts) (p : Phase) (plan : PhasePlan) : Type 0 where
  -- `written` has the words of the regions in which the phase writes, and no others
  pub written : (w : ℕ) → IsTrue (has plan.written w) ↔ IsInTouchedRegion program.regions p w
  -- there is one set of guarded words for each lock, which has the words that the lock guards for some task
  pub by_lock : length plan.guarded ≡ length program.locks
  pub guarded : (lock w : ℕ) → lock < length program.locks → has (slice_index_or plan.guarded lock []) w ≡ phase_guards p lock w

-- the plans of a program: one for each phase, in their order
abbrev pub ArePlans : ProgramParts → List PhasePlan → Type 0
ArePlans program plans = AllZip (IsPlan program) program.phases plans
