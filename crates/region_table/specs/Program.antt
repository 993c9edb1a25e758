use Rattle.std.specs.Prelude.{◌≡◌, ◌≢◌, ℕ, ◌+◌, ◌%◌, ◌<◌, ◌≤◌, max, List, [], ◌∷◌, ◌++◌, length, map}
use Rattle.std.specs.List.{All, AllPairs, flat_map}
use Rattle.dn_base.specs.declared.limits.TheConstants.{MOST_WORDS}
use Rattle.region_table.specs.declared.interval.Interval.{Interval}
use Rattle.region_table.specs.declared.declared.Region.{Region}
use Rattle.region_table.specs.declared.declared.Effects.{Effects}
use Rattle.region_table.specs.declared.declared.TaskDecl.{TaskDecl}
use Rattle.region_table.specs.declared.declared.Phase.{Phase}

-- the parts of a program: a name is a list of bytes, and a set of words a list of intervals
pub record ProgramParts : Type 0 where
  pub code : List ℕ
  pub memory : List ℕ
  pub regions : List Region
  pub locks : List (List ℕ)
  pub phases : List Phase

-- all tasks, phase by phase
abbrev pub tasks_of : List Phase → List TaskDecl
tasks_of phases = flat_map (λ (p : Phase). p.tasks) phases

-- all declared names: those of the regions, and then those of the locks
abbrev pub names_of : ProgramParts → List (List ℕ)
names_of p = map (λ (r : Region). r.name) p.regions ++ p.locks

-- how many cores these tasks need: one more than the highest core number, and at least one
abbrev pub cores_in : List TaskDecl → ℕ
cores_in [] = 1
cores_in (t ∷ ts) = max (t.core.0 + 1) (cores_in ts)

-- how many cores a program needs
abbrev pub cores_of : ProgramParts → ℕ
cores_of p = cores_in (tasks_of p.phases)

-- the regions are adjacent from word `from` on, none is empty, and the last ends before word `end`
abbrev pub AreTiled : ℕ → List Region → ℕ → Type 0
AreTiled from [] end = from ≡ end
AreTiled from (r ∷ rs) end = (r.start ≡ from) × (0 < r.len) × AreTiled (r.start + r.len) rs end

-- every word of the set is a word of a memory of `words` words
abbrev pub LiesIn : ℕ → List Interval → Type 0
LiesIn words set = All (λ (i : Interval). i.hi ≤ words) set

-- the effects lie in the memory, and there is one set of guarded reads and one of guarded writes for each lock
pub record AreEffects (words locks : ℕ) (e : Effects) : Type 0 where
  pub reads : LiesIn words e.reads
  pub writes : LiesIn words e.writes
  pub guarded_reads : All (LiesIn words) e.guarded_reads
  pub guarded_writes : All (LiesIn words) e.guarded_writes
  pub reads_by_lock : length e.guarded_reads ≡ locks
  pub writes_by_lock : length e.guarded_writes ≡ locks

-- the core is below 16, the entry a multiple of 4, and the effects fit the memory and the locks
pub record IsTask (words locks : ℕ) (t : TaskDecl) : Type 0 where
  pub core : t.core.0 < 16
  pub entry : t.entry % 4 ≡ 0
  pub effects : AreEffects words locks t.effects

-- the tasks stand in rising order of their cores, so that a core has at most one
pub record IsPhase (words locks : ℕ) (p : Phase) : Type 0 where
  pub tasks : All (IsTask words locks) p.tasks
  pub rising : AllPairs (λ (a b : TaskDecl). a.core.0 < b.core.0) p.tasks

-- a well-formed program
pub record IsProgram (p : ProgramParts) : Type 0 where
  -- at most 16384 code words, 65536 data words, 4096 regions, 32 locks, 64 phases, and 64 tasks in all
  pub code : length p.code ≤ 16384
  pub memory : length p.memory ≤ MOST_WORDS
  pub regions : length p.regions ≤ 4096
  pub locks : length p.locks ≤ 32
  pub phases : length p.phases ≤ 64
  pub tasks : length (tasks_of p.phases) ≤ 64
  -- the first region begins at word 0, each other one where the one before it ends, and the last ends with the memory
  pub tiled : AreTiled 0 p.regions (length p.memory)
  -- no two regions, no two locks, and no region and lock have the same name
  pub names : AllPairs (λ (a b : List ℕ). a ≢ b) (names_of p)
  pub each_phase : All (IsPhase (length p.memory) (length p.locks)) p.phases
