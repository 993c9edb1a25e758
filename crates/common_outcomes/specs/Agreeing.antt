-- What ties a task alone to the same task in a run of the flat machine. Only laws cite this.
use Rattle.std.specs.Prelude.{◌≡◌, ◌≢◌, ℕ, ◌+◌, ◌%◌, ◌^◌, ◌<◌, true, false, List, [], ◌∷◌, length, map, slice_index_or, slice_get, slice_index, Some, None}
use Rattle.std.specs.List.{IsAmong}
use Rattle.region_table.specs.Program.{ProgramParts, IsProgram}
use Rattle.region_table.specs.Plan.{task_guards, task_writes}
use Rattle.region_table.specs.declared.declared.Phase.{Phase}
use Rattle.region_table.specs.declared.declared.TaskDecl.{TaskDecl}
use Rattle.rv_core.specs.Access.{is_held, may_store}
use Rattle.rv_core.specs.declared.task.TaskState.{TaskState}
use Rattle.rv_core.specs.declared.need.Need.{Need}
use Rattle.rv_core.specs.declared.need.Need as need
use Rattle.effect_checker.specs.Checked.{IsCheckedPhase, IsChecked}
use Rattle.flat_machine.specs.Step.{Started}
use Rattle.flat_machine.specs.Laws.{HoldApart}
use Rattle.common_outcomes.specs.declared.value.Kind.{Kind}
use Rattle.common_outcomes.specs.declared.value.Kind.TheVariants.{Known, Offset, Varying}
use Rattle.common_outcomes.specs.declared.value.Value.{Value}
use Rattle.common_outcomes.specs.declared.value.Effect.{Effect}
use Rattle.common_outcomes.specs.declared.value.Effect.TheVariants.{Kept}
use Rattle.common_outcomes.specs.Values.{known, applied, joined_effect}
use Rattle.common_outcomes.specs.Alone.{Setup, Alone, cell_at, is_shared, value_at_start, start_alone, alone_steps, alone}
use Rattle.common_outcomes.specs.Phases.{setup}

-- the number m of a run is as a value of the task alone says, where `base` is what each word held when its lock was taken
abbrev pub DenotesBy : Kind → ℕ → (ℕ → ℕ) → ℕ → Type 0
DenotesBy Known n base m = m ≡ n
DenotesBy (Offset w) n base m = m ≡ (base w.0 + n) % 2 ^ 32
DenotesBy Varying n base m = Unit {0}

abbrev pub Denotes : Value → (ℕ → ℕ) → ℕ → Type 0
Denotes v base m = DenotesBy v.kind v.number base m

-- a task's state but its registers: where it is, what it holds, what it has retired, and whether it has ended
abbrev pub without_registers : TaskState → TaskState
without_registers t = record t { regs = [] }

-- the registers of a run are as those of the task alone say
pub record AreRegisters (kinds : List Kind) (regs : List ℕ) (base : ℕ → ℕ) (run : List ℕ) : Type 0 where
  pub kinds_count : length kinds ≡ 32
  pub count : length regs ≡ 32
  pub run_count : length run ≡ 32
  pub each : (r : ℕ) → DenotesBy (slice_index_or kinds r Known) (slice_index regs r) base (slice_index run r)
  pub small : (r : ℕ) → slice_index regs r < 2 ^ 32

-- an offset that a word holds is one of that word, which is shared
abbrev pub IsOfWord : ℕ → Kind → Type 0
IsOfWord w (Offset v) = v.0 ≡ w
IsOfWord w _ = Unit {0}

abbrev pub IsOfSharedWord : Setup → ℕ → Kind → Type 0
IsOfSharedWord S w (Offset v) = is_shared S.phase S.decl w ≡ true
IsOfSharedWord S w _ = Unit {0}

-- the task holds a lock that guards the word for it
pub record IsInSection (d : TaskDecl) (held w : ℕ) : Type 0 where
  pub lock : ℕ
  pub holds : is_held held lock ≡ true
  pub guards : task_guards d lock w ≡ true

-- an offset that a register holds is of a shared word whose lock is held
abbrev pub IsOfSection : Setup → ℕ → Kind → Type 0
IsOfSection S held (Offset w) = (is_shared S.phase S.decl w.0 ≡ true) × IsInSection S.decl held w.0
IsOfSection S held _ = Unit {0}

-- a word that the task has stored, and whose section hasn't ended: where it is shared the task may still store it, and memory
-- has what the value says
pub record IsStored (S : Setup) (base : ℕ → ℕ) (t : TaskState) (m : List ℕ) (w : ℕ) (v : Value) : Type 0 where
  pub may : is_shared S.phase S.decl w ≡ true → may_store S.decl t.held w ≡ true
  pub writes : task_writes S.decl w ≡ true
  pub runs : t.end ≡ None
  pub own : IsOfWord w v.kind
  pub shared : IsOfSharedWord S w v.kind
  pub stands : Denotes v base (slice_index m w)
  pub small : v.number < 2 ^ 32

-- the task r of a run, on the memory m, is where the task alone is: the same but for its registers; and registers and words are
-- as the task alone says
pub record FitsAlone (S : Setup) (base : ℕ → ℕ) (a : Alone) (r : Started) (m : List ℕ) : Type 0 where
  pub decl : r.decl ≡ S.decl
  pub state : without_registers r.state ≡ without_registers a.state
  pub registers : AreRegisters a.kinds a.state.regs base r.state.regs
  pub taken : (r : ℕ) → IsOfSection S a.state.held (slice_index_or a.kinds r Known)
  pub words : length a.cells ≡ length m
  pub base_small : (w : ℕ) → base w < 2 ^ 32
  pub stored : (w : ℕ) (v : Value) → (cell_at a.cells w).stored ≡ Some v → IsStored S base a.state m w v
  -- a word that it hasn't stored: in a section of its lock, as when the lock was taken; unshared, as at the phase's beginning
  pub kept : (w : ℕ) → a.state.end ≡ None → (cell_at a.cells w).stored ≡ None → is_shared S.phase S.decl w ≡ true → IsInSection S.decl a.state.held w → slice_index m w ≡ base w
  pub first : (w : ℕ) → a.state.end ≡ None → (cell_at a.cells w).stored ≡ None → is_shared S.phase S.decl w ≡ false → Denotes (value_at_start S w) base (slice_index m w)

-- ---- all tasks of a phase

-- a task of the phase: in the run, alone after as many steps, and what words held when it took their locks
pub record Side : Type 0 where
  pub setup : Setup
  pub steps : ℕ
  pub alone : Alone
  pub run : Started
  pub base : ℕ → ℕ

abbrev pub side_effects : List Side → ℕ → Effect
side_effects [] w = Kept
side_effects (s ∷ ss) w = joined_effect (cell_at s.alone.cells w).effect (side_effects ss w)

-- what holds at each point of a phase, in every order. `ended` is memory by the sections that have ended: each word is as its
-- first value and the effects of those sections say. Memory is so too, but for words that a task has stored in its present
-- section; and a task that may store a shared word in its present section took its lock at that value
pub record PhaseAgreesBy (first : List Value) (sides : List Side) (ended : ℕ → ℕ) (m : List ℕ) : Type 0 where
  pub each : (i : ℕ) (s : Side) → slice_get sides i ≡ Some s → FitsAlone s.setup s.base s.alone s.run m
  pub reached : (i : ℕ) (s : Side) → slice_get sides i ≡ Some s → s.alone ≡ alone_steps s.setup s.steps (start_alone s.setup)
  pub settled : (w : ℕ) → Denotes (applied (side_effects sides w) (slice_index_or first w (known 0))) ended (ended w)
  pub resting : (w : ℕ) → ((i : ℕ) (s : Side) → slice_get sides i ≡ Some s → (cell_at s.alone.cells w).stored ≡ None) → slice_index m w ≡ ended w
  pub taken : (w i : ℕ) (s : Side) → slice_get sides i ≡ Some s → may_store s.setup.decl s.alone.state.held w ≡ true → is_shared s.setup.phase s.setup.decl w ≡ true → s.alone.state.end ≡ None → s.base w ≡ ended w
  pub apart : (i j : ℕ) (a b : Side) → i ≢ j → slice_get sides i ≡ Some a → slice_get sides j ≡ Some b → HoldApart a.alone.state.held b.alone.state.held

-- no offset is left in memory between sections
abbrev pub IsBetween : Kind → Type 0
IsBetween (Offset w) = ⊥
IsBetween _ = Unit {0}

-- what the words of the phase's beginning are: numbers of 32 bits, and no offsets
pub record AreFirst (S : Setup) : Type 0 where
  pub small : (w : ℕ) → (value_at_start S w).number < 2 ^ 32
  pub between : (w : ℕ) → IsBetween (value_at_start S w).kind

-- some memory by the sections that have ended serves
pub record PhaseAgrees (first : List Value) (sides : List Side) (m : List ℕ) : Type 0 where
  pub ended : ℕ → ℕ
  pub all : PhaseAgreesBy first sides ended m

-- a phase of a checked program, the memory at its beginning, and that each of its tasks alone comes to an end
pub record IsSettledPhase (P : ProgramParts) (fuel : ℕ) (p : Phase) (first : List Value) : Type 0 where
  pub program : IsProgram P
  pub checked : IsChecked P
  pub among : IsAmong P.phases p
  pub small : (w : ℕ) → (slice_index_or first w (known 0)).number < 2 ^ 32
  pub between : (w : ℕ) → IsBetween (slice_index_or first w (known 0)).kind
  pub ends : (d : TaskDecl) → IsAmong p.tasks d → (alone (setup P fuel p first d)).state.end ≢ None

-- the sides are the tasks of the phase, in their order
abbrev pub AreSides : ProgramParts → ℕ → Phase → List Value → List Side → Type 0
AreSides P fuel p first sides = map (λ (s : Side). s.setup) sides ≡ map (setup P fuel p first) p.tasks

-- what is known of the place where a task is
pub record IsPhaseTask (S : Setup) (m : List ℕ) : Type 0 where
  pub checked : IsCheckedPhase S.phase
  pub among : IsAmong S.phase.tasks S.decl
  pub first : AreFirst S
  pub words : length m ≡ length S.program.memory

abbrev pub IsNoAcquire : Need → Type 0
IsNoAcquire (need.TheVariants.Acquire lock) = ⊥
IsNoAcquire _ = Unit {0}
