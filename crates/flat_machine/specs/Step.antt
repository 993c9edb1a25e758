-- One task on one memory: a single thread that takes one instruction after the other.
use Rattle.std.specs.Prelude.{◌≡◌, ℕ, zero, suc, ◌+◌, ◌-◌, ◌<◌, ◌≤◌, List, [], ◌∷◌, ◌++◌, slice_index, slice_set, Option, Some, None}
use Rattle.dn_base.specs.declared.ids.PhaseId.{PhaseId}
use Rattle.dn_base.specs.declared.ids.LoadSeen.{LoadSeen}
use Rattle.region_table.specs.Program.{ProgramParts}
use Rattle.region_table.specs.declared.declared.TaskDecl.{TaskDecl}
use Rattle.rv_core.specs.declared.task.TaskState.{TaskState}
use Rattle.rv_core.specs.declared.task.End.{End}
use Rattle.rv_core.specs.declared.need.Need.{Need}
use Rattle.rv_core.specs.declared.need.Need as need
use Rattle.rv_core.specs.Task.{started, stopped}
use Rattle.rv_core.specs.Need.{need_of}
use Rattle.rv_core.specs.Step.{advanced, loaded_of, merged_of}

-- a task that has started: its phase, what it declares, its state, and the loads that it has done so far
pub record Started : Type 0 where
  pub phase : PhaseId
  pub decl : TaskDecl
  pub state : TaskState
  pub loads : List LoadSeen

-- a task and the one list of data words
pub record At : Type 0 where
  pub task : Started
  pub memory : List ℕ

-- a task before its first instruction
abbrev pub fresh : ℕ → TaskDecl → Started
fresh phase d = record { phase = record { 0 = phase }; decl = d; state = started d; loads = [] }

-- what a task needs next; one that has ended needs nothing
abbrev pub wish_unless : ProgramParts → ℕ → Started → Option End → Option Need
wish_unless P fuel r None = Some (need_of P r.decl fuel r.state)
wish_unless P fuel r (Some by) = None

abbrev pub wish : ProgramParts → ℕ → Started → Option Need
wish P fuel r = wish_unless P fuel r r.state.end

abbrev pub in_state : Started → TaskState → Started
in_state r t = record r { state = t }

abbrev pub in_load : Started → TaskState → LoadSeen → Started
in_load r t seen = record r { state = t; loads = r.loads ++ seen ∷ [] }

-- one instruction of the task, by what it needs; a task that has ended or wants a lock isn't changed
abbrev pub step_by : ProgramParts → At → Option Need → At
step_by P s None = s
step_by P s (Some need.TheVariants.Local) =
    record { task = in_state s.task (advanced P s.task.state); memory = s.memory }
step_by P s (Some (need.TheVariants.Load word)) =
    let value = slice_index s.memory word.0 in
    record { task = in_load s.task (loaded_of P value s.task.state) (record { word = word; value = value }); memory = s.memory }
step_by P s (Some (need.TheVariants.Store word whole)) =
    record { task = in_state s.task (advanced P s.task.state); memory = slice_set s.memory word.0 (merged_of P (slice_index s.memory word.0) s.task.state) }
step_by P s (Some (need.TheVariants.Acquire lock)) = s
step_by P s (Some (need.TheVariants.Release lock)) =
    record { task = in_state s.task (advanced P s.task.state); memory = s.memory }
step_by P s (Some (need.TheVariants.End cause)) = record { task = in_state s.task (stopped cause s.task.state); memory = s.memory }

abbrev pub flat_step : ProgramParts → ℕ → At → At
flat_step P fuel s = step_by P s (wish P fuel s.task)

abbrev pub flat_steps : ProgramParts → ℕ → ℕ → At → At
flat_steps P fuel zero s = s
flat_steps P fuel (suc n) s = flat_steps P fuel n (flat_step P fuel s)

-- the task runs until it waits or ends. That takes at most `fuel + 1` steps: each but the last retires an instruction, and a
-- task at rest isn't changed
unfoldable pub segment : ProgramParts → ℕ → At → At
segment P fuel s = flat_steps P fuel (suc fuel) s

-- an upper bound for the steps that a task can still make
abbrev pub room_by : ℕ → ℕ → Option End → ℕ
room_by fuel retired None = fuel + 1 - retired
room_by fuel retired (Some by) = 0

abbrev pub room : ℕ → Started → ℕ
room fuel r = room_by fuel r.state.retired r.state.end

-- a task that hasn't ended has retired no more instructions than it may
abbrev pub IsWithin : ℕ → Started → Type 0
IsWithin fuel r = r.state.end ≡ None → r.state.retired ≤ fuel

-- the lock that a need acquires or releases is one of the 32 locks that a program may have
abbrev pub HasLock : Need → Type 0
HasLock (need.TheVariants.Acquire lock) = lock.0 < 32
HasLock (need.TheVariants.Release lock) = lock.0 < 32
HasLock _ = Unit {0}

abbrev pub IsAcquire : Need → Type 0
IsAcquire (need.TheVariants.Acquire lock) = Unit {0}
IsAcquire _ = ⊥

-- the task hasn't ended, and wants a lock
pub record WantsLock (P : ProgramParts) (fuel : ℕ) (r : Started) : Type 0 where
  pub open' : r.state.end ≡ None
  pub wants : IsAcquire (need_of P r.decl fuel r.state)

-- no step changes the task or the memory
abbrev pub IsUnmoved : ProgramParts → ℕ → At → Type 0
IsUnmoved P fuel s = flat_step P fuel s ≡ s
