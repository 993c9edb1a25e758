-- Worlds, and what it means that a world leads to a state of the flat machine. Only laws cite this.
use Rattle.std.specs.Prelude.{◌≡◌, ◌≢◌, ℕ, ◌+◌, Bool, true, false, List, ◌++◌, length, map, slice_get, slice_index, Option, Some, None}
use Rattle.dn_base.specs.declared.ids.Grant.{Grant}
use Rattle.dn_base.specs.declared.ids.LoadSeen.{LoadSeen}
use Rattle.region_table.specs.Program.{ProgramParts}
use Rattle.region_table.specs.declared.declared.Phase.{Phase}
use Rattle.rv_core.specs.declared.need.Need.{Need}
use Rattle.rv_core.specs.declared.need.Need.TheVariants.{Acquire}
use Rattle.rv_core.specs.Access.{may_load, may_store}
use Rattle.rv_core.specs.Step.{advanced}
use Rattle.flat_machine.specs.declared.ending.TaskLoads.{TaskLoads}
use Rattle.flat_machine.specs.Step.{Started, At, fresh, wish, in_state, flat_step, segment, IsWithin}
use Rattle.flat_machine.specs.Phases.{Flat, settled}
use Rattle.flat_machine.specs.Grants.{is_free, with_task, so_far}
use Rattle.flat_machine.specs.Laws.{at_memory, EndsSegment, HoldApart, HasTasks}

-- A world is a value of the type `Flat`: how many phases have begun, the tasks of the earlier phases, the tasks of the current
-- phase, and one memory. A state of the flat machine is a world in which every task has run as far as it can.

-- whether a task may store a word, with the locks that it holds
abbrev pub stores : Started → ℕ → Bool
stores r w = may_store r.decl r.state.held w

-- whether a task may load a word, with the locks that it holds
abbrev pub loads : Started → ℕ → Bool
loads r w = may_load r.decl r.state.held w

-- the state that a task gets if it runs its segment alone, on the memory m
abbrev pub segment_alone : ProgramParts → ℕ → List ℕ → Started → At
segment_alone P fuel m r = segment P fuel (at_memory r m)

-- the tasks of a world are those of the phases that have begun, none has retired more instructions than it may, and no lock is
-- held by two tasks of the current phase
pub record IsWorld (P : ProgramParts) (fuel : ℕ) (W : Flat) : Type 0 where
  pub tasks : HasTasks P W
  pub words : length W.memory ≡ length P.memory
  pub within : (i : ℕ) (r : Started) → slice_get W.tasks i ≡ Some r → IsWithin fuel r
  pub held : (i j : ℕ) (a b : Started) → i ≢ j → slice_get W.tasks i ≡ Some a → slice_get W.tasks j ≡ Some b → HoldApart a.state.held b.state.held

-- Each task of W, if it runs its segment alone, gets the state of the task of F at its index. A word that a task may store then
-- has its value in F by that task alone, and a word that no task may store has that value already
pub record LeadsTo (P : ProgramParts) (fuel : ℕ) (W F : Flat) : Type 0 where
  pub begun : W.begun ≡ F.begun
  pub past : W.past ≡ F.past
  pub count : length W.tasks ≡ length F.tasks
  pub words : length W.memory ≡ length P.memory
  pub flat_words : length F.memory ≡ length P.memory
  pub tasks : (i : ℕ) (r : Started) → slice_get W.tasks i ≡ Some r → slice_get F.tasks i ≡ Some (segment_alone P fuel W.memory r).task
  pub stored : (i : ℕ) (r : Started) (w : ℕ) → slice_get W.tasks i ≡ Some r → stores r w ≡ true → slice_index (segment_alone P fuel W.memory r).memory w ≡ slice_index F.memory w
  pub kept : (w : ℕ) → ((i : ℕ) (r : Started) → slice_get W.tasks i ≡ Some r → stores r w ≡ false) → slice_index W.memory w ≡ slice_index F.memory w

-- the world leads to the flat machine's run by the grants
pub record LeadsToRun (P : ProgramParts) (fuel : ℕ) (gs : List Grant) (W : Flat) : Type 0 where
  pub world : IsWorld P fuel W
  pub flat : Flat
  pub run : so_far P fuel gs ≡ Some (settled P fuel flat)
  pub leads : LeadsTo P fuel W flat

-- the world after one instruction of the task r at place i
abbrev pub stepped : ProgramParts → ℕ → Flat → ℕ → Started → Flat
stepped P fuel W i r = with_task W i (flat_step P fuel (at_memory r W.memory))

-- the task once it has acquired the lock that it wants
abbrev pub past_acquire : ProgramParts → Started → Started
past_acquire P r = in_state r (advanced P r.state)

-- the world once the task r at place i has acquired the lock that it wants
abbrev pub world_after_grant : ProgramParts → Flat → ℕ → Started → Flat
world_after_grant P W i r = with_task W i (at_memory (past_acquire P r) W.memory)

-- the world at the beginning of the next phase
abbrev pub with_phase : Flat → Phase → Flat
with_phase W p =
    record { begun = W.begun + 1; past = W.past ++ W.tasks; tasks = map (fresh W.begun) p.tasks; memory = W.memory }

-- every task of the current phase has ended or wants a lock
abbrev pub IsResting : ProgramParts → ℕ → Flat → Type 0
IsResting P fuel W = (i : ℕ) (r : Started) → slice_get W.tasks i ≡ Some r → EndsSegment (wish P fuel r)

-- a task has ended, or wants a lock that some task holds
abbrev pub IsStopped : List Started → Option Need → Type 0
IsStopped tasks None = Unit {0}
IsStopped tasks (Some (Acquire lock)) = is_free tasks lock.0 ≡ false
IsStopped tasks _ = ⊥

-- every task of the current phase has ended, or wants a lock that some task holds
abbrev pub AreStopped : ProgramParts → ℕ → Flat → Type 0
AreStopped P fuel W = (i : ℕ) (r : Started) → slice_get W.tasks i ≡ Some r → IsStopped W.tasks (wish P fuel r)

-- at index i stand all loads of the task of x: those of x, and maybe more
pub record HasLoadedFirst (all : List TaskLoads) (i : ℕ) (x : TaskLoads) : Type 0 where
  pub task : TaskLoads
  pub there : slice_get all i ≡ Some task
  pub phase : task.phase ≡ x.phase
  pub core : task.core ≡ x.core
  pub more : List LoadSeen
  pub loads : task.loads ≡ x.loads ++ more

-- the loads of each task are a prefix of those at its index in the second list
abbrev pub AreFronts : List TaskLoads → List TaskLoads → Type 0
AreFronts some all = (i : ℕ) (x : TaskLoads) → slice_get some i ≡ Some x → HasLoadedFirst all i x
