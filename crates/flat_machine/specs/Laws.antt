-- What the laws of the flat machine, in src/laws.rt, speak of.
use Rattle.std.specs.Prelude.{◌≡◌, ◌≢◌, ℕ, ◌+◌, ◌<◌, ◌≤◌, Bool, true, false, List, [], ◌++◌, length, map, take, slice_get, slice_index, Option, Some, None}
use Rattle.std.specs.List.{All, AllPairs, Any, IsAmong}
use Rattle.dn_base.specs.declared.ids.Grant.{Grant}
use Rattle.dn_base.specs.declared.ids.LoadSeen.{LoadSeen}
use Rattle.dn_base.specs.declared.ids.LockId.{LockId}
use Rattle.region_table.specs.Program.{ProgramParts, tasks_of}
use Rattle.region_table.specs.declared.declared.TaskDecl.{TaskDecl}
use Rattle.region_table.specs.declared.declared.Phase.{Phase}
use Rattle.rv_core.specs.Access.{is_held, may_store}
use Rattle.rv_core.specs.Need.{need_of}
use Rattle.rv_core.specs.declared.ending.EndShown as shown
use Rattle.rv_core.specs.declared.ending.TaskEnd.{TaskEnd}
use Rattle.rv_core.specs.declared.need.Need.{Need}
use Rattle.rv_core.specs.declared.need.Need.TheVariants.{Acquire}
use Rattle.flat_machine.specs.declared.ending.FlatEnd.{FlatEnd}
use Rattle.flat_machine.specs.Step.{Started, At, fresh, wish, segment}
use Rattle.flat_machine.specs.Phases.{Flat, all_tasks, run_all}
use Rattle.flat_machine.specs.Grants.{grants_from, so_far, grants_are_whole}
use Rattle.rv_core.specs.Ending.{is_waiting, is_trapped, outcome_of}
use Rattle.flat_machine.specs.Ending.{shown_of, flat_ends_of, flat_loads_of}

-- in each phase of a program the tasks stand in rising order of their cores, so that a core has at most one
abbrev pub AreCoresRising : ProgramParts → Type 0
AreCoresRising P = All (λ (p : Phase). AllPairs (λ (a b : TaskDecl). a.core.0 < b.core.0) p.tasks) P.phases

abbrev pub at_memory : Started → List ℕ → At
at_memory r m = record { task = r; memory = m }

-- the task has ended or wants a lock
abbrev pub EndsSegment : Option Need → Type 0
EndsSegment None = Unit {0}
EndsSegment (Some (Acquire lock)) = Unit {0}
EndsSegment _ = ⊥

-- two memories have the same values in the words that pass a test
abbrev pub AgreeOn : (ℕ → Bool) → List ℕ → List ℕ → Type 0
AgreeOn test m n = (w : ℕ) → test w ≡ true → slice_index m w ≡ slice_index n w

-- from the memories m and n a segment leaves the same task with the same loads, and words that were the same stay the same
pub record IsAlike (m n : List ℕ) (a b : At) : Type 0 where
  pub task : a.task ≡ b.task
  pub left : length a.memory ≡ length m
  pub right : length b.memory ≡ length n
  pub kept : (w : ℕ) → slice_index m w ≡ slice_index n w → slice_index a.memory w ≡ slice_index b.memory w

-- the first locks are among the second
pub record HoldsLess (held all : ℕ) : Type 0 where
  pub among : (lock : ℕ) → is_held held lock ≡ true → is_held all lock ≡ true

-- the second is the first task at a later time: it has done the same loads, and maybe more
pub record IsLater (r later : Started) : Type 0 where
  pub phase : later.phase ≡ r.phase
  pub decl : later.decl ≡ r.decl
  pub more : List LoadSeen
  pub loads : later.loads ≡ r.loads ++ more

-- at this index there stands the task r, at a later time
pub record StandsLater (tasks : List Started) (i : ℕ) (r : Started) : Type 0 where
  pub task : Started
  pub there : slice_get tasks i ≡ Some task
  pub later : IsLater r task

-- each task that has started in F stands at its index in G, at a later time
abbrev pub AreLater : Flat → Flat → Type 0
AreLater F G = (i : ℕ) (r : Started) → slice_get (all_tasks F) i ≡ Some r → StandsLater (all_tasks G) i r

-- no lock is held in both
abbrev pub HoldApart : ℕ → ℕ → Type 0
HoldApart a b = (lock : ℕ) → is_held a lock ≡ true → is_held b lock ≡ true → ⊥

-- the segments of two tasks give the same in either order: the same states and loads, and the same memory; and each task gets
-- the state that its segment gives alone
pub record SameInEitherOrder (P : ProgramParts) (fuel : ℕ) (a b : Started) (m : List ℕ) : Type 0 where
  pub first : (segment P fuel (at_memory a (segment P fuel (at_memory b m)).memory)).task ≡ (segment P fuel (at_memory a m)).task
  pub second : (segment P fuel (at_memory b (segment P fuel (at_memory a m)).memory)).task ≡ (segment P fuel (at_memory b m)).task
  pub memory : (segment P fuel (at_memory b (segment P fuel (at_memory a m)).memory)).memory
      ≡ (segment P fuel (at_memory a (segment P fuel (at_memory b m)).memory)).memory

-- a task that is shown as out of fuel has retired exactly as many instructions as it may
abbrev pub HasUsedUp : ℕ → TaskEnd → Type 0
HasUsedUp fuel t = t.end ≡ shown.TheVariants.Fuel → t.retired ≡ fuel

-- a task is out of fuel after exactly as many instructions as it may retire, and none has trapped or waits
pub record IsOutOfFuel (fuel : ℕ) (ends : List TaskEnd) : Type 0 where
  pub spent : Any (λ (t : TaskEnd). (t.end ≡ shown.TheVariants.Fuel) × (t.retired ≡ fuel)) ends
  pub untrapped : All (λ (t : TaskEnd). is_trapped t.end ≡ false) ends
  pub unheld : All (λ (t : TaskEnd). is_waiting t.end ≡ false) ends

-- a grant names the current phase, which is the last that has begun, a core whose task waits for the lock, and a lock that nobody
-- holds
pub record IsLegal (P : ProgramParts) (fuel : ℕ) (F : Flat) (g : Grant) : Type 0 where
  pub current : g.phase.0 + 1 ≡ F.begun
  pub task : Started
  pub started : IsAmong F.tasks task
  pub named : task.decl.core ≡ g.core
  pub waits : wish P fuel task ≡ Some (Acquire g.lock)
  pub free : All (λ (r : Started). is_held r.state.held g.lock.0 ≡ false) (all_tasks F)

-- the task r, at the place i among the tasks of its phase, wants a lock and is shown so, and the task at another place holds
-- that lock
pub record IsHeldUp (P : ProgramParts) (fuel : ℕ) (tasks : List Started) (i : ℕ) (r : Started) : Type 0 where
  pub lock : LockId
  pub wants : need_of P r.decl fuel r.state ≡ Acquire lock
  pub shows : shown_of P fuel r r.state.end ≡ shown.TheVariants.Waits lock
  pub place : ℕ
  pub apart : place ≢ i
  pub holder : Started
  pub there : slice_get tasks place ≡ Some holder
  pub holding : is_held holder.state.held lock.0 ≡ true

-- the tasks that have started are those of the phases that have begun, in their order; those of the last of these phases are
-- in it, and those before them in earlier ones
pub record HasTasks (P : ProgramParts) (F : Flat) : Type 0 where
  pub begun : F.begun ≤ length P.phases
  pub all : map (λ (r : Started). r.decl) (all_tasks F) ≡ tasks_of (take F.begun P.phases)
  pub none : F.begun ≡ 0 → F.tasks ≡ []
  pub last : (k : ℕ) (p : Phase) → F.begun ≡ k + 1 → slice_get P.phases k ≡ Some p → map (λ (r : Started). r.decl) F.tasks ≡ p.tasks
  pub here : All (λ (r : Started). r.phase.0 + 1 ≡ F.begun) F.tasks
  pub before : All (λ (r : Started). r.phase.0 + 1 < F.begun) F.past

-- the run by a prefix of a list of grants has a value, from which the rest leads to F
pub record HasFront (P : ProgramParts) (fuel : ℕ) (gs hs : List Grant) (F : Flat) : Type 0 where
  pub flat : Flat
  pub front : so_far P fuel gs ≡ Some flat
  pub rest : grants_from P fuel (Some flat) hs ≡ Some F
  pub later : AreLater flat F

-- the first segment of a task, on this memory
abbrev pub first_segment : ProgramParts → ℕ → ℕ → List ℕ → TaskDecl → At
first_segment P fuel phase m d = segment P fuel (at_memory (fresh phase d) m)

-- each task of the phase gets the state that it gets alone from the memory m. The words that a task may store without a lock
-- have the values that it leaves, and a word that no task may store is as before
pub record StartAlone (P : ProgramParts) (fuel phase : ℕ) (tasks : List TaskDecl) (m : List ℕ) : Type 0 where
  pub each : (run_all P fuel phase tasks m).tasks ≡ map (λ (d : TaskDecl). (first_segment P fuel phase m d).task) tasks
  pub words : length (run_all P fuel phase tasks m).memory ≡ length m
  pub stored : (d : TaskDecl) (w : ℕ) → IsAmong tasks d → may_store d 0 w ≡ true
      → slice_index (run_all P fuel phase tasks m).memory w ≡ slice_index (first_segment P fuel phase m d).memory w
  pub kept : (w : ℕ) → All (λ (d : TaskDecl). may_store d 0 w ≡ false) tasks → slice_index (run_all P fuel phase tasks m).memory w ≡ slice_index m w

-- the end of a whole run shows the state to which its grants lead
pub record IsEnded (P : ProgramParts) (fuel : ℕ) (gs : List Grant) (e : FlatEnd) : Type 0 where
  pub last : Flat
  pub leads : so_far P fuel gs ≡ Some last
  pub whole : grants_are_whole P fuel last ≡ true
  pub tasks : e.ending.tasks ≡ flat_ends_of P fuel last
  pub memory : e.ending.memory ≡ last.memory
  pub outcome : e.ending.outcome ≡ outcome_of e.ending.tasks
  pub loads : e.loads ≡ flat_loads_of last
