-- When a context is one of a machine, and when a node fits it.
use Rattle.std.specs.Prelude.{◌≡◌, ℕ, ◌<◌, ◌≤◌, true, false, length, Option, Some, IfSome, None}
use Rattle.std.specs.List.{All}
use Rattle.std.specs.Option.{is_some}
use Rattle.region_table.specs.Program.{cores_of}
use Rattle.region_table.specs.Plan.{ArePlans}
use Rattle.region_table.specs.Tasks.{declared}
use Rattle.region_table.specs.declared.declared.TaskDecl.{TaskDecl}
use Rattle.rv_core.specs.declared.task.TaskState.{TaskState}
use Rattle.rv_core.specs.declared.need.Need as need
use Rattle.rv_core.specs.declared.need.Need.{Need}
use Rattle.rv_core.specs.Access.{is_held}
use Rattle.rv_core.specs.Need.{need_of}
use Rattle.write_signature.specs.declared.signature.Signature.{Signature}
use Rattle.write_signature.specs.Signature.{tag}
use Rattle.word_cache.specs.Cache.{IsCache}
use Rattle.registration_protocol.specs.declared.node.NodeWait as wait
use Rattle.registration_protocol.specs.declared.node.NodeWait.{NodeWait}
use Rattle.registration_protocol.specs.Node.{NodeParts, Setting, need_now}

-- a context: the plans are those of the program's phases, there are as many cores as the program needs, and the other sizes and
-- the fuel are within their limits
pub record IsContext (C : Setting) : Type 0 where
  pub plans : ArePlans C.program C.plans
  pub cores : C.shape.cores ≡ cores_of C.program
  pub some_banks : 0 < C.shape.banks
  pub most_banks : C.shape.banks ≤ 16
  pub some_sets : 0 < C.shape.sets
  pub most_sets : C.shape.sets ≤ 256
  pub some_ways : 0 < C.shape.ways
  pub most_ways : C.shape.ways ≤ 16
  pub some_fuel : 0 < C.fuel
  pub most_fuel : C.fuel ≤ 32768

-- every lock that the task holds is one of the program's
abbrev pub HoldsOwn : ℕ → TaskState → Type 0
HoldsOwn locks t = (lock : ℕ) → is_held t.held lock ≡ true → lock < locks

-- a node that waits for a lock has a task that hasn't ended and whose next instruction acquires that lock
abbrev pub NeedsLock : Option Need → NodeWait → Type 0
NeedsLock needs (wait.TheVariants.Locking lock) = needs ≡ Some (need.TheVariants.Acquire lock)
NeedsLock needs _ = Unit {0}

-- a signature has only writes of this phase
abbrev pub IsOfPhase : ℕ → Signature → Type 0
IsOfPhase phase s = tag s ≡ phase

-- a node of the machine
pub record Fits (C : Setting) (n : NodeParts) : Type 0 where
  pub core : n.core < C.shape.cores
  -- the phase of a node that is not halted is one of the program's
  pub phase : n.halted ≡ false → n.phase < length C.program.phases
  -- the node has a task exactly where the program declares one for its core in its phase
  pub task : is_some n.task ≡ is_some (declared C.program n.phase n.core)
  pub retired : IfSome n.task (λ t. t.retired ≤ C.fuel)
  pub held : IfSome n.task (HoldsOwn (length C.program.locks))
  pub signatures : length n.signatures ≡ length C.program.locks
  -- each signature has the writes of the node's phase alone
  pub tags : All (IsOfPhase n.phase) n.signatures
  pub cache : IsCache n.cache
  pub sets : n.cache.sets ≡ C.shape.sets
  pub ways : n.cache.ways ≡ C.shape.ways
  pub waiting : NeedsLock (need_now C n) n.waiting

-- a need is that of the next instruction of a task that hasn't ended
pub record IsNeed (C : Setting) (d : TaskDecl) (asked : Need) (t : TaskState) : Type 0 where
  pub going : t.end ≡ None
  pub fuel : t.retired ≤ C.fuel
  pub is_need : asked ≡ need_of C.program d C.fuel t

-- the task is this one, hasn't ended, and its next instruction needs nothing, whatever declaration it has
pub record Computes (C : Setting) (task : Option TaskState) (t : TaskState) : Type 0 where
  pub is : task ≡ Some t
  pub going : t.end ≡ None
  pub local : (d : TaskDecl) → need_of C.program d C.fuel t ≡ need.TheVariants.Local
