-- Where the task that holds a lock acquired it, by the run of the answer once more.
use Rattle.std.specs.Prelude.{◌≡◌, ◌≢◌, ℕ, ◌==◌, List, [], ◌∷◌, ◌++◌, Option, Some, None, if◌then◌else◌}
use Rattle.std.specs.List.{All}
use Rattle.std.specs.Option.{option_or}
use Rattle.dn_base.specs.declared.ids.Grant.{Grant}
use Rattle.region_table.specs.Program.{ProgramParts}
use Rattle.rv_core.specs.declared.ending.EndShown as shown
use Rattle.rv_core.specs.declared.ending.EndShown.{EndShown}
use Rattle.flat_machine.specs.declared.acquires.Acquire.{Acquire}
use Rattle.flat_machine.specs.Acquires.{IsAcquiredAt}
use Rattle.flat_machine.specs.Phases.{Flat}
use Rattle.flat_machine.specs.Grants.{so_far}
use Rattle.explained_answer.specs.declared.line.AnswerLine as line
use Rattle.explained_answer.specs.declared.line.AnswerLine.{AnswerLine}
use Rattle.explained_answer.specs.Holders.{holder_of}

-- the last acquire of a lock
abbrev pub if_of_lock : ℕ → Acquire → Option Acquire
if_of_lock lock a = if a.grant.lock.0 == lock then Some a else None

abbrev pub last_acquire : ℕ → List Acquire → Option Acquire
last_acquire lock [] = None
last_acquire lock (a ∷ rest) = option_or (last_acquire lock rest) (if_of_lock lock a)

-- its address, if it is in the phase
abbrev pub pc_if_in : ℕ → Option Acquire → Option ℕ
pc_if_in phase (Some a) = if a.grant.phase.0 == phase then Some a.pc else None
pc_if_in phase None = None

-- where the lock was acquired last for which a task waits; None for a task that doesn't wait
abbrev pub awaited_acquire : List Acquire → ℕ → EndShown → Option ℕ
awaited_acquire acquires phase (shown.TheVariants.Waits lock) = pc_if_in phase (last_acquire lock.0 acquires)
awaited_acquire acquires phase _ = None

-- where the lock was acquired last for which the task of a line waits
abbrev pub acquired_on : List Acquire → AnswerLine → Option ℕ
acquired_on acquires (line.TheVariants.Task t) = awaited_acquire acquires t.phase.0 t.end
acquired_on acquires _ = None

-- the last of these grants that is of the lock is in the phase. Its core is the one that is named as the lock's holder, and after the
-- grants before it the task of this core waits for the lock at this address
pub record IsLastAcquire (P : ProgramParts) (fuel : ℕ) (grants : List Grant) (phase lock pc : ℕ) : Type 0 where
  pub before : List Grant
  pub grant : Grant
  pub behind : List Grant
  pub are : grants ≡ before ++ grant ∷ behind
  pub of_lock : grant.lock.0 ≡ lock
  pub in_phase : grant.phase.0 ≡ phase
  pub last : All (λ (g : Grant). g.lock.0 ≢ lock) behind
  pub holder : holder_of grants phase lock ≡ Some grant.core.0
  pub state : Flat
  pub leads : so_far P fuel before ≡ Some state
  pub place : IsAcquiredAt P fuel state grant (Some (record { grant = grant; pc = pc }))
