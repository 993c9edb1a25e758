-- Lock order: if all tasks of a phase take locks in one order, none of them waits for ever.
use Rattle.std.specs.Prelude.{◌≡◌, ℕ, ◌<◌, true, List, Some}
use Rattle.std.specs.List.{All}
use Rattle.dn_base.specs.declared.ids.Grant.{Grant}
use Rattle.dn_base.specs.declared.ids.LockId.{LockId}
use Rattle.region_table.specs.Program.{ProgramParts}
use Rattle.rv_core.specs.declared.task.End.{End}
use Rattle.rv_core.specs.declared.need.Need.TheVariants.{Acquire}
use Rattle.rv_core.specs.Access.{is_held}
use Rattle.flat_machine.specs.Step.{Started, wish}
use Rattle.flat_machine.specs.Phases.{Flat}
use Rattle.flat_machine.specs.Grants.{so_far}

-- a task takes locks in the order of these ranks: a lock that it wants has a higher rank than each lock that it holds. If it has
-- ended, it holds none
pub record TakesInOrder (P : ProgramParts) (fuel : ℕ) (rank : ℕ → ℕ) (r : Started) : Type 0 where
  pub rises : (lock : LockId) (held : ℕ) → wish P fuel r ≡ Some (Acquire lock) → is_held r.state.held held ≡ true → rank held < rank lock.0
  pub gives_up : (by : End) → r.state.end ≡ Some by → r.state.held ≡ 0

-- the ranks of the locks in each phase are a lock order: after any legal list of grants the tasks of the current phase take their
-- locks in the order of its ranks
abbrev pub IsLockOrder : ProgramParts → ℕ → (ℕ → ℕ → ℕ) → Type 0
IsLockOrder P fuel rank = (gs : List Grant) (F : Flat) → so_far P fuel gs ≡ Some F → All (λ (r : Started). TakesInOrder P fuel (rank r.phase.0) r) F.tasks
