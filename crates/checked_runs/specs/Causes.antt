-- Why a run ends as it does.
use Rattle.std.specs.Prelude.{◌≡◌, ℕ, true, List, slice_get, Some, None}
use Rattle.std.specs.List.{Any}
use Rattle.dn_base.specs.declared.ids.Grant.{Grant}
use Rattle.dn_base.specs.declared.status.Outcome as outcome
use Rattle.region_table.specs.Program.{ProgramParts}
use Rattle.rv_core.specs.Ending.{is_waiting}
use Rattle.rv_core.specs.declared.ending.Ending.{Ending}
use Rattle.rv_core.specs.declared.ending.TaskEnd.{TaskEnd}
use Rattle.flat_machine.specs.Step.{Started}
use Rattle.flat_machine.specs.Phases.{Flat, all_tasks}
use Rattle.flat_machine.specs.Grants.{so_far}
use Rattle.flat_machine.specs.Laws.{IsOutOfFuel, IsHeldUp}

-- the task is one of the current phase, and wants a lock that another task of the phase holds
pub record StandsHeldUp (program : ProgramParts) (fuel : ℕ) (machine : Flat) (r : Started) : Type 0 where
  pub place : ℕ
  pub there : slice_get machine.tasks place ≡ Some r
  pub held_up : IsHeldUp program fuel machine.tasks place r

-- the tasks are the cause of how a run by these grants ends. If it is out of fuel, some task has retired exactly as many
-- instructions as it may, and none trapped or waits. Each started task that hasn't ended wants a lock that another task of its
-- phase holds. If the run is stuck, some task waits
pub record IsCaused (program : ProgramParts) (fuel : ℕ) (grants : List Grant) (ending : Ending) : Type 0 where
  pub spent : ending.outcome ≡ outcome.TheVariants.Fuel → IsOutOfFuel fuel ending.tasks
  pub machine : Flat
  pub reached : so_far program fuel grants ≡ Some machine
  pub held_up : (i : ℕ) (r : Started) → slice_get (all_tasks machine) i ≡ Some r → r.state.end ≡ None → StandsHeldUp program fuel machine r
  pub stuck : ending.outcome ≡ outcome.TheVariants.Stuck → Any (λ (t : TaskEnd). is_waiting t.end ≡ true) ending.tasks
