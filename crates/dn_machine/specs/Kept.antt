-- A machine as the clauses of its calls see it.
use Rattle.std.specs.Prelude.{◌≡◌, ℕ, ◌≤◌, List, length}
use Rattle.dn_base.specs.declared.ids.Shape.{Shape}
use Rattle.region_table.specs.Program.{ProgramParts}
use Rattle.message_net.specs.declared.event.Event.{Event}
use Rattle.machine_rules.specs.State.{State, initial_state}
use Rattle.machine_rules.specs.Runs.{after, IsRun}
use Rattle.machine_rules.specs.Coherent.{Coherent}
use Rattle.machine_rules.specs.Sound.{IsReady, IsSound}
use Rattle.machine_rules.specs.Reordered.{IsReordered}
use Rattle.dn_machine.specs.Plans.{AreInOneForm}

-- the state of a machine, and how many events have led to it
pub record Made : Type 0 where
  pub state : State
  pub made : ℕ

-- `made` events, each of which may come in its turn, lead from the initial machine of a checked program to the state, except
-- for the order of the mails in flight
pub record IsLeftByRun (S : State) (made : ℕ) : Type 0 where
  pub ready : IsReady S.setting
  pub events : List Event
  pub run : IsRun (initial_state S.setting) events
  pub count : length events ≡ made
  pub leads : IsReordered (after (initial_state S.setting) events) S

-- what holds of every machine: it is left by a run. So it has 1 to 16 cores, its state is sound and coherent, and it is the
-- initial one if no event has come
pub record IsKept (S : State) (made : ℕ) : Type 0 where
  pub left : IsLeftByRun S made
  pub some : 1 ≤ S.setting.shape.cores
  pub most : S.setting.shape.cores ≤ 16
  pub sound : IsSound S made
  pub coherent : Coherent S
  pub first : made ≡ 0 → S ≡ initial_state S.setting

-- the initial machine of a program, a shape and a fuel
pub record IsInitialMachine (program : ProgramParts) (shape : Shape) (fuel : ℕ) (m : Made) : Type 0 where
  pub state : m.state ≡ initial_state m.state.setting
  pub program_is : m.state.setting.program ≡ program
  pub shape_is : m.state.setting.shape ≡ shape
  pub fuel_is : m.state.setting.fuel ≡ fuel
  pub plans_are : AreInOneForm m.state.setting.plans
  pub made : m.made ≡ 0
