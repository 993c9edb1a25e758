-- The setting of a program, a shape and a fuel.
use Rattle.std.specs.Prelude.{◌≡◌, ℕ, List}
use Rattle.dn_base.specs.declared.ids.Shape.{Shape}
use Rattle.region_table.specs.Program.{ProgramParts}
use Rattle.region_table.specs.Plan.{ArePlans}
use Rattle.message_net.specs.declared.event.Event.{Event}
use Rattle.registration_protocol.specs.Node.{Setting}
use Rattle.machine_rules.specs.State.{initial_state}
use Rattle.machine_rules.specs.Runs.{IsRun}
use Rattle.dn_machine.specs.Plans.{AreInOneForm}

-- the program with its plans, the shape and the fuel; there is exactly one such setting
pub record IsSettingOf (P : ProgramParts) (machine : Shape) (most : ℕ) (C : Setting) : Type 0 where
  pub program : C.program ≡ P
  pub plans : ArePlans P C.plans
  -- each set of words of the plans is the one list of intervals that has its words
  pub one_form : AreInOneForm C.plans
  pub shape : C.shape ≡ machine
  pub fuel : C.fuel ≡ most

-- the events are a run of the initial machine of this program, shape and fuel
abbrev pub IsRunOn : ProgramParts → Shape → ℕ → List Event → Type 0
IsRunOn P machine most events = (C : Setting) → IsSettingOf P machine most C → IsRun (initial_state C) events
