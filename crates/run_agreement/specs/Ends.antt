-- What it means that a complete run has the same end as the flat machine's run by its grants.
use Rattle.std.specs.Prelude.{◌≡◌, List, Some}
use Rattle.message_net.specs.declared.event.Event.{Event}
use Rattle.registration_protocol.specs.Node.{Setting}
use Rattle.flat_machine.specs.declared.ending.FlatEnd.{FlatEnd}
use Rattle.flat_machine.specs.Ending.{flat_end}
use Rattle.machine_rules.specs.State.{initial_state}
use Rattle.machine_rules.specs.Runs.{grants_of, all_loads, ending_of_run}

-- The run's grants are a whole list. The flat machine's run by them has the same loads, task by task, and the same ending: the
-- outcome, how each task that started ended, and the memory
pub record HasFlatEnd (C : Setting) (events : List Event) : Type 0 where
  pub end' : FlatEnd
  pub run : flat_end C.program C.fuel (grants_of (initial_state C) events) ≡ Some end'
  pub loads : end'.loads ≡ all_loads (initial_state C) events
  pub ending : end'.ending ≡ ending_of_run (initial_state C) events
