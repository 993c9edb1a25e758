-- What it means that the loads of a run are prefixes of those of the flat machine's run by the same grants.
use Rattle.std.specs.Prelude.{◌≡◌, ℕ, ◌≤◌, List, ◌++◌, slice_get, Some}
use Rattle.std.specs.List.{IsAmong}
use Rattle.dn_base.specs.declared.ids.LoadSeen.{LoadSeen}
use Rattle.region_table.specs.declared.declared.TaskDecl.{TaskDecl}
use Rattle.region_table.specs.declared.declared.Phase.{Phase}
use Rattle.flat_machine.specs.Step.{Started}
use Rattle.flat_machine.specs.Phases.{Flat, all_tasks}
use Rattle.flat_machine.specs.Grants.{so_far}
use Rattle.message_net.specs.declared.event.Event.{Event}
use Rattle.registration_protocol.specs.Node.{Setting}
use Rattle.machine_rules.specs.State.{initial_state}
use Rattle.machine_rules.specs.Runs.{after, grants_of, loads_of}

-- the task of a phase has started in F, where its loads begin with these
pub record HasStartedWith (F : Flat) (phase : ℕ) (d : TaskDecl) (loads : List LoadSeen) : Type 0 where
  pub task : Started
  pub among : IsAmong (all_tasks F) task
  pub in_phase : task.phase.0 ≡ phase
  pub decl : task.decl ≡ d
  pub more : List LoadSeen
  pub front : task.loads ≡ loads ++ more

-- the run's grants lead the flat machine to F, and for each task of a phase that has begun, the loads so far are a prefix of
-- its loads in F
pub record IsFrontOf (C : Setting) (events : List Event) (F : Flat) : Type 0 where
  pub leads : so_far C.program C.fuel (grants_of (initial_state C) events) ≡ Some F
  pub fronts : (phase : ℕ) (p : Phase) (d : TaskDecl) → phase ≤ (after (initial_state C) events).keeper.phase → slice_get C.program.phases phase ≡ Some p → IsAmong p.tasks d
      → HasStartedWith F phase d (loads_of phase d.core.0 (initial_state C) events)
