-- How a run of the flat machine ends.
use Rattle.std.specs.Prelude.{ℕ, if◌then◌else◌, List, map, Option, Some, None}
use Rattle.dn_base.specs.declared.ids.Grant.{Grant}
use Rattle.region_table.specs.Program.{ProgramParts}
use Rattle.rv_core.specs.declared.task.End.{End}
use Rattle.rv_core.specs.declared.need.Need.{Need}
use Rattle.rv_core.specs.declared.need.Need as need
use Rattle.rv_core.specs.declared.ending.EndShown.{EndShown}
use Rattle.rv_core.specs.declared.ending.EndShown as shown
use Rattle.rv_core.specs.declared.ending.TaskEnd.{TaskEnd}
use Rattle.rv_core.specs.Ending.{shown_end, ending_of}
use Rattle.rv_core.specs.Need.{need_of}
use Rattle.flat_machine.specs.declared.ending.FlatEnd.{FlatEnd}
use Rattle.flat_machine.specs.declared.ending.TaskLoads.{TaskLoads}
use Rattle.flat_machine.specs.Step.{Started}
use Rattle.flat_machine.specs.Phases.{Flat, all_tasks}
use Rattle.flat_machine.specs.Grants.{so_far, grants_are_whole}

-- a task that is at rest and hasn't ended waits for the lock that it wants; other needs don't occur there
abbrev pub wait_shown : Need → EndShown
wait_shown (need.TheVariants.Acquire lock) = shown.TheVariants.Waits lock
wait_shown _ = shown.TheVariants.Fuel

-- how a task stands
abbrev pub shown_of : ProgramParts → ℕ → Started → Option End → EndShown
shown_of P fuel r (Some by) = shown_end by
shown_of P fuel r None = wait_shown (need_of P r.decl fuel r.state)

abbrev pub task_end : ProgramParts → ℕ → Started → TaskEnd
task_end P fuel r =
    record { phase = r.phase; core = r.decl.core; end = shown_of P fuel r r.state.end; retired = r.state.retired }

abbrev pub task_loads : Started → TaskLoads
task_loads r = record { phase = r.phase; core = r.decl.core; loads = r.loads }

-- how all tasks that have started stand, and what they have loaded
abbrev pub flat_ends_of : ProgramParts → ℕ → Flat → List TaskEnd
flat_ends_of P fuel F = map (task_end P fuel) (all_tasks F)

abbrev pub flat_loads_of : Flat → List TaskLoads
flat_loads_of F = map task_loads (all_tasks F)

-- the ending and the loads of all tasks that started, in the order of their phases and cores
unfoldable pub flat_end_of : ProgramParts → ℕ → Flat → FlatEnd
flat_end_of P fuel F = record { ending = ending_of (flat_ends_of P fuel F) F.memory; loads = flat_loads_of F }

abbrev pub whole_only : ProgramParts → ℕ → Option Flat → Option FlatEnd
whole_only P fuel None = None
whole_only P fuel (Some F) = if grants_are_whole P fuel F then Some (flat_end_of P fuel F) else None

-- the run of a program by a list of grants; None if the list isn't legal or isn't whole
unfoldable pub flat_end : ProgramParts → ℕ → List Grant → Option FlatEnd
flat_end P fuel gs = whole_only P fuel (so_far P fuel gs)
