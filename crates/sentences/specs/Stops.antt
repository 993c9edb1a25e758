-- Where the tasks of a run stand at its end. The run is that of the reference machine by a list of grants: `stops_by` says how each
-- task that started stands in its last state, and the address of the task's next instruction there.
use Rattle.std.specs.Prelude.{ℕ, zero, suc, ◌+◌, ◌-◌, nat_lt, List, [], ◌∷◌, length, map, slice_get, Option, Some, None, if◌then◌else◌}
use Rattle.dn_base.specs.declared.ids.Grant.{Grant}
use Rattle.dn_base.specs.declared.ids.LoadSeen.{LoadSeen}
use Rattle.region_table.specs.Program.{ProgramParts}
use Rattle.region_table.specs.declared.declared.Phase.{Phase}
use Rattle.region_table.specs.declared.declared.TaskDecl.{TaskDecl}
use Rattle.rv_core.specs.declared.ending.TaskEnd.{TaskEnd}
use Rattle.rv_core.specs.declared.task.TaskState.{TaskState}
use Rattle.rv_core.specs.declared.need.Need.{Need}
use Rattle.rv_core.specs.declared.need.Need as need
use Rattle.rv_core.specs.Need.{need_of}
use Rattle.rv_core.specs.Step.{advanced, loaded_of}
use Rattle.rv_core.specs.Task.{started}
use Rattle.flat_machine.specs.declared.ending.FlatEnd.{FlatEnd}
use Rattle.flat_machine.specs.declared.ending.TaskLoads.{TaskLoads}
use Rattle.flat_machine.specs.Step.{Started}
use Rattle.flat_machine.specs.Phases.{Flat, all_tasks}
use Rattle.flat_machine.specs.Grants.{so_far, grants_are_whole}
use Rattle.flat_machine.specs.Ending.{task_end}
use Rattle.sentences.specs.declared.stopping.Stop.{Stop}

-- how a task stands, and the address of its next instruction
abbrev pub stop_of : ProgramParts → ℕ → Started → Stop
stop_of P fuel r = record { end = task_end P fuel r; pc = r.state.pc }

abbrev pub stops_in : ProgramParts → ℕ → Option Flat → Option (List Stop)
stops_in P fuel None = None
stops_in P fuel (Some F) = if grants_are_whole P fuel F then Some (map (stop_of P fuel) (all_tasks F)) else None

-- how all tasks that have started stand in the last state of the run by these grants; None where the grants aren't legal, or not
-- maximal
unfoldable pub stops_by : ProgramParts → ℕ → List Grant → Option (List Stop)
stops_by P fuel gs = stops_in P fuel (so_far P fuel gs)

-- ---- how they are found: each task runs once more, lone_steps, with the values that its loads had in the run

-- a task that runs alone, and the loads to come
pub record LoneTask : Type 0 where
  pub state : TaskState
  pub loads : List LoadSeen

abbrev pub lone_load : ProgramParts → LoneTask → List LoadSeen → LoneTask
lone_load P a [] = a
lone_load P a (l ∷ ls) = record { state = loaded_of P l.value a.state; loads = ls }

-- one instruction; each lock is free
abbrev pub lone_by : ProgramParts → LoneTask → Need → LoneTask
lone_by P a need.TheVariants.Local = record { state = advanced P a.state; loads = a.loads }
lone_by P a (need.TheVariants.Load word) = lone_load P a a.loads
lone_by P a (need.TheVariants.Store word whole) = record { state = advanced P a.state; loads = a.loads }
lone_by P a (need.TheVariants.Acquire lock) = record { state = advanced P a.state; loads = a.loads }
lone_by P a (need.TheVariants.Release lock) = record { state = advanced P a.state; loads = a.loads }
lone_by P a (need.TheVariants.End by) = a

abbrev pub lone_step : ProgramParts → TaskDecl → ℕ → LoneTask → LoneTask
lone_step P d fuel a = lone_by P a (need_of P d fuel a.state)

-- the task after so many instructions
abbrev pub lone_steps : ProgramParts → TaskDecl → ℕ → List LoadSeen → ℕ → LoneTask
lone_steps P d fuel loads zero = record { state = started d; loads = loads }
lone_steps P d fuel loads (suc n) = lone_step P d fuel (lone_steps P d fuel loads n)

-- the task with this number, from 0, in the order of phases and cores
abbrev pub task_in : List Phase → ℕ → Option TaskDecl
task_in [] number = None
task_in (p ∷ ps) number = if nat_lt number (length p.tasks) then slice_get p.tasks number else task_in ps (number - length p.tasks)

abbrev pub pc_of : ProgramParts → ℕ → ℕ → Option TaskDecl → Option TaskLoads → ℕ
pc_of P fuel retired (Some d) (Some l) = (lone_steps P d fuel l.loads retired).state.pc
pc_of P fuel retired (Some d) None = 0
pc_of P fuel retired None l = 0

abbrev pub stop_at : ProgramParts → ℕ → List TaskLoads → ℕ → TaskEnd → Stop
stop_at P fuel loads number e = record { end = e; pc = pc_of P fuel e.retired (task_in P.phases number) (slice_get loads number) }

-- where these tasks stand, the first of which has this number
abbrev pub stops_from : ProgramParts → ℕ → List TaskLoads → ℕ → List TaskEnd → List Stop
stops_from P fuel loads number [] = []
stops_from P fuel loads number (e ∷ es) = stop_at P fuel loads number e ∷ stops_from P fuel loads (number + 1) es

-- where the tasks stand at the end of a run, if there is one
abbrev pub stops_at_end : ProgramParts → ℕ → Option FlatEnd → Option (List Stop)
stops_at_end P fuel None = None
stops_at_end P fuel (Some e) = Some (stops_from P fuel e.loads 0 e.ending.tasks)
