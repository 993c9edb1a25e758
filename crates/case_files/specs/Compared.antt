-- Whose a load of a run is.
use Rattle.std.specs.Prelude.{◌&&◌, ◌==◌, Option, Some, None, if◌then◌else◌}
use Rattle.dn_base.specs.declared.ids.CoreId.{CoreId}
use Rattle.dn_base.specs.declared.ids.LoadSeen.{LoadSeen}
use Rattle.dn_base.specs.declared.ids.PhaseId.{PhaseId}
use Rattle.case_files.specs.declared.replay.TaskLoad.{TaskLoad}

-- the load, where it is of the task of a core in a phase
abbrev pub load_of_task : PhaseId → CoreId → TaskLoad → Option LoadSeen
load_of_task phase core load = if load.phase.0 == phase.0 && load.core.0 == core.0 then Some load.seen else None
