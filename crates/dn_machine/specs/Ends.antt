-- How the task of a core stands in a state, and a table of how all tasks stood when their nodes last had them.
use Rattle.std.specs.Prelude.{◌≡◌, ℕ, ◌+◌, ◌*◌, ◌<◌, List, [], ◌∷◌, ◌++◌, length, replicate, slice_get, slice_set, Option, Some, None}
use Rattle.std.specs.List.{filter_map}
use Rattle.region_table.specs.declared.declared.TaskDecl.{TaskDecl}
use Rattle.region_table.specs.declared.declared.Phase.{Phase}
use Rattle.rv_core.specs.declared.ending.TaskEnd.{TaskEnd}
use Rattle.rv_core.specs.declared.ending.Ending.{Ending}
use Rattle.rv_core.specs.Ending.{ending_of}
use Rattle.message_net.specs.declared.event.Event.{Event}
use Rattle.registration_protocol.specs.Node.{NodeParts}
use Rattle.registration_protocol.specs.OwnEvents.{end_of}
use Rattle.machine_rules.specs.State.{State}
use Rattle.machine_rules.specs.Memory.{memory_of}
use Rattle.machine_rules.specs.Runs.{begun_in, last_end}

-- how the task of a core's node ended, or which lock it waits for; None where there is neither
abbrev pub end_at : Option NodeParts → Option TaskEnd
end_at None = None
end_at (Some n) = end_of n n.task

-- a table of ends has a place for each phase and each of sixteen cores
abbrev pub EndTable : Type 0
EndTable = List (Option TaskEnd)

-- a table without ends for this many phases
abbrev pub no_ends : ℕ → EndTable
no_ends phases = replicate (16 * phases) None

abbrev pub end_index : ℕ → ℕ → ℕ
end_index phase core = 16 * phase + core

-- an end is noted in its place
abbrev pub with_end : Option TaskEnd → EndTable → EndTable
with_end None table = table
with_end (Some e) table = slice_set table (end_index e.phase.0 e.core.0) (Some e)

-- the table has for each task how it stood when its node last had it
abbrev pub AreLastEnds : State → List Event → EndTable → Type 0
AreLastEnds S events table =
    (phase core : ℕ) → phase < length S.setting.program.phases → core < 16 → slice_get table (end_index phase core) ≡ Some (last_end phase core S events)

-- the end in a place, if there is one
abbrev pub end_in : Option (Option TaskEnd) → Option TaskEnd
end_in None = None
end_in (Some e) = e

-- the noted ends of the tasks of some phases, the first of which is phase number `phase`, in the order of phases and cores
abbrev pub noted_ends : EndTable → ℕ → List Phase → List TaskEnd
noted_ends table phase [] = []
noted_ends table phase (p ∷ ps) =
    filter_map (λ (d : TaskDecl). end_in (slice_get table (end_index phase d.core.0))) p.tasks ++ noted_ends table (phase + 1) ps

-- the ending that the table and the last state tell
abbrev pub noted_ending : EndTable → State → Ending
noted_ending table S = ending_of (noted_ends table 0 (begun_in S)) (memory_of S)
