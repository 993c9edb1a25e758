-- How the tasks had ended that arrived at the barrier, in a round and in a whole run.
use Rattle.std.specs.Prelude.{◌≡◌, ℕ, ◌<◌, ◌==◌, List, [], ◌∷◌, length, map, filter, filter_map, drop, slice_get, slice_index, slice_index_or, Option, Some, None, All, AllPairs, if◌then◌else◌}
use Rattle.rv_core.specs.declared.ending.TaskEnd.{TaskEnd}
use Rattle.message_net.specs.declared.actor.Actor.{Actor}
use Rattle.message_net.specs.declared.actor.Actor.TheVariants.{Core}
use Rattle.message_net.specs.declared.event.Event.{Event}
use Rattle.grant_log.specs.declared.log.Stamped.{Stamped}
use Rattle.registration_protocol.specs.Node.{NodeParts}
use Rattle.registration_protocol.specs.OwnEvents.{end_of}
use Rattle.machine_rules.specs.State.{State}
use Rattle.machine_rules.specs.Runs.{after, read_off}
use Rattle.dn_machine.specs.Ends.{EndTable, no_ends, with_end}
use Rattle.host_workers.specs.declared.end_seen.EndSeen.{EndSeen}
use Rattle.host_workers.specs.Steps.{Done}
use Rattle.host_workers.specs.Acts.{note_of}
use Rattle.host_workers.specs.Passes.{end_seen}
use Rattle.host_workers.specs.Rounds.{core_at, done_by, end_observed}

-- the later of two events of one actor has the greater stamp
abbrev pub IsStampedBefore : Stamped → Stamped → Type 0
IsStampedBefore a b = a.actor ≡ b.actor → a.stamp < b.stamp

-- an end that an event tells is that of a core with a number below `cores`
abbrev pub EndIsOfCore : ℕ → Done → Type 0
EndIsOfCore cores d = (end : TaskEnd) → d.end ≡ Some end → (core : ℕ) × (core < cores) × (d.stamped.actor ≡ core_at core)

-- The merged list has the notes of these events, and they tell the ends that each worker saw of its cores
pub record AreEndsOf (merged : List Stamped) (ends : List (List EndSeen)) (told : List Done) : Type 0 where
  pub notes : map note_of told ≡ merged
  pub rising : AllPairs IsStampedBefore merged
  pub of_cores : All (EndIsOfCore (length ends)) told
  pub seen : (core : ℕ) (es : List EndSeen) → slice_get ends core ≡ Some es → es ≡ filter_map end_seen (filter (done_by (core_at core)) told)

-- the ends seen of each core that are left after the first ones were used
abbrev pub left_of : List (List EndSeen) → List ℕ → ℕ → List EndSeen
left_of ends done core = drop (slice_index done core) (slice_index_or ends core [])

-- the first of them, if it was seen at an event with this stamp, and what is left after that event
abbrev pub first_at : ℕ → List EndSeen → Option TaskEnd
first_at stamp [] = None
first_at stamp (x ∷ xs) = if x.stamp == stamp then Some x.end else None

abbrev pub behind_at : ℕ → List EndSeen → List EndSeen
behind_at stamp [] = []
behind_at stamp (x ∷ xs) = if x.stamp == stamp then xs else x ∷ xs

-- the end of the task of the core that made an event, if its worker saw one at that event, and what is left of each core then
abbrev pub end_at_stamp : Actor → ℕ → (ℕ → List EndSeen) → Option TaskEnd
end_at_stamp (Core core) stamp left = first_at stamp (left core.0)
end_at_stamp _ stamp left = None

abbrev pub left_behind : Actor → ℕ → (ℕ → List EndSeen) → ℕ → List EndSeen
left_behind (Core core) stamp left other = if core.0 == other then behind_at stamp (left other) else left other
left_behind _ stamp left other = left other

-- a table with more ends, each in its place
abbrev pub with_ends : List TaskEnd → EndTable → EndTable
with_ends [] table = table
with_ends (e ∷ es) table = with_ends es (with_end (Some e) table)

-- how the tasks of the nodes of a state stand
abbrev pub node_standing : NodeParts → Option TaskEnd
node_standing n = end_of n n.task

abbrev pub last_ends : State → List TaskEnd
last_ends S = filter_map node_standing S.nodes

-- the ends with which tasks arrived in a run, and how the tasks of its last state stand
abbrev pub ends_of_run : State → List Event → EndTable
ends_of_run S events = with_ends (last_ends (after S events)) (with_ends (read_off end_observed S events) (no_ends (length S.setting.program.phases)))
