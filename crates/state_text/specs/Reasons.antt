-- Why an event may not come: the conditions of the tables in their order, and the first of them that isn't met.
use Rattle.std.specs.Prelude.{◌%◌, ◌==◌, Bool, Option, Some, None, slice_get, if◌then◌else◌}
use Rattle.std.specs.Option.{is_some, option_or}
use Rattle.dn_base.specs.declared.ids.WordId.{WordId}
use Rattle.rv_core.specs.declared.task.TaskState.{TaskState}
use Rattle.rv_core.specs.declared.need.Need as need
use Rattle.rv_core.specs.declared.need.Need.{Need}
use Rattle.message_net.specs.declared.event.Event.{Event}
use Rattle.message_net.specs.declared.event.Event.TheVariants.{Instr, Evict, Arrive, Handle}
use Rattle.message_net.specs.Pool.{has_id}
use Rattle.word_cache.specs.declared.row.Entry.{Entry}
use Rattle.word_cache.specs.declared.row.Entry.TheVariants.{Valid, Registered, Leaving}
use Rattle.word_cache.specs.Cache.{has_room}
use Rattle.registration_protocol.specs.declared.node.NodeWait as wait
use Rattle.registration_protocol.specs.declared.node.NodeWait.{NodeWait}
use Rattle.registration_protocol.specs.Node.{NodeParts, Setting, need_now, entry_of, is_running, is_settled}
use Rattle.registration_protocol.specs.OwnEvents.{wanted_by}
use Rattle.machine_rules.specs.State.{State}
use Rattle.state_text.specs.declared.reason.Reason.{Reason}
use Rattle.state_text.specs.declared.reason.Reason as reason

-- ---- the conditions

-- a reason if a test is true, otherwise none
abbrev pub reason_if : Bool → Reason → Option Reason
reason_if test r = if test then Some r else None

-- a core that is halted or has arrived makes no event by itself
abbrev pub inactive_reason : NodeParts → Option Reason
inactive_reason n = option_or (reason_if n.halted reason.TheVariants.Halted) (reason_if n.arrived reason.TheVariants.Arrived)

-- an instruction or an eviction needs a task that hasn't ended
abbrev pub task_reason : Option TaskState → Option Reason
task_reason None = Some reason.TheVariants.NoTask
task_reason (Some t) = reason_if (is_some t.end) reason.TheVariants.TaskEnded

-- and a node that waits for no word and no lock
abbrev pub wait_reason : NodeWait → Option Reason
wait_reason (wait.TheVariants.Reading word) = Some (reason.TheVariants.WaitsForWord word)
wait_reason (wait.TheVariants.Locking lock) = Some (reason.TheVariants.WaitsForLock lock)
wait_reason _ = None

-- the instruction whose word has come is the next event of its core: no eviction comes before it
abbrev pub filled_reason : NodeWait → Option Reason
filled_reason (wait.TheVariants.Filled word) = Some (reason.TheVariants.HasValue word)
filled_reason _ = None

-- a release and an arrival have to wait until no entry is pending
abbrev pub pending_reason : NodeParts → Option Reason
pending_reason n = if is_settled n then None else Some reason.TheVariants.HasPending

-- a load or store of a word, by the word's entry: it stalls while the word is leaving, and without an entry it needs room
abbrev pub access_reason : NodeParts → WordId → Option Entry → Option Reason
access_reason n word None = if has_room n.cache word.0 then None else Some (reason.TheVariants.NoRoom word)
access_reason n word (Some (Valid value marked)) = None
access_reason n word (Some (Registered value pending)) = None
access_reason n word (Some (Leaving value)) = Some (reason.TheVariants.IsLeaving word)

-- an instruction, by what it needs
abbrev pub need_reason : NodeParts → Option Need → Option Reason
need_reason n (Some (need.TheVariants.Load word)) = access_reason n word (entry_of n word.0)
need_reason n (Some (need.TheVariants.Store word whole)) = access_reason n word (entry_of n word.0)
need_reason n (Some (need.TheVariants.Release lock)) = pending_reason n
need_reason n _ = None

-- only a word with an entry that is neither pending nor leaving may be evicted
abbrev pub entry_reason : WordId → Option Entry → Option Reason
entry_reason word None = Some (reason.TheVariants.NoEntry word)
entry_reason word (Some (Valid value marked)) = None
entry_reason word (Some (Registered value pending)) = reason_if pending (reason.TheVariants.IsPending word)
entry_reason word (Some (Leaving value)) = Some (reason.TheVariants.IsLeaving word)

-- an eviction has to make room for the word that lacks it, and be of a word in the same set
abbrev pub room_reason : NodeParts → WordId → Option WordId → Option Reason
room_reason n word None = Some reason.TheVariants.NeedsNoRoom
room_reason n word (Some wanted) =
    if word.0 % n.cache.sets == wanted.0 % n.cache.sets then entry_reason word (entry_of n word.0) else Some (reason.TheVariants.OtherSet word wanted)

-- ---- the events

-- an instruction
abbrev pub instr_reason : Setting → NodeParts → Option Reason
instr_reason C n =
    option_or (inactive_reason n) (option_or (task_reason n.task) (option_or (wait_reason n.waiting) (need_reason n (need_now C n))))

-- an eviction of a word
abbrev pub evict_reason : Setting → WordId → NodeParts → Option Reason
evict_reason C word n =
    option_or (inactive_reason n) (option_or (task_reason n.task) (option_or (wait_reason n.waiting)
    (option_or (filled_reason n.waiting) (room_reason n word (wanted_by n (need_now C n))))))

-- an arrival
abbrev pub arrive_reason : NodeParts → Option Reason
arrive_reason n =
    option_or (inactive_reason n) (option_or (reason_if (is_running n.task) reason.TheVariants.TaskRuns) (pending_reason n))

-- an event of a core that the machine doesn't have never comes
abbrev pub core_reason : (NodeParts → Option Reason) → Option NodeParts → Option Reason
core_reason why None = Some reason.TheVariants.NoCore
core_reason why (Some n) = why n

-- why an event may not come in a state: the first of its conditions that isn't met; None if all are met
unfoldable pub reason_against : State → Event → Option Reason
reason_against S (Instr core) = core_reason (instr_reason S.setting) (slice_get S.nodes core.0)
reason_against S (Evict core word) = core_reason (evict_reason S.setting word) (slice_get S.nodes core.0)
reason_against S (Arrive core) = core_reason arrive_reason (slice_get S.nodes core.0)
reason_against S (Handle id) = if has_id id S.mails then None else Some reason.TheVariants.NoMail
