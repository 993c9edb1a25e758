-- What a node does with each message.
use Rattle.std.specs.Prelude.{ℕ, ◌+◌, true, false, ◌&&◌, ◌==◌, not, nat_lt, List, [], length, replicate, slice_set, slice_index_or, slice_get, Option, Some, None, if◌then◌else◌}
use Rattle.std.specs.Option.{option_map}
use Rattle.dn_base.specs.declared.ids.CoreId.{CoreId}
use Rattle.dn_base.specs.declared.ids.WordId.{WordId}
use Rattle.dn_base.specs.declared.ids.LockId.{LockId}
use Rattle.region_table.specs.declared.interval.Interval.{Interval}
use Rattle.region_table.specs.declared.plan.PhasePlan.{PhasePlan}
use Rattle.region_table.specs.Tasks.{declared}
use Rattle.rv_core.specs.declared.task.TaskState.{TaskState}
use Rattle.rv_core.specs.Step.{advanced}
use Rattle.rv_core.specs.Task.{started}
use Rattle.write_signature.specs.declared.signature.Signature.{Signature}
use Rattle.write_signature.specs.Signature.{in_phase, empty}
use Rattle.message_net.specs.declared.message.Message as message
use Rattle.message_net.specs.declared.message.Message.{Message}
use Rattle.message_net.specs.declared.message.Outgoing.{Outgoing}
use Rattle.message_net.specs.Mail.{to_home, to_core}
use Rattle.word_cache.specs.declared.row.Entry.{Entry}
use Rattle.word_cache.specs.declared.row.Entry.TheVariants.{Valid, Registered, Leaving}
use Rattle.word_cache.specs.Cache.{with_pairs, has_room, put, changed, without, dropped_written, dropped_signed}
use Rattle.registration_protocol.specs.declared.node.NodeWait as wait
use Rattle.registration_protocol.specs.declared.node.NodeWait.{NodeWait}
use Rattle.registration_protocol.specs.declared.node.Received.{Received}
use Rattle.registration_protocol.specs.Node.{NodeParts, Setting, entry_of, keeping}

-- the node becomes this one, and sends nothing
abbrev pub becomes : NodeParts → NodeParts × Received
becomes n = (n, record { sent = None; granted = None })

abbrev pub answers : NodeParts → Option Outgoing → NodeParts × Received
answers n sent = (n, record { sent = sent; granted = None })

-- the node with another entry for a word that has one, and without a word
abbrev pub with_entry : NodeParts → ℕ → Entry → NodeParts
with_entry n w e = keeping n (changed w e n.cache.pairs)

abbrev pub lacking : NodeParts → ℕ → NodeParts
lacking n w = keeping n (without w n.cache.pairs)

-- DataReply, by what the node waits for and the word's entry
abbrev pub fills : NodeParts → WordId → ℕ → Option Entry → NodeParts × Received
fills n word value None =
    if has_room n.cache word.0 then becomes (record (keeping n (put word (Valid value false) n.cache.pairs)) { waiting = wait.TheVariants.Filled word })
    else becomes n
fills n word value (Some e) = becomes n

abbrev pub data_reply_row : NodeParts → WordId → ℕ → NodeWait → NodeParts × Received
data_reply_row n word value (wait.TheVariants.Reading wanted) =
    if wanted.0 == word.0 then fills n word value (entry_of n word.0) else becomes n
data_reply_row n word value _ = becomes n

-- RegAck: the entry is no longer pending
abbrev pub reg_ack_row : NodeParts → WordId → Option Entry → NodeParts × Received
reg_ack_row n word (Some (Registered value true)) = becomes (with_entry n word.0 (Registered value false))
reg_ack_row n word _ = becomes n

-- RegFwd: a registered entry that isn't pending is removed; the new registrant is acknowledged in any case
abbrev pub reg_fwd_row : NodeParts → WordId → CoreId → Option Entry → NodeParts × Received
reg_fwd_row n word core (Some (Registered value false)) = answers (lacking n word.0) (to_core core (message.TheVariants.RegAck word))
reg_fwd_row n word core _ = answers n (to_core core (message.TheVariants.RegAck word))

-- ReadFwd: the value goes to the reader, or the read goes back to the word's home
abbrev pub read_fwd_row : Setting → NodeParts → WordId → CoreId → Option Entry → NodeParts × Received
read_fwd_row C n word reader (Some (Registered value pending)) = answers n (to_core reader (message.TheVariants.DataReply word value))
read_fwd_row C n word reader (Some (Leaving value)) = answers n (to_core reader (message.TheVariants.DataReply word value))
read_fwd_row C n word reader _ = answers n (to_home C.shape.banks word.0 (message.TheVariants.ReadReq word reader))

-- WbAck: a leaving entry is removed
abbrev pub wb_ack_row : NodeParts → WordId → Option Entry → NodeParts × Received
wb_ack_row n word (Some (Leaving value)) = becomes (lacking n word.0)
wb_ack_row n word _ = becomes n

-- the words that a lock guards in a phase, and those that a phase may have written
abbrev pub guarded_by : Option PhasePlan → ℕ → List Interval
guarded_by None lock = []
guarded_by (Some plan) lock = slice_index_or plan.guarded lock []

abbrev pub written_in : Option PhasePlan → List Interval
written_in None = []
written_in (Some plan) = plan.written

-- Grant, by what the node waits for: stale copies of the words that the lock guards are dropped, and the acquire retires
abbrev pub holds_now : Setting → NodeParts → TaskState → LockId → Signature → NodeParts × Received
holds_now C n t lock signature = (
  record n {
    task = Some (advanced C.program t);
    waiting = wait.TheVariants.None;
    cache = with_pairs n.cache (dropped_signed signature n.phase (guarded_by (slice_get C.plans n.phase) lock.0) n.cache.pairs);
    signatures = slice_set n.signatures lock.0 (in_phase n.phase signature);
  },
  record { sent = None; granted = Some (record { phase = record { 0 = n.phase }; core = record { 0 = n.core }; lock = lock }) },
)

abbrev pub granted_to : Setting → NodeParts → LockId → Signature → Option TaskState → NodeParts × Received
granted_to C n lock signature None = becomes n
granted_to C n lock signature (Some t) = holds_now C n t lock signature

abbrev pub grant_row : Setting → NodeParts → LockId → Signature → NodeWait → NodeParts × Received
grant_row C n lock signature (wait.TheVariants.Locking wanted) =
    if wanted.0 == lock.0 then granted_to C n lock signature n.task else becomes n
grant_row C n lock signature _ = becomes n

-- Go: what may be stale after the phase is dropped, and the next phase begins
abbrev pub begins : Setting → NodeParts → ℕ → NodeParts
begins C n phase =
    record n {
      phase = phase;
      task = option_map started (declared C.program phase n.core);
      waiting = wait.TheVariants.None;
      cache = with_pairs n.cache (dropped_written (written_in (slice_get C.plans n.phase)) n.cache.pairs);
      signatures = replicate (length C.program.locks) (empty phase);
      arrived = false;
    }

abbrev pub go_row : Setting → NodeParts → ℕ → NodeParts × Received
go_row C n phase =
    if n.arrived && not n.halted && (phase == n.phase + 1) && nat_lt phase (length C.program.phases) then becomes (begins C n phase)
    else becomes n

-- Halt: the run is over for a node that has arrived
abbrev pub halt_row : NodeParts → NodeParts × Received
halt_row n = if n.arrived then becomes (record n { halted = true }) else becomes n

-- what a node does with a message: the table, row by row; a message without a row changes nothing and sends nothing
unfoldable pub node_gets : Setting → NodeParts → Message → NodeParts × Received
node_gets C n (message.TheVariants.DataReply word value) = data_reply_row n word value n.waiting
node_gets C n (message.TheVariants.RegAck word) = reg_ack_row n word (entry_of n word.0)
node_gets C n (message.TheVariants.RegFwd word core) = reg_fwd_row n word core (entry_of n word.0)
node_gets C n (message.TheVariants.ReadFwd word reader) = read_fwd_row C n word reader (entry_of n word.0)
node_gets C n (message.TheVariants.WbAck word) = wb_ack_row n word (entry_of n word.0)
node_gets C n (message.TheVariants.Grant lock signature) = grant_row C n lock signature n.waiting
node_gets C n (message.TheVariants.Go phase) = go_row C n phase.0
node_gets C n message.TheVariants.Halt = halt_row n
node_gets C n _ = becomes n
