-- What an event or a mail is about, and how a task ends with an event.
use Rattle.std.specs.Prelude.{ℕ, ◌-◌, ◌/◌, ◌%◌, ◌==◌, ◌||◌, not, nat_lt, length, Option, Some, None, slice_get, if◌then◌else◌}
use Rattle.dn_base.specs.declared.ids.CoreId.{CoreId}
use Rattle.message_net.specs.declared.event.Event.{Event}
use Rattle.message_net.specs.declared.event.Event.TheVariants.{Instr, Evict, Arrive, Handle}
use Rattle.message_net.specs.declared.message.Mail.{Mail}
use Rattle.message_net.specs.declared.message.Message.{Message}
use Rattle.message_net.specs.declared.message.Message.TheVariants.{ReadReq, ReadFwd, DataReply, RegReq, RegFwd, RegAck, WriteBack, WbAck, Acquire, Release, Grant, Arrived, Go, Halt}
use Rattle.message_net.specs.Pool.{removed}
use Rattle.rv_core.specs.declared.need.Need.{Need}
use Rattle.rv_core.specs.declared.need.Need as need
use Rattle.rv_core.specs.declared.task.End.{End}
use Rattle.rv_core.specs.declared.task.TaskState.{TaskState}
use Rattle.registration_protocol.specs.Node.{NodeParts, Setting, need_now}
use Rattle.machine_rules.specs.State.{State}
use Rattle.run_chart.specs.declared.parts.About.{About}
use Rattle.run_chart.specs.declared.parts.About.TheVariants.{Nothing, Code, Word, Lock, Phase}

-- a message is about the word, the lock or the phase that it names
abbrev pub about_message : Message → About
about_message (ReadReq word reader) = Word word
about_message (ReadFwd word reader) = Word word
about_message (DataReply word value) = Word word
about_message (RegReq word core) = Word word
about_message (RegFwd word core) = Word word
about_message (RegAck word) = Word word
about_message (WriteBack word value core) = Word word
about_message (WbAck word) = Word word
about_message (Acquire lock core) = Lock lock
about_message (Release lock core signature) = Lock lock
about_message (Grant lock signature) = Lock lock
about_message (Go phase) = Phase phase
about_message (Arrived core bad) = Nothing
about_message Halt = Nothing

abbrev pub about_mail : Option Mail → About
about_mail None = Nothing
about_mail (Some m) = about_message m.message

-- an instruction is about its code word, if its index is below `words`: word i is at the address 0x1000 + 4i
abbrev pub about_code : ℕ → ℕ → About
about_code words pc =
    if nat_lt pc 0x1000 || not (pc % 4 == 0) then Nothing else (if nat_lt ((pc - 0x1000) / 4) words then Code ((pc - 0x1000) / 4) else Nothing)

abbrev pub about_task : ℕ → Option TaskState → About
about_task words None = Nothing
about_task words (Some t) = about_code words t.pc

abbrev pub about_node : Setting → Option NodeParts → About
about_node C None = Nothing
about_node C (Some n) = about_task (length C.program.code) n.task

abbrev pub about_core : State → CoreId → About
about_core S core = about_node S.setting (slice_get S.nodes core.0)

-- an eviction is about its word, and the handling of a mail about what the mail is about
abbrev pub about_in : State → Event → About
about_in S (Instr core) = about_core S core
about_in S (Evict core word) = Word word
about_in S (Arrive core) = Nothing
about_in S (Handle id) = about_mail (removed id S.mails).0

-- what the instruction needs that an event makes; None where the event is no instruction of a task
abbrev pub node_needs : Setting → Option NodeParts → Option Need
node_needs C None = None
node_needs C (Some n) = need_now C n

abbrev pub needed_by : State → Event → Option Need
needed_by S (Instr core) = node_needs S.setting (slice_get S.nodes core.0)
needed_by S _ = None

-- a task ends with the instruction whose need is that it ends
abbrev pub need_ends_by : Option Need → Option End
need_ends_by (Some (need.TheVariants.End cause)) = Some cause
need_ends_by _ = None

abbrev pub node_ends_by : Setting → Option NodeParts → Option End
node_ends_by C None = None
node_ends_by C (Some n) = need_ends_by (need_now C n)

abbrev pub core_ends_by : State → CoreId → Option End
core_ends_by S core = node_ends_by S.setting (slice_get S.nodes core.0)

abbrev pub ends_by : State → Event → Option End
ends_by S (Instr core) = core_ends_by S core
ends_by S _ = None
