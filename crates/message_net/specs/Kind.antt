-- The kinds of event and their order. For each message there is the kind of event in which it is handled.
use Rattle.std.specs.Prelude.{ℕ}
use Rattle.message_net.specs.declared.message.Message as message
use Rattle.message_net.specs.declared.message.Message.{Message}
use Rattle.message_net.specs.declared.event.Event.{Event}
use Rattle.message_net.specs.declared.event.Event.TheVariants.{Instr, Evict, Arrive, Handle}
use Rattle.message_net.specs.declared.event.EventKind as kind
use Rattle.message_net.specs.declared.event.EventKind.{EventKind}

-- the kind with the message's name
abbrev pub kind_of : Message → EventKind
kind_of (message.TheVariants.ReadReq word reader) = kind.TheVariants.ReadReq
kind_of (message.TheVariants.ReadFwd word reader) = kind.TheVariants.ReadFwd
kind_of (message.TheVariants.DataReply word value) = kind.TheVariants.DataReply
kind_of (message.TheVariants.RegReq word core) = kind.TheVariants.RegReq
kind_of (message.TheVariants.RegFwd word core) = kind.TheVariants.RegFwd
kind_of (message.TheVariants.RegAck word) = kind.TheVariants.RegAck
kind_of (message.TheVariants.WriteBack word value core) = kind.TheVariants.WriteBack
kind_of (message.TheVariants.WbAck word) = kind.TheVariants.WbAck
kind_of (message.TheVariants.Acquire lock core) = kind.TheVariants.Acquire
kind_of (message.TheVariants.Release lock core signature) = kind.TheVariants.Release
kind_of (message.TheVariants.Grant lock signature) = kind.TheVariants.Grant
kind_of (message.TheVariants.Arrived core bad) = kind.TheVariants.Arrived
kind_of (message.TheVariants.Go phase) = kind.TheVariants.Go
kind_of message.TheVariants.Halt = kind.TheVariants.Halt

-- the kind of a core's own event; for the handling of a mail it has no meaning
abbrev pub own_kind : Event → EventKind
own_kind (Instr core) = kind.TheVariants.Instr
own_kind (Evict core word) = kind.TheVariants.Evict
own_kind (Arrive core) = kind.TheVariants.Arrive
own_kind (Handle id) = kind.TheVariants.Instr

-- the seventeen kinds in their order, each with its index: a core's own events, and then the messages
abbrev pub kind_index : EventKind → ℕ
kind_index kind.TheVariants.Instr = 0
kind_index kind.TheVariants.Evict = 1
kind_index kind.TheVariants.Arrive = 2
kind_index kind.TheVariants.ReadReq = 3
kind_index kind.TheVariants.ReadFwd = 4
kind_index kind.TheVariants.DataReply = 5
kind_index kind.TheVariants.RegReq = 6
kind_index kind.TheVariants.RegFwd = 7
kind_index kind.TheVariants.RegAck = 8
kind_index kind.TheVariants.WriteBack = 9
kind_index kind.TheVariants.WbAck = 10
kind_index kind.TheVariants.Acquire = 11
kind_index kind.TheVariants.Release = 12
kind_index kind.TheVariants.Grant = 13
kind_index kind.TheVariants.Arrived = 14
kind_index kind.TheVariants.Go = 15
kind_index kind.TheVariants.Halt = 16
