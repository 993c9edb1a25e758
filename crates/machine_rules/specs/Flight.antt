-- How many mails in flight are of a kind. Each definition is a test of the receiver and the message.
use Rattle.std.specs.Prelude.{ℕ, ◌==◌, Bool, true, false, ◌&&◌, cond, sum_by}
use Rattle.message_net.specs.declared.actor.Actor.{Actor}
use Rattle.message_net.specs.declared.actor.Actor.TheVariants.{Core}
use Rattle.message_net.specs.declared.message.Mail.{Mail}
use Rattle.message_net.specs.declared.message.Message.{Message}
use Rattle.message_net.specs.declared.message.Message.TheVariants.{ReadReq, ReadFwd, DataReply, RegReq, RegFwd, RegAck, WriteBack, WbAck, Acquire, Release, Grant, Arrived, Go, Halt}
use Rattle.machine_rules.specs.State.{State}

abbrev pub bit : Bool → ℕ
bit b = cond b 1 0

-- a test of a mail, by its receiver and its message
abbrev pub Test : Type 0
Test = Actor → Message → Bool

-- the sum of a weight over the mails in flight, and how many of them pass a test
abbrev pub weighs : State → (Mail → ℕ) → ℕ
weighs S weight = sum_by weight S.mails

abbrev pub mail_count : Test → Mail → ℕ
mail_count test m = bit (test m.to m.message)

abbrev pub flight : State → Test → ℕ
flight S test = weighs S (mail_count test)

-- whether the receiver is this core
abbrev pub is_to : ℕ → Actor → Bool
is_to c (Core core) = core.0 == c
is_to c _ = false

-- RegReq: core c asks to be the registrant of word w
abbrev pub is_reg_req_of : ℕ → ℕ → Test
is_reg_req_of w c to (RegReq word core) = (word.0 == w) && (core.0 == c)
is_reg_req_of w c to _ = false

-- RegFwd: core c is the registrant of w now; to any core, and to core d
abbrev pub is_reg_fwd_of : ℕ → ℕ → Test
is_reg_fwd_of w c to (RegFwd word core) = (word.0 == w) && (core.0 == c)
is_reg_fwd_of w c to _ = false

abbrev pub is_reg_fwd_to : ℕ → ℕ → Test
is_reg_fwd_to w d to (RegFwd word core) = (word.0 == w) && is_to d to
is_reg_fwd_to w d to _ = false

-- a RegFwd that goes to the core that it names
abbrev pub is_reg_fwd_to_itself : ℕ → ℕ → Test
is_reg_fwd_to_itself w c to (RegFwd word core) = (word.0 == w) && ((core.0 == c) && is_to c to)
is_reg_fwd_to_itself w c to _ = false

-- RegAck to core c
abbrev pub is_reg_ack_to : ℕ → ℕ → Test
is_reg_ack_to w c to (RegAck word) = (word.0 == w) && is_to c to
is_reg_ack_to w c to _ = false

-- WriteBack of w by core c, with any value and with value v, and its WbAck
abbrev pub is_write_back_of : ℕ → ℕ → Test
is_write_back_of w c to (WriteBack word value core) = (word.0 == w) && (core.0 == c)
is_write_back_of w c to _ = false

abbrev pub is_write_back_with : ℕ → ℕ → ℕ → Test
is_write_back_with w c v to (WriteBack word value core) = (word.0 == w) && ((core.0 == c) && (value == v))
is_write_back_with w c v to _ = false

abbrev pub is_wb_ack_to : ℕ → ℕ → Test
is_wb_ack_to w c to (WbAck word) = (word.0 == w) && is_to c to
is_wb_ack_to w c to _ = false

-- a read of w for core c: ReadReq, ReadFwd to any core, and DataReply; and a ReadFwd to core d
abbrev pub is_read_req_of : ℕ → ℕ → Test
is_read_req_of w c to (ReadReq word reader) = (word.0 == w) && (reader.0 == c)
is_read_req_of w c to _ = false

abbrev pub is_read_fwd_of : ℕ → ℕ → Test
is_read_fwd_of w c to (ReadFwd word reader) = (word.0 == w) && (reader.0 == c)
is_read_fwd_of w c to _ = false

abbrev pub is_read_fwd_to : ℕ → ℕ → Test
is_read_fwd_to w d to (ReadFwd word reader) = (word.0 == w) && is_to d to
is_read_fwd_to w d to _ = false

abbrev pub is_data_reply_to : ℕ → ℕ → Test
is_data_reply_to w c to (DataReply word value) = (word.0 == w) && is_to c to
is_data_reply_to w c to _ = false

-- a DataReply whose value isn't that of the word in a memory
abbrev pub is_false_data_reply : (ℕ → ℕ) → Test
is_false_data_reply memory to (DataReply word value) = cond (value == memory word.0) false true
is_false_data_reply memory to _ = false

-- Acquire, Release and Grant of lock l, for core c
abbrev pub is_acquire_of : ℕ → ℕ → Test
is_acquire_of l c to (Acquire lock core) = (lock.0 == l) && (core.0 == c)
is_acquire_of l c to _ = false

abbrev pub is_release_of : ℕ → ℕ → Test
is_release_of l c to (Release lock core signature) = (lock.0 == l) && (core.0 == c)
is_release_of l c to _ = false

abbrev pub is_grant_to : ℕ → ℕ → Test
is_grant_to l c to (Grant lock signature) = (lock.0 == l) && is_to c to
is_grant_to l c to _ = false

-- Arrived of core c, Go to it, and Halt to it
abbrev pub is_arrival_of : ℕ → Test
is_arrival_of c to (Arrived core bad) = core.0 == c
is_arrival_of c to _ = false

abbrev pub is_go_to : ℕ → Test
is_go_to c to (Go phase) = is_to c to
is_go_to c to _ = false

abbrev pub is_halt_to : ℕ → Test
is_halt_to c to Halt = is_to c to
is_halt_to c to _ = false
