-- The lines of the keeper, the homes of words, the locks and the mails in flight.
use Rattle.std.specs.Prelude.{ℕ, ◌-◌, ◌==◌, List, [], ◌++◌, length, flat_map, slice_get, slice_index, codes, Option, Some, None, if◌then◌else◌}
use Rattle.std.specs.List.{range_with_len}
use Rattle.std.specs.Fmt.{decimal}
use Rattle.text_pieces.specs.Pieces.{newline, space, hexadecimal}
use Rattle.dn_base.specs.declared.ids.CoreId.{CoreId}
use Rattle.region_table.specs.declared.interval.Interval.{Interval}
use Rattle.region_table.specs.Program.{ProgramParts}
use Rattle.write_signature.specs.declared.signature.Signature.{Signature}
use Rattle.write_signature.specs.Signature.{may_hold}
use Rattle.message_net.specs.declared.actor.MailId.{MailId}
use Rattle.message_net.specs.declared.message.Mail.{Mail}
use Rattle.message_net.specs.declared.message.Message.{Message}
use Rattle.message_net.specs.declared.message.Message.TheVariants.{ReadReq, ReadFwd, DataReply, RegReq, RegFwd, RegAck, WriteBack, WbAck, Acquire, Release, Grant, Arrived, Go, Halt}
use Rattle.message_net.specs.Kind.{kind_of}
use Rattle.queue_lock.specs.Lock.{Lock}
use Rattle.registry_bank.specs.declared.bank.BankWord.{BankWord}
use Rattle.registry_bank.specs.declared.bank.BankWord.TheVariants.{Home, Reg}
use Rattle.phase_barrier.specs.Barrier.{Barrier, has_arrived}
use Rattle.registration_protocol.specs.Messages.{guarded_by}
use Rattle.machine_rules.specs.State.{State, home_at, lock_at}
use Rattle.run_report.specs.Run.{event_word}
use Rattle.text_places.specs.Texts.{lock_text}
use Rattle.state_text.specs.declared.signed.Signed.{Signed}
use Rattle.state_text.specs.declared.signed.Signed.TheVariants.{Lock as OfLock, Mail as OfMail}
use Rattle.state_text.specs.Called.{data_word_text, numbered_core, receiver_text, numbered_mail}

-- ---- the keeper: the phase, which cores it counts as arrived, and whether a task of one was bad

unfoldable pub keeper_text : List ℕ
keeper_text = codes "keeper"

unfoldable pub keeper_phase_line : Barrier → List ℕ
keeper_phase_line k = keeper_text ++ codes " phase " ++ decimal k.phase ++ codes " of " ++ decimal k.phases ++ newline

unfoldable pub counted_core_line : ℕ → List ℕ
counted_core_line core = keeper_text ++ codes " counts " ++ numbered_core core ++ newline

abbrev pub counted_line_of : Barrier → ℕ → List ℕ
counted_line_of k core = if has_arrived core k then counted_core_line core else []

unfoldable pub bad_line : List ℕ
bad_line = keeper_text ++ codes " counts a bad task" ++ newline

abbrev pub keeper_lines : Barrier → List ℕ
keeper_lines k =
    keeper_phase_line k ++ (flat_map (counted_line_of k) (range_with_len 0 (length k.arrived)) ++ (if k.bad then bad_line else []))

-- ---- homes: a word has a line if its home names a registrant, or has another value than the initial one

unfoldable pub home_text : ProgramParts → ℕ → List ℕ
home_text P w = codes "home " ++ data_word_text P w

unfoldable pub registrant_line : ProgramParts → ℕ → ℕ → List ℕ
registrant_line P w core = home_text P w ++ codes ": registrant " ++ numbered_core core ++ newline

unfoldable pub home_value_line : ProgramParts → ℕ → ℕ → List ℕ
home_value_line P w value = home_text P w ++ codes ": value " ++ hexadecimal value ++ newline

abbrev pub home_line : ProgramParts → ℕ → Option BankWord → List ℕ
home_line P w None = []
home_line P w (Some (Reg core)) = registrant_line P w core.0
home_line P w (Some (Home value)) = if value == slice_index P.memory w then [] else home_value_line P w value

abbrev pub home_line_at : State → ℕ → List ℕ
home_line_at S w = home_line S.setting.program w (home_at S w)

abbrev pub home_lines : State → List ℕ
home_lines S = flat_map (home_line_at S) (range_with_len 0 (length S.setting.program.memory))

-- ---- signatures: the words that a lock guards in the current phase, and that a signature may hold in it

abbrev pub lock_name_text : ProgramParts → ℕ → List ℕ
lock_name_text P lock = codes "lock " ++ lock_text P.locks lock

-- whose signature it is
unfoldable pub signed_text : ProgramParts → Signed → List ℕ
signed_text P (OfLock lock) = lock_name_text P lock
signed_text P (OfMail id) = numbered_mail id

unfoldable pub may_hold_line : ProgramParts → Signed → ℕ → List ℕ
may_hold_line P of w = signed_text P of ++ codes ": may hold " ++ data_word_text P w ++ newline

abbrev pub signed_line : ProgramParts → Signed → Signature → ℕ → ℕ → List ℕ
signed_line P of s phase w = if may_hold s w phase then may_hold_line P of w else []

abbrev pub interval_lines_of : ProgramParts → Signed → Signature → ℕ → Interval → List ℕ
interval_lines_of P of s phase i = flat_map (signed_line P of s phase) (range_with_len i.lo (i.hi - i.lo))

abbrev pub signature_lines : State → Signed → Signature → ℕ → List ℕ
signature_lines S of s lock =
    flat_map (interval_lines_of S.setting.program of s S.keeper.phase) (guarded_by (slice_get S.setting.plans S.keeper.phase) lock)

-- ---- locks: the holder, the cores that wait, in order, and the signature of the lock's home

unfoldable pub free_line : ProgramParts → ℕ → List ℕ
free_line P lock = lock_name_text P lock ++ codes ": free" ++ newline

unfoldable pub holder_line : ProgramParts → ℕ → ℕ → List ℕ
holder_line P lock core = lock_name_text P lock ++ codes ": holder " ++ numbered_core core ++ newline

abbrev pub holder_line_of : ProgramParts → ℕ → Option CoreId → List ℕ
holder_line_of P lock None = free_line P lock
holder_line_of P lock (Some core) = holder_line P lock core.0

unfoldable pub queued_line : ProgramParts → ℕ → ℕ → List ℕ
queued_line P lock core = lock_name_text P lock ++ codes ": queue " ++ numbered_core core ++ newline

abbrev pub queued_line_of : ProgramParts → ℕ → Option CoreId → List ℕ
queued_line_of P lock None = []
queued_line_of P lock (Some core) = queued_line P lock core.0

-- the core at a place of the queue
abbrev pub queued_line_at : ProgramParts → ℕ → List CoreId → ℕ → List ℕ
queued_line_at P lock queue place = queued_line_of P lock (slice_get queue place)

abbrev pub queue_lines : ProgramParts → ℕ → List CoreId → List ℕ
queue_lines P lock queue = flat_map (queued_line_at P lock queue) (range_with_len 0 (length queue))

abbrev pub holding_lines : ProgramParts → ℕ → Lock → List ℕ
holding_lines P lock h = holder_line_of P lock h.holder ++ queue_lines P lock h.queue

abbrev pub lock_lines_of : State → ℕ → Option Lock → List ℕ
lock_lines_of S lock None = []
lock_lines_of S lock (Some h) =
    holding_lines S.setting.program lock h ++ signature_lines S (OfLock lock) h.kept lock

abbrev pub lock_lines_at : State → ℕ → List ℕ
lock_lines_at S lock = lock_lines_of S lock (lock_at S lock)

abbrev pub lock_lines : State → List ℕ
lock_lines S = flat_map (lock_lines_at S) (range_with_len 0 (length S.setting.program.locks))

-- ---- mails: the receiver and the message

unfoldable pub of_word : ProgramParts → ℕ → List ℕ
of_word P w = space ++ data_word_text P w

unfoldable pub of_core : ℕ → List ℕ
of_core core = space ++ numbered_core core

unfoldable pub of_value : ℕ → List ℕ
of_value value = codes " value " ++ hexadecimal value

unfoldable pub of_lock : ProgramParts → ℕ → List ℕ
of_lock P lock = space ++ lock_text P.locks lock

unfoldable pub of_phase : ℕ → List ℕ
of_phase phase = codes " phase " ++ decimal phase

-- what follows the word for a message's kind
abbrev pub message_parts : ProgramParts → Message → List ℕ
message_parts P (ReadReq word core) = of_word P word.0 ++ of_core core.0
message_parts P (ReadFwd word core) = of_word P word.0 ++ of_core core.0
message_parts P (DataReply word value) = of_word P word.0 ++ of_value value
message_parts P (RegReq word core) = of_word P word.0 ++ of_core core.0
message_parts P (RegFwd word core) = of_word P word.0 ++ of_core core.0
message_parts P (RegAck word) = of_word P word.0
message_parts P (WriteBack word value core) = of_word P word.0 ++ (of_value value ++ of_core core.0)
message_parts P (WbAck word) = of_word P word.0
message_parts P (Acquire lock core) = of_lock P lock.0 ++ of_core core.0
message_parts P (Release lock core s) = of_lock P lock.0 ++ of_core core.0
message_parts P (Grant lock s) = of_lock P lock.0
message_parts P (Arrived core bad) = of_core core.0 ++ (if bad then codes " bad" else [])
message_parts P (Go phase) = of_phase phase.0
message_parts P Halt = []

unfoldable pub in_flight_line : ProgramParts → Mail → List ℕ
in_flight_line P m =
    numbered_mail m.id ++ codes " to " ++ receiver_text m.to ++ codes ": " ++ event_word (kind_of m.message) ++ message_parts P m.message ++ newline

-- a release and a grant carry a signature
abbrev pub carried_lines : State → MailId → Message → List ℕ
carried_lines S id (Release lock core s) = signature_lines S (OfMail id) s lock.0
carried_lines S id (Grant lock s) = signature_lines S (OfMail id) s lock.0
carried_lines S id _ = []

abbrev pub mail_lines : State → Mail → List ℕ
mail_lines S m = in_flight_line S.setting.program m ++ carried_lines S m.id m.message
