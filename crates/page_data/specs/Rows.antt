-- What the page's data tell of changes, mails and events.
use Rattle.std.specs.Prelude.{ℕ, zero, suc, ◌+◌, Bool, true, false, List, [], ◌∷◌, ◌++◌, codes, map, Option, Some, None}
use Rattle.std.specs.Fmt.{decimal}
use Rattle.dn_base.specs.declared.ids.CoreId.{CoreId}
use Rattle.dn_base.specs.declared.ids.WordId.{WordId}
use Rattle.rv_core.specs.declared.ending.EndShown.{EndShown}
use Rattle.rv_core.specs.declared.ending.EndShown.TheVariants as shown
use Rattle.rv_core.specs.Ending.{shown_end}
use Rattle.write_signature.specs.declared.signature.Signature.{Signature}
use Rattle.write_signature.specs.Signature.{tag, has_bit}
use Rattle.message_net.specs.declared.actor.Actor.{Actor}
use Rattle.message_net.specs.declared.actor.Actor.TheVariants.{Core, Bank, Keeper}
use Rattle.message_net.specs.declared.event.Event.{Event}
use Rattle.message_net.specs.declared.event.Event.TheVariants.{Handle}
use Rattle.message_net.specs.declared.message.Mail.{Mail}
use Rattle.message_net.specs.declared.message.Message.{Message}
use Rattle.message_net.specs.declared.message.Message.TheVariants as message
use Rattle.message_net.specs.declared.message.Outgoing.{Outgoing}
use Rattle.message_net.specs.Kind.{kind_of, kind_index}
use Rattle.word_cache.specs.declared.row.Entry.{Entry}
use Rattle.word_cache.specs.declared.row.Entry.TheVariants.{Valid, Registered, Leaving}
use Rattle.registry_bank.specs.declared.bank.BankWord.{BankWord}
use Rattle.registry_bank.specs.declared.bank.BankWord.TheVariants as content
use Rattle.registration_protocol.specs.declared.node.NodeWait.{NodeWait}
use Rattle.registration_protocol.specs.declared.node.NodeWait.TheVariants as wait
use Rattle.run_report.specs.Answer.{kind_word}
use Rattle.run_changes.specs.declared.change.ActorChanges.{ActorChanges}
use Rattle.run_changes.specs.declared.change.Change.{Change}
use Rattle.run_changes.specs.declared.change.Change.TheVariants as change
use Rattle.run_changes.specs.declared.change.EventMade.{EventMade}
use Rattle.page_data.specs.Json.{list_text, further_all}

-- ---- numbers

-- the number of an actor: cores from 0 on, banks from 16 on, and the keeper
abbrev pub actor_number : Actor → ℕ
actor_number (Core core) = core.0
actor_number (Bank bank) = 16 + bank.0
actor_number Keeper = 32

abbrev pub flag_number : Bool → ℕ
flag_number true = 1
flag_number false = 0

-- a bit that is set, or nothing
abbrev pub bit_text : ℕ → Bool → List ℕ
bit_text bit true = further_all (bit ∷ [])
bit_text bit false = []

-- of `count` bits of a signature from one on, those that are set
abbrev pub bit_texts : Signature → ℕ → ℕ → List ℕ
bit_texts s bit zero = []
bit_texts s bit (suc n) = bit_text bit (has_bit s bit) ++ bit_texts s (bit + 1) n

-- all bits that are set
unfoldable pub all_bits : Signature → List ℕ
all_bits s = bit_texts s 0 256

-- a signature: its phase, and its bits that are set
unfoldable pub signature_text : Signature → List ℕ
signature_text s = further_all (tag s ∷ []) ++ all_bits s

-- how a task has ended, or which lock it waits for
abbrev pub cause_fields : EndShown → List ℕ
cause_fields shown.Finished = codes ",\"finished\""
cause_fields shown.Fuel = codes ",\"fuel\""
cause_fields (shown.Trap kind pc value) = codes ",\"trap\",\"" ++ (kind_word kind ++ (codes "\"" ++ further_all (pc ∷ value ∷ [])))
cause_fields (shown.Waits lock) = codes ",\"waits\"" ++ further_all (lock.0 ∷ [])

-- ---- changes

-- a change begins with its tag, which its numbers follow
unfoldable pub tagged : List ℕ → List ℕ → List ℕ
tagged name rest = codes "[\"" ++ (name ++ (codes "\"" ++ (rest ++ codes "]")))

abbrev pub entry_tag : Entry → List ℕ
entry_tag (Valid value false) = codes "V"
entry_tag (Valid value true) = codes "T"
entry_tag (Registered value true) = codes "P"
entry_tag (Registered value false) = codes "R"
entry_tag (Leaving value) = codes "L"

abbrev pub entry_number : Entry → ℕ
entry_number (Valid value marked) = value
entry_number (Registered value pending) = value
entry_number (Leaving value) = value

-- what a core waits for: which kind of thing, and its number
abbrev pub wait_numbers : NodeWait → List ℕ
wait_numbers wait.None = 0 ∷ 0 ∷ []
wait_numbers (wait.Reading word) = 1 ∷ word.0 ∷ []
wait_numbers (wait.Filled word) = 2 ∷ word.0 ∷ []
wait_numbers (wait.Locking lock) = 3 ∷ lock.0 ∷ []

-- a word at its home: its value, or its registrant
abbrev pub home_item : WordId → BankWord → List ℕ
home_item word (content.Home value) = tagged (codes "H") (further_all (word.0 ∷ value ∷ []))
home_item word (content.Reg core) = tagged (codes "G") (further_all (word.0 ∷ core.0 ∷ []))

-- the holder of a lock; -1 if nobody holds it
abbrev pub holder_field : Option CoreId → List ℕ
holder_field None = codes ",-1"
holder_field (Some core) = further_all (core.0 ∷ [])

abbrev pub core_numbers : List CoreId → List ℕ
core_numbers cores = map (λ (core : CoreId). core.0) cores

unfoldable pub change_item : Change → List ℕ
change_item (change.Gone word) = tagged (codes "I") (further_all (word.0 ∷ []))
change_item (change.Holds word e) = tagged (entry_tag e) (further_all (word.0 ∷ entry_number e ∷ []))
change_item (change.Retired pc) = tagged (codes "x") (further_all (pc ∷ []))
change_item (change.At pc retired) = tagged (codes "j") (further_all (pc ∷ retired ∷ []))
change_item (change.Ended by) = tagged (codes "e") (cause_fields (shown_end by))
change_item (change.Waits waiting) = tagged (codes "w") (further_all (wait_numbers waiting))
change_item (change.Takes lock) = tagged (codes "+") (further_all (lock.0 ∷ []))
change_item (change.Gives lock) = tagged (codes "-") (further_all (lock.0 ∷ []))
change_item (change.Signed lock s) = tagged (codes "s") (further_all (lock.0 ∷ []) ++ signature_text s)
change_item change.Arrived = tagged (codes "a") []
change_item change.Halted = tagged (codes "z") []
change_item (change.Begins phase) = tagged (codes "b") (further_all (phase.0 ∷ []))
change_item (change.Home word there) = home_item word there
change_item (change.Queue lock holder waiting) =
    tagged (codes "o") (further_all (lock.0 ∷ []) ++ (holder_field holder ++ further_all (core_numbers waiting)))
change_item (change.Barrier phase bad arrived) =
    tagged (codes "k") (further_all (phase.0 ∷ flag_number bad ∷ []) ++ further_all (core_numbers arrived))
change_item (change.Loaded seen) = tagged (codes "ld") (further_all (seen.word.0 ∷ seen.value ∷ []))
change_item (change.Stored word value) = tagged (codes "st") (further_all (word.0 ∷ value ∷ []))

-- an actor, and changes of it
unfoldable pub actor_changes_text : ActorChanges → List ℕ
actor_changes_text c = codes "[" ++ (decimal (actor_number c.actor) ++ (codes "," ++ (list_text change_item c.changes ++ codes "]")))

-- ---- mails

-- what a message says, after its kind
abbrev pub message_fields : Message → List ℕ
message_fields (message.ReadReq word reader) = further_all (word.0 ∷ reader.0 ∷ [])
message_fields (message.ReadFwd word reader) = further_all (word.0 ∷ reader.0 ∷ [])
message_fields (message.DataReply word value) = further_all (word.0 ∷ value ∷ [])
message_fields (message.RegReq word core) = further_all (word.0 ∷ core.0 ∷ [])
message_fields (message.RegFwd word core) = further_all (word.0 ∷ core.0 ∷ [])
message_fields (message.RegAck word) = further_all (word.0 ∷ [])
message_fields (message.WriteBack word value core) = further_all (word.0 ∷ value ∷ core.0 ∷ [])
message_fields (message.WbAck word) = further_all (word.0 ∷ [])
message_fields (message.Acquire lock core) = further_all (lock.0 ∷ core.0 ∷ [])
message_fields (message.Release lock core signature) = further_all (lock.0 ∷ core.0 ∷ []) ++ signature_text signature
message_fields (message.Grant lock signature) = further_all (lock.0 ∷ []) ++ signature_text signature
message_fields (message.Arrived core bad) = further_all (core.0 ∷ flag_number bad ∷ [])
message_fields (message.Go phase) = further_all (phase.0 ∷ [])
message_fields message.Halt = []

-- the receiver of a message, its kind, and what it says
unfoldable pub outgoing_fields : Actor → Message → List ℕ
outgoing_fields to m = decimal (actor_number to) ++ (further_all (kind_index (kind_of m) ∷ []) ++ message_fields m)

unfoldable pub outgoing_text : Outgoing → List ℕ
outgoing_text o = codes "[" ++ (outgoing_fields o.to o.message ++ codes "]")

-- a mail in flight: its sender, its number, and what is sent
unfoldable pub mail_item : Mail → List ℕ
mail_item m =
    codes "[" ++ (decimal (actor_number m.id.sender) ++ (further_all (m.id.number ∷ []) ++ (codes "," ++ (outgoing_fields m.to m.message ++ codes "]"))))

-- ---- events

-- the sender and the number of the mail that is handled; -1 if there is none
abbrev pub handled_text : Event → List ℕ
handled_text (Handle id) = codes "[" ++ (decimal (actor_number id.sender) ++ (further_all (id.number ∷ []) ++ codes "]"))
handled_text _ = codes "-1"

-- what is sent, if something is
abbrev pub sent_text : List Outgoing → List ℕ
sent_text [] = []
sent_text (o ∷ os) = codes "," ++ list_text outgoing_text (o ∷ os)

-- the kind and the actor of an event, and the mail that it handles
unfoldable pub row_head : Event → EventMade → List ℕ
row_head e m = codes "[" ++ (decimal (kind_index m.kind) ++ (codes "," ++ (decimal (actor_number m.actor) ++ (codes "," ++ handled_text e))))

-- what it changes, and what it sends
unfoldable pub row_tail : EventMade → List ℕ
row_tail m = codes "," ++ (list_text change_item m.changes ++ (sent_text m.sent ++ codes "]"))

unfoldable pub event_row : Event → EventMade → List ℕ
event_row e m = row_head e m ++ row_tail m
