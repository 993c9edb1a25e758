-- What is counted of entries, homes and nodes: each is 0 or 1.
use Rattle.std.proofs.Common.{ℕ, ◌==◌, Bool, false, not, ◌&&◌, Option, Some, None}
use Rattle.word_cache.specs.declared.row.Entry.{Entry}
use Rattle.word_cache.specs.declared.row.Entry.TheVariants.{Valid, Registered, Leaving}
use Rattle.registry_bank.specs.declared.bank.BankWord.{BankWord}
use Rattle.registry_bank.specs.declared.bank.BankWord.TheVariants.{Home, Reg}
use Rattle.registration_protocol.specs.declared.node.NodeWait as wait
use Rattle.registration_protocol.specs.declared.node.NodeWait.{NodeWait}
use Rattle.registration_protocol.specs.Node.{NodeParts}
use Rattle.message_net.specs.declared.message.Outgoing.{Outgoing}
use Rattle.queue_lock.specs.Lock.{Lock}
use Rattle.write_signature.specs.declared.signature.Signature.{Signature}
use Rattle.write_signature.specs.Signature.{may_hold}
use Rattle.machine_rules.specs.Flight.{Test, bit}

-- an entry is pending, registered and not pending, leaving, valid
abbrev pub pending_bit : Option Entry → ℕ
pending_bit (Some (Registered value pending)) = bit pending
pending_bit _ = 0

abbrev pub settled_bit : Option Entry → ℕ
settled_bit (Some (Registered value pending)) = bit (not pending)
settled_bit _ = 0

abbrev pub leaving_bit : Option Entry → ℕ
leaving_bit (Some (Leaving value)) = 1
leaving_bit _ = 0

abbrev pub valid_bit : Option Entry → ℕ
valid_bit (Some (Valid value marked)) = 1
valid_bit _ = 0

-- a word has a home; its home says that core c is its registrant; its home has its value
abbrev pub known_bit : Option BankWord → ℕ
known_bit None = 0
known_bit (Some content) = 1

abbrev pub owner_bit : ℕ → Option BankWord → ℕ
owner_bit c (Some (Reg core)) = bit (core.0 == c)
owner_bit c _ = 0

abbrev pub home_bit : Option BankWord → ℕ
home_bit (Some (Home value)) = 1
home_bit _ = 0

-- a node reads word w
abbrev pub is_reading : ℕ → NodeWait → Bool
is_reading w (wait.TheVariants.Reading word) = word.0 == w
is_reading w _ = false

abbrev pub reading_in : ℕ → Option NodeParts → ℕ
reading_in w None = 0
reading_in w (Some n) = bit (is_reading w n.waiting)

-- what is sent or taken counts 1 where it passes a test
abbrev pub passes : Test → Option Outgoing → ℕ
passes test None = 0
passes test (Some out) = bit (test out.to out.message)

-- a lock is there
abbrev pub lock_bit : Option Lock → ℕ
lock_bit None = 0
lock_bit (Some h) = 1

-- whether two signatures are the same
abbrev pub same_signature : Signature → Signature → Bool
same_signature a b = (a.low == b.low) && ((a.high == b.high) && (a.phase.0 == b.phase.0))

-- whether a signature, if it is there, may hold a word of a phase
abbrev pub signed_in : ℕ → ℕ → Option Signature → Bool
signed_in w p None = false
signed_in w p (Some s) = may_hold s w p
