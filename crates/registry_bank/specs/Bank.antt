-- A bank of the shared memory: what it holds, and what it does with each message.
--
-- `is_for_bank` and the functions `after_..` at the end are columns of the table `bank_gets`, for laws. The laws
-- `other_kinds_change_nothing`, `words_change_by_their_own_messages` and `locks_change_by_their_own_messages` prove that each
-- is the column of its row.
use Rattle.std.specs.Prelude.{◌≡◌, ℕ, ◌+◌, ◌/◌, ◌%◌, ◌<◌, Bool, true, false, ◌&&◌, ◌==◌, nat_lt, List, [], ◌∷◌, length, map, replicate, slice_get, slice_set, Option, Some, None, if◌then◌else◌}
use Rattle.dn_base.specs.declared.ids.CoreId.{CoreId}
use Rattle.dn_base.specs.declared.ids.WordId.{WordId}
use Rattle.dn_base.specs.declared.ids.LockId.{LockId}
use Rattle.write_signature.specs.declared.signature.Signature.{Signature}
use Rattle.message_net.specs.declared.message.Message.{Message}
use Rattle.message_net.specs.declared.message.Message.TheVariants.{ReadReq, ReadFwd, DataReply, RegReq, RegFwd, RegAck, WriteBack, WbAck, Acquire, Release, Grant}
use Rattle.message_net.specs.declared.message.Outgoing.{Outgoing}
use Rattle.message_net.specs.Mail.{to_core}
use Rattle.queue_lock.specs.Lock.{Lock, IsLockOf, free_lock, acquired, released}
use Rattle.registry_bank.specs.declared.bank.BankWord.{BankWord}
use Rattle.registry_bank.specs.declared.bank.BankWord.TheVariants.{Home, Reg}

-- a bank: its number, how many banks and cores there are, and its words and locks in the order of their numbers
pub record BankParts : Type 0 where
  pub bank : ℕ
  pub banks : ℕ
  pub cores : ℕ
  pub words : List BankWord
  pub locks : List Lock

-- number n of the words, or of the locks, has its home at bank `n mod banks`, at index `n div banks`
abbrev pub is_here : BankParts → ℕ → Bool
is_here b n = n % b.banks == b.bank

-- what the bank holds for a word, if it is the word's home
abbrev pub bank_word : BankParts → ℕ → Option BankWord
bank_word b w = if is_here b w then slice_get b.words (w / b.banks) else None

-- a lock, if the bank is its home
abbrev pub bank_lock : BankParts → ℕ → Option Lock
bank_lock b l = if is_here b l then slice_get b.locks (l / b.banks) else None

-- the index of a lock among the bank's own, if the bank is its home
abbrev pub lock_index : BankParts → ℕ → Option ℕ
lock_index b l =
    if is_here b l && nat_lt (l / b.banks) (length b.locks) then Some (l / b.banks) else None

-- the bank with another content for one of its words, and with another state of one of its locks
abbrev pub with_word : BankParts → ℕ → BankWord → BankParts
with_word b w content = record b { words = slice_set b.words (w / b.banks) content }

abbrev pub with_lock : BankParts → ℕ → Lock → BankParts
with_lock b l state = record b { locks = slice_set b.locks (l / b.banks) state }

-- what the home of a word of the memory holds at first
abbrev pub first_word : Option ℕ → Option BankWord
first_word None = None
first_word (Some value) = Some (Home value)

-- the items of a list that are the bank's, in their order; the list's first item has the number `place`
unfoldable pub own_of : {X : Type 0} → ℕ → ℕ → ℕ → List X → List X
own_of bank banks place [] = []
own_of bank banks place (x ∷ xs) =
    if place % banks == bank then x ∷ own_of bank banks (place + 1) xs else own_of bank banks (place + 1) xs

-- a bank when a run begins: it holds the values of its words in the initial memory, and its locks are free
abbrev pub initial_bank : ℕ → ℕ → ℕ → List ℕ → ℕ → BankParts
initial_bank bank banks cores memory locks = record {
  bank = bank;
  banks = banks;
  cores = cores;
  words = map (λ (value : ℕ). Home value) (own_of bank banks 0 memory);
  locks = own_of bank banks 0 (replicate locks (free_lock cores));
}

-- the same by numbers: each of the bank's words has its value in the initial memory, and each of its locks is free
pub record IsNewBank (bank banks cores : ℕ) (memory : List ℕ) (locks : ℕ) (b : BankParts) : Type 0 where
  pub number : b.bank ≡ bank
  pub bank_count : b.banks ≡ banks
  pub core_count : b.cores ≡ cores
  pub each_word : (w : ℕ) → bank_word b w ≡ (if w % banks == bank then first_word (slice_get memory w) else None)
  pub each_lock : (l : ℕ) → bank_lock b l ≡ (if (l % banks == bank) && nat_lt l locks then Some (free_lock cores) else None)

-- what holds of every bank of a machine: its number is below the number of banks, its registrants are cores of the machine, and
-- its locks are the machine's
pub record IsBank (b : BankParts) : Type 0 where
  pub number : b.bank < b.banks
  pub registrants : (w : ℕ) (core : CoreId) → bank_word b w ≡ Some (Reg core) → core.0 < b.cores
  pub locks : (l : ℕ) (h : Lock) → bank_lock b l ≡ Some h → IsLockOf b.cores h

-- whether a core is this one
abbrev pub is_same_core : CoreId → CoreId → Bool
is_same_core core other = core.0 == other.0

-- ReadReq, by what the bank holds for the word: its value is sent to the reader, or the read is forwarded to the registrant
abbrev pub reads : BankParts → WordId → CoreId → Option BankWord → BankParts × Option Outgoing
reads b word reader None = (b, None)
reads b word reader (Some (Home value)) = (b, to_core reader (DataReply word value))
reads b word reader (Some (Reg registrant)) = (b, to_core registrant (ReadFwd word reader))

-- RegReq: the core becomes the registrant; an earlier registrant, if it is another core, is told so
abbrev pub registers : BankParts → WordId → CoreId → Option BankWord → BankParts × Option Outgoing
registers b word core None = (b, None)
registers b word core (Some (Home value)) = (with_word b word.0 (Reg core), to_core core (RegAck word))
registers b word core (Some (Reg registrant)) =
    (with_word b word.0 (Reg core), if is_same_core registrant core then to_core core (RegAck word) else to_core registrant (RegFwd word core))

-- WriteBack: the value is taken only from the registrant; the core gets its acknowledgement in any case
abbrev pub takes_back : BankParts → WordId → ℕ → CoreId → Option BankWord → BankParts × Option Outgoing
takes_back b word value core None = (b, None)
takes_back b word value core (Some (Home old)) = (b, to_core core (WbAck word))
takes_back b word value core (Some (Reg registrant)) =
    (if is_same_core registrant core then with_word b word.0 (Home value) else b, to_core core (WbAck word))

-- the lock is granted with a signature, if there is one
abbrev pub grants : LockId → CoreId → Option Signature → Option Outgoing
grants lock core None = None
grants lock core (Some signature) = to_core core (Grant lock signature)

abbrev pub hands_on : LockId → Option (CoreId × Signature) → Option Outgoing
hands_on lock None = None
hands_on lock (Some next) = to_core next.0 (Grant lock next.1)

-- Acquire and Release, by the lock's state
abbrev pub acquires : BankParts → LockId → CoreId → Option Lock → BankParts × Option Outgoing
acquires b lock core None = (b, None)
acquires b lock core (Some state) =
    (with_lock b lock.0 (acquired state core).0, grants lock core (acquired state core).1)

abbrev pub releases : BankParts → LockId → CoreId → Signature → Option Lock → BankParts × Option Outgoing
releases b lock core signature None = (b, None)
releases b lock core signature (Some state) =
    (with_lock b lock.0 (released state core signature).0, hands_on lock (released state core signature).1)

-- a message that names a core has an effect only if the machine has that core
abbrev pub from_core : BankParts → CoreId → BankParts × Option Outgoing → BankParts × Option Outgoing
from_core b core row = if nat_lt core.0 b.cores then row else (b, None)

-- what the bank does with a message, and what it sends; a message of any other kind changes nothing and sends nothing
unfoldable pub bank_gets : BankParts → Message → BankParts × Option Outgoing
bank_gets b (ReadReq word reader) = from_core b reader (reads b word reader (bank_word b word.0))
bank_gets b (RegReq word core) = from_core b core (registers b word core (bank_word b word.0))
bank_gets b (WriteBack word value core) = from_core b core (takes_back b word value core (bank_word b word.0))
bank_gets b (Acquire lock core) = from_core b core (acquires b lock core (bank_lock b lock.0))
bank_gets b (Release lock core signature) =
    from_core b core (releases b lock core signature (bank_lock b lock.0))
bank_gets b _ = (b, None)

-- whether a message is of a kind that banks answer
abbrev pub is_for_bank : Message → Bool
is_for_bank (ReadReq word reader) = true
is_for_bank (RegReq word core) = true
is_for_bank (WriteBack word value core) = true
is_for_bank (Acquire lock core) = true
is_for_bank (Release lock core signature) = true
is_for_bank _ = false

-- what a word has once a core is its registrant, and once a core has given it back, by what it had before
abbrev pub after_register : CoreId → Option BankWord → Option BankWord
after_register core None = None
after_register core (Some content) = Some (Reg core)

abbrev pub after_write_back : CoreId → ℕ → Option BankWord → Option BankWord
after_write_back core value None = None
after_write_back core value (Some (Home old)) = Some (Home old)
after_write_back core value (Some (Reg registrant)) = if is_same_core registrant core then Some (Home value) else Some (Reg registrant)

-- the state of a lock once a core has asked for it, and once a core has given it up
abbrev pub after_acquire : CoreId → Option Lock → Option Lock
after_acquire core None = None
after_acquire core (Some state) = Some (acquired state core).0

abbrev pub after_release : CoreId → Signature → Option Lock → Option Lock
after_release core signature None = None
after_release core signature (Some state) = Some (released state core signature).0
