-- What is kept says that each mail in flight is awaited.
use Rattle.std.proofs.Common.{◌≡◌, ℕ, ◌+◌, ◌≤◌, ◌%◌, ◌==◌, not, Bool, true, false, slice_get, Option, Some, None, refl, sym, ap, ◌∙◌, arith}
use Rattle.std.proofs.lemmas.Bool.{eqb-true}
use Rattle.std.proofs.lemmas.Bool.Decides.{nat_tests}
use Rattle.dn_base.specs.declared.ids.CoreId.{CoreId}
use Rattle.dn_base.specs.declared.ids.WordId.{WordId}
use Rattle.dn_base.specs.declared.ids.LockId.{LockId}
use Rattle.dn_base.specs.declared.ids.BankId.{BankId}
use Rattle.dn_base.specs.declared.ids.PhaseId.{PhaseId}
use Rattle.message_net.specs.declared.actor.Actor.{Actor}
use Rattle.message_net.specs.declared.actor.Actor.TheVariants.{Core, Bank, Keeper}
use Rattle.message_net.specs.declared.message.Mail.{Mail}
use Rattle.message_net.specs.declared.message.Message.{Message}
use Rattle.message_net.specs.declared.message.Message.TheVariants.{ReadReq, ReadFwd, DataReply, RegReq, RegFwd, RegAck, WriteBack, WbAck, Acquire, Release, Grant, Arrived, Go, Halt}
use Rattle.message_net.specs.Pool.{without_mail_at}
use Rattle.message_net.proofs.PoolLemmas.{weight-within, sum_by-without}
use Rattle.std.proofs.lemmas.List.Sums.{sum_by-le-sum_by}
use Rattle.queue_lock.specs.Lock.{Lock, holder_count}
use Rattle.machine_rules.proofs.WordGood.{value-le}
use Rattle.word_cache.specs.declared.row.Entry.TheVariants.{Leaving}
use Rattle.registration_protocol.specs.declared.node.NodeWait as wait
use Rattle.registration_protocol.specs.Node.{NodeParts}
use Rattle.machine_rules.specs.State.{State, entry_at, lock_at}
use Rattle.machine_rules.specs.Flight.{Test, bit, flight, mail_count, is_reg_req_of, is_reg_fwd_of, is_reg_ack_to, is_write_back_of, is_write_back_with, is_wb_ack_to, is_read_req_of, is_read_fwd_of, is_data_reply_to, is_acquire_of, is_release_of, is_grant_to, is_arrival_of, is_go_to, is_halt_to}
use Rattle.machine_rules.specs.Coherent.{AreExpected, IsExpected, IsLeaving, waits_for, holder_in, is_alive, node_is_locking}
use Rattle.machine_rules.proofs.Bits.{reading_in}
use Rattle.machine_rules.proofs.BitLemmas.{pending-is, leaving-is, bit-true}
use Rattle.machine_rules.proofs.Invariant.{Invariant, is_lost, is_right, is_astray}
use Rattle.machine_rules.proofs.WordCore.{same-number}
use Rattle.machine_rules.proofs.DispatchCore.{reading-word, locking-lock}

-- a mail in flight with this address and message: every test that it passes counts it, and where one test passes whatever
-- another passes, the difference counts it too
record Counts (S : State) (to : Actor) (message : Message) : Type 0 where
  one : (p : Test) → bit (p to message) ≤ flight S p
  apart : (p q : Test) → ((m : Mail) → mail_count p m ≤ mail_count q m) → flight S p + bit (q to message) ≤ flight S q + bit (p to message)

counts : (S : State) (place : ℕ) (m : Mail) → slice_get S.mails place ≡ Some m → Counts S m.to m.message
counts S place m there =
    record {
      one = λ p. weight-within (mail_count p) S.mails place m there;
      apart = λ p q le. omega (
        arith,
        sum_by-without (mail_count p) S.mails place m there,
        sum_by-without (mail_count q) S.mails place m there,
        sum_by-le-sum_by (mail_count p) (mail_count q) (without_mail_at place S.mails) le,
      );
    }

-- who reads a word, and who waits for a lock
reads-word : (S : State) (c : ℕ) (word : WordId) → 1 ≤ reading_in word.0 (slice_get S.nodes c) → waits_for S c (wait.TheVariants.Reading word)
reads-word S c word some = by_node (slice_get S.nodes c) refl some where
  by_node : (o : Option NodeParts) → slice_get S.nodes c ≡ o → 1 ≤ reading_in word.0 o → waits_for S c (wait.TheVariants.Reading word)
  by_node None found one = absurd (omega (arith, one))
  by_node (Some n) found one = (n, found, reading-word n.waiting word one)

awaits-lock : (S : State) (c : ℕ) (lock : LockId) → 1 ≤ bit (node_is_locking lock.0 (slice_get S.nodes c)) → waits_for S c (wait.TheVariants.Locking lock)
awaits-lock S c lock some = by_node (slice_get S.nodes c) refl some where
  by_node : (o : Option NodeParts) → slice_get S.nodes c ≡ o → 1 ≤ bit (node_is_locking lock.0 o) → waits_for S c (wait.TheVariants.Locking lock)
  by_node None found one = absurd (omega (arith, one))
  by_node (Some n) found one = (n, found, locking-lock n.waiting lock one)

not-lost : (b : Bool) → bit (not b) ≤ 0 → b ≡ true
not-lost true none = refl
not-lost false none = absurd (omega (arith, none))

-- where no mail is lost, one that goes to an actor goes the right way
right-way : (S : State) (M : ℕ → ℕ) (to : Actor) (message : Message) → Invariant S M → Counts S to message → is_right S.setting.shape.cores S.setting.shape.banks to message ≡ true
right-way S M to message inv counts =
    not-lost (is_right S.setting.shape.cores S.setting.shape.banks to message) (omega (arith, counts.one (is_lost S.setting.shape.cores S.setting.shape.banks), inv.addressed))

-- ---- mails to a bank, to the keeper, to a core

-- the value that leaves is the one that is written back
given : (S : State) (M : ℕ → ℕ) (bank : BankId) (word : WordId) (core : CoreId) (value v : ℕ) → Invariant S M → Counts S (Bank bank) (WriteBack word value core)
    → entry_at S core.0 word.0 ≡ Some (Leaving v) → IsLeaving S core.0 word.0 value
given S M bank word core value v inv mail is = by_value (value == v) refl where
  more : flight S (is_write_back_with word.0 core.0 v) + 1 ≤ flight S (is_write_back_of word.0 core.0) + bit (value == v)
  more = rw (same-number word.0, same-number core.0) at (mail.apart (is_write_back_with word.0 core.0 v) (is_write_back_of word.0 core.0) (value-le word.0 core.0 v))

  by_value : (x : Bool) → (value == v) ≡ x → IsLeaving S core.0 word.0 value
  by_value true e = is ∙ ap (λ (x : ℕ). Some (Leaving x)) (sym (eqb-true value v e))
  by_value false e = absurd (omega (arith, more, ap bit e, inv.words.valued word.0 core.0 v is))

one-holder : (c : ℕ) (o : Option Lock) → 1 ≤ holder_in c o → holder_in c o ≡ 1
one-holder c None some = absurd (omega (arith, some))
one-holder c (Some h) some = by_holder h.holder some where
  by_holder : (o : Option CoreId) → 1 ≤ holder_count c o → holder_count c o ≡ 1
  by_holder None some = absurd (omega (arith, some))
  by_holder (Some d) some = grind (arith, nat_tests, some)

to-bank : (S : State) (M : ℕ → ℕ) (bank : BankId) (message : Message) → Invariant S M → Counts S (Bank bank) message → is_right S.setting.shape.cores S.setting.shape.banks (Bank bank) message ≡ true
    → IsExpected S (Bank bank) message
to-bank S M bank (ReadReq word reader) inv mail right =
    let one = rw (same-number word.0, same-number reader.0) at (mail.one (is_read_req_of word.0 reader.0)) in
    (eqb-true bank.0 (word.0 % S.setting.shape.banks) right, reads-word S reader.0 word (omega (arith, one, inv.reads.row word.0 reader.0)))
to-bank S M bank (RegReq word core) inv mail right =
    let one = rw (same-number word.0, same-number core.0) at (mail.one (is_reg_req_of word.0 core.0)) in
    (eqb-true bank.0 (word.0 % S.setting.shape.banks) right, pending-is (entry_at S core.0 word.0) (omega (arith, one, inv.words.row word.0 core.0)))
to-bank S M bank (WriteBack word value core) inv mail right =
    let one = rw (same-number word.0, same-number core.0) at (mail.one (is_write_back_of word.0 core.0)) in
    let leaving = leaving-is (entry_at S core.0 word.0) (omega (arith, one, inv.words.row word.0 core.0)) in
    (eqb-true bank.0 (word.0 % S.setting.shape.banks) right, given S M bank word core value leaving.0 inv mail leaving.1)
to-bank S M bank (Acquire lock core) inv mail right =
    let one = rw (same-number lock.0, same-number core.0) at (mail.one (is_acquire_of lock.0 core.0)) in
    (eqb-true bank.0 (lock.0 % S.setting.shape.banks) right, awaits-lock S core.0 lock (omega (arith, one, inv.locks.row lock.0 core.0)))
to-bank S M bank (Release lock core s) inv mail right =
    let one = rw (same-number lock.0, same-number core.0) at (mail.one (is_release_of lock.0 core.0)) in
    (eqb-true bank.0 (lock.0 % S.setting.shape.banks) right, one-holder core.0 (lock_at S lock.0) (omega (arith, one, inv.locks.row lock.0 core.0)))
to-bank S M bank (ReadFwd word reader) inv mail right = absurd (cc)
to-bank S M bank (DataReply word value) inv mail right = absurd (cc)
to-bank S M bank (RegFwd word core) inv mail right = absurd (cc)
to-bank S M bank (RegAck word) inv mail right = absurd (cc)
to-bank S M bank (WbAck word) inv mail right = absurd (cc)
to-bank S M bank (Grant lock s) inv mail right = absurd (cc)
to-bank S M bank (Arrived core bad) inv mail right = absurd (cc)
to-bank S M bank (Go phase) inv mail right = absurd (cc)
to-bank S M bank Halt inv mail right = absurd (cc)

to-keeper : (S : State) (M : ℕ → ℕ) (message : Message) → Invariant S M → Counts S Keeper message → is_right S.setting.shape.cores S.setting.shape.banks Keeper message ≡ true → IsExpected S Keeper message
to-keeper S M (Arrived core bad) inv mail right =
    let one = rw (same-number core.0) at (mail.one (is_arrival_of core.0)) in
    bit-true (is_alive (slice_get S.nodes core.0)) (omega (arith, one, inv.phases.row core.0))
to-keeper S M (ReadReq word reader) inv mail right = absurd (cc)
to-keeper S M (ReadFwd word reader) inv mail right = absurd (cc)
to-keeper S M (DataReply word value) inv mail right = absurd (cc)
to-keeper S M (RegReq word core) inv mail right = absurd (cc)
to-keeper S M (RegFwd word core) inv mail right = absurd (cc)
to-keeper S M (RegAck word) inv mail right = absurd (cc)
to-keeper S M (WriteBack word value core) inv mail right = absurd (cc)
to-keeper S M (WbAck word) inv mail right = absurd (cc)
to-keeper S M (Acquire lock core) inv mail right = absurd (cc)
to-keeper S M (Release lock core s) inv mail right = absurd (cc)
to-keeper S M (Grant lock s) inv mail right = absurd (cc)
to-keeper S M (Go phase) inv mail right = absurd (cc)
to-keeper S M Halt inv mail right = absurd (cc)

same-phase : (S : State) (M : ℕ → ℕ) (core : CoreId) (phase : PhaseId) → Invariant S M → Counts S (Core core) (Go phase) → phase.0 ≡ S.keeper.phase
same-phase S M core phase inv mail = by_test (phase.0 == S.keeper.phase) refl (mail.one (is_astray S.keeper.phase)) where
  by_test : (x : Bool) → (phase.0 == S.keeper.phase) ≡ x → bit (not x) ≤ flight S (is_astray S.keeper.phase) → phase.0 ≡ S.keeper.phase
  by_test true e one = eqb-true phase.0 S.keeper.phase e
  by_test false e one = absurd (omega (arith, one, inv.phases.astray))

to-core : (S : State) (M : ℕ → ℕ) (core : CoreId) (message : Message) → Invariant S M → Counts S (Core core) message → is_right S.setting.shape.cores S.setting.shape.banks (Core core) message ≡ true
    → IsExpected S (Core core) message
to-core S M core (ReadFwd word reader) inv mail right =
    let one = rw (same-number word.0, same-number reader.0) at (mail.one (is_read_fwd_of word.0 reader.0)) in
    reads-word S reader.0 word (omega (arith, one, inv.reads.row word.0 reader.0))
to-core S M core (DataReply word value) inv mail right =
    let one = rw (same-number word.0, same-number core.0) at (mail.one (is_data_reply_to word.0 core.0)) in
    reads-word S core.0 word (omega (arith, one, inv.reads.row word.0 core.0))
to-core S M core (RegFwd word other) inv mail right =
    let one = rw (same-number word.0, same-number other.0) at (mail.one (is_reg_fwd_of word.0 other.0)) in
    pending-is (entry_at S other.0 word.0) (omega (arith, one, inv.words.row word.0 other.0))
to-core S M core (RegAck word) inv mail right =
    let one = rw (same-number word.0, same-number core.0) at (mail.one (is_reg_ack_to word.0 core.0)) in
    pending-is (entry_at S core.0 word.0) (omega (arith, one, inv.words.row word.0 core.0))
to-core S M core (WbAck word) inv mail right =
    let one = rw (same-number word.0, same-number core.0) at (mail.one (is_wb_ack_to word.0 core.0)) in
    leaving-is (entry_at S core.0 word.0) (omega (arith, one, inv.words.row word.0 core.0))
to-core S M core (Grant lock s) inv mail right =
    let one = rw (same-number lock.0, same-number core.0) at (mail.one (is_grant_to lock.0 core.0)) in
    awaits-lock S core.0 lock (omega (arith, one, inv.locks.row lock.0 core.0))
to-core S M core (Go phase) inv mail right =
    let one = rw (same-number core.0) at (mail.one (is_go_to core.0)) in
    (same-phase S M core phase inv mail, bit-true (is_alive (slice_get S.nodes core.0)) (omega (arith, one, inv.phases.row core.0)))
to-core S M core Halt inv mail right =
    let one = rw (same-number core.0) at (mail.one (is_halt_to core.0)) in
    bit-true (is_alive (slice_get S.nodes core.0)) (omega (arith, one, inv.phases.row core.0))
to-core S M core (ReadReq word reader) inv mail right = absurd (cc)
to-core S M core (RegReq word c) inv mail right = absurd (cc)
to-core S M core (WriteBack word value c) inv mail right = absurd (cc)
to-core S M core (Acquire lock c) inv mail right = absurd (cc)
to-core S M core (Release lock c s) inv mail right = absurd (cc)
to-core S M core (Arrived c bad) inv mail right = absurd (cc)

expected : (S : State) (M : ℕ → ℕ) (to : Actor) (message : Message) → Invariant S M → Counts S to message → IsExpected S to message
expected S M (Core core) message inv mail = to-core S M core message inv mail (right-way S M (Core core) message inv mail)
expected S M (Bank bank) message inv mail = to-bank S M bank message inv mail (right-way S M (Bank bank) message inv mail)
expected S M Keeper message inv mail = to-keeper S M message inv mail (right-way S M Keeper message inv mail)

pub mails : (S : State) (M : ℕ → ℕ) → Invariant S M → AreExpected S
mails S M inv m (place, there) = expected S M m.to m.message inv (counts S place m there)
