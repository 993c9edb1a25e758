-- The mails of reads: how many come and go, and who waits for them.
use Rattle.std.proofs.Common.{◌≡◌, ℕ, zero, suc, ◌+◌, ◌<◌, ◌≤◌, ◌==◌, ◌&&◌, not, nat_lt, Bool, true, false, length, slice_get, Option, Some, None, refl, subst, arith}
use Rattle.std.specs.Option.{is_some}
use Rattle.std.proofs.lemmas.Bool.{eqb-true}
use Rattle.std.proofs.lemmas.Bool.Decides.{nat_tests}
use Rattle.dn_base.specs.declared.ids.WordId.{WordId}
use Rattle.message_net.specs.declared.actor.Actor.{Actor}
use Rattle.message_net.specs.declared.actor.Actor.TheVariants.{Core}
use Rattle.message_net.specs.declared.message.Mail.{Mail}
use Rattle.message_net.specs.declared.message.Message.{Message}
use Rattle.message_net.specs.declared.message.Message.TheVariants.{ReadReq, ReadFwd, DataReply, RegReq, RegFwd, RegAck, WriteBack, WbAck, Acquire, Release, Grant, Arrived, Go, Halt}
use Rattle.message_net.specs.declared.message.Outgoing.{Outgoing}
use Rattle.message_net.proofs.PoolLemmas.{counted-place, weight-within}
use Rattle.registry_bank.specs.declared.bank.BankWord.{BankWord}
use Rattle.registration_protocol.specs.declared.node.NodeWait as wait
use Rattle.registration_protocol.specs.declared.node.NodeWait.{NodeWait}
use Rattle.registration_protocol.specs.Node.{NodeParts}
use Rattle.machine_rules.specs.State.{State, home_at}
use Rattle.machine_rules.specs.Flight.{Test, bit, mail_count, flight, is_to, is_read_req_of, is_read_fwd_of, is_read_fwd_to, is_data_reply_to, is_false_data_reply}
use Rattle.machine_rules.proofs.Bits.{passes, known_bit, reading_in, is_reading}
use Rattle.machine_rules.proofs.BitLemmas.{bit-true}
use Rattle.machine_rules.proofs.Invariant.{Invariant, ReadsGood}
use Rattle.machine_rules.proofs.Outcomes.{to_all}
use Rattle.machine_rules.proofs.WordEvents.{Flown}
use Rattle.machine_rules.proofs.Exclusive.{reading-works}

-- a mail, if there is one, that is of no read
pub record IsNoRead (out : Option Outgoing) : Type 0 where
  pub sought : (w c : ℕ) → passes (is_read_req_of w c) out ≡ 0
  pub forwarded : (w c : ℕ) → passes (is_read_fwd_of w c) out ≡ 0
  pub passed : (w d : ℕ) → passes (is_read_fwd_to w d) out ≡ 0
  pub replied : (w c : ℕ) → passes (is_data_reply_to w c) out ≡ 0
  pub lies : (M : ℕ → ℕ) → passes (is_false_data_reply M) out ≡ 0

abbrev pub of_read : Message → Bool
of_read (ReadReq word reader) = true
of_read (ReadFwd word reader) = true
of_read (DataReply word value) = true
of_read _ = false

pub no-read : (to : Actor) (message : Message) → of_read message ≡ false → IsNoRead (Some (record { to = to; message = message }))
no-read to (ReadReq word reader) e = absurd (cc)
no-read to (ReadFwd word reader) e = absurd (cc)
no-read to (DataReply word value) e = absurd (cc)
no-read to _ e = record { sought = λ w c. refl; forwarded = λ w c. refl; passed = λ w c. refl; replied = λ w c. refl; lies = λ M. refl }

pub no-read-none : IsNoRead None
no-read-none = record { sought = λ w c. refl; forwarded = λ w c. refl; passed = λ w c. refl; replied = λ w c. refl; lies = λ M. refl }

-- the mails of reads in flight are as many as before
pub record SameReads (S T : State) : Type 0 where
  pub sought : (w c : ℕ) → flight T (is_read_req_of w c) ≡ flight S (is_read_req_of w c)
  pub forwarded : (w c : ℕ) → flight T (is_read_fwd_of w c) ≡ flight S (is_read_fwd_of w c)
  pub passed : (w d : ℕ) → flight T (is_read_fwd_to w d) ≡ flight S (is_read_fwd_to w d)
  pub replied : (w c : ℕ) → flight T (is_data_reply_to w c) ≡ flight S (is_data_reply_to w c)
  pub lies : (M : ℕ → ℕ) → flight T (is_false_data_reply M) ≡ flight S (is_false_data_reply M)

pub same-reads : (S T : State) (left sent : Option Outgoing) → Flown S T left sent → IsNoRead left → IsNoRead sent → SameReads S T
same-reads S T left sent flown came went =
    record {
      sought = λ w c. omega (arith, flown (is_read_req_of w c), came.sought w c, went.sought w c);
      forwarded = λ w c. omega (arith, flown (is_read_fwd_of w c), came.forwarded w c, went.forwarded w c);
      passed = λ w d. omega (arith, flown (is_read_fwd_to w d), came.passed w d, went.passed w d);
      replied = λ w c. omega (arith, flown (is_data_reply_to w c), came.replied w c, went.replied w c);
      lies = λ M. omega (arith, flown (is_false_data_reply M), came.lies M, went.lies M);
    }

-- what the keeper posts
all-none : (p : Test) (cores : ℕ) (message : Message) → ((c : ℕ) → bit (p (Core (record { 0 = c })) message) ≡ 0) → to_all p cores (Some message) ≡ 0
all-none p zero message none = refl
all-none p (suc cores) message none = omega (arith, all-none p cores message none, none cores)

abbrev pub no_read_in : Option Message → Bool
no_read_in None = true
no_read_in (Some message) = not (of_read message)

posts-none : (p : Test) (cores : ℕ) (sent : Option Message) → ((to : Actor) (message : Message) → of_read message ≡ false → bit (p to message) ≡ 0) → no_read_in sent ≡ true → to_all p cores sent ≡ 0
posts-none p zero None none quiet = refl
posts-none p (suc cores) None none quiet = refl
posts-none p cores (Some message) none quiet = all-none p cores message (λ c. none (Core (record { 0 = c })) message (not-of (of_read message) quiet)) where
  not-of : (b : Bool) → not b ≡ true → b ≡ false
  not-of true e = absurd (cc)
  not-of false e = refl

pub same-posted : (S T : State) (cores : ℕ) (left : Option Outgoing) (sent : Option Message) → ((p : Test) → flight T p + passes p left ≡ flight S p + to_all p cores sent)
    → IsNoRead left → no_read_in sent ≡ true → SameReads S T
same-posted S T cores left sent flown came quiet =
    record {
      sought = λ w c. omega (arith, flown (is_read_req_of w c), came.sought w c, posts-none (is_read_req_of w c) cores sent (λ to message e. (no-read to message e).sought w c) quiet);
      forwarded = λ w c. omega (arith, flown (is_read_fwd_of w c), came.forwarded w c, posts-none (is_read_fwd_of w c) cores sent (λ to message e. (no-read to message e).forwarded w c) quiet);
      passed = λ w d. omega (arith, flown (is_read_fwd_to w d), came.passed w d, posts-none (is_read_fwd_to w d) cores sent (λ to message e. (no-read to message e).passed w d) quiet);
      replied = λ w c. omega (arith, flown (is_data_reply_to w c), came.replied w c, posts-none (is_data_reply_to w c) cores sent (λ to message e. (no-read to message e).replied w c) quiet);
      lies = λ M. omega (arith, flown (is_false_data_reply M), came.lies M, posts-none (is_false_data_reply M) cores sent (λ to message e. (no-read to message e).lies M) quiet);
    }

-- ---- who reads

-- a read that was passed on to some core is some core's
pub forward-reader : (S : State) (w d : ℕ) → 1 ≤ flight S (is_read_fwd_to w d) → (c : ℕ) × (1 ≤ flight S (is_read_fwd_of w c))
forward-reader S w d some = of_mail (counted-place (λ (m : Mail). is_read_fwd_to w d m.to m.message) S.mails some) where
  reads : (m : Mail) → (message : Message) → m.message ≡ message → is_read_fwd_to w d m.to message ≡ true → (c : ℕ) × (is_read_fwd_of w c m.to message ≡ true)
  reads m (ReadFwd word reader) is pass = (reader.0, by_test (word.0 == w) (is_to d m.to) pass) where
    by_test : (x y : Bool) → (x && y) ≡ true → (x && (reader.0 == reader.0)) ≡ true
    by_test true y pass = grind (arith, nat_tests)
    by_test false y pass = absurd (cc)
  reads m (ReadReq word reader) is pass = absurd (cc)
  reads m (DataReply word value) is pass = absurd (cc)
  reads m (RegReq word core) is pass = absurd (cc)
  reads m (RegFwd word core) is pass = absurd (cc)
  reads m (RegAck word) is pass = absurd (cc)
  reads m (WriteBack word value core) is pass = absurd (cc)
  reads m (WbAck word) is pass = absurd (cc)
  reads m (Acquire lock core) is pass = absurd (cc)
  reads m (Release lock core s) is pass = absurd (cc)
  reads m (Grant lock s) is pass = absurd (cc)
  reads m (Arrived core bad) is pass = absurd (cc)
  reads m (Go phase) is pass = absurd (cc)
  reads m Halt is pass = absurd (cc)

  of_mail : (place : ℕ) × (m : Mail) × (slice_get S.mails place ≡ Some m) × (is_read_fwd_to w d m.to m.message ≡ true) → (c : ℕ) × (1 ≤ flight S (is_read_fwd_of w c))
  of_mail (place, m, there, pass) =
      let r = reads m m.message refl pass in
      let one : bit (is_read_fwd_of w r.0 m.to m.message) ≡ 1 = rw (r.1) refl in
      (r.0, omega (arith, one, weight-within (mail_count (is_read_fwd_of w r.0)) S.mails place m there))

-- a node that reads a word
pub reader-node : (S : State) (w c : ℕ) → 1 ≤ reading_in w (slice_get S.nodes c) → (n : NodeParts) × (word : WordId) × (slice_get S.nodes c ≡ Some n) × (n.waiting ≡ wait.TheVariants.Reading word) × (word.0 ≡ w)
reader-node S w c some = by_node (slice_get S.nodes c) refl some where
  by_wait : (n : NodeParts) → slice_get S.nodes c ≡ Some n → (waiting : NodeWait) → n.waiting ≡ waiting → 1 ≤ bit (is_reading w waiting)
      → (n : NodeParts) × (word : WordId) × (slice_get S.nodes c ≡ Some n) × (n.waiting ≡ wait.TheVariants.Reading word) × (word.0 ≡ w)
  by_wait n found (wait.TheVariants.Reading word) is one = (n, word, found, is, eqb-true word.0 w (bit-true (word.0 == w) one))
  by_wait n found wait.TheVariants.None is one = absurd (omega (arith, one))
  by_wait n found (wait.TheVariants.Filled word) is one = absurd (omega (arith, one))
  by_wait n found (wait.TheVariants.Locking lock) is one = absurd (omega (arith, one))

  by_node : (o : Option NodeParts) → slice_get S.nodes c ≡ o → 1 ≤ reading_in w o
      → (n : NodeParts) × (word : WordId) × (slice_get S.nodes c ≡ Some n) × (n.waiting ≡ wait.TheVariants.Reading word) × (word.0 ≡ w)
  by_node None found one = absurd (omega (arith, one))
  by_node (Some n) found one = by_wait n found n.waiting refl one

-- a word that somebody reads is one of the machine
pub known-home : (S : State) (M : ℕ → ℕ) (w : ℕ) → Invariant S M → w < length S.setting.program.memory → 1 ≤ known_bit (home_at S w)
known-home S M w inv within = by_home (home_at S w) (inv.machine.words w) where
  by_home : (h : Option BankWord) → is_some h ≡ nat_lt w (length S.setting.program.memory) → 1 ≤ known_bit h
  by_home (Some content) same = omega arith
  by_home None same = absurd (grind (arith, nat_tests, same, within))

pub read-known : (S : State) (M : ℕ → ℕ) (w c : ℕ) → Invariant S M → 1 ≤ reading_in w (slice_get S.nodes c) → 1 ≤ known_bit (home_at S w)
read-known S M w c inv some =
    let at = reader-node S w c some in
    let work = reading-works S M c at.0 at.1 inv at.2 at.3 in
    known-home S M w inv (subst (λ (x : ℕ). x < length S.setting.program.memory) at.4 work.within)

pub forward-reading : (S : State) (w d : ℕ) → ReadsGood S → 1 ≤ flight S (is_read_fwd_to w d) → (c : ℕ) × (1 ≤ reading_in w (slice_get S.nodes c))
forward-reading S w d g some = let at = forward-reader S w d some in (at.0, omega (arith, at.1, g.row w at.0))
