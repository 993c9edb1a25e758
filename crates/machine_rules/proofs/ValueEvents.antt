-- What is known of values after an event, from what the event changes.
use Rattle.std.proofs.Common.{◌≡◌, ℕ, zero, suc, ◌≤◌, ◌==◌, ◌&&◌, Bool, true, false, slice_get, Option, Some, None, refl, sym, ap, subst, ◌∙◌, arith}
use Rattle.std.proofs.lemmas.Bool.{eqb-true}
use Rattle.std.proofs.lemmas.Bool.Decides.{nat_tests}
use Rattle.dn_base.specs.declared.ids.WordId.{WordId}
use Rattle.dn_base.specs.declared.ids.CoreId.{CoreId}
use Rattle.message_net.specs.declared.actor.Actor.{Actor}
use Rattle.message_net.specs.declared.message.Mail.{Mail}
use Rattle.message_net.specs.declared.message.Message.{Message}
use Rattle.message_net.specs.declared.message.Message.TheVariants.{ReadReq, ReadFwd, DataReply, RegReq, RegFwd, RegAck, WriteBack, WbAck, Acquire, Release, Grant, Arrived, Go, Halt}
use Rattle.message_net.specs.declared.message.Outgoing.{Outgoing}
use Rattle.message_net.proofs.PoolLemmas.{counted-place, weight-within}
use Rattle.word_cache.specs.declared.row.Entry.TheVariants.{Registered}
use Rattle.registry_bank.specs.declared.bank.BankWord.{BankWord}
use Rattle.registry_bank.specs.declared.bank.BankWord.TheVariants.{Home, Reg}
use Rattle.registration_protocol.specs.Node.{NodeParts}
use Rattle.machine_rules.specs.State.{State, entry_at, home_at}
use Rattle.machine_rules.specs.Flight.{bit, mail_count, flight, is_to, is_reg_fwd_of, is_reg_fwd_to, is_read_fwd_to, is_false_data_reply}
use Rattle.machine_rules.specs.Coherent.{owned_value}
use Rattle.machine_rules.proofs.Bits.{passes, pending_bit, settled_bit, owner_bit}
use Rattle.machine_rules.proofs.BitLemmas.{pending-is, pending-bit}
use Rattle.machine_rules.proofs.Invariant.{WordsGood, ValuesGood, AllSettled}
use Rattle.machine_rules.proofs.Steps.{NodeStep}
use Rattle.machine_rules.proofs.Outcomes.{WordStep}
use Rattle.machine_rules.proofs.WordEvents.{Flown}
use Rattle.machine_rules.proofs.WordQuiet.{home-node}
use Rattle.machine_rules.proofs.NodeEntries.{IsCalm, IsCalmState, calm-node, calm-nodes}

-- ---- mails

-- a mail, if there is one, that neither answers a read nor passes it on to a core
pub record IsMute (out : Option Outgoing) : Type 0 where
  pub passed : (w d : ℕ) → passes (is_read_fwd_to w d) out ≡ 0
  pub lies : (M : ℕ → ℕ) → passes (is_false_data_reply M) out ≡ 0

abbrev pub of_value : Message → Bool
of_value (ReadFwd word reader) = true
of_value (DataReply word value) = true
of_value _ = false

pub mute : (to : Actor) (message : Message) → of_value message ≡ false → IsMute (Some (record { to = to; message = message }))
mute to (ReadFwd word reader) e = absurd (cc)
mute to (DataReply word value) e = absurd (cc)
mute to _ e = record { passed = λ w d. refl; lies = λ M. refl }

pub mute-none : IsMute None
mute-none = record { passed = λ w d. refl; lies = λ M. refl }

-- no more reads are answered or passed on to a core than before
pub record IsNoMore (S T : State) : Type 0 where
  pub passed : (w d : ℕ) → flight T (is_read_fwd_to w d) ≤ flight S (is_read_fwd_to w d)
  pub lies : (M : ℕ → ℕ) → flight T (is_false_data_reply M) ≤ flight S (is_false_data_reply M)

pub no-more : (S T : State) (left sent : Option Outgoing) → Flown S T left sent → IsMute sent → IsNoMore S T
no-more S T left sent flown went =
    record {
      passed = λ w d. omega (arith, flown (is_read_fwd_to w d), went.passed w d);
      lies = λ M. omega (arith, flown (is_false_data_reply M), went.lies M);
    }

-- an answer is true where its value is the word's
pub true-reply : (M : ℕ → ℕ) (to : Actor) (word : WordId) (value : ℕ) → value ≡ M word.0 → passes (is_false_data_reply M) (Some (record { to = to; message = DataReply word value })) ≡ 0
true-reply M to word value same =
    let e : (value == M word.0) ≡ true = grind (arith, nat_tests, same) in
    rw (e) refl

-- a RegFwd is for a core that has the word pending
pub sought-pending : (S : State) (w d : ℕ) → WordsGood S → 1 ≤ flight S (is_reg_fwd_to w d) → (c : ℕ) × (1 ≤ pending_bit (entry_at S c w))
sought-pending S w d g some = of_mail (counted-place (λ (m : Mail). is_reg_fwd_to w d m.to m.message) S.mails some) where
  passes_for : (m : Mail) (message : Message) → is_reg_fwd_to w d m.to message ≡ true → (c : ℕ) × (is_reg_fwd_of w c m.to message ≡ true)
  passes_for m (RegFwd word core) pass = (core.0, by_test (word.0 == w) (is_to d m.to) pass) where
    by_test : (x y : Bool) → (x && y) ≡ true → (x && (core.0 == core.0)) ≡ true
    by_test true y pass = grind (arith, nat_tests)
    by_test false y pass = absurd (cc)
  passes_for m (ReadReq word reader) pass = absurd (cc)
  passes_for m (ReadFwd word reader) pass = absurd (cc)
  passes_for m (DataReply word value) pass = absurd (cc)
  passes_for m (RegReq word core) pass = absurd (cc)
  passes_for m (RegAck word) pass = absurd (cc)
  passes_for m (WriteBack word value core) pass = absurd (cc)
  passes_for m (WbAck word) pass = absurd (cc)
  passes_for m (Acquire lock core) pass = absurd (cc)
  passes_for m (Release lock core s) pass = absurd (cc)
  passes_for m (Grant lock s) pass = absurd (cc)
  passes_for m (Arrived core bad) pass = absurd (cc)
  passes_for m (Go phase) pass = absurd (cc)
  passes_for m Halt pass = absurd (cc)

  of_mail : (place : ℕ) × (m : Mail) × (slice_get S.mails place ≡ Some m) × (is_reg_fwd_to w d m.to m.message ≡ true) → (c : ℕ) × (1 ≤ pending_bit (entry_at S c w))
  of_mail (place, m, there, pass) =
      let r = passes_for m m.message pass in
      let one : bit (is_reg_fwd_of w r.0 m.to m.message) ≡ 1 = rw (r.1) refl in
      (r.0, omega (arith, one, weight-within (mail_count (is_reg_fwd_of w r.0)) S.mails place m there, g.row w r.0))

-- where nothing is pending, who has a word registered is its registrant
pub settled-owner : (S : State) (w c : ℕ) → WordsGood S → AllSettled S w → settled_bit (entry_at S c w) ≤ owner_bit c (home_at S w)
settled-owner S w c g all = by_count (flight S (is_reg_fwd_to w c)) refl where
  by_count : (x : ℕ) → flight S (is_reg_fwd_to w c) ≡ x → settled_bit (entry_at S c w) ≤ owner_bit c (home_at S w)
  by_count zero is = omega (arith, is, g.row w c)
  by_count (suc x) is = let at = sought-pending S w c g (omega (arith, is)) in absurd (omega (arith, at.1, all at.0))

-- ---- frames

abbrev pub PassesTrue : State → State → (ℕ → ℕ) → Type 0
PassesTrue S T M = (d w value : ℕ) → 1 ≤ flight T (is_read_fwd_to w d) → owned_value (entry_at S d w) ≡ Some value → value ≡ M w

pub passes-true : (S T : State) (M : ℕ → ℕ) → ValuesGood S M → ((w d : ℕ) → flight T (is_read_fwd_to w d) ≤ flight S (is_read_fwd_to w d)) → PassesTrue S T M
passes-true S T M g less d w value some has = g.forwarded d w value (omega (arith, some, less w d)) has

all-settled : (S T : State) (w : ℕ) → IsCalmState S T → AllSettled T w → AllSettled S w
all-settled S T w calm all c = sym (calm.pending c w) ∙ all c

some-same : (x y : ℕ) → Some x ≡ Some y → x ≡ y
some-same x y e = cc

pending-true : (S T : State) (M : ℕ → ℕ) → ValuesGood S M → IsCalmState S T → (c w value : ℕ) → entry_at T c w ≡ Some (Registered value true) → value ≡ M w
pending-true S T M g calm c w value is =
    let was = pending-is (entry_at S c w) (omega (arith, calm.pending c w, pending-bit (entry_at T c w) value is)) in
    let same = calm.owned c w value (ap owned_value is) in
    some-same value was.0 (sym same ∙ ap owned_value was.1) ∙ g.pending c w was.0 was.1

-- nothing is newly pending or owned, and the homes stay
pub values-calm : (S T : State) (M : ℕ → ℕ) → ValuesGood S M → IsCalmState S T → ((v : ℕ) → home_at T v ≡ home_at S v) → flight T (is_false_data_reply M) ≡ 0 → PassesTrue S T M → ValuesGood T M
values-calm S T M g calm homes lies passed =
    record {
      beyond = λ w none. g.beyond w (sym (homes w) ∙ none);
      pending = pending-true S T M g calm;
      home = λ w value all is. g.home w value (all-settled S T w calm all) (sym (homes w) ∙ is);
      owner = λ w value core all is has. g.owner w value core (all-settled S T w calm all) (sym (homes w) ∙ is) (calm.owned core.0 w value has);
      replied = lies;
      forwarded = λ d w value some has. passed d w value some (calm.owned d w value has);
    }

pub values-quiet : (S T : State) (M : ℕ → ℕ) → ValuesGood S M → IsCalmState S T → ((v : ℕ) → home_at T v ≡ home_at S v) → IsNoMore S T → ValuesGood T M
values-quiet S T M g calm homes less =
    values-calm S T M g calm homes (omega (arith, less.lies M, g.replied)) (passes-true S T M g less.passed)

pub values-node : (S T : State) (M : ℕ → ℕ) (core : ℕ) (n m : NodeParts) (left sent : Option Outgoing) → ValuesGood S M → NodeStep S T core n m left sent → IsMute sent → IsCalm n m → ValuesGood T M
values-node S T M core n m left sent g step went calm =
    values-quiet S T M g (calm-node S T core n m left sent step calm) (home-node S T core n m left sent step) (no-more S T left sent step.flown went)

-- a home changes what it has of a word
pub values-home : (S T : State) (M : ℕ → ℕ) (w : ℕ) (content : BankWord) (left sent : Option Outgoing) → ValuesGood S M → WordStep S T w content left sent
    → ((value : ℕ) → AllSettled S w → content ≡ Home value → value ≡ M w)
    → ((value : ℕ) (core : CoreId) → AllSettled S w → content ≡ Reg core → owned_value (entry_at S core.0 w) ≡ Some value → value ≡ M w)
    → IsMute sent → ValuesGood T M
values-home S T M w content left sent g step at_home owned went =
    record {
      beyond = λ v none. by_none v none (w == v) refl;
      pending = pending-true S T M g calm;
      home = λ v value all is. by_home v value (all-settled S T v calm all) is (w == v) refl;
      owner = λ v value core all is has. by_owner v value core (all-settled S T v calm all) is (calm.owned core.0 v value has) (w == v) refl;
      replied = omega (arith, (no-more S T left sent step.flown went).lies M, g.replied);
      forwarded = λ d v value some has. passes-true S T M g (no-more S T left sent step.flown went).passed d v value some (calm.owned d v value has);
    }
  where
    calm : IsCalmState S T
    calm = calm-nodes S T step.nodes

    content-same : (x y : BankWord) → Some x ≡ Some y → x ≡ y
    content-same x y e = cc

    by_none : (v : ℕ) → home_at T v ≡ None → (x : Bool) → (w == v) ≡ x → M v ≡ 0
    by_none v none true e = let is = rw (e) at (step.homes v) in absurd (cc)
    by_none v none false e = g.beyond v (sym (rw (e) at (step.homes v)) ∙ none)

    by_home : (v value : ℕ) → AllSettled S v → home_at T v ≡ Some (Home value) → (x : Bool) → (w == v) ≡ x → value ≡ M v
    by_home v value all is true e =
        let same : w ≡ v = eqb-true w v e in
        subst (λ (x : ℕ). value ≡ M x) same (at_home value (subst (λ (x : ℕ). AllSettled S x) (sym same) all) (content-same content (Home value) (sym (rw (e) at (step.homes v)) ∙ is)))
    by_home v value all is false e = g.home v value all (sym (rw (e) at (step.homes v)) ∙ is)

    by_owner : (v value : ℕ) (core : CoreId) → AllSettled S v → home_at T v ≡ Some (Reg core) → owned_value (entry_at S core.0 v) ≡ Some value → (x : Bool) → (w == v) ≡ x → value ≡ M v
    by_owner v value core all is has true e =
        let same : w ≡ v = eqb-true w v e in
        subst (λ (x : ℕ). value ≡ M x) same
        (owned value core (subst (λ (x : ℕ). AllSettled S x) (sym same) all) (content-same content (Reg core) (sym (rw (e) at (step.homes v)) ∙ is))
        (subst (λ (x : ℕ). owned_value (entry_at S core.0 x) ≡ Some value) (sym same) has))
    by_owner v value core all is has false e = g.owner v value core all (sym (rw (e) at (step.homes v)) ∙ is) has
