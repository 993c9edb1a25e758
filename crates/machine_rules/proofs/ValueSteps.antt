-- What is known of values after the events that answer, acknowledge, register and write back.
use Rattle.std.proofs.Common.{◌≡◌, ℕ, ◌+◌, ◌≤◌, ◌==◌, Bool, true, false, cond, Option, Some, None, refl, sym, ap, subst, ◌∙◌, arith}
use Rattle.std.proofs.lemmas.Bool.{eqb-true}
use Rattle.dn_base.specs.declared.ids.WordId.{WordId}
use Rattle.dn_base.specs.declared.ids.CoreId.{CoreId}
use Rattle.dn_base.specs.declared.ids.BankId.{BankId}
use Rattle.message_net.specs.declared.actor.Actor.TheVariants.{Core}
use Rattle.message_net.specs.declared.message.Message.TheVariants.{ReadReq, ReadFwd, DataReply, RegReq, RegAck, WriteBack, WbAck}
use Rattle.message_net.specs.declared.message.Outgoing.{Outgoing}
use Rattle.message_net.specs.Mail.{to_core}
use Rattle.word_cache.specs.declared.row.Entry.TheVariants.{Registered, Leaving}
use Rattle.registry_bank.specs.declared.bank.BankWord.TheVariants.{Home, Reg}
use Rattle.registration_protocol.specs.Node.{NodeParts, entry_of}
use Rattle.registration_protocol.specs.Messages.{with_entry}
use Rattle.machine_rules.specs.State.{State, entry_at, home_at}
use Rattle.machine_rules.specs.Flight.{bit, flight, is_reg_req_of, is_reg_ack_to, is_write_back_of, is_write_back_with, is_read_req_of, is_read_fwd_to, is_false_data_reply}
use Rattle.machine_rules.specs.Coherent.{owned_value}
use Rattle.machine_rules.proofs.Bits.{passes, pending_bit, owner_bit}
use Rattle.machine_rules.proofs.BitLemmas.{entry-bits, leaving-is, owner-is}
use Rattle.machine_rules.proofs.Invariant.{WordsGood, ReadsGood, ValuesGood, AllSettled}
use Rattle.machine_rules.proofs.Steps.{NodeStep}
use Rattle.machine_rules.proofs.Outcomes.{WordStep, at_core, at_bank}
use Rattle.machine_rules.proofs.WordEvents.{Flown, entry-node}
use Rattle.machine_rules.proofs.WordGood.{valued-within}
use Rattle.machine_rules.proofs.WordQuiet.{home-node}
use Rattle.machine_rules.proofs.WordCore.{same-number}
use Rattle.machine_rules.proofs.NodeEntries.{calm-same, calm-node, calm-nodes, changed-now, entry-own}
use Rattle.machine_rules.proofs.ReadHome.{home-same}
use Rattle.machine_rules.proofs.ValueEvents.{IsMute, mute, true-reply, passes-true, values-calm, values-home}

-- a read is answered from a word that is registered or leaving: with the word's value
pub answered : (S T : State) (M : ℕ → ℕ) (core reader : CoreId) (n : NodeParts) (word : WordId) (value : ℕ) → ValuesGood S M → owned_value (entry_of n word.0) ≡ Some value
    → NodeStep S T core.0 n n (at_core core (ReadFwd word reader)) (to_core reader (DataReply word value)) → ValuesGood T M
answered S T M core reader n word value g has step =
    values-calm S T M g (calm-node S T core.0 n n left sent step (calm-same n n (λ v. refl))) (home-node S T core.0 n n left sent step)
    (omega (arith, step.flown (is_false_data_reply M), true-reply M (Core reader) word value is_true, g.replied))
    (passes-true S T M g (λ w d. omega (arith, step.flown (is_read_fwd_to w d))))
  where
    left : Option Outgoing
    left = at_core core (ReadFwd word reader)

    sent : Option Outgoing
    sent = to_core reader (DataReply word value)

    is_true : value ≡ M word.0
    is_true =
        let came = rw (same-number word.0, same-number core.0) at (step.flown (is_read_fwd_to word.0 core.0)) in
        g.forwarded core.0 word.0 value (omega (arith, came)) (ap owned_value (entry-own S core.0 core.0 n word.0 step.found (same-number core.0)) ∙ has)

-- RegAck: the registrant's entry has the value that it had while it was pending
pub acknowledged : (S T : State) (M : ℕ → ℕ) (core : CoreId) (n : NodeParts) (word : WordId) (value : ℕ) → WordsGood S → ValuesGood S M → entry_of n word.0 ≡ Some (Registered value true)
    → NodeStep S T core.0 n (with_entry n word.0 (Registered value false)) (at_core core (RegAck word)) None → ValuesGood T M
acknowledged S T M core n word value words g is step =
    record {
      beyond = λ w none. g.beyond w (sym (homes w) ∙ none);
      pending = λ c w x has. by_pending c w x has (core.0 == c) refl (word.0 == w) refl;
      home = λ w x all has. by_home w x all (sym (homes w) ∙ has) (word.0 == w) refl;
      owner = λ w x c all has owns. by_owner w x c all (sym (homes w) ∙ has) (owned c.0 w x owns) (word.0 == w) refl;
      replied = omega (arith, step.flown (is_false_data_reply M), g.replied);
      forwarded = λ d w x some has. g.forwarded d w x (omega (arith, some, step.flown (is_read_fwd_to w d))) (owned d w x has);
    }
  where
    m : NodeParts
    m = with_entry n word.0 (Registered value false)

    left : Option Outgoing
    left = at_core core (RegAck word)

    homes : (v : ℕ) → home_at T v ≡ home_at S v
    homes = home-node S T core.0 n m left None step

    now : (v : ℕ) → entry_of m v ≡ cond (word.0 == v) (Some (Registered value false)) (entry_of n v)
    now = changed-now n word.0 (Registered value true) (Registered value false) is

    here : entry_at S core.0 word.0 ≡ Some (Registered value true)
    here = entry-own S core.0 core.0 n word.0 step.found (same-number core.0) ∙ is

    value-true : value ≡ M word.0
    value-true = g.pending core.0 word.0 value here

    -- another word's entries, and those of another core
    other_word : (c w : ℕ) → (word.0 == w) ≡ false → entry_at T c w ≡ entry_at S c w
    other_word c w f = by_core (core.0 == c) refl where
      by_core : (x : Bool) → (core.0 == c) ≡ x → entry_at T c w ≡ entry_at S c w
      by_core true e = (rw (e) at (entry-node S T core.0 n m left None step c w)) ∙ (rw (f) at (now w)) ∙ sym (entry-own S core.0 c n w step.found e)
      by_core false e = rw (e) at (entry-node S T core.0 n m left None step c w)

    at_word : (c w : ℕ) → (core.0 == c) ≡ true → (word.0 == w) ≡ true → entry_at T c w ≡ Some (Registered value false)
    at_word c w e f = (rw (e) at (entry-node S T core.0 n m left None step c w)) ∙ (rw (f) at (now w))

    was_at : (c w : ℕ) → (core.0 == c) ≡ true → (word.0 == w) ≡ true → entry_at S c w ≡ Some (Registered value true)
    was_at c w e f = subst (λ (x : ℕ). entry_at S c x ≡ Some (Registered value true)) (eqb-true word.0 w f) (subst (λ (x : ℕ). entry_at S x word.0 ≡ Some (Registered value true)) (eqb-true core.0 c e) here)

    owned : (c w x : ℕ) → owned_value (entry_at T c w) ≡ Some x → owned_value (entry_at S c w) ≡ Some x
    owned c w x has = by_tests (core.0 == c) refl (word.0 == w) refl where
      by_tests : (y : Bool) → (core.0 == c) ≡ y → (z : Bool) → (word.0 == w) ≡ z → owned_value (entry_at S c w) ≡ Some x
      by_tests true e true f = ap owned_value (was_at c w e f) ∙ (sym (ap owned_value (at_word c w e f)) ∙ has)
      by_tests true e false f = sym (ap owned_value (other_word c w f)) ∙ has
      by_tests false e z f = sym (ap owned_value (rw (e) at (entry-node S T core.0 n m left None step c w))) ∙ has

    by_pending : (c w x : ℕ) → entry_at T c w ≡ Some (Registered x true) → (y : Bool) → (core.0 == c) ≡ y → (z : Bool) → (word.0 == w) ≡ z → x ≡ M w
    by_pending c w x has true e true f = let wrong : Some (Registered value false) ≡ Some (Registered x true) = sym (at_word c w e f) ∙ has in absurd (cc)
    by_pending c w x has true e false f = g.pending c w x (sym (other_word c w f) ∙ has)
    by_pending c w x has false e z f = g.pending c w x (sym (rw (e) at (entry-node S T core.0 n m left None step c w)) ∙ has)

    settled : (w : ℕ) → (word.0 == w) ≡ false → AllSettled T w → AllSettled S w
    settled w f all c = sym (ap pending_bit (other_word c w f)) ∙ all c

    owner-one : 1 ≤ owner_bit core.0 (home_at S word.0)
    owner-one =
        let came = rw (same-number word.0, same-number core.0) at (step.flown (is_reg_ack_to word.0 core.0)) in
        omega (arith, came, words.row word.0 core.0)

    owner : home_at S word.0 ≡ Some (Reg (record { 0 = core.0 }))
    owner = owner-is core.0 (home_at S word.0) owner-one

    by_home : (w x : ℕ) → AllSettled T w → home_at S w ≡ Some (Home x) → (z : Bool) → (word.0 == w) ≡ z → x ≡ M w
    by_home w x all has true f =
        let wrong : Some (Reg (record { 0 = core.0 })) ≡ Some (Home x) = sym owner ∙ subst (λ (v : ℕ). home_at S v ≡ Some (Home x)) (sym (eqb-true word.0 w f)) has in
        absurd (cc)
    by_home w x all has false f = g.home w x (settled w f all) has

    by_owner : (w x : ℕ) (c : CoreId) → AllSettled T w → home_at S w ≡ Some (Reg c) → owned_value (entry_at S c.0 w) ≡ Some x → (z : Bool) → (word.0 == w) ≡ z → x ≡ M w
    by_owner w x c all has owns true f =
        let same : word.0 ≡ w = eqb-true word.0 w f in
        let both : Some (Reg (record { 0 = core.0 })) ≡ Some (Reg c) = sym owner ∙ subst (λ (v : ℕ). home_at S v ≡ Some (Reg c)) (sym same) has in
        let one : core.0 ≡ c.0 = reg-same core.0 c both in
        let is_value : Some value ≡ Some x = sym (ap owned_value here) ∙ subst (λ (v : ℕ). owned_value (entry_at S v word.0) ≡ Some x) (sym one) (subst (λ (v : ℕ). owned_value (entry_at S c.0 v) ≡ Some x) (sym same) owns) in
        let equal : value ≡ x = some-same value x is_value in
        subst (λ (v : ℕ). x ≡ M v) same (sym equal ∙ value-true)
      where
        reg-same : (a : ℕ) (c : CoreId) → Some (Reg (record { 0 = a })) ≡ Some (Reg c) → a ≡ c.0
        reg-same a c e = let same : (let x : CoreId = record { 0 = a } in x) ≡ c = cc in ap (λ (x : CoreId). x.0) same

        some-same : (a b : ℕ) → Some a ≡ Some b → a ≡ b
        some-same a b e = cc
    by_owner w x c all has owns false f = g.owner w x c (settled w f all) has owns

-- ---- at the home

-- RegReq: the word is pending
pub value-registered : (S T : State) (M : ℕ → ℕ) (word : WordId) (core : CoreId) (bank : BankId) (sent : Option Outgoing) → WordsGood S → ValuesGood S M
    → WordStep S T word.0 (Reg core) (at_bank bank (RegReq word core)) sent → IsMute sent → passes (is_reg_req_of word.0 core.0) sent ≡ 0 → ValuesGood T M
value-registered S T M word core bank sent words g step went none =
    values-home S T M word.0 (Reg core) (at_bank bank (RegReq word core)) sent g step (λ value all is. absurd (pends all)) (λ value owner all is has. absurd (pends all)) went
  where
    pends : AllSettled S word.0 → ⊥
    pends all =
        let asked = rw (same-number word.0, same-number core.0) at (step.flown (is_reg_req_of word.0 core.0)) in
        omega (arith, asked, none, words.row word.0 core.0, all core.0)

-- WriteBack: the home gets the leaving entry's value
pub value-written : (S T : State) (M : ℕ → ℕ) (word : WordId) (core : CoreId) (bank : BankId) (value : ℕ) → WordsGood S → ValuesGood S M → home_at S word.0 ≡ Some (Reg core)
    → WordStep S T word.0 (Home value) (at_bank bank (WriteBack word value core)) (to_core core (WbAck word)) → ValuesGood T M
value-written S T M word core bank value words g was step =
    values-home S T M word.0 (Home value) (at_bank bank (WriteBack word value core)) (to_core core (WbAck word)) g step
    (λ x all is. let same : value ≡ x = cc in sym same ∙ (equal ∙ g.owner word.0 leaving.0 core all was (ap owned_value leaving.1)))
    (λ x owner all is has. absurd (cc)) (mute (Core core) (WbAck word) refl)
  where
    came : flight T (is_write_back_of word.0 core.0) + 1 ≡ flight S (is_write_back_of word.0 core.0) + 0
    came = rw (same-number word.0, same-number core.0) at (step.flown (is_write_back_of word.0 core.0))

    leaving : (x : ℕ) × (entry_at S core.0 word.0 ≡ Some (Leaving x))
    leaving = leaving-is (entry_at S core.0 word.0) (omega (arith, came, words.row word.0 core.0))

    carried : flight T (is_write_back_with word.0 core.0 leaving.0) + bit (value == leaving.0) ≡ flight S (is_write_back_with word.0 core.0 leaving.0) + 0
    carried = rw (same-number word.0, same-number core.0) at (step.flown (is_write_back_with word.0 core.0 leaving.0))

    equal : value ≡ leaving.0
    equal = by_test (value == leaving.0) refl carried where
      by_test : (x : Bool) → (value == leaving.0) ≡ x → flight T (is_write_back_with word.0 core.0 leaving.0) + bit x ≡ flight S (is_write_back_with word.0 core.0 leaving.0) + 0 → value ≡ leaving.0
      by_test true e moved = eqb-true value leaving.0 e
      by_test false e moved =
          absurd (omega (
            arith,
            moved,
            came,
            words.row word.0 core.0,
            entry-bits (entry_at S core.0 word.0),
            words.valued word.0 core.0 leaving.0 leaving.1,
            valued-within T word.0 core.0 leaving.0,
          ))

-- nobody has a word pending that somebody reads
read-settled : (S T : State) (word : WordId) (reader : CoreId) (bank : BankId) (sent : Option Outgoing) → ReadsGood S → Flown S T (at_bank bank (ReadReq word reader)) sent
    → passes (is_read_req_of word.0 reader.0) sent ≡ 0 → AllSettled S word.0
read-settled S T word reader bank sent g flown none c =
    let came = rw (same-number word.0, same-number reader.0) at (flown (is_read_req_of word.0 reader.0)) in
    omega (arith, came, none, g.row word.0 reader.0, g.quiet word.0 reader.0 c)

-- ReadReq meets the value
pub value-read : (S T : State) (M : ℕ → ℕ) (word : WordId) (reader : CoreId) (bank : BankId) (value : ℕ) → ReadsGood S → ValuesGood S M → home_at S word.0 ≡ Some (Home value)
    → WordStep S T word.0 (Home value) (at_bank bank (ReadReq word reader)) (to_core reader (DataReply word value)) → ValuesGood T M
value-read S T M word reader bank value reads g was step =
    values-calm S T M g (calm-nodes S T step.nodes) (home-same S T word.0 (Home value) step.homes was)
    (omega (arith, step.flown (is_false_data_reply M), g.replied, true-reply M (Core reader) word value is_true))
    (passes-true S T M g (λ w d. omega (arith, step.flown (is_read_fwd_to w d))))
  where
    is_true : value ≡ M word.0
    is_true = g.home word.0 value (read-settled S T word reader bank (to_core reader (DataReply word value)) reads step.flown refl) was

-- ReadReq meets a registrant
pub value-owned : (S T : State) (M : ℕ → ℕ) (word : WordId) (reader owner : CoreId) (bank : BankId) → ReadsGood S → ValuesGood S M → home_at S word.0 ≡ Some (Reg owner)
    → WordStep S T word.0 (Reg owner) (at_bank bank (ReadReq word reader)) (to_core owner (ReadFwd word reader)) → ValuesGood T M
value-owned S T M word reader owner bank reads g was step =
    values-calm S T M g (calm-nodes S T step.nodes) (home-same S T word.0 (Reg owner) step.homes was)
    (omega (arith, step.flown (is_false_data_reply M), g.replied))
    (λ d w value some has. by_tests d w value some has (word.0 == w) refl (owner.0 == d) refl)
  where
    all : AllSettled S word.0
    all = read-settled S T word reader bank (to_core owner (ReadFwd word reader)) reads step.flown refl

    by_tests : (d w value : ℕ) → 1 ≤ flight T (is_read_fwd_to w d) → owned_value (entry_at S d w) ≡ Some value → (x : Bool) → (word.0 == w) ≡ x → (y : Bool) → (owner.0 == d) ≡ y → value ≡ M w
    by_tests d w value some has true e true f =
        let same : word.0 ≡ w = eqb-true word.0 w e in
        let own : owner.0 ≡ d = eqb-true owner.0 d f in
        subst (λ (x : ℕ). value ≡ M x) same
        (g.owner word.0 value owner all was (subst (λ (x : ℕ). owned_value (entry_at S x word.0) ≡ Some value) (sym own) (subst (λ (x : ℕ). owned_value (entry_at S d x) ≡ Some value) (sym same) has)))
    by_tests d w value some has true e false f = let moved = rw (e, f) at (step.flown (is_read_fwd_to w d)) in g.forwarded d w value (omega (arith, some, moved)) has
    by_tests d w value some has false e y f = let moved = rw (e) at (step.flown (is_read_fwd_to w d)) in g.forwarded d w value (omega (arith, some, moved)) has
