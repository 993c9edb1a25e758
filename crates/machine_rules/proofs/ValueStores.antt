-- What is known of values after a store.
use Rattle.std.proofs.Common.{◌≡◌, ℕ, zero, suc, ◌≤◌, ◌==◌, Bool, true, false, cond, slice_get, Option, Some, None, refl, sym, ap, subst, ◌∙◌, arith}
use Rattle.std.proofs.lemmas.Bool.{eqb-true}
use Rattle.dn_base.specs.declared.ids.WordId.{WordId}
use Rattle.dn_base.specs.declared.ids.CoreId.{CoreId}
use Rattle.region_table.specs.declared.declared.TaskDecl.{TaskDecl}
use Rattle.rv_core.specs.declared.task.TaskState.{TaskState}
use Rattle.rv_core.specs.declared.need.Need as need
use Rattle.message_net.specs.declared.actor.Actor.{Actor}
use Rattle.message_net.specs.declared.actor.Actor.TheVariants.{Core, Bank, Keeper}
use Rattle.message_net.specs.declared.message.Mail.{Mail}
use Rattle.message_net.specs.declared.message.Message.{Message}
use Rattle.message_net.specs.declared.message.Message.TheVariants.{ReadReq, ReadFwd, DataReply, RegReq, RegFwd, RegAck, WriteBack, WbAck, Acquire, Release, Grant, Arrived, Go, Halt}
use Rattle.message_net.specs.declared.message.Outgoing.{Outgoing}
use Rattle.message_net.proofs.PoolLemmas.{counted-place, weight-within}
use Rattle.word_cache.specs.declared.row.Entry.TheVariants.{Registered}
use Rattle.registry_bank.specs.declared.bank.BankWord.TheVariants.{Home, Reg}
use Rattle.registration_protocol.specs.Node.{NodeParts, entry_of}
use Rattle.registration_protocol.specs.OwnEvents.{stored}
use Rattle.registration_protocol.proofs.EntryLemmas.{store-entry}
use Rattle.machine_rules.specs.State.{State, entry_at, home_at}
use Rattle.machine_rules.specs.Flight.{mail_count, flight, is_read_fwd_to, is_data_reply_to, is_false_data_reply}
use Rattle.machine_rules.specs.Coherent.{owned_value}
use Rattle.machine_rules.proofs.Bits.{pending_bit, settled_bit, known_bit, reading_in}
use Rattle.machine_rules.proofs.BitLemmas.{entry-bits, owner-is, pending-bit}
use Rattle.machine_rules.proofs.Invariant.{Invariant, ValuesGood, AllSettled, is_lost}
use Rattle.machine_rules.proofs.Steps.{NodeStep}
use Rattle.machine_rules.proofs.Outcomes.{IsActing, stored_to}
use Rattle.machine_rules.proofs.WordEvents.{entry-node}
use Rattle.machine_rules.proofs.WordQuiet.{home-node}
use Rattle.machine_rules.proofs.WordCore.{same-number}
use Rattle.machine_rules.proofs.NodeEntries.{entry-own}
use Rattle.machine_rules.proofs.Exclusive.{store-right, store-none-pending}
use Rattle.machine_rules.proofs.ReadMails.{forward-reading, known-home}
use Rattle.machine_rules.proofs.ReadSteps.{store-unread}
use Rattle.machine_rules.proofs.ValueEvents.{IsMute, no-more, settled-owner}

-- an answer of a word is for a core that reads it, so none is in flight of a word that nobody reads
reply-reader : (S : State) (M : ℕ → ℕ) (word : WordId) (value : ℕ) (m : Mail) (place : ℕ) → Invariant S M → slice_get S.mails place ≡ Some m → m.message ≡ DataReply word value
    → (c : ℕ) × (1 ≤ reading_in word.0 (slice_get S.nodes c))
reply-reader S M word value m place inv there is = by_actor m.to refl where
  by_actor : (to : Actor) → m.to ≡ to → (c : ℕ) × (1 ≤ reading_in word.0 (slice_get S.nodes c))
  by_actor (Core core) to =
      let one : mail_count (is_data_reply_to word.0 core.0) m ≡ 1 = rw (is, to, same-number word.0, same-number core.0) refl in
      (core.0, omega (arith, one, weight-within (mail_count (is_data_reply_to word.0 core.0)) S.mails place m there, inv.reads.row word.0 core.0))
  by_actor (Bank bank) to =
      let one : mail_count (is_lost S.setting.shape.cores S.setting.shape.banks) m ≡ 1 = rw (is, to) refl in
      absurd (omega (arith, one, weight-within (mail_count (is_lost S.setting.shape.cores S.setting.shape.banks)) S.mails place m there, inv.addressed))
  by_actor Keeper to =
      let one : mail_count (is_lost S.setting.shape.cores S.setting.shape.banks) m ≡ 1 = rw (is, to) refl in
      absurd (omega (arith, one, weight-within (mail_count (is_lost S.setting.shape.cores S.setting.shape.banks)) S.mails place m there, inv.addressed))

-- the answers in flight stay true while a word changes that nobody reads
unread-lies : (S : State) (M : ℕ → ℕ) (word : WordId) (value : ℕ) → Invariant S M → ((c : ℕ) → reading_in word.0 (slice_get S.nodes c) ≡ 0)
    → flight S (is_false_data_reply (stored_to (Some (word, value)) M)) ≡ 0
unread-lies S M word value inv unread = by_count (flight S (is_false_data_reply M')) refl where
  M' : ℕ → ℕ
  M' = stored_to (Some (word, value)) M

  of_mail : (place : ℕ) × (m : Mail) × (slice_get S.mails place ≡ Some m) × (is_false_data_reply M' m.to m.message ≡ true) → ⊥
  of_mail (place, m, there, pass) = by_message m.message refl pass where
    by_message : (message : Message) → m.message ≡ message → is_false_data_reply M' m.to message ≡ true → ⊥
    by_message (DataReply v y) is pass = by_word (word.0 == v.0) refl pass where
      by_word : (x : Bool) → (word.0 == v.0) ≡ x → cond (y == cond x value (M v.0)) false true ≡ true → ⊥
      by_word true e pass =
          let reader = reply-reader S M v y m place inv there is in
          omega (arith, reader.1, subst (λ (x : ℕ). reading_in x (slice_get S.nodes reader.0) ≡ 0) (eqb-true word.0 v.0 e) (unread reader.0))
      by_word false e pass =
          let one : mail_count (is_false_data_reply M) m ≡ 1 = rw (is, pass) refl in
          omega (arith, one, weight-within (mail_count (is_false_data_reply M)) S.mails place m there, inv.values.replied)
    by_message (ReadReq v reader) is pass = cc
    by_message (ReadFwd v reader) is pass = cc
    by_message (RegReq v core) is pass = cc
    by_message (RegFwd v core) is pass = cc
    by_message (RegAck v) is pass = cc
    by_message (WriteBack v x core) is pass = cc
    by_message (WbAck v) is pass = cc
    by_message (Acquire lock core) is pass = cc
    by_message (Release lock core s) is pass = cc
    by_message (Grant lock s) is pass = cc
    by_message (Arrived core bad) is pass = cc
    by_message (Go phase) is pass = cc
    by_message Halt is pass = cc

  by_count : (x : ℕ) → flight S (is_false_data_reply M') ≡ x → flight S (is_false_data_reply M') ≡ 0
  by_count zero is = is
  by_count (suc x) is = absurd (of_mail (counted-place (λ (m : Mail). is_false_data_reply M' m.to m.message) S.mails (omega (arith, is))))

-- a store: its word's entry is registered then, with the new value, and pending unless it was registered before
pub value-stored : (S T : State) (M : ℕ → ℕ) (core : CoreId) (n : NodeParts) (d : TaskDecl) (t : TaskState) (word : WordId) (whole : Bool) (value : ℕ) (pending : Bool) (sent : Option Outgoing) → Invariant S M
    → IsActing S core n d t (need.TheVariants.Store word whole) → (pending ≡ false → settled_bit (entry_of n word.0) ≡ 1)
    → NodeStep S T core.0 n (stored S.setting n d t word (Registered value pending)) None sent → IsMute sent → ValuesGood T (stored_to (Some (word, value)) M)
value-stored S T M core n d t word whole value pending sent inv acts settled step went =
    record {
      beyond = λ w none. by_none w (sym (homes w) ∙ none) (word.0 == w) refl;
      pending = λ c w x is. by_pending c w x is (word.0 == w) refl (core.0 == c) refl;
      home = λ w x all is. by_home w x all (sym (homes w) ∙ is) (word.0 == w) refl;
      owner = λ w x c all is has. by_owner w x c all (sym (homes w) ∙ is) has (word.0 == w) refl;
      replied = omega (arith, (no-more S T None sent step.flown went).lies M', unread-lies S M word value inv unread);
      forwarded = λ e w x some has. by_forward e w x (omega (arith, some, (no-more S T None sent step.flown went).passed w e)) has (word.0 == w) refl;
    }
  where
    M' : ℕ → ℕ
    M' = stored_to (Some (word, value)) M

    m : NodeParts
    m = stored S.setting n d t word (Registered value pending)

    homes : (v : ℕ) → home_at T v ≡ home_at S v
    homes = home-node S T core.0 n m None sent step

    unread : (c : ℕ) → reading_in word.0 (slice_get S.nodes c) ≡ 0
    unread c = store-unread S M core n d t word whole inv acts c

    -- the new memory, and the entries
    new : (w : ℕ) → (word.0 == w) ≡ true → M' w ≡ value
    new w e = rw (e) refl

    old : (w : ℕ) → (word.0 == w) ≡ false → M' w ≡ M w
    old w e = rw (e) refl

    own : (c w : ℕ) → (core.0 == c) ≡ true → (word.0 == w) ≡ true → entry_at T c w ≡ Some (Registered value pending)
    own c w f e = (rw (f) at (entry-node S T core.0 n m None sent step c w)) ∙ (rw (e) at (store-entry S.setting n d t word (Registered value pending) w))

    others : (c w : ℕ) → (core.0 == c) ≡ false → entry_at T c w ≡ entry_at S c w
    others c w f = rw (f) at (entry-node S T core.0 n m None sent step c w)

    other_word : (c w : ℕ) → (word.0 == w) ≡ false → entry_at T c w ≡ entry_at S c w
    other_word c w e = by_core (core.0 == c) refl where
      by_core : (x : Bool) → (core.0 == c) ≡ x → entry_at T c w ≡ entry_at S c w
      by_core true f =
          (rw (f) at (entry-node S T core.0 n m None sent step c w)) ∙ (rw (e) at (store-entry S.setting n d t word (Registered value pending) w)) ∙ sym (entry-own S core.0 c n w acts.found f)
      by_core false f = others c w f

    settled-before : (w : ℕ) → (word.0 == w) ≡ false → AllSettled T w → AllSettled S w
    settled-before w e all c = sym (ap pending_bit (other_word c w e)) ∙ all c

    -- where nothing is pending then, the core is the word's registrant
    owner-here : AllSettled T word.0 → home_at S word.0 ≡ Some (Reg (record { 0 = core.0 }))
    owner-here all = by_pending pending refl settled where
      by_pending : (x : Bool) → pending ≡ x → (x ≡ false → settled_bit (entry_of n word.0) ≡ 1) → home_at S word.0 ≡ Some (Reg (record { 0 = core.0 }))
      by_pending true is settled =
          let here = rw (is) at (own core.0 word.0 (same-number core.0) (same-number word.0)) in
          absurd (omega (arith, pending-bit (entry_at T core.0 word.0) value here, all core.0))
      by_pending false is settled = owner-is core.0 (home_at S word.0) (omega (arith, settled-owner S word.0 core.0 inv.words before, here)) where
        here : settled_bit (entry_at S core.0 word.0) ≡ 1
        here = ap settled_bit (entry-own S core.0 core.0 n word.0 acts.found (same-number core.0)) ∙ settled refl

        before : AllSettled S word.0
        before c = by_core (core.0 == c) refl where
          by_core : (x : Bool) → (core.0 == c) ≡ x → pending_bit (entry_at S c word.0) ≡ 0
          by_core true f =
              let same : core.0 ≡ c = eqb-true core.0 c f in
              subst (λ (x : ℕ). pending_bit (entry_at S x word.0) ≡ 0) same (omega (arith, here, entry-bits (entry_at S core.0 word.0)))
          by_core false f = store-none-pending S M core n d t word whole inv acts c f

    at_number : (w : ℕ) → (word.0 == w) ≡ true → word.0 ≡ w
    at_number w e = eqb-true word.0 w e

    by_none : (w : ℕ) → home_at S w ≡ None → (x : Bool) → (word.0 == w) ≡ x → M' w ≡ 0
    by_none w none true e =
        let known = known-home S M word.0 inv (store-right S core n d t word whole acts).0 in
        let here : home_at S word.0 ≡ None = subst (λ (x : ℕ). home_at S x ≡ None) (sym (at_number w e)) none in
        absurd (omega (arith, known, ap known_bit here))
    by_none w none false e = old w e ∙ inv.values.beyond w none

    by_pending : (c w x : ℕ) → entry_at T c w ≡ Some (Registered x true) → (y : Bool) → (word.0 == w) ≡ y → (z : Bool) → (core.0 == c) ≡ z → x ≡ M' w
    by_pending c w x is true e true f =
        let both : Some (Registered value pending) ≡ Some (Registered x true) = sym (own c w f e) ∙ is in
        let same : value ≡ x = cc in
        sym same ∙ sym (new w e)
    by_pending c w x is true e false f =
        let none = subst (λ (v : ℕ). pending_bit (entry_at S c v) ≡ 0) (at_number w e) (store-none-pending S M core n d t word whole inv acts c f) in
        absurd (omega (arith, none, pending-bit (entry_at S c w) x (sym (others c w f) ∙ is)))
    by_pending c w x is false e z f = inv.values.pending c w x (sym (other_word c w e) ∙ is) ∙ sym (old w e)

    by_home : (w x : ℕ) → AllSettled T w → home_at S w ≡ Some (Home x) → (y : Bool) → (word.0 == w) ≡ y → x ≡ M' w
    by_home w x all is true e =
        let owner = owner-here (subst (λ (v : ℕ). AllSettled T v) (sym (at_number w e)) all) in
        let wrong : Some (Reg (record { 0 = core.0 })) ≡ Some (Home x) = sym owner ∙ subst (λ (v : ℕ). home_at S v ≡ Some (Home x)) (sym (at_number w e)) is in
        absurd (cc)
    by_home w x all is false e = inv.values.home w x (settled-before w e all) is ∙ sym (old w e)

    by_owner : (w x : ℕ) (c : CoreId) → AllSettled T w → home_at S w ≡ Some (Reg c) → owned_value (entry_at T c.0 w) ≡ Some x → (y : Bool) → (word.0 == w) ≡ y → x ≡ M' w
    by_owner w x c all is has true e =
        let owner = owner-here (subst (λ (v : ℕ). AllSettled T v) (sym (at_number w e)) all) in
        let both : Some (Reg (record { 0 = core.0 })) ≡ Some (Reg c) = sym owner ∙ subst (λ (v : ℕ). home_at S v ≡ Some (Reg c)) (sym (at_number w e)) is in
        let one : core.0 ≡ c.0 = reg-same core.0 c both in
        let here : entry_at T c.0 w ≡ Some (Registered value pending) = own c.0 w (subst (λ (v : ℕ). (core.0 == v) ≡ true) one (same-number core.0)) e in
        some-same x value (sym has ∙ ap owned_value here) ∙ sym (new w e)
      where
        reg-same : (a : ℕ) (c : CoreId) → Some (Reg (record { 0 = a })) ≡ Some (Reg c) → a ≡ c.0
        reg-same a c e = let same : (let x : CoreId = record { 0 = a } in x) ≡ c = cc in ap (λ (x : CoreId). x.0) same

        some-same : (a b : ℕ) → Some a ≡ Some b → a ≡ b
        some-same a b e = cc
    by_owner w x c all is has false e = inv.values.owner w x c (settled-before w e all) is (sym (ap owned_value (other_word c.0 w e)) ∙ has) ∙ sym (old w e)

    by_forward : (k w x : ℕ) → 1 ≤ flight S (is_read_fwd_to w k) → owned_value (entry_at T k w) ≡ Some x → (y : Bool) → (word.0 == w) ≡ y → x ≡ M' w
    by_forward k w x some has true e =
        let reader = forward-reading S w k inv.reads some in
        absurd (omega (arith, reader.1, subst (λ (v : ℕ). reading_in v (slice_get S.nodes reader.0) ≡ 0) (at_number w e) (unread reader.0)))
    by_forward k w x some has false e = inv.values.forwarded k w x some (sym (ap owned_value (other_word k w e)) ∙ has) ∙ sym (old w e)
