-- The handling of a mail by a core is one of the ways.
use Rattle.std.proofs.Common.{◌≡◌, ◌⊎◌, inl, inr, ℕ, ◌+◌, ◌≤◌, ◌<◌, ◌==◌, ◌&&◌, not, nat_lt, Bool, true, false, length, get_or, slice_get, Option, Some, None, refl, sym, ap, subst, ◌∙◌, arith}
use Rattle.std.proofs.lemmas.Bool.{eqb-true}
use Rattle.std.proofs.lemmas.Option.{slice_get_cases}
use Rattle.std.proofs.lemmas.Bool.Decides.{nat_tests}
use Rattle.dn_base.specs.declared.ids.WordId.{WordId}
use Rattle.dn_base.specs.declared.ids.CoreId.{CoreId}
use Rattle.dn_base.specs.declared.ids.LockId.{LockId}
use Rattle.dn_base.specs.declared.ids.PhaseId.{PhaseId}
use Rattle.region_table.specs.Tasks.{declared}
use Rattle.rv_core.specs.declared.task.TaskState.{TaskState}
use Rattle.rv_core.specs.declared.need.Need as need
use Rattle.write_signature.specs.declared.signature.Signature.{Signature}
use Rattle.message_net.specs.declared.actor.Actor.{Actor}
use Rattle.message_net.specs.declared.actor.Actor.TheVariants.{Core}
use Rattle.message_net.specs.declared.actor.MailId.{MailId}
use Rattle.message_net.specs.declared.event.Event.TheVariants.{Handle}
use Rattle.message_net.specs.declared.message.Mail.{Mail}
use Rattle.message_net.specs.declared.message.Message.{Message}
use Rattle.message_net.specs.declared.message.Message.TheVariants.{ReadReq, ReadFwd, DataReply, RegReq, RegFwd, RegAck, WriteBack, WbAck, Acquire, Release, Grant, Arrived, Go, Halt}
use Rattle.message_net.proofs.PoolLemmas.{weight-within}
use Rattle.word_cache.specs.declared.row.Entry.{Entry}
use Rattle.word_cache.specs.declared.row.Entry.TheVariants.{Valid, Registered, Leaving}
use Rattle.registration_protocol.specs.declared.node.NodeWait as wait
use Rattle.registration_protocol.specs.declared.node.NodeWait.{NodeWait}
use Rattle.registration_protocol.specs.declared.node.Received.{Received}
use Rattle.registration_protocol.specs.Node.{NodeParts, entry_of, need_now}
use Rattle.registration_protocol.specs.Messages.{node_gets, reg_ack_row, reg_fwd_row, read_fwd_row, wb_ack_row}
use Rattle.registration_protocol.proofs.InstrLemmas.{has-next}
use Rattle.registration_protocol.proofs.MessageLemmas.{ack-is, forward-is, read-is, back-is, data-is, grant-is, go-is, halt-is}
use Rattle.registration_protocol.specs.Parts.{retired_so_far}
use Rattle.machine_rules.specs.State.{State, entry_in, entry_at}
use Rattle.machine_rules.specs.Flight.{Test, bit, mail_count, flight, is_reg_ack_to, is_wb_ack_to, is_data_reply_to, is_grant_to, is_go_to, is_halt_to}
use Rattle.machine_rules.specs.Next.{next, seen_in, granted_in}
use Rattle.machine_rules.specs.Memory.{store_in}
use Rattle.machine_rules.specs.Coherent.{owned_value, is_alive, node_is_locking, is_locking}
use Rattle.machine_rules.proofs.Bits.{settled_bit, reading_in, is_reading}
use Rattle.machine_rules.proofs.BitLemmas.{pending-is, leaving-is, bit-true}
use Rattle.machine_rules.proofs.Invariant.{Invariant, is_lost, is_right, is_astray}
use Rattle.machine_rules.proofs.Steps.{NodeStep, Handled, core-step}
use Rattle.machine_rules.specs.Actions.{acquires}
use Rattle.machine_rules.specs.Fair.{request_by, request_in}
use Rattle.machine_rules.specs.Accesses.{synchronization_in, synchronizes_by}
use Rattle.machine_rules.proofs.Outcomes.{Outcomes, Tells, at_core}
use Rattle.machine_rules.proofs.WordCore.{same-number}

-- a mail in flight that passes a test is counted
pub counts : (S : State) (id : MailId) (m : Mail) (p : Test) → Handled S id m → bit (p m.to m.message) ≤ flight S p
counts S id m p h = weight-within (mail_count p) S.mails h.place m h.there

-- no mail in flight passes a test that none passes
pub none-counts : (S : State) (id : MailId) (m : Mail) (p : Test) → Handled S id m → flight S p ≡ 0 → bit (p m.to m.message) ≡ 0
none-counts S id m p h none = omega (arith, counts S id m p h, none)

not-lost : (b : Bool) → bit (not b) ≡ 0 → b ≡ true
not-lost true none = refl
not-lost false none = absurd (omega (arith, none))

-- a mail in flight goes the right way
pub goes-right : (S : State) (M : ℕ → ℕ) (id : MailId) (m : Mail) → Invariant S M → Handled S id m → is_right S.setting.shape.cores S.setting.shape.banks m.to m.message ≡ true
goes-right S M id m inv h = not-lost _ (none-counts S id m (is_lost S.setting.shape.cores S.setting.shape.banks) h inv.addressed)

-- a core that is there
pub node-there : (S : State) (core : ℕ) → core < length S.nodes → (n : NodeParts) × (slice_get S.nodes core ≡ Some n)
node-there S core within = by_case (slice_get_cases S.nodes core).1 where
  by_case : ((x : NodeParts) × (core < length S.nodes) × (slice_get S.nodes core ≡ Some x) × (get_or S.nodes core x ≡ x)) ⊎ ((length S.nodes ≤ core) × (slice_get S.nodes core ≡ None))
      → (n : NodeParts) × (slice_get S.nodes core ≡ Some n)
  by_case (inl (n, in_list, is, same)) = (n, is)
  by_case (inr (past, is)) = absurd (omega (arith, within, past))

-- a mail that a core handles, and the core's node
pub record AtNode (S : State) (M : ℕ → ℕ) (id : MailId) (core : CoreId) (message : Message) (n : NodeParts) : Type 0 where
  pub inv : Invariant S M
  pub found : slice_get S.nodes core.0 ≡ Some n
  pub counted : (p : Test) → bit (p (Core core) message) ≤ flight S p
  pub row : (r : NodeParts × Received) → node_gets S.setting n message ≡ r → NodeStep S (next S (Handle id)) core.0 n r.0 (at_core core message) r.1.sent
  pub tells : (r : NodeParts × Received) → node_gets S.setting n message ≡ r → Tells S (Handle id) None r.1.granted None (synchronizes_by core n message r) (request_by message)

node-row : (S : State) (id : MailId) (m : Mail) (core : CoreId) (message : Message) (n : NodeParts) → Handled S id m → m.to ≡ Core core → m.message ≡ message → slice_get S.nodes core.0 ≡ Some n
    → (r : NodeParts × Received) → node_gets S.setting n message ≡ r → NodeStep S (next S (Handle id)) core.0 n r.0 (at_core core message) r.1.sent
node-row S id m core message n h to is found r row =
    let step = core-step S id m core n h to found in
    let one = subst (λ (x : Message). NodeStep S (next S (Handle id)) core.0 n (node_gets S.setting n x).0 (Some (record { to = m.to; message = x })) (node_gets S.setting n x).1.sent) is step in
    let two = subst (λ (a : Actor). NodeStep S (next S (Handle id)) core.0 n (node_gets S.setting n message).0 (Some (record { to = a; message = message })) (node_gets S.setting n message).1.sent) to one in
    subst (λ (x : NodeParts × Received). NodeStep S (next S (Handle id)) core.0 n x.0 (at_core core message) x.1.sent) row two

node-tells : (S : State) (id : MailId) (m : Mail) (core : CoreId) (message : Message) (n : NodeParts) → Handled S id m → m.to ≡ Core core → m.message ≡ message → slice_get S.nodes core.0 ≡ Some n
    → (r : NodeParts × Received) → node_gets S.setting n message ≡ r → Tells S (Handle id) None r.1.granted None (synchronizes_by core n message r) (request_by message)
unfolding seen_in granted_in store_in synchronization_in request_in
node-tells S id m core message n h to is found r row =
    record {
      seen_is = refl;
      granted_is = rw (h.took, to, is, found) (ap (λ (x : NodeParts × Received). x.1.granted) row);
      synchronization_is = rw (h.took, to, is, found) (ap (synchronizes_by core n message) row);
      request_is = rw (h.took, is) refl;
      store_is = refl;
    }

at-node : (S : State) (M : ℕ → ℕ) (id : MailId) (m : Mail) (core : CoreId) (message : Message) (n : NodeParts) → Invariant S M → Handled S id m → m.to ≡ Core core → m.message ≡ message
    → slice_get S.nodes core.0 ≡ Some n → AtNode S M id core message n
at-node S M id m core message n inv h to is found =
    record {
      inv = inv;
      found = found;
      counted = λ p. subst (λ (x : Message). bit (p (Core core) x) ≤ flight S p) is (subst (λ (a : Actor). bit (p a m.message) ≤ flight S p) to (counts S id m p h));
      row = node-row S id m core message n h to is found;
      tells = node-tells S id m core message n h to is found;
    }

-- what a node waits for
reading-waits : (waiting : NodeWait) (w : ℕ) → 1 ≤ bit (is_reading w waiting) → (word : WordId) × (waiting ≡ wait.TheVariants.Reading word) × (word.0 ≡ w)
reading-waits wait.TheVariants.None w some = absurd (omega (arith, some))
reading-waits (wait.TheVariants.Reading word) w some = (word, refl, eqb-true word.0 w (bit-true (word.0 == w) some))
reading-waits (wait.TheVariants.Filled word) w some = absurd (omega (arith, some))
reading-waits (wait.TheVariants.Locking lock) w some = absurd (omega (arith, some))

locking-waits : (waiting : NodeWait) (l : ℕ) → 1 ≤ bit (is_locking l waiting) → (lock : LockId) × (waiting ≡ wait.TheVariants.Locking lock) × (lock.0 ≡ l)
locking-waits wait.TheVariants.None l some = absurd (omega (arith, some))
locking-waits (wait.TheVariants.Reading word) l some = absurd (omega (arith, some))
locking-waits (wait.TheVariants.Filled word) l some = absurd (omega (arith, some))
locking-waits (wait.TheVariants.Locking lock) l some = (lock, refl, eqb-true lock.0 l (bit-true (lock.0 == l) some))

pub reading-word : (waiting : NodeWait) (word : WordId) → 1 ≤ bit (is_reading word.0 waiting) → waiting ≡ wait.TheVariants.Reading word
reading-word waiting word some = let at = reading-waits waiting word.0 some in at.1 ∙ ap (λ (x : ℕ). wait.TheVariants.Reading (record { 0 = x })) at.2

pub locking-lock : (waiting : NodeWait) (lock : LockId) → 1 ≤ bit (is_locking lock.0 waiting) → waiting ≡ wait.TheVariants.Locking lock
locking-lock waiting lock some = let at = locking-waits waiting lock.0 some in at.1 ∙ ap (λ (x : ℕ). wait.TheVariants.Locking (record { 0 = x })) at.2

-- ---- the kinds of message, one by one

reply-way : (S : State) (M : ℕ → ℕ) (id : MailId) (core : CoreId) (word : WordId) (value : ℕ) (n : NodeParts) (G : (ℕ → ℕ) → Type 0)
    → Outcomes S M (Handle id) G → AtNode S M id core (DataReply word value) n → G M
reply-way S M id core word value n G outcomes at =
    let one = rw (same-number word.0, same-number core.0) at (at.counted (is_data_reply_to word.0 core.0)) in
    let here = ap (reading_in word.0) at.found in
    let waits = reading-word n.waiting word (omega (arith, one, here, at.inv.reads.row word.0 core.0)) in
    let reading = at.inv.reads.reading core.0 n word at.found waits in
    let is = data-is S.setting n word value waits reading.0 reading.1 in
    outcomes.reply core n word value at.found waits reading.0 reading.1 (at.tells _ is) (at.row _ is)

ack-way : (S : State) (M : ℕ → ℕ) (id : MailId) (core : CoreId) (word : WordId) (n : NodeParts) (G : (ℕ → ℕ) → Type 0)
    → Outcomes S M (Handle id) G → AtNode S M id core (RegAck word) n → G M
ack-way S M id core word n G outcomes at =
    let one = rw (same-number word.0, same-number core.0) at (at.counted (is_reg_ack_to word.0 core.0)) in
    let pending = pending-is (entry_at S core.0 word.0) (omega (arith, one, at.inv.words.row word.0 core.0)) in
    let entry : entry_of n word.0 ≡ Some (Registered pending.0 true) = sym (ap (entry_in word.0) at.found) ∙ pending.1 in
    let is = ack-is S.setting n word ∙ ap (reg_ack_row n word) entry in
    outcomes.acknowledge core n word pending.0 at.found entry (at.tells _ is) (at.row _ is)

freed-way : (S : State) (M : ℕ → ℕ) (id : MailId) (core : CoreId) (word : WordId) (n : NodeParts) (G : (ℕ → ℕ) → Type 0)
    → Outcomes S M (Handle id) G → AtNode S M id core (WbAck word) n → G M
freed-way S M id core word n G outcomes at =
    let one = rw (same-number word.0, same-number core.0) at (at.counted (is_wb_ack_to word.0 core.0)) in
    let leaving = leaving-is (entry_at S core.0 word.0) (omega (arith, one, at.inv.words.row word.0 core.0)) in
    let entry : entry_of n word.0 ≡ Some (Leaving leaving.0) = sym (ap (entry_in word.0) at.found) ∙ leaving.1 in
    let is = back-is S.setting n word ∙ ap (wb_ack_row n word) entry in
    outcomes.freed core n word leaving.0 at.found entry (at.tells _ is) (at.row _ is)

forward-way : (S : State) (M : ℕ → ℕ) (id : MailId) (core other : CoreId) (word : WordId) (n : NodeParts) (G : (ℕ → ℕ) → Type 0)
    → Outcomes S M (Handle id) G → AtNode S M id core (RegFwd word other) n → G M
forward-way S M id core other word n G outcomes at = by_entry (entry_of n word.0) refl where
  by_entry : (e : Option Entry) → entry_of n word.0 ≡ e → G M
  by_entry None is =
      let row = forward-is S.setting n word other ∙ ap (reg_fwd_row n word other) is in
      outcomes.forward_past core other n word at.found (ap settled_bit is) (at.tells _ row) (at.row _ row)
  by_entry (Some (Valid value marked)) is =
      let row = forward-is S.setting n word other ∙ ap (reg_fwd_row n word other) is in
      outcomes.forward_past core other n word at.found (ap settled_bit is) (at.tells _ row) (at.row _ row)
  by_entry (Some (Registered value true)) is =
      let row = forward-is S.setting n word other ∙ ap (reg_fwd_row n word other) is in
      outcomes.forward_past core other n word at.found (ap settled_bit is) (at.tells _ row) (at.row _ row)
  by_entry (Some (Registered value false)) is =
      let row = forward-is S.setting n word other ∙ ap (reg_fwd_row n word other) is in
      outcomes.forward core other n word value at.found is (at.tells _ row) (at.row _ row)
  by_entry (Some (Leaving value)) is =
      let row = forward-is S.setting n word other ∙ ap (reg_fwd_row n word other) is in
      outcomes.forward_past core other n word at.found (ap settled_bit is) (at.tells _ row) (at.row _ row)

read-way : (S : State) (M : ℕ → ℕ) (id : MailId) (core reader : CoreId) (word : WordId) (n : NodeParts) (G : (ℕ → ℕ) → Type 0)
    → Outcomes S M (Handle id) G → AtNode S M id core (ReadFwd word reader) n → G M
read-way S M id core reader word n G outcomes at = by_entry (entry_of n word.0) refl where
  by_entry : (e : Option Entry) → entry_of n word.0 ≡ e → G M
  by_entry None is =
      let row = read-is S.setting n word reader ∙ ap (read_fwd_row S.setting n word reader) is in
      outcomes.bounce core reader n word at.found (ap owned_value is) (at.tells _ row) (at.row _ row)
  by_entry (Some (Valid value marked)) is =
      let row = read-is S.setting n word reader ∙ ap (read_fwd_row S.setting n word reader) is in
      outcomes.bounce core reader n word at.found (ap owned_value is) (at.tells _ row) (at.row _ row)
  by_entry (Some (Registered value pending)) is =
      let row = read-is S.setting n word reader ∙ ap (read_fwd_row S.setting n word reader) is in
      outcomes.answer core reader n word value at.found (ap owned_value is) (at.tells _ row) (at.row _ row)
  by_entry (Some (Leaving value)) is =
      let row = read-is S.setting n word reader ∙ ap (read_fwd_row S.setting n word reader) is in
      outcomes.answer core reader n word value at.found (ap owned_value is) (at.tells _ row) (at.row _ row)

-- a node that waits for a lock isn't at the barrier, nor halted
busy : (S : State) (M : ℕ → ℕ) (core : ℕ) (n : NodeParts) (lock : LockId) → Invariant S M → slice_get S.nodes core ≡ Some n → n.waiting ≡ wait.TheVariants.Locking lock
    → (n.halted ≡ false) × (n.arrived ≡ false)
busy S M core n lock inv found waits = (by_halted n.halted refl, by_arrived n.arrived refl) where
  by_halted : (x : Bool) → n.halted ≡ x → n.halted ≡ false
  by_halted false is = is
  by_halted true is = let none = (inv.phases.asleep core n found is).waiting in absurd (cc)

  by_arrived : (x : Bool) → n.arrived ≡ x → n.arrived ≡ false
  by_arrived false is = is
  by_arrived true is = let none = (inv.phases.arrived core n found is).waiting in absurd (cc)

grant-way : (S : State) (M : ℕ → ℕ) (id : MailId) (core : CoreId) (lock : LockId) (s : Signature) (n : NodeParts) (G : (ℕ → ℕ) → Type 0)
    → Outcomes S M (Handle id) G → AtNode S M id core (Grant lock s) n → G M
grant-way S M id core lock s n G outcomes at = by_task n.task refl where
  waits : n.waiting ≡ wait.TheVariants.Locking lock
  waits =
      let one = rw (same-number lock.0, same-number core.0) at (at.counted (is_grant_to lock.0 core.0)) in
      let here = ap (λ (o : Option NodeParts). bit (node_is_locking lock.0 o)) at.found in
      locking-lock n.waiting lock (omega (arith, one, here, at.inv.locks.row lock.0 core.0))

  needs : need_now S.setting n ≡ Some (need.TheVariants.Acquire lock)
  needs = rw (waits) at ((at.inv.machine.node core.0 n at.found).fits).waiting

  own : n.core ≡ core.0
  own = (at.inv.machine.node core.0 n at.found).core

  by_task : (o : Option TaskState) → n.task ≡ o → G M
  by_task None is =
      let none : need_now S.setting n ≡ None = rw (is) refl in
      let some = needs in
      absurd (cc)
  by_task (Some t) is =
      let next_is = has-next S.setting n t (need.TheVariants.Acquire lock) is needs in
      let marks = busy S M core.0 n lock at.inv at.found waits in
      let row = grant-is S.setting n t lock s waits is in
      let mine : n.core ≡ core.0 = own in
      outcomes.grant core n next_is.decl t lock s at.found waits is next_is.going
      (subst (λ (x : ℕ). declared S.setting.program n.phase x ≡ Some next_is.decl) mine next_is.declares) next_is.asks marks.0 marks.1
      (subst (λ (x : ℕ). Tells S (Handle id) None (Some (record { phase = record { 0 = n.phase }; core = record { 0 = x }; lock = lock })) None (Some (acquires (record { phase = n.phase; core = core.0; place = retired_so_far n.task; lock = lock.0 }))) None) mine (at.tells _ row))
      (at.row _ row)

-- who is told to go on or to halt has arrived, and isn't halted
called : (n : NodeParts) → 1 ≤ bit (is_alive (Some n)) → (n.arrived ≡ true) × (n.halted ≡ false)
called n some = by_flags n.arrived n.halted refl refl some where
  by_flags : (x y : Bool) → n.arrived ≡ x → n.halted ≡ y → 1 ≤ bit (x && not y) → (n.arrived ≡ true) × (n.halted ≡ false)
  by_flags true false is also one = (is, also)
  by_flags true true is also one = absurd (omega (arith, one))
  by_flags false y is also one = absurd (omega (arith, one))

alive-one : (o : Option NodeParts) → bit (is_alive o) ≤ 1
alive-one None = omega arith
alive-one (Some n) = by_bit (n.arrived && not n.halted) where
  by_bit : (b : Bool) → bit b ≤ 1
  by_bit true = omega arith
  by_bit false = omega arith

go-way : (S : State) (M : ℕ → ℕ) (id : MailId) (core : CoreId) (phase : PhaseId) (n : NodeParts) (G : (ℕ → ℕ) → Type 0)
    → Outcomes S M (Handle id) G → AtNode S M id core (Go phase) n → G M
go-way S M id core phase n G outcomes at =
    let one = rw (same-number core.0) at (at.counted (is_go_to core.0)) in
    let here = ap (λ (o : Option NodeParts). bit (is_alive o)) at.found in
    let row = at.inv.phases.row core.0 in
    let marks = called n (omega (arith, one, here, row)) in
    let right : phase.0 ≡ S.keeper.phase = same_phase (phase.0 == S.keeper.phase) refl (at.counted (is_astray S.keeper.phase)) in
    let single : flight S (is_go_to core.0) ≡ 1 = omega (arith, one, here, row, alive-one (slice_get S.nodes core.0)) in
    let later = at.inv.phases.phase core.0 n at.found marks.1 in
    let next_is : phase.0 ≡ n.phase + 1 = omega (arith, right, single, later) in
    let within = in_program (at.inv.phases.within) (((at.inv.machine.node core.0 n at.found).fits).phase marks.1) right in
    let is = go-is S.setting n phase marks.0 marks.1 next_is within in
    outcomes.go core n phase at.found marks.1 marks.0 right next_is within (at.tells _ is) (at.row _ is)
  where
    same_phase : (x : Bool) → (phase.0 == S.keeper.phase) ≡ x → bit (not x) ≤ flight S (is_astray S.keeper.phase) → phase.0 ≡ S.keeper.phase
    same_phase true e one = eqb-true phase.0 S.keeper.phase e
    same_phase false e one = absurd (omega (arith, one, at.inv.phases.astray))

    in_program : (S.keeper.phase < length S.setting.program.phases) ⊎ (length S.setting.program.phases ≡ 0) → n.phase < length S.setting.program.phases → phase.0 ≡ S.keeper.phase
        → phase.0 < length S.setting.program.phases
    in_program (inl within) here right = omega (arith, within, right)
    in_program (inr none) here right = absurd (omega (arith, none, here))

halt-way : (S : State) (M : ℕ → ℕ) (id : MailId) (core : CoreId) (n : NodeParts) (G : (ℕ → ℕ) → Type 0)
    → Outcomes S M (Handle id) G → AtNode S M id core Halt n → G M
halt-way S M id core n G outcomes at =
    let one = rw (same-number core.0) at (at.counted (is_halt_to core.0)) in
    let here = ap (λ (o : Option NodeParts). bit (is_alive o)) at.found in
    let marks = called n (omega (arith, one, here, at.inv.phases.row core.0)) in
    let is = halt-is S.setting n marks.0 in
    outcomes.halt core n at.found marks.1 marks.0 (at.tells _ is) (at.row _ is)

-- a core's mail, by its kind
pub core-ways : (S : State) (M : ℕ → ℕ) (id : MailId) (m : Mail) (core : CoreId) (G : (ℕ → ℕ) → Type 0) → Invariant S M → Handled S id m → m.to ≡ Core core → Outcomes S M (Handle id) G → G M
core-ways S M id m core G inv h to outcomes = by_message m.message refl where
  right : is_right S.setting.shape.cores S.setting.shape.banks (Core core) m.message ≡ true
  right = subst (λ (a : Actor). is_right S.setting.shape.cores S.setting.shape.banks a m.message ≡ true) to (goes-right S M id m inv h)

  by_node : (message : Message) → m.message ≡ message → nat_lt core.0 S.setting.shape.cores ≡ true → ((n : NodeParts) → AtNode S M id core message n → G M) → G M
  by_node message is within way =
      let inside : core.0 < length S.nodes = grind (arith, nat_tests, within, inv.machine.nodes) in
      let at = node-there S core.0 inside in
      way at.0 (at-node S M id m core message at.0 inv h to is at.1)

  by_message : (message : Message) → m.message ≡ message → G M
  by_message (ReadReq word reader) is = let wrong = rw (is) at right in absurd (cc)
  by_message (ReadFwd word reader) is = by_node (ReadFwd word reader) is (rw (is) at right) (λ n. read-way S M id core reader word n G outcomes)
  by_message (DataReply word value) is = by_node (DataReply word value) is (rw (is) at right) (λ n. reply-way S M id core word value n G outcomes)
  by_message (RegReq word c) is = let wrong = rw (is) at right in absurd (cc)
  by_message (RegFwd word c) is = by_node (RegFwd word c) is (rw (is) at right) (λ n. forward-way S M id core c word n G outcomes)
  by_message (RegAck word) is = by_node (RegAck word) is (rw (is) at right) (λ n. ack-way S M id core word n G outcomes)
  by_message (WriteBack word value c) is = let wrong = rw (is) at right in absurd (cc)
  by_message (WbAck word) is = by_node (WbAck word) is (rw (is) at right) (λ n. freed-way S M id core word n G outcomes)
  by_message (Acquire lock c) is = let wrong = rw (is) at right in absurd (cc)
  by_message (Release lock c s) is = let wrong = rw (is) at right in absurd (cc)
  by_message (Grant lock s) is = by_node (Grant lock s) is (rw (is) at right) (λ n. grant-way S M id core lock s n G outcomes)
  by_message (Arrived c bad) is = let wrong = rw (is) at right in absurd (cc)
  by_message (Go phase) is = by_node (Go phase) is (rw (is) at right) (λ n. go-way S M id core phase n G outcomes)
  by_message Halt is = by_node Halt is (rw (is) at right) (λ n. halt-way S M id core n G outcomes)
