-- For which lock each core waits. An event that isn't an acquire changes this only by a grant.
use Rattle.std.proofs.Common.{◌≡◌, ◌⊎◌, inl, inr, ℕ, ◌==◌, ◌&&◌, not, nat_lt, ◌+◌, Bool, true, false, cond, List, length, slice_get, Option, Some, None, refl, sym, ap, subst, ◌∙◌}
use Rattle.std.proofs.lemmas.Bool.{eqb-true}
use Rattle.dn_base.specs.declared.ids.BankId.{BankId}
use Rattle.dn_base.specs.declared.ids.CoreId.{CoreId}
use Rattle.dn_base.specs.declared.ids.WordId.{WordId}
use Rattle.dn_base.specs.declared.ids.LockId.{LockId}
use Rattle.rv_core.specs.declared.task.TaskState.{TaskState}
use Rattle.rv_core.specs.declared.need.Need as need
use Rattle.rv_core.specs.declared.need.Need.{Need}
use Rattle.write_signature.specs.declared.signature.Signature.{Signature}
use Rattle.message_net.specs.declared.actor.Actor.{Actor}
use Rattle.message_net.specs.declared.actor.Actor.TheVariants.{Core, Bank, Keeper}
use Rattle.message_net.specs.declared.actor.MailId.{MailId}
use Rattle.message_net.specs.declared.event.Event.{Event}
use Rattle.message_net.specs.declared.event.Event.TheVariants.{Instr, Evict, Arrive, Handle}
use Rattle.message_net.specs.declared.message.Mail.{Mail}
use Rattle.message_net.specs.declared.message.Message.{Message}
use Rattle.message_net.specs.declared.message.Message.TheVariants.{ReadReq, ReadFwd, DataReply, RegReq, RegFwd, RegAck, WriteBack, WbAck, Acquire, Release, Grant, Arrived, Go, Halt}
use Rattle.message_net.specs.declared.message.Outgoing.{Outgoing}
use Rattle.word_cache.specs.declared.row.Entry.{Entry}
use Rattle.word_cache.specs.declared.row.Entry.TheVariants.{Valid, Registered, Leaving}
use Rattle.word_cache.specs.Cache.{has_room}
use Rattle.registry_bank.specs.Bank.{BankParts}
use Rattle.registration_protocol.specs.declared.node.NodeWait as wait
use Rattle.registration_protocol.specs.declared.node.NodeWait.{NodeWait}
use Rattle.registration_protocol.specs.declared.node.Received.{Received}
use Rattle.registration_protocol.specs.Node.{NodeParts, Setting, entry_of, need_now, is_ready}
use Rattle.registration_protocol.specs.Parts.{MayInstruct, accessed, wait_at, wait_by}
use Rattle.registration_protocol.specs.OwnEvents.{may_instr, may_evict, may_arrive, instructed}
use Rattle.registration_protocol.specs.Messages.{node_gets, fills, data_reply_row, reg_ack_row, reg_fwd_row, read_fwd_row, wb_ack_row, granted_to, grant_row, go_row, halt_row}
use Rattle.registration_protocol.proofs.InstrLemmas.{may-instruct, instructed-is, instr-parts}
use Rattle.registration_protocol.proofs.PhaseLemmas.{evict-keeps}
use Rattle.machine_rules.specs.State.{State}
use Rattle.machine_rules.specs.Next.{next, enabled, granted_in, when_there, bank_handles}
use Rattle.machine_rules.proofs.Invariant.{Invariant}
use Rattle.machine_rules.proofs.Steps.{NodeStep, Handled, handled, instr-step, evict-step, arrive-step, core-step, without_mail}
use Rattle.run_agreement.specs.Reached.{AcquiresNothing}

-- the lock for which a node waits, and a core's node
abbrev pub awaits : NodeWait → Option LockId
awaits (wait.TheVariants.Locking lock) = Some lock
awaits _ = None

abbrev pub awaited : Option NodeParts → Option LockId
awaited None = None
awaited (Some n) = awaits n.waiting

abbrev pub awaited_by : State → ℕ → Option LockId
awaited_by S c = awaited (slice_get S.nodes c)

-- ---- a node that gets a message

-- it waits for the same lock, and is granted none
abbrev Keeps : NodeParts → NodeParts × Received → Type 0
Keeps n r = (awaits r.0.waiting ≡ awaits n.waiting) × (r.1.granted ≡ None)

-- it is granted the lock for which it waits
record Takes (n : NodeParts) (r : NodeParts × Received) : Type 0 where
  lock : LockId
  was : awaits n.waiting ≡ Some lock
  now : awaits r.0.waiting ≡ None
  told : r.1.granted ≡ Some (record { phase = record { 0 = n.phase }; core = record { 0 = n.core }; lock = lock })

fills-keeps : (n : NodeParts) (word wanted : WordId) (value : ℕ) → n.waiting ≡ wait.TheVariants.Reading wanted → (o : Option Entry) (room : Bool) → has_room n.cache word.0 ≡ room → Keeps n (fills n word value o)
fills-keeps n word wanted value waits (Some e) room has = (refl, refl)
fills-keeps n word wanted value waits None true has = (rw (has, waits) refl, rw (has) refl)
fills-keeps n word wanted value waits None false has = (rw (has) refl, rw (has) refl)

data-keeps : (n : NodeParts) (word : WordId) (value : ℕ) (w : NodeWait) → n.waiting ≡ w → Keeps n (data_reply_row n word value w)
data-keeps n word value wait.TheVariants.None is = (refl, refl)
data-keeps n word value (wait.TheVariants.Filled v) is = (refl, refl)
data-keeps n word value (wait.TheVariants.Locking lock) is = (refl, refl)
data-keeps n word value (wait.TheVariants.Reading wanted) is = by_word (wanted.0 == word.0) refl where
  by_word : (b : Bool) → (wanted.0 == word.0) ≡ b → Keeps n (data_reply_row n word value (wait.TheVariants.Reading wanted))
  by_word true e = rw (e) (fills-keeps n word wanted value is (entry_of n word.0) (has_room n.cache word.0) refl)
  by_word false e = (rw (e) refl, rw (e) refl)

ack-keeps : (n : NodeParts) (word : WordId) (o : Option Entry) → Keeps n (reg_ack_row n word o)
ack-keeps n word None = (refl, refl)
ack-keeps n word (Some (Valid value marked)) = (refl, refl)
ack-keeps n word (Some (Registered value true)) = (refl, refl)
ack-keeps n word (Some (Registered value false)) = (refl, refl)
ack-keeps n word (Some (Leaving value)) = (refl, refl)

forward-keeps : (n : NodeParts) (word : WordId) (core : CoreId) (o : Option Entry) → Keeps n (reg_fwd_row n word core o)
forward-keeps n word core None = (refl, refl)
forward-keeps n word core (Some (Valid value marked)) = (refl, refl)
forward-keeps n word core (Some (Registered value true)) = (refl, refl)
forward-keeps n word core (Some (Registered value false)) = (refl, refl)
forward-keeps n word core (Some (Leaving value)) = (refl, refl)

read-keeps : (C : Setting) (n : NodeParts) (word : WordId) (reader : CoreId) (o : Option Entry) → Keeps n (read_fwd_row C n word reader o)
read-keeps C n word reader None = (refl, refl)
read-keeps C n word reader (Some (Valid value marked)) = (refl, refl)
read-keeps C n word reader (Some (Registered value pending)) = (refl, refl)
read-keeps C n word reader (Some (Leaving value)) = (refl, refl)

back-keeps : (n : NodeParts) (word : WordId) (o : Option Entry) → Keeps n (wb_ack_row n word o)
back-keeps n word None = (refl, refl)
back-keeps n word (Some (Valid value marked)) = (refl, refl)
back-keeps n word (Some (Registered value pending)) = (refl, refl)
back-keeps n word (Some (Leaving value)) = (refl, refl)

-- who has arrived waits for nothing
abbrev RestsThere : NodeParts → Type 0
RestsThere n = n.arrived ≡ true → n.waiting ≡ wait.TheVariants.None

and-first : (a b c d : Bool) → (a && b && c && d) ≡ true → a ≡ true
and-first true b c d e = refl
and-first false b c d e = absurd (cc)

go-keeps : (C : Setting) (n : NodeParts) (phase : ℕ) → RestsThere n → Keeps n (go_row C n phase)
go-keeps C n phase rests = by_test (n.arrived && not n.halted && (phase == n.phase + 1) && nat_lt phase (length C.program.phases)) refl where
  by_test : (b : Bool) → (n.arrived && not n.halted && (phase == n.phase + 1) && nat_lt phase (length C.program.phases)) ≡ b → Keeps n (go_row C n phase)
  by_test true e =
      let waits = rests (and-first n.arrived (not n.halted) (phase == n.phase + 1) (nat_lt phase (length C.program.phases)) e) in
      (rw (e, waits) refl, rw (e) refl)
  by_test false e = (rw (e) refl, rw (e) refl)

halt-keeps : (n : NodeParts) → Keeps n (halt_row n)
halt-keeps n = by_mark n.arrived refl where
  by_mark : (b : Bool) → n.arrived ≡ b → Keeps n (halt_row n)
  by_mark true e = (rw (e) refl, rw (e) refl)
  by_mark false e = (rw (e) refl, rw (e) refl)

same-lock : (a b : LockId) → (a.0 == b.0) ≡ true → a ≡ b
same-lock a b e = ap (λ (x : ℕ). record { 0 = x }) (eqb-true a.0 b.0 e)

grant-goes : (C : Setting) (n : NodeParts) (lock : LockId) (s : Signature) (w : NodeWait) → n.waiting ≡ w → Keeps n (grant_row C n lock s w) ⊎ Takes n (grant_row C n lock s w)
grant-goes C n lock s wait.TheVariants.None is = inl (refl, refl)
grant-goes C n lock s (wait.TheVariants.Filled v) is = inl (refl, refl)
grant-goes C n lock s (wait.TheVariants.Reading v) is = inl (refl, refl)
grant-goes C n lock s (wait.TheVariants.Locking wanted) is = by_lock (wanted.0 == lock.0) refl where
  by_task : (wanted.0 == lock.0) ≡ true → (o : Option TaskState) → n.task ≡ o → Keeps n (granted_to C n lock s o) ⊎ Takes n (granted_to C n lock s o)
  by_task e None has = inl (refl, refl)
  by_task e (Some t) has = inr (record { lock = lock; was = rw (is) (ap (λ (x : LockId). Some x) (same-lock wanted lock e)); now = refl; told = refl })

  by_lock : (b : Bool) → (wanted.0 == lock.0) ≡ b → Keeps n (grant_row C n lock s (wait.TheVariants.Locking wanted)) ⊎ Takes n (grant_row C n lock s (wait.TheVariants.Locking wanted))
  by_lock true e = rw (e) (by_task e n.task refl)
  by_lock false e = rw (e) (inl (refl, refl))

node-goes : (C : Setting) (n : NodeParts) (m : Message) → RestsThere n → Keeps n (node_gets C n m) ⊎ Takes n (node_gets C n m)
unfolding node_gets
node-goes C n (DataReply word value) rests = inl (data-keeps n word value n.waiting refl)
node-goes C n (RegAck word) rests = inl (ack-keeps n word (entry_of n word.0))
node-goes C n (RegFwd word core) rests = inl (forward-keeps n word core (entry_of n word.0))
node-goes C n (ReadFwd word reader) rests = inl (read-keeps C n word reader (entry_of n word.0))
node-goes C n (WbAck word) rests = inl (back-keeps n word (entry_of n word.0))
node-goes C n (Grant lock s) rests = grant-goes C n lock s n.waiting refl
node-goes C n (Go phase) rests = inl (go-keeps C n phase.0 rests)
node-goes C n Halt rests = inl (halt-keeps n)
node-goes C n (ReadReq word reader) rests = inl (refl, refl)
node-goes C n (RegReq word core) rests = inl (refl, refl)
node-goes C n (WriteBack word value core) rests = inl (refl, refl)
node-goes C n (Acquire lock core) rests = inl (refl, refl)
node-goes C n (Release lock core s) rests = inl (refl, refl)
node-goes C n (Arrived core bad) rests = inl (refl, refl)

-- ---- an event

-- each core waits for the same lock after the event, and the event grants none
pub record KeepsWaits (S : State) (e : Event) : Type 0 where
  pub told : granted_in S e ≡ None
  pub same : (c : ℕ) → awaited_by (next S e) c ≡ awaited_by S c

-- the event grants a core the lock for which it waits
pub record TakesLock (S : State) (e : Event) : Type 0 where
  pub core : ℕ
  pub phase : ℕ
  pub lock : LockId
  pub was : awaited_by S core ≡ Some lock
  pub told : granted_in S e ≡ Some (record { phase = record { 0 = phase }; core = record { 0 = core }; lock = lock })
  pub now : (c : ℕ) → awaited_by (next S e) c ≡ cond (core == c) None (awaited_by S c)

pub step-waits : (S T : State) (core : ℕ) (n m : NodeParts) (left sent : Option Outgoing) → NodeStep S T core n m left sent → (c : ℕ) → awaited_by T c ≡ cond (core == c) (awaits m.waiting) (awaited_by S c)
step-waits S T core n m left sent step c = by_core (core == c) refl where
  by_core : (b : Bool) → (core == c) ≡ b → awaited_by T c ≡ cond (core == c) (awaits m.waiting) (awaited_by S c)
  by_core true e = rw (step.nodes c, e) refl
  by_core false e = rw (step.nodes c, e) refl

same-waits : (S T : State) (core : ℕ) (n m : NodeParts) (left sent : Option Outgoing) → NodeStep S T core n m left sent → awaits m.waiting ≡ awaits n.waiting → (c : ℕ) → awaited_by T c ≡ awaited_by S c
same-waits S T core n m left sent step same c = by_core (core == c) refl where
  by_core : (b : Bool) → (core == c) ≡ b → awaited_by T c ≡ awaited_by S c
  by_core true e =
      let here : slice_get S.nodes c ≡ Some n = subst (λ (x : ℕ). slice_get S.nodes x ≡ Some n) (eqb-true core c e) step.found in
      rw (step.nodes c, e, here) same
  by_core false e = rw (step.nodes c, e) refl

-- an instruction that isn't an acquire
ready-none : (w : NodeWait) → is_ready w ≡ true → awaits w ≡ None
ready-none wait.TheVariants.None e = refl
ready-none (wait.TheVariants.Filled word) e = refl
ready-none (wait.TheVariants.Reading word) e = absurd (cc)
ready-none (wait.TheVariants.Locking lock) e = absurd (cc)

at-none : (old : NodeWait) (word : WordId) (whole : Bool) (o : Option Entry) → awaits old ≡ None → awaits (wait_at old word whole o) ≡ None
at-none old word true None e = refl
at-none old word false None e = refl
at-none old word whole (Some (Valid value marked)) e = refl
at-none old word whole (Some (Registered value pending)) e = refl
at-none old word whole (Some (Leaving value)) e = e

by-none : (old : NodeWait) (x : Need) (o : Option Entry) → awaits old ≡ None → ((lock : LockId) → x ≡ need.TheVariants.Acquire lock → ⊥) → awaits (wait_by old x o) ≡ None
by-none old need.TheVariants.Local o e other = e
by-none old (need.TheVariants.End by) o e other = e
by-none old (need.TheVariants.Load word) o e other = at-none old word false o e
by-none old (need.TheVariants.Store word whole) o e other = at-none old word whole o e
by-none old (need.TheVariants.Acquire lock) o e other = absurd (other lock refl)
by-none old (need.TheVariants.Release lock) o e other = e

instr-waits : (C : Setting) (n : NodeParts) → (m : MayInstruct C n) → ((lock : LockId) → need_now C n ≡ Some (need.TheVariants.Acquire lock) → ⊥) → awaits (instructed C n).0.waiting ≡ awaits n.waiting
instr-waits C n m other =
    let row = instructed-is C n m.decl m.task m.needs m.declares m.has m.now in
    let parts = instr-parts C n m.decl m.task m.needs m.has in
    let none : awaits n.waiting ≡ None = ready-none n.waiting m.ready in
    ap (λ r. awaits r.0.waiting) row ∙ ap awaits parts.waiting
    ∙ by-none n.waiting m.needs (accessed n m.needs) none (λ lock is. other lock (m.now ∙ ap (λ (x : Need). Some x) is)) ∙ sym none

-- a message that a core handles
core-granted : (S : State) (id : MailId) (m : Mail) (core : CoreId) (n : NodeParts) → Handled S id m → m.to ≡ Core core → slice_get S.nodes core.0 ≡ Some n → granted_in S (Handle id) ≡ (node_gets S.setting n m.message).1.granted
unfolding granted_in
core-granted S id m core n h to found = rw (h.took, to, found) refl

core-goes : (S : State) (M : ℕ → ℕ) (id : MailId) (m : Mail) (core : CoreId) (n : NodeParts) → Invariant S M → Handled S id m → m.to ≡ Core core → slice_get S.nodes core.0 ≡ Some n → KeepsWaits S (Handle id) ⊎ TakesLock S (Handle id)
core-goes S M id m core n inv h to found = by_way (node-goes S.setting n m.message (λ there. (inv.phases.arrived core.0 n found there).waiting)) where
  granted : granted_in S (Handle id) ≡ (node_gets S.setting n m.message).1.granted
  granted = core-granted S id m core n h to found

  is : n.core ≡ core.0
  is = (inv.machine.node core.0 n found).core

  by_way : Keeps n (node_gets S.setting n m.message) ⊎ Takes n (node_gets S.setting n m.message) → KeepsWaits S (Handle id) ⊎ TakesLock S (Handle id)
  by_way (inl k) = inl (record { told = granted ∙ k.1; same = same-waits S (next S (Handle id)) core.0 n _ _ _ (core-step S id m core n h to found) k.0 })
  by_way (inr t) =
      inr
      (record {
        core = core.0;
        phase = n.phase;
        lock = t.lock;
        was = ap awaited found ∙ t.was;
        told = granted ∙ t.told ∙ ap (λ (x : ℕ). Some (record { phase = record { 0 = n.phase }; core = record { 0 = x }; lock = t.lock })) is;
        now = λ c. step-waits S (next S (Handle id)) core.0 n _ _ _ (core-step S id m core n h to found) c ∙ ap (λ (o : Option LockId). cond (core.0 == c) o (awaited_by S c)) t.now;
      })

-- a message that no node handles
nowhere : (S : State) (id : MailId) (m : Mail) (core : CoreId) → Handled S id m → m.to ≡ Core core → slice_get S.nodes core.0 ≡ None → KeepsWaits S (Handle id)
unfolding next granted_in
nowhere S id m core h to none = record { told = rw (h.took, to, none) refl; same = λ c. rw (h.took, to, none) refl }

bank-nodes : (S : State) (from : Actor) (bank : ℕ) (message : Message) (o : Option BankParts) → (bank_handles S from bank message o).nodes ≡ S.nodes
bank-nodes S from bank message None = refl
bank-nodes S from bank message (Some b) = refl

bank-keeps : (S : State) (id : MailId) (m : Mail) (bank : BankId) → Handled S id m → m.to ≡ Bank bank → KeepsWaits S (Handle id)
unfolding next granted_in
bank-keeps S id m bank h to =
    record { told = rw (h.took, to) refl; same = λ c. rw (h.took, to) (ap (λ (ns : List NodeParts). awaited (slice_get ns c)) (bank-nodes (without_mail S id) (Bank bank) bank.0 m.message (slice_get S.banks bank.0))) }

keeper-keeps : (S : State) (id : MailId) (m : Mail) → Handled S id m → m.to ≡ Keeper → KeepsWaits S (Handle id)
unfolding next granted_in
keeper-keeps S id m h to = record { told = rw (h.took, to) refl; same = λ c. rw (h.took, to) refl }

handle-goes : (S : State) (M : ℕ → ℕ) (id : MailId) (m : Mail) → Invariant S M → Handled S id m → KeepsWaits S (Handle id) ⊎ TakesLock S (Handle id)
handle-goes S M id m inv h = by_actor m.to refl where
  by_node : (core : CoreId) → m.to ≡ Core core → (o : Option NodeParts) → slice_get S.nodes core.0 ≡ o → KeepsWaits S (Handle id) ⊎ TakesLock S (Handle id)
  by_node core to None is = inl (nowhere S id m core h to is)
  by_node core to (Some n) is = core-goes S M id m core n inv h to is

  by_actor : (a : Actor) → m.to ≡ a → KeepsWaits S (Handle id) ⊎ TakesLock S (Handle id)
  by_actor (Core core) to = by_node core to (slice_get S.nodes core.0) refl
  by_actor (Bank bank) to = inl (bank-keeps S id m bank h to)
  by_actor Keeper to = inl (keeper-keeps S id m h to)

instr-keeps : (S : State) (core : CoreId) (n : NodeParts) → slice_get S.nodes core.0 ≡ Some n → may_instr S.setting n ≡ true → AcquiresNothing S (Instr core) → KeepsWaits S (Instr core)
unfolding granted_in
instr-keeps S core n found may other =
    record {
      told = refl;
      same = same-waits S (next S (Instr core)) core.0 n _ _ _ (instr-step S core n found) (instr-waits S.setting n (may-instruct S.setting n may) (λ lock now. other n lock found now));
    }

evict-waits : (S : State) (core : CoreId) (word : WordId) (n : NodeParts) → slice_get S.nodes core.0 ≡ Some n → KeepsWaits S (Evict core word)
unfolding granted_in
evict-waits S core word n found =
    record { told = refl; same = same-waits S (next S (Evict core word)) core.0 n _ _ _ (evict-step S core word n found) (ap awaits (evict-keeps S.setting n word).waiting) }

arrive-waits : (S : State) (core : CoreId) (n : NodeParts) → slice_get S.nodes core.0 ≡ Some n → KeepsWaits S (Arrive core)
unfolding granted_in
arrive-waits S core n found = record { told = refl; same = same-waits S (next S (Arrive core)) core.0 n _ _ _ (arrive-step S core n found) refl }

pub event-goes : (S : State) (M : ℕ → ℕ) (e : Event) → Invariant S M → enabled S e ≡ true → AcquiresNothing S e → KeepsWaits S e ⊎ TakesLock S e
unfolding enabled
event-goes S M (Instr core) inv may other = by_node (slice_get S.nodes core.0) refl may where
  by_node : (o : Option NodeParts) → slice_get S.nodes core.0 ≡ o → when_there (may_instr S.setting) o ≡ true → KeepsWaits S (Instr core) ⊎ TakesLock S (Instr core)
  by_node None is may = absurd (cc)
  by_node (Some n) is may = inl (instr-keeps S core n is may other)
event-goes S M (Evict core word) inv may other = by_node (slice_get S.nodes core.0) refl may where
  by_node : (o : Option NodeParts) → slice_get S.nodes core.0 ≡ o → when_there (λ (n : NodeParts). may_evict S.setting n word.0) o ≡ true → KeepsWaits S (Evict core word) ⊎ TakesLock S (Evict core word)
  by_node None is may = absurd (cc)
  by_node (Some n) is may = inl (evict-waits S core word n is)
event-goes S M (Arrive core) inv may other = by_node (slice_get S.nodes core.0) refl may where
  by_node : (o : Option NodeParts) → slice_get S.nodes core.0 ≡ o → when_there may_arrive o ≡ true → KeepsWaits S (Arrive core) ⊎ TakesLock S (Arrive core)
  by_node None is may = absurd (cc)
  by_node (Some n) is may = inl (arrive-waits S core n is)
event-goes S M (Handle id) inv may other = let m = handled S id may in handle-goes S M id m.0 inv m.1
