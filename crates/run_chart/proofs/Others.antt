-- An event changes what its actor has for the affected words alone.
use Rattle.std.proofs.Common.{◌≡◌, ℕ, zero, suc, ◌+◌, ◌<◌, ◌==◌, ◌&&◌, not, Bool, true, false, cond, nat_lt, List, [], ◌∷◌, slice_get, slice_set, length, Option, Some, None, refl, sym, ap, ◌∙◌, arith}
use Rattle.std.specs.Option.{is_some}
use Rattle.std.proofs.lemmas.Bool.Decides.{nat_tests}
use Rattle.std.proofs.lemmas.Option.{none-some}
use Rattle.dn_base.specs.declared.ids.BankId.{BankId}
use Rattle.dn_base.specs.declared.ids.CoreId.{CoreId}
use Rattle.dn_base.specs.declared.ids.LockId.{LockId}
use Rattle.dn_base.specs.declared.ids.WordId.{WordId}
use Rattle.region_table.specs.declared.declared.TaskDecl.{TaskDecl}
use Rattle.region_table.specs.Tasks.{declared}
use Rattle.rv_core.specs.declared.need.Need.{Need}
use Rattle.rv_core.specs.declared.need.Need as need
use Rattle.rv_core.specs.declared.task.TaskState.{TaskState}
use Rattle.write_signature.specs.declared.signature.Signature.{Signature}
use Rattle.message_net.specs.declared.actor.Actor.{Actor}
use Rattle.message_net.specs.declared.actor.Actor.TheVariants.{Core, Bank, Keeper}
use Rattle.message_net.specs.declared.event.Event.{Event}
use Rattle.message_net.specs.declared.event.Event.TheVariants.{Instr, Evict, Arrive, Handle}
use Rattle.message_net.specs.declared.message.Mail.{Mail}
use Rattle.message_net.specs.declared.message.Message as message
use Rattle.message_net.specs.declared.message.Message.{Message}
use Rattle.message_net.specs.declared.message.Outgoing.{Outgoing}
use Rattle.message_net.specs.Pool.{removed}
use Rattle.word_cache.specs.declared.row.Entry.{Entry}
use Rattle.word_cache.specs.declared.row.Entry.TheVariants.{Valid}
use Rattle.word_cache.specs.Cache.{IsCache, has_room, put, entry_after_phase, entry_after_grant}
use Rattle.word_cache.proofs.LookLemmas.{lookup-put}
use Rattle.registry_bank.specs.Bank.{BankParts, bank_word, bank_gets}
use Rattle.registry_bank.proofs.RowLemmas.{word-registered, word-written_back, read-changes_nothing, register-missing, write_back-missing, word-at_acquire, word-at_release}
use Rattle.registry_bank.proofs.KeptLemmas.{other-kind}
use Rattle.registration_protocol.specs.declared.node.NodeWait.{NodeWait}
use Rattle.registration_protocol.specs.declared.node.NodeWait as wait
use Rattle.registration_protocol.specs.Node.{NodeParts, Setting, need_now, entry_of, keeping}
use Rattle.registration_protocol.specs.OwnEvents.{instr_by, instructed, evicted, arrives}
use Rattle.registration_protocol.specs.Messages.{node_gets, becomes, fills, data_reply_row, guarded_by, written_in, granted_to, grant_row, begins}
use Rattle.registration_protocol.specs.Changes.{on_instr}
use Rattle.registration_protocol.proofs.EntryLemmas.{gets-ack, gets-forward, gets-back, gets-read, evict-entry}
use Rattle.registration_protocol.proofs.InstrLemmas.{instr-parts}
use Rattle.registration_protocol.proofs.MessageLemmas.{grant-entries, begin-entries}
use Rattle.machine_rules.specs.State.{State, entry_in, word_in}
use Rattle.machine_rules.specs.Next.{next, core_gets, bank_handles, gets, delivers, does_instr, does_evict, does_arrive}
use Rattle.machine_rules.specs.Sound.{IsMachine}
use Rattle.dn_machine.specs.Actors.{actor_in, receiver_of}
use Rattle.run_chart.specs.Affected.{affected_by, affected_by_mail, by_need, by_node as needed_by, by_core_message, by_bank_message, is_affected}
use Rattle.run_chart.specs.Drawing.{event_maker, the_actor}
use Rattle.run_chart.specs.Words.{of_entry, of_home, word_state}

-- ---- a node's entries

on-other : (C : Setting) (d : TaskDecl) (t : TaskState) (S : State) (x : Need) (w : ℕ) (e : Option Entry) → is_affected S (by_need (Some x)) w ≡ false → on_instr C d t x w e ≡ e
on-other C d t S (need.TheVariants.Load word) w e other = rw other refl
on-other C d t S (need.TheVariants.Store word whole) w e other = rw other refl
on-other C d t S need.TheVariants.Local w e other = refl
on-other C d t S (need.TheVariants.Acquire lock) w e other = refl
on-other C d t S (need.TheVariants.Release lock) w e other = refl
on-other C d t S (need.TheVariants.End by) w e other = refl

instr-other : (S : State) (C : Setting) (n : NodeParts) (w : ℕ) → is_affected S (by_need (need_now C n)) w ≡ false → entry_of (instructed C n).0 w ≡ entry_of n w
unfolding instructed
instr-other S C n w other = by_parts (declared C.program n.phase n.core) n.task refl (need_now C n) other where
  by_parts : (d : Option TaskDecl) (t : Option TaskState) → n.task ≡ t → (x : Option Need) → is_affected S (by_need x) w ≡ false → entry_of (instr_by C n d t x).0 w ≡ entry_of n w
  by_parts None t is x other = refl
  by_parts (Some d) None is x other = refl
  by_parts (Some d) (Some t) is None other = refl
  by_parts (Some d) (Some t) is (Some x) other = (instr-parts C n d t x is).entries w ∙ on-other C d t S x w (entry_of n w) other

-- a copy that comes is of its word
fills-other : (n : NodeParts) (word : WordId) (value w : ℕ) (e : Option Entry) → (word.0 == w) ≡ false → entry_of (fills n word value e).0 w ≡ entry_of n w
fills-other n word value w (Some e) other = refl
fills-other n word value w None other = by_room (has_room n.cache word.0) where
  by_room : (room : Bool) → entry_of (cond room (becomes (record (keeping n (put word (Valid value false) n.cache.pairs)) { waiting = wait.TheVariants.Filled word })) (becomes n)).0 w ≡ entry_of n w
  by_room true = lookup-put word (Valid value false) w n.cache.pairs ∙ rw other refl
  by_room false = refl

reply-other : (n : NodeParts) (word : WordId) (value w : ℕ) (waiting : NodeWait) → (word.0 == w) ≡ false → entry_of (data_reply_row n word value waiting).0 w ≡ entry_of n w
reply-other n word value w wait.TheVariants.None other = refl
reply-other n word value w (wait.TheVariants.Filled wanted) other = refl
reply-other n word value w (wait.TheVariants.Locking lock) other = refl
reply-other n word value w (wait.TheVariants.Reading wanted) other = by_test (wanted.0 == word.0) where
  by_test : (t : Bool) → entry_of (cond t (fills n word value (entry_of n word.0)) (becomes n)).0 w ≡ entry_of n w
  by_test true = fills-other n word value w (entry_of n word.0) other
  by_test false = refl

-- what has no entry has none after a grant and in the next phase
no-entry : (o : Option Entry) → is_some o ≡ false → o ≡ None
no-entry None none = refl
no-entry (Some e) none = absurd (cc)

grant-other : (C : Setting) (n : NodeParts) (lock : LockId) (s : Signature) (w : ℕ) → IsCache n.cache → entry_of n w ≡ None → (waiting : NodeWait) → entry_of (grant_row C n lock s waiting).0 w ≡ entry_of n w
grant-other C n lock s w is none wait.TheVariants.None = refl
grant-other C n lock s w is none (wait.TheVariants.Filled wanted) = refl
grant-other C n lock s w is none (wait.TheVariants.Reading wanted) = refl
grant-other C n lock s w is none (wait.TheVariants.Locking wanted) = by_test (wanted.0 == lock.0) where
  by_task : (t : Option TaskState) → entry_of (granted_to C n lock s t).0 w ≡ entry_of n w
  by_task None = refl
  by_task (Some t) =
      grant-entries C n t lock s w is
      ∙ ap (λ (o : Option Entry). entry_after_grant s n.phase (guarded_by (slice_get C.plans n.phase) lock.0) w o) none
      ∙ sym none

  by_test : (t : Bool) → entry_of (cond t (granted_to C n lock s n.task) (becomes n)).0 w ≡ entry_of n w
  by_test true = by_task n.task
  by_test false = refl

go-other : (C : Setting) (n : NodeParts) (phase w : ℕ) → IsCache n.cache → entry_of n w ≡ None → (t : Bool) → entry_of (cond t (becomes (begins C n phase)) (becomes n)).0 w ≡ entry_of n w
go-other C n phase w is none true =
    begin-entries C n phase w is ∙ ap (λ (o : Option Entry). entry_after_phase (written_in (slice_get C.plans n.phase)) w o) none ∙ sym none
go-other C n phase w is none false = refl

halt-other : (n : NodeParts) (w : ℕ) (t : Bool) → entry_of (cond t (becomes (record n { halted = true })) (becomes n)).0 w ≡ entry_of n w
halt-other n w true = refl
halt-other n w false = refl

gets-other : (S : State) (C : Setting) (n : NodeParts) (core : CoreId) (m : Message) (w : ℕ) → IsCache n.cache → slice_get S.nodes core.0 ≡ Some n → is_affected S (by_core_message core m) w ≡ false
    → entry_of (node_gets C n m).0 w ≡ entry_of n w
unfolding node_gets
gets-other S C n core (message.TheVariants.DataReply word value) w is found other = reply-other n word value w n.waiting other
gets-other S C n core (message.TheVariants.RegAck word) w is found other = gets-ack C n word w ∙ rw other refl
gets-other S C n core (message.TheVariants.RegFwd word new) w is found other = gets-forward C n word new w ∙ rw other refl
gets-other S C n core (message.TheVariants.WbAck word) w is found other = gets-back C n word w ∙ rw other refl
gets-other S C n core (message.TheVariants.ReadFwd word reader) w is found other = ap (λ (k : NodeParts). entry_of k w) (gets-read C n word reader)
gets-other S C n core (message.TheVariants.Grant lock s) w is found other =
    grant-other C n lock s w is (no-entry (entry_of n w) (ap (λ (o : Option NodeParts). is_some (entry_in w o)) (sym found) ∙ other)) n.waiting
gets-other S C n core (message.TheVariants.Go phase) w is found other =
    go-other C n phase.0 w is (no-entry (entry_of n w) (ap (λ (o : Option NodeParts). is_some (entry_in w o)) (sym found) ∙ other))
    (n.arrived && not n.halted && (phase.0 == n.phase + 1) && nat_lt phase.0 (length C.program.phases))
gets-other S C n core message.TheVariants.Halt w is found other = halt-other n w n.arrived
gets-other S C n core (message.TheVariants.ReadReq word reader) w is found other = refl
gets-other S C n core (message.TheVariants.RegReq word new) w is found other = refl
gets-other S C n core (message.TheVariants.WriteBack word value old) w is found other = refl
gets-other S C n core (message.TheVariants.Acquire lock asker) w is found other = refl
gets-other S C n core (message.TheVariants.Release lock owner s) w is found other = refl
gets-other S C n core (message.TheVariants.Arrived other_core bad) w is found other = refl

-- ---- a bank's words

bank-other : (S : State) (b : BankParts) (m : Message) (w : ℕ) → 0 < b.banks → is_affected S (by_bank_message m) w ≡ false → bank_word (bank_gets b m).0 w ≡ bank_word b w
bank-other S b (message.TheVariants.RegReq word core) w some other = by_test (nat_lt core.0 b.cores) refl where
  by_test : (t : Bool) → nat_lt core.0 b.cores ≡ t → bank_word (bank_gets b (message.TheVariants.RegReq word core)).0 w ≡ bank_word b w
  by_test true e = word-registered b word core w some (grind (arith, nat_tests, e)) ∙ rw other refl
  by_test false e = ap (λ (r : BankParts × Option Outgoing). bank_word r.0 w) (register-missing b word core (grind (arith, nat_tests, e)))
bank-other S b (message.TheVariants.WriteBack word value core) w some other = by_test (nat_lt core.0 b.cores) refl where
  by_test : (t : Bool) → nat_lt core.0 b.cores ≡ t → bank_word (bank_gets b (message.TheVariants.WriteBack word value core)).0 w ≡ bank_word b w
  by_test true e = word-written_back b word value core w some (grind (arith, nat_tests, e)) ∙ rw other refl
  by_test false e = ap (λ (r : BankParts × Option Outgoing). bank_word r.0 w) (write_back-missing b word value core (grind (arith, nat_tests, e)))
bank-other S b (message.TheVariants.ReadReq word reader) w some other = ap (λ (c : BankParts). bank_word c w) (read-changes_nothing b word reader)
bank-other S b (message.TheVariants.Acquire lock core) w some other = word-at_acquire b lock core w
bank-other S b (message.TheVariants.Release lock core s) w some other = word-at_release b lock core s w
bank-other S b (message.TheVariants.ReadFwd word reader) w some other = ap (λ (r : BankParts × Option Outgoing). bank_word r.0 w) (other-kind b (message.TheVariants.ReadFwd word reader) refl)
bank-other S b (message.TheVariants.DataReply word value) w some other = ap (λ (r : BankParts × Option Outgoing). bank_word r.0 w) (other-kind b (message.TheVariants.DataReply word value) refl)
bank-other S b (message.TheVariants.RegFwd word core) w some other = ap (λ (r : BankParts × Option Outgoing). bank_word r.0 w) (other-kind b (message.TheVariants.RegFwd word core) refl)
bank-other S b (message.TheVariants.RegAck word) w some other = ap (λ (r : BankParts × Option Outgoing). bank_word r.0 w) (other-kind b (message.TheVariants.RegAck word) refl)
bank-other S b (message.TheVariants.WbAck word) w some other = ap (λ (r : BankParts × Option Outgoing). bank_word r.0 w) (other-kind b (message.TheVariants.WbAck word) refl)
bank-other S b (message.TheVariants.Grant lock s) w some other = ap (λ (r : BankParts × Option Outgoing). bank_word r.0 w) (other-kind b (message.TheVariants.Grant lock s) refl)
bank-other S b (message.TheVariants.Arrived core bad) w some other = ap (λ (r : BankParts × Option Outgoing). bank_word r.0 w) (other-kind b (message.TheVariants.Arrived core bad) refl)
bank-other S b (message.TheVariants.Go phase) w some other = ap (λ (r : BankParts × Option Outgoing). bank_word r.0 w) (other-kind b (message.TheVariants.Go phase) refl)
bank-other S b message.TheVariants.Halt w some other = ap (λ (r : BankParts × Option Outgoing). bank_word r.0 w) (other-kind b message.TheVariants.Halt refl)

-- ---- what the actor has

-- what stands at a place once it is set there
get-own : {X : Type 0} (xs : List X) (i : ℕ) (x y : X) → slice_get xs i ≡ Some x → slice_get (slice_set xs i y) i ≡ Some y
get-own [] i x y there = absurd (none-some x there)
get-own (z ∷ zs) zero x y there = refl
get-own (z ∷ zs) (suc i) x y there = get-own zs i x y there

core-has : (nodes : List NodeParts) (core w : ℕ) (n m : NodeParts) → slice_get nodes core ≡ Some n → entry_of m w ≡ entry_of n w
    → of_entry (entry_in w (slice_get (slice_set nodes core m) core)) ≡ of_entry (entry_in w (slice_get nodes core))
core-has nodes core w n m found stays =
    let now : slice_get (slice_set nodes core m) core ≡ Some m = get-own nodes core n m found in
    rw (now, found) (ap of_entry stays)

bank-has : (banks : List BankParts) (bank w : ℕ) (b c : BankParts) → slice_get banks bank ≡ Some b → bank_word c w ≡ bank_word b w
    → of_home (word_in w (slice_get (slice_set banks bank c) bank)) ≡ of_home (word_in w (slice_get banks bank))
bank-has banks bank w b c found stays =
    let now : slice_get (slice_set banks bank c) bank ≡ Some c = get-own banks bank b c found in
    rw (now, found) (ap of_home stays)

mail-other : (S : State) (rest : List Mail) (o : Option Mail) (w : ℕ) → IsMachine S → is_affected S (affected_by_mail o) w ≡ false
    → word_state (delivers (record S { mails = rest }) o) (the_actor (receiver_of o)) w ≡ word_state S (the_actor (receiver_of o)) w
mail-other S rest None w good other = refl
mail-other S rest (Some m) w good other = by_actor m.to other where
  by_core : (core : CoreId) (o : Option NodeParts) → slice_get S.nodes core.0 ≡ o → is_affected S (by_core_message core m.message) w ≡ false
      → word_state (core_gets (record S { mails = rest }) core m.message o) (Core core) w ≡ word_state S (Core core) w
  by_core core None found other = refl
  by_core core (Some n) found other =
      core-has S.nodes core.0 w n (node_gets S.setting n m.message).0 found
      (gets-other S S.setting n core m.message w (good.node core.0 n found).fits.cache found other)

  by_bank : (bank : BankId) (o : Option BankParts) → slice_get S.banks bank.0 ≡ o → is_affected S (by_bank_message m.message) w ≡ false
      → word_state (bank_handles (record S { mails = rest }) (Bank bank) bank.0 m.message o) (Bank bank) w ≡ word_state S (Bank bank) w
  by_bank bank None found other = refl
  by_bank bank (Some b) found other =
      bank-has S.banks bank.0 w b (bank_gets b m.message).0 found
      (bank-other S b m.message w (omega (arith, (good.bank bank.0 b found).well.number)) other)

  by_actor : (to : Actor) → is_affected S (affected_by_mail (Some (record m { to = to }))) w ≡ false → word_state (gets (record S { mails = rest }) to m.message) to w ≡ word_state S to w
  by_actor (Core core) other = by_core core (slice_get S.nodes core.0) refl other
  by_actor (Bank bank) other = by_bank bank (slice_get S.banks bank.0) refl other
  by_actor Keeper other = refl

-- every other word stays as it is
pub others-stay : (S : State) (e : Event) (w : ℕ) → IsMachine S → is_affected S (affected_by S e) w ≡ false → word_state (next S e) (event_maker S e) w ≡ word_state S (event_maker S e) w
unfolding next actor_in
others-stay S (Instr core) w good other = by_node (slice_get S.nodes core.0) refl other where
  by_node : (o : Option NodeParts) → slice_get S.nodes core.0 ≡ o → is_affected S (needed_by S.setting o) w ≡ false → word_state (does_instr S core o) (Core core) w ≡ word_state S (Core core) w
  by_node None found other = refl
  by_node (Some n) found other = core-has S.nodes core.0 w n (instructed S.setting n).0 found (instr-other S S.setting n w other)
others-stay S (Evict core word) w good other = by_node (slice_get S.nodes core.0) refl where
  by_node : (o : Option NodeParts) → slice_get S.nodes core.0 ≡ o → word_state (does_evict S core word o) (Core core) w ≡ word_state S (Core core) w
  by_node None found = refl
  by_node (Some n) found =
      core-has S.nodes core.0 w n (evicted S.setting n word).0 found (evict-entry S.setting n word w (entry_of n word.0) refl ∙ rw other refl)
others-stay S (Arrive core) w good other = by_node (slice_get S.nodes core.0) refl where
  by_node : (o : Option NodeParts) → slice_get S.nodes core.0 ≡ o → word_state (does_arrive S core o) (Core core) w ≡ word_state S (Core core) w
  by_node None found = refl
  by_node (Some n) found = core-has S.nodes core.0 w n (arrives n).0 found refl
others-stay S (Handle id) w good other = mail-other S (removed id S.mails).1 (removed id S.mails).0 w good other
