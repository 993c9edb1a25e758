-- What is looked at before an event is all of a cache that the event may change.
use Rattle.std.proofs.Common.{◌≡◌, ℕ, ◌+◌, ◌<◌, ◌==◌, ◌||◌, ◌&&◌, not, nat_lt, Bool, true, false, cond, length, [], ◌∷◌, slice_get, Option, Some, None, refl, sym, ap, ◌∙◌}
use Rattle.dn_base.specs.declared.ids.CoreId.{CoreId}
use Rattle.dn_base.specs.declared.ids.WordId.{WordId}
use Rattle.dn_base.specs.declared.ids.LockId.{LockId}
use Rattle.region_table.specs.declared.declared.TaskDecl.{TaskDecl}
use Rattle.rv_core.specs.declared.need.Need.{Need}
use Rattle.rv_core.specs.declared.need.Need.TheVariants as need
use Rattle.rv_core.specs.declared.task.TaskState.{TaskState}
use Rattle.write_signature.specs.declared.signature.Signature.{Signature}
use Rattle.message_net.specs.declared.message.Message.{Message}
use Rattle.message_net.specs.declared.message.Message.TheVariants as message
use Rattle.word_cache.specs.declared.row.Entry.{Entry}
use Rattle.word_cache.specs.declared.row.Entry.TheVariants.{Valid}
use Rattle.word_cache.specs.Cache.{has_room, put, IsCache, entry_after_grant, entry_after_phase}
use Rattle.word_cache.proofs.LookLemmas.{lookup-put}
use Rattle.registration_protocol.specs.declared.node.NodeWait.{NodeWait}
use Rattle.registration_protocol.specs.declared.node.NodeWait.TheVariants as wait
use Rattle.registration_protocol.specs.Node.{NodeParts, Setting, entry_of, need_now, keeping}
use Rattle.registration_protocol.specs.declared.node.Step.{Step}
use Rattle.registration_protocol.specs.OwnEvents.{instructed, evicted, arrives, may_instr, instr_row}
use Rattle.registration_protocol.specs.Messages.{node_gets, data_reply_row, fills, grant_row, granted_to, holds_now, guarded_by, written_in, go_row, begins, becomes, halt_row}
use Rattle.registration_protocol.specs.Parts.{Instructs, accessed}
use Rattle.registration_protocol.proofs.EntryLemmas.{gets-ack, gets-forward, gets-back, gets-read, evict-entry}
use Rattle.registration_protocol.proofs.MessageLemmas.{grant-entries, begin-entries}
use Rattle.registration_protocol.proofs.InstrLemmas.{may-instruct, instructed-is, instr-parts}
use Rattle.run_changes.specs.Looks.{entry_before, words_needed, words_of_message, cached}
use Rattle.run_changes.specs.Applied.{AreLookedAt}
use Rattle.run_changes.proofs.Cached.{cached-entries, cached-others}

not-first : (a b : Bool) → (a || b) ≡ false → a ≡ false
not-first false b e = refl
not-first true b e = cc

-- a word alone, and none
one-word : (n m : NodeParts) (word : WordId) → ((v : ℕ) → (word.0 == v) ≡ false → entry_of m v ≡ entry_of n v) → AreLookedAt n m (entry_before n word ∷ [])
one-word n m word others = record { before = (refl, tt); others = λ v out. others v (not-first (word.0 == v) false out) }

no-word : (n m : NodeParts) → ((v : ℕ) → entry_of m v ≡ entry_of n v) → AreLookedAt n m []
no-word n m others = record { before = tt; others = λ v out. others v }

-- every word that the cache has, where a word that it hasn't gets no entry
each-word : (n m : NodeParts) → IsCache n.cache → 0 < n.cache.sets → ((v : ℕ) → entry_of n v ≡ None → entry_of m v ≡ None) → AreLookedAt n m (cached n.cache)
each-word n m is some none =
    record {
      before = cached-entries n is.apart;
      others = λ v out. let gone : entry_of n v ≡ None = cached-others n.cache v some out in none v gone ∙ sym gone;
    }

pub looked-evict : (C : Setting) (n : NodeParts) (word : WordId) → AreLookedAt n (evicted C n word).0 (entry_before n word ∷ [])
looked-evict C n word = one-word n (evicted C n word).0 word (λ v out. evict-entry C n word v (entry_of n word.0) refl ∙ rw (out) refl)

pub looked-arrive : (n : NodeParts) → AreLookedAt n (arrives n).0 []
looked-arrive n = no-word n (arrives n).0 (λ v. refl)

-- an instruction accesses one word, or none
by-need : (C : Setting) (n : NodeParts) (d : TaskDecl) (t : TaskState) (x : Need) (m : NodeParts) (s : Step) → Instructs C n d t x (accessed n x) m s → AreLookedAt n m (words_needed n (Some x))
by-need C n d t need.Local m s parts = no-word n m (λ v. parts.entries v)
by-need C n d t (need.End by) m s parts = no-word n m (λ v. parts.entries v)
by-need C n d t (need.Acquire lock) m s parts = no-word n m (λ v. parts.entries v)
by-need C n d t (need.Release lock) m s parts = no-word n m (λ v. parts.entries v)
by-need C n d t (need.Load word) m s parts = one-word n m word (λ v out. parts.entries v ∙ rw (out) refl)
by-need C n d t (need.Store word whole) m s parts = one-word n m word (λ v out. parts.entries v ∙ rw (out) refl)

pub looked-instr : (C : Setting) (n : NodeParts) → may_instr C n ≡ true → AreLookedAt n (instructed C n).0 (words_needed n (need_now C n))
looked-instr C n may =
    let has = may-instruct C n may in
    let row = instr_row C n has.decl has.task has.needs in
    rw (instructed-is C n has.decl has.task has.needs has.declares has.has has.now, has.now)
    (by-need C n has.decl has.task has.needs row.0 row.1 (instr-parts C n has.decl has.task has.needs has.has))

-- ---- messages

data-looked : (n : NodeParts) (word : WordId) (value : ℕ) (w : NodeWait) → AreLookedAt n (data_reply_row n word value w).0 (entry_before n word ∷ [])
data-looked n word value wait.None = one-word n n word (λ v out. refl)
data-looked n word value (wait.Filled other) = one-word n n word (λ v out. refl)
data-looked n word value (wait.Locking lock) = one-word n n word (λ v out. refl)
data-looked n word value (wait.Reading wanted) = by_test (wanted.0 == word.0) where
  by_room : (r : Bool) → AreLookedAt n (cond r (becomes (record (keeping n (put word (Valid value false) n.cache.pairs)) { waiting = wait.Filled word })) (becomes n)).0 (entry_before n word ∷ [])
  by_room true = one-word n (record (keeping n (put word (Valid value false) n.cache.pairs)) { waiting = wait.Filled word }) word (λ v out. lookup-put word (Valid value false) v n.cache.pairs ∙ rw (out) refl)
  by_room false = one-word n n word (λ v out. refl)

  by_entry : (e : Option Entry) → AreLookedAt n (fills n word value e).0 (entry_before n word ∷ [])
  by_entry None = by_room (has_room n.cache word.0)
  by_entry (Some e) = one-word n n word (λ v out. refl)

  by_test : (t : Bool) → AreLookedAt n (cond t (fills n word value (entry_of n word.0)) (becomes n)).0 (entry_before n word ∷ [])
  by_test true = by_entry (entry_of n word.0)
  by_test false = one-word n n word (λ v out. refl)

grant-looked : (C : Setting) (n : NodeParts) (lock : LockId) (signature : Signature) (w : NodeWait) → IsCache n.cache → 0 < n.cache.sets → AreLookedAt n (grant_row C n lock signature w).0 (cached n.cache)
grant-looked C n lock signature wait.None is some = each-word n n is some (λ v none. none)
grant-looked C n lock signature (wait.Reading other) is some = each-word n n is some (λ v none. none)
grant-looked C n lock signature (wait.Filled other) is some = each-word n n is some (λ v none. none)
grant-looked C n lock signature (wait.Locking wanted) is some = by_test (wanted.0 == lock.0) where
  by_task : (o : Option TaskState) → AreLookedAt n (granted_to C n lock signature o).0 (cached n.cache)
  by_task None = each-word n n is some (λ v none. none)
  by_task (Some t) =
      each-word n (holds_now C n t lock signature).0 is some
      (λ v none. grant-entries C n t lock signature v is ∙ ap (λ (e : Option Entry). entry_after_grant signature n.phase (guarded_by (slice_get C.plans n.phase) lock.0) v e) none)

  by_test : (t : Bool) → AreLookedAt n (cond t (granted_to C n lock signature n.task) (becomes n)).0 (cached n.cache)
  by_test true = by_task n.task
  by_test false = each-word n n is some (λ v none. none)

go-looked : (C : Setting) (n : NodeParts) (phase : ℕ) → IsCache n.cache → 0 < n.cache.sets → AreLookedAt n (go_row C n phase).0 (cached n.cache)
go-looked C n phase is some = by_test (n.arrived && not n.halted && (phase == n.phase + 1) && nat_lt phase (length C.program.phases)) where
  by_test : (t : Bool) → AreLookedAt n (cond t (becomes (begins C n phase)) (becomes n)).0 (cached n.cache)
  by_test true =
      each-word n (begins C n phase) is some
      (λ v none. begin-entries C n phase v is ∙ ap (λ (e : Option Entry). entry_after_phase (written_in (slice_get C.plans n.phase)) v e) none)
  by_test false = each-word n n is some (λ v none. none)

halt-looked : (n : NodeParts) → AreLookedAt n (halt_row n).0 []
halt-looked n = by_test n.arrived where
  by_test : (t : Bool) → AreLookedAt n (cond t (becomes (record n { halted = true })) (becomes n)).0 []
  by_test true = no-word n (record n { halted = true }) (λ v. refl)
  by_test false = no-word n n (λ v. refl)

ack-looked : (C : Setting) (n : NodeParts) (word : WordId) → AreLookedAt n (node_gets C n (message.RegAck word)).0 (entry_before n word ∷ [])
ack-looked C n word = one-word n (node_gets C n (message.RegAck word)).0 word (λ v out. gets-ack C n word v ∙ rw (out) refl)

forward-looked : (C : Setting) (n : NodeParts) (word : WordId) (core : CoreId) → AreLookedAt n (node_gets C n (message.RegFwd word core)).0 (entry_before n word ∷ [])
forward-looked C n word core = one-word n (node_gets C n (message.RegFwd word core)).0 word (λ v out. gets-forward C n word core v ∙ rw (out) refl)

back-looked : (C : Setting) (n : NodeParts) (word : WordId) → AreLookedAt n (node_gets C n (message.WbAck word)).0 (entry_before n word ∷ [])
back-looked C n word = one-word n (node_gets C n (message.WbAck word)).0 word (λ v out. gets-back C n word v ∙ rw (out) refl)

read-looked : (C : Setting) (n : NodeParts) (word : WordId) (reader : CoreId) → AreLookedAt n (node_gets C n (message.ReadFwd word reader)).0 []
read-looked C n word reader = no-word n (node_gets C n (message.ReadFwd word reader)).0 (λ v. ap (λ (k : NodeParts). entry_of k v) (gets-read C n word reader))

pub looked-message : (C : Setting) (n : NodeParts) (m : Message) → IsCache n.cache → 0 < n.cache.sets → AreLookedAt n (node_gets C n m).0 (words_of_message n m)
unfolding node_gets
looked-message C n (message.DataReply word value) is some = data-looked n word value n.waiting
looked-message C n (message.RegAck word) is some = ack-looked C n word
looked-message C n (message.RegFwd word core) is some = forward-looked C n word core
looked-message C n (message.WbAck word) is some = back-looked C n word
looked-message C n (message.ReadFwd word reader) is some = read-looked C n word reader
looked-message C n (message.Grant lock signature) is some = grant-looked C n lock signature n.waiting is some
looked-message C n (message.Go phase) is some = go-looked C n phase.0 is some
looked-message C n message.Halt is some = halt-looked n
looked-message C n (message.ReadReq word reader) is some = no-word n n (λ v. refl)
looked-message C n (message.RegReq word core) is some = no-word n n (λ v. refl)
looked-message C n (message.WriteBack word value core) is some = no-word n n (λ v. refl)
looked-message C n (message.Acquire lock core) is some = no-word n n (λ v. refl)
looked-message C n (message.Release lock core signature) is some = no-word n n (λ v. refl)
looked-message C n (message.Arrived core bad) is some = no-word n n (λ v. refl)
