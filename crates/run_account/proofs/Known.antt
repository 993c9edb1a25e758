-- Each node has entries of words of the memory alone, and waits for no other word.
use Rattle.std.proofs.Common.{◌≡◌, ℕ, ◌+◌, ◌<◌, Bool, true, false, cond, length, slice_get, List, [], ◌∷◌, ◌++◌, map, Option, Some, None, refl, ap, subst, arith}
use Rattle.std.specs.Prelude.{◌&&◌, ◌||◌, ◌==◌, not, nat_lt}
use Rattle.std.specs.List.{filter}
use Rattle.std.specs.Option.{is_some}
use Rattle.std.proofs.lemmas.Bool.Decides.{nat_tests}
use Rattle.dn_base.specs.declared.ids.CoreId.{CoreId}
use Rattle.dn_base.specs.declared.ids.LockId.{LockId}
use Rattle.dn_base.specs.declared.ids.LoadSeen.{LoadSeen}
use Rattle.dn_base.specs.declared.ids.WordId.{WordId}
use Rattle.region_table.specs.declared.declared.TaskDecl.{TaskDecl}
use Rattle.region_table.specs.Plan.{uses_plainly}
use Rattle.region_table.specs.Tasks.{declared}
use Rattle.rv_core.specs.declared.task.TaskState.{TaskState}
use Rattle.rv_core.specs.declared.need.Need as need
use Rattle.rv_core.specs.declared.need.Need.{Need}
use Rattle.rv_core.proofs.Completions.{load-allowed, store-allowed}
use Rattle.write_signature.specs.declared.signature.Signature.{Signature}
use Rattle.message_net.specs.declared.message.Message as message
use Rattle.message_net.specs.declared.message.Message.{Message}
use Rattle.message_net.specs.declared.message.Outgoing.{Outgoing}
use Rattle.word_cache.specs.declared.row.Entry.{Entry}
use Rattle.word_cache.specs.declared.row.Entry.TheVariants.{Valid, Registered, Leaving}
use Rattle.word_cache.specs.Cache.{Pair, is_of, lookup, without, put, changed, used, has_room, stays, unmarked, is_fresh}
use Rattle.registration_protocol.specs.declared.node.NodeWait as wait
use Rattle.registration_protocol.specs.declared.node.NodeWait.{NodeWait}
use Rattle.registration_protocol.specs.declared.node.Step.{Step}
use Rattle.registration_protocol.specs.Node.{NodeParts, Setting, need_now, entry_of}
use Rattle.registration_protocol.specs.OwnEvents.{instructed, instr_by, instr_row, load_row, store_row, evicted, evicts, written_now, written_if, written_by}
use Rattle.registration_protocol.specs.Messages.{node_gets, becomes, begins, fills, data_reply_row, reg_ack_row, reg_fwd_row, read_fwd_row, wb_ack_row, guarded_by, written_in, granted_to, grant_row}
use Rattle.registration_protocol.proofs.InstrLemmas.{has-next}
use Rattle.machine_rules.specs.State.{State}

-- ---- words of the memory

abbrev pub IsWord : Setting → WordId → Type 0
IsWord C word = word.0 < length C.program.memory

abbrev pub AreWords : Setting → List Pair → Type 0
AreWords C [] = Unit {0}
AreWords C (p ∷ ps) = IsWord C p.0 × AreWords C ps

abbrev pub IsWaited : Setting → NodeWait → Type 0
IsWaited C wait.TheVariants.None = Unit {0}
IsWaited C (wait.TheVariants.Reading word) = IsWord C word
IsWaited C (wait.TheVariants.Filled word) = Unit {0}
IsWaited C (wait.TheVariants.Locking lock) = Unit {0}

pub record KnowsWords (C : Setting) (n : NodeParts) : Type 0 where
  pub pairs : AreWords C n.cache.pairs
  pub waiting : IsWaited C n.waiting

-- what holds of all nodes of a state
abbrev pub AllNodes : (Setting → NodeParts → Type 0) → State → Type 0
AllNodes Q S = (c : ℕ) (n : NodeParts) → slice_get S.nodes c ≡ Some n → Q S.setting n

-- ---- pairs

words-append : (C : Setting) (ps qs : List Pair) → AreWords C ps → AreWords C qs → AreWords C (ps ++ qs)
words-append C [] qs first second = second
words-append C (p ∷ ps) qs first second = (first.0, words-append C ps qs first.1 second)

words-filter : (C : Setting) (f : Pair → Bool) (ps : List Pair) → AreWords C ps → AreWords C (filter f ps)
words-filter C f [] all = tt
words-filter C f (p ∷ ps) all = by_test (f p) (words-filter C f ps all.1) where
  by_test : (t : Bool) → AreWords C (filter f ps) → AreWords C (cond t (p ∷ filter f ps) (filter f ps))
  by_test true rest = (all.0, rest)
  by_test false rest = rest

words-put : (C : Setting) (word : WordId) (e : Entry) (ps : List Pair) → IsWord C word → AreWords C ps → AreWords C (put word e ps)
words-put C word e ps within all = words-append C (without word.0 ps) ((word, e) ∷ []) (words-filter C (λ (p : Pair). not (is_of word.0 p)) ps all) (within, tt)

words-changed : (C : Setting) (w : ℕ) (e : Entry) (ps : List Pair) → AreWords C ps → AreWords C (changed w e ps)
words-changed C w e [] all = tt
words-changed C w e (p ∷ ps) all = (by_test (is_of w p), words-changed C w e ps all.1) where
  by_test : (t : Bool) → IsWord C (cond {A = Pair} t (p.0, e) p).0
  by_test true = all.0
  by_test false = all.0

words-unmarked : (C : Setting) (ps : List Pair) → AreWords C ps → AreWords C (map (λ (p : Pair). (p.0, unmarked p.1)) ps)
words-unmarked C [] all = tt
words-unmarked C (p ∷ ps) all = (all.0, words-unmarked C ps all.1)

words-used : (C : Setting) (word : WordId) (o : Option Entry) (ps : List Pair) → IsWord C word → AreWords C ps → AreWords C (used word o ps)
words-used C word None ps within all = all
words-used C word (Some e) ps within all = words-put C word e ps within all

-- a word that has an entry
words-there : (C : Setting) (w : ℕ) (ps : List Pair) → AreWords C ps → is_some (lookup w ps) ≡ true → w < length C.program.memory
words-there C w [] all there = absurd (cc)
words-there C w (p ∷ ps) all there = by_test (is_of w p) refl there (words-there C w ps all.1) where
  by_test : (t : Bool) → is_of w p ≡ t → is_some (cond t (Some p.1) (lookup w ps)) ≡ true → (is_some (lookup w ps) ≡ true → w < length C.program.memory) → w < length C.program.memory
  by_test true e is rest = let same : p.0.0 ≡ w = grind (arith, nat_tests, e) in subst (λ (x : ℕ). x < length C.program.memory) same all.0
  by_test false e is rest = rest is

pub entry-word : (C : Setting) (n : NodeParts) (w : ℕ) → KnowsWords C n → is_some (entry_of n w) ≡ true → w < length C.program.memory
entry-word C n w knows there = words-there C w n.cache.pairs knows.pairs there

-- ---- what an instruction is about

abbrev pub IsSeen : Setting → Option LoadSeen → Type 0
IsSeen C None = Unit {0}
IsSeen C (Some seen) = IsWord C seen.word

abbrev pub IsAsked : Setting → Message → Type 0
IsAsked C (message.TheVariants.ReadReq word reader) = IsWord C word
IsAsked C (message.TheVariants.RegReq word core) = IsWord C word
IsAsked C _ = Unit {0}

abbrev pub IsSent : Setting → Option Outgoing → Type 0
IsSent C None = Unit {0}
IsSent C (Some out) = IsAsked C out.message

-- what a step is about, and the node after it
pub record IsAboutWords (C : Setting) (r : NodeParts × Step) : Type 0 where
  pub seen : IsSeen C r.1.seen
  pub sent : IsSent C r.1.sent
  pub after : KnowsWords C r.0

load-about : (C : Setting) (n : NodeParts) (d : TaskDecl) (t : TaskState) (word : WordId) (e : Option Entry) → IsWord C word → KnowsWords C n → IsAboutWords C (load_row C n d t word e)
load-about C n d t word None within knows = record { seen = tt; sent = within; after = record { pairs = knows.pairs; waiting = within } }
load-about C n d t word (Some (Valid value marked)) within knows =
    record { seen = within; sent = tt; after = record { pairs = words-put C word (Valid value (marked || uses_plainly d word.0)) n.cache.pairs within knows.pairs; waiting = tt } }
load-about C n d t word (Some (Registered value pending)) within knows =
    record { seen = within; sent = tt; after = record { pairs = words-used C word (lookup word.0 n.cache.pairs) n.cache.pairs within knows.pairs; waiting = tt } }
load-about C n d t word (Some (Leaving value)) within knows = record { seen = tt; sent = tt; after = knows }

store-about : (C : Setting) (n : NodeParts) (d : TaskDecl) (t : TaskState) (word : WordId) (whole : Bool) (e : Option Entry) → IsWord C word → KnowsWords C n
    → IsAboutWords C (store_row C n d t word whole e)
store-about C n d t word true None within knows = record { seen = tt; sent = within; after = record { pairs = words-put C word _ n.cache.pairs within knows.pairs; waiting = tt } }
store-about C n d t word false None within knows = record { seen = tt; sent = within; after = record { pairs = knows.pairs; waiting = within } }
store-about C n d t word whole (Some (Valid value marked)) within knows =
    record { seen = tt; sent = within; after = record { pairs = words-put C word _ n.cache.pairs within knows.pairs; waiting = tt } }
store-about C n d t word whole (Some (Registered value pending)) within knows =
    record { seen = tt; sent = tt; after = record { pairs = words-put C word _ n.cache.pairs within knows.pairs; waiting = tt } }
store-about C n d t word whole (Some (Leaving value)) within knows = record { seen = tt; sent = tt; after = knows }

row-about : (C : Setting) (n : NodeParts) (d : TaskDecl) (t : TaskState) (x : Need) → n.task ≡ Some t → need_now C n ≡ Some x → KnowsWords C n → IsAboutWords C (instr_row C n d t x)
row-about C n d t need.TheVariants.Local has now knows = record { seen = tt; sent = tt; after = record { pairs = knows.pairs; waiting = knows.waiting } }
row-about C n d t (need.TheVariants.End by) has now knows = record { seen = tt; sent = tt; after = record { pairs = knows.pairs; waiting = knows.waiting } }
row-about C n d t (need.TheVariants.Load word) has now knows =
    let next_is = has-next C n t (need.TheVariants.Load word) has now in
    load-about C n d t word (entry_of n word.0) (load-allowed C.program next_is.decl C.fuel t word next_is.asks).0 knows
row-about C n d t (need.TheVariants.Store word whole) has now knows =
    let next_is = has-next C n t (need.TheVariants.Store word whole) has now in
    store-about C n d t word whole (entry_of n word.0) (store-allowed C.program next_is.decl C.fuel t word whole next_is.asks).0 knows
row-about C n d t (need.TheVariants.Acquire lock) has now knows = record { seen = tt; sent = tt; after = record { pairs = knows.pairs; waiting = tt } }
row-about C n d t (need.TheVariants.Release lock) has now knows = record { seen = tt; sent = tt; after = record { pairs = knows.pairs; waiting = knows.waiting } }

instr-by-about : (C : Setting) (n : NodeParts) (o : Option TaskDecl) (p : Option TaskState) (x : Option Need) → n.task ≡ p → need_now C n ≡ x → KnowsWords C n → IsAboutWords C (instr_by C n o p x)
instr-by-about C n None p x has now knows = record { seen = tt; sent = tt; after = knows }
instr-by-about C n (Some d) None x has now knows = record { seen = tt; sent = tt; after = knows }
instr-by-about C n (Some d) (Some t) None has now knows = record { seen = tt; sent = tt; after = knows }
instr-by-about C n (Some d) (Some t) (Some x) has now knows = row-about C n d t x has now knows

pub instr-about : (C : Setting) (n : NodeParts) → KnowsWords C n → IsAboutWords C (instructed C n)
unfolding instructed
instr-about C n knows = instr-by-about C n (declared C.program n.phase n.core) n.task (need_now C n) refl refl knows

pub evicted-knows : (C : Setting) (n : NodeParts) (word : WordId) → KnowsWords C n → KnowsWords C (evicted C n word).0
evicted-knows C n word knows = by_entry (entry_of n word.0) where
  by_entry : (e : Option Entry) → KnowsWords C (evicts C n word e).0
  by_entry None = knows
  by_entry (Some (Valid value marked)) = record { pairs = words-filter C (λ (p : Pair). not (is_of word.0 p)) n.cache.pairs knows.pairs; waiting = knows.waiting }
  by_entry (Some (Registered value true)) = knows
  by_entry (Some (Registered value false)) = record { pairs = words-changed C word.0 (Leaving value) n.cache.pairs knows.pairs; waiting = knows.waiting }
  by_entry (Some (Leaving value)) = knows

-- ---- messages

module _ (C : Setting) (n : NodeParts) (knows : KnowsWords C n) where
  filled : (word : WordId) (value : ℕ) (e : Option Entry) → IsWord C word → KnowsWords C (fills n word value e).0
  filled word value None within = by_room (has_room n.cache word.0) where
    by_room : (t : Bool) → KnowsWords C (cond t (becomes (record n { cache = record n.cache { pairs = put word (Valid value false) n.cache.pairs }; waiting = wait.TheVariants.Filled word })) (becomes n)).0
    by_room true = record { pairs = words-put C word (Valid value false) n.cache.pairs within knows.pairs; waiting = tt }
    by_room false = knows
  filled word value (Some e) within = knows

  data-knows : (word : WordId) (value : ℕ) (w : NodeWait) → IsWaited C w → KnowsWords C (data_reply_row n word value w).0
  data-knows word value wait.TheVariants.None waited = knows
  data-knows word value (wait.TheVariants.Reading wanted) waited = by_test (wanted.0 == word.0) refl where
    by_test : (t : Bool) → (wanted.0 == word.0) ≡ t → KnowsWords C (cond t (fills n word value (entry_of n word.0)) (becomes n)).0
    by_test true e =
        let same : wanted.0 ≡ word.0 = grind (arith, nat_tests, e) in
        filled word value (entry_of n word.0) (subst (λ (x : ℕ). x < length C.program.memory) same waited)
    by_test false e = knows
  data-knows word value (wait.TheVariants.Filled wanted) waited = knows
  data-knows word value (wait.TheVariants.Locking lock) waited = knows

  acked : (word : WordId) (e : Option Entry) → KnowsWords C (reg_ack_row n word e).0
  acked word None = knows
  acked word (Some (Valid value marked)) = knows
  acked word (Some (Registered value true)) = record { pairs = words-changed C word.0 (Registered value false) n.cache.pairs knows.pairs; waiting = knows.waiting }
  acked word (Some (Registered value false)) = knows
  acked word (Some (Leaving value)) = knows

  forwarded : (word : WordId) (core : CoreId) (e : Option Entry) → KnowsWords C (reg_fwd_row n word core e).0
  forwarded word core None = knows
  forwarded word core (Some (Valid value marked)) = knows
  forwarded word core (Some (Registered value true)) = knows
  forwarded word core (Some (Registered value false)) = record { pairs = words-filter C (λ (p : Pair). not (is_of word.0 p)) n.cache.pairs knows.pairs; waiting = knows.waiting }
  forwarded word core (Some (Leaving value)) = knows

  answered : (word : WordId) (reader : CoreId) (e : Option Entry) → KnowsWords C (read_fwd_row C n word reader e).0
  answered word reader None = knows
  answered word reader (Some (Valid value marked)) = knows
  answered word reader (Some (Registered value pending)) = knows
  answered word reader (Some (Leaving value)) = knows

  given-back : (word : WordId) (e : Option Entry) → KnowsWords C (wb_ack_row n word e).0
  given-back word None = knows
  given-back word (Some (Valid value marked)) = knows
  given-back word (Some (Registered value pending)) = knows
  given-back word (Some (Leaving value)) = record { pairs = words-filter C (λ (p : Pair). not (is_of word.0 p)) n.cache.pairs knows.pairs; waiting = knows.waiting }

  granted-knows : (lock : LockId) (signature : Signature) (o : Option TaskState) → KnowsWords C (granted_to C n lock signature o).0
  granted-knows lock signature None = knows
  granted-knows lock signature (Some t) =
      record { pairs = words-filter C (is_fresh signature n.phase (guarded_by (slice_get C.plans n.phase) lock.0)) n.cache.pairs knows.pairs; waiting = tt }

  grant-knows : (lock : LockId) (signature : Signature) (w : NodeWait) → KnowsWords C (grant_row C n lock signature w).0
  grant-knows lock signature wait.TheVariants.None = knows
  grant-knows lock signature (wait.TheVariants.Reading word) = knows
  grant-knows lock signature (wait.TheVariants.Filled word) = knows
  grant-knows lock signature (wait.TheVariants.Locking wanted) = by_test (wanted.0 == lock.0) where
    by_test : (t : Bool) → KnowsWords C (cond t (granted_to C n lock signature n.task) (becomes n)).0
    by_test true = granted-knows lock signature n.task
    by_test false = knows

  go-knows : (phase : ℕ) (t : Bool) → KnowsWords C (cond t (becomes (begins C n phase)) (becomes n)).0
  go-knows phase true =
      record {
        pairs = words-unmarked C (filter (stays (written_in (slice_get C.plans n.phase))) n.cache.pairs) (words-filter C (stays (written_in (slice_get C.plans n.phase))) n.cache.pairs knows.pairs);
        waiting = tt;
      }
  go-knows phase false = knows

  halt-knows : (t : Bool) → KnowsWords C (cond t (becomes (record n { halted = true })) (becomes n)).0
  halt-knows true = record { pairs = knows.pairs; waiting = knows.waiting }
  halt-knows false = knows

pub gets-knows : (C : Setting) (n : NodeParts) (m : Message) → KnowsWords C n → KnowsWords C (node_gets C n m).0
unfolding node_gets
gets-knows C n (message.TheVariants.DataReply word value) knows = data-knows C n knows word value n.waiting knows.waiting
gets-knows C n (message.TheVariants.RegAck word) knows = acked C n knows word (entry_of n word.0)
gets-knows C n (message.TheVariants.RegFwd word core) knows = forwarded C n knows word core (entry_of n word.0)
gets-knows C n (message.TheVariants.ReadFwd word reader) knows = answered C n knows word reader (entry_of n word.0)
gets-knows C n (message.TheVariants.WbAck word) knows = given-back C n knows word (entry_of n word.0)
gets-knows C n (message.TheVariants.Grant lock signature) knows = grant-knows C n knows lock signature n.waiting
gets-knows C n (message.TheVariants.Go phase) knows =
    go-knows C n knows phase.0 (n.arrived && not n.halted && (phase.0 == n.phase + 1) && nat_lt phase.0 (length C.program.phases))
gets-knows C n message.TheVariants.Halt knows = halt-knows C n knows n.arrived
gets-knows C n (message.TheVariants.ReadReq word reader) knows = knows
gets-knows C n (message.TheVariants.RegReq word core) knows = knows
gets-knows C n (message.TheVariants.WriteBack word value core) knows = knows
gets-knows C n (message.TheVariants.Acquire lock core) knows = knows
gets-knows C n (message.TheVariants.Release lock core signature) knows = knows
gets-knows C n (message.TheVariants.Arrived core bad) knows = knows

-- a store that retires now is to a word of the memory
pub stored-word : (C : Setting) (n : NodeParts) (word : WordId) (value : ℕ) → written_now C n ≡ Some (word, value) → IsWord C word
unfolding written_now
stored-word C n word value is = by_need n.task (need_now C n) refl refl is where
  same-pair : (p q : WordId × ℕ) → Some p ≡ Some q → p ≡ q
  same-pair p q e = cc

  same-word : (w : WordId) (old : ℕ) (v : ℕ) → ◌≡◌ {A = Option (WordId × ℕ)} (Some (w, old)) (Some (word, v)) → w ≡ word
  same-word w old v e = ap (λ (p : WordId × ℕ). p.0) (same-pair (w, old) (word, v) e)

  by_entry : (w : WordId) (t : TaskState) (whole : Bool) (e : Option Entry) → IsWord C w → written_by C t w whole e ≡ Some (word, value) → IsWord C word
  by_entry w t true None within is = subst (IsWord C) (same-word w _ value is) within
  by_entry w t false None within is = absurd (cc)
  by_entry w t whole (Some (Valid old marked)) within is = subst (IsWord C) (same-word w _ value is) within
  by_entry w t whole (Some (Registered old pending)) within is = subst (IsWord C) (same-word w _ value is) within
  by_entry w t whole (Some (Leaving old)) within is = absurd (cc)

  by_need : (o : Option TaskState) (p : Option Need) → n.task ≡ o → need_now C n ≡ p → written_if C n o p ≡ Some (word, value) → IsWord C word
  by_need None p has now writes = absurd (cc)
  by_need (Some t) None has now writes = absurd (cc)
  by_need (Some t) (Some need.TheVariants.Local) has now writes = absurd (cc)
  by_need (Some t) (Some (need.TheVariants.End by)) has now writes = absurd (cc)
  by_need (Some t) (Some (need.TheVariants.Load w)) has now writes = absurd (cc)
  by_need (Some t) (Some (need.TheVariants.Acquire l)) has now writes = absurd (cc)
  by_need (Some t) (Some (need.TheVariants.Release l)) has now writes = absurd (cc)
  by_need (Some t) (Some (need.TheVariants.Store w whole)) has now writes =
      let next_is = has-next C n t (need.TheVariants.Store w whole) has now in
      by_entry w t whole (entry_of n w.0) (store-allowed C.program next_is.decl C.fuel t w whole next_is.asks).0 writes
