-- Which entries change.
use Rattle.std.proofs.Common.{◌≡◌, ℕ, ◌==◌, Bool, true, false, cond, List, Option, Some, None, refl, sym, ap, ◌∙◌, arith}
use Rattle.std.proofs.lemmas.Bool.Decides.{nat_tests}
use Rattle.std.specs.Option.{option_map}
use Rattle.dn_base.specs.declared.ids.CoreId.{CoreId}
use Rattle.dn_base.specs.declared.ids.WordId.{WordId}
use Rattle.region_table.specs.declared.declared.TaskDecl.{TaskDecl}
use Rattle.rv_core.specs.declared.task.TaskState.{TaskState}
use Rattle.message_net.specs.declared.message.Message.TheVariants.{RegAck, RegFwd, ReadFwd, WbAck, DataReply}
use Rattle.word_cache.specs.declared.row.Entry.{Entry}
use Rattle.word_cache.specs.declared.row.Entry.TheVariants.{Valid, Registered, Leaving}
use Rattle.word_cache.specs.Cache.{Pair, lookup, without, changed, has_room}
use Rattle.word_cache.proofs.LookLemmas.{lookup-without, lookup-put, lookup-changed}
use Rattle.registration_protocol.specs.declared.node.NodeWait as wait
use Rattle.registration_protocol.specs.Node.{NodeParts, Setting, entry_of}
use Rattle.registration_protocol.specs.OwnEvents.{stored, evicts}
use Rattle.registration_protocol.specs.Messages.{node_gets, reg_ack_row, reg_fwd_row, wb_ack_row, read_fwd_row, data_reply_row}
use Rattle.registration_protocol.specs.Changes.{on_reg_ack, on_reg_fwd, on_wb_ack, on_evict}

-- what a word has that has an entry's change
pub at_word : (f : Option Entry → Option Entry) (w v : ℕ) (ps : List Pair) (e r : Option Entry) → lookup w ps ≡ e → f e ≡ r → cond (w == v) r (lookup v ps) ≡ cond (w == v) (f (lookup v ps)) (lookup v ps)
at_word f w v ps e r is gives = by_test (w == v) refl
  where
    by_test : (b : Bool) → (w == v) ≡ b → cond b r (lookup v ps) ≡ cond b (f (lookup v ps)) (lookup v ps)
    by_test true test =
        let same : w ≡ v = grind (arith, nat_tests) in
        sym gives ∙ ap f (sym is ∙ ap (λ (x : ℕ). lookup x ps) same)
    by_test false test = refl

same_entry : (w v : ℕ) (ps : List Pair) (e : Option Entry) → lookup w ps ≡ e → lookup v ps ≡ cond (w == v) e (lookup v ps)
same_entry w v ps e is = by_test (w == v) refl
  where
    by_test : (b : Bool) → (w == v) ≡ b → lookup v ps ≡ cond b e (lookup v ps)
    by_test true test =
        let same : w ≡ v = grind (arith, nat_tests) in
        ap (λ (x : ℕ). lookup x ps) (sym same) ∙ is
    by_test false test = refl

pub steady : (f : Option Entry → Option Entry) (w v : ℕ) (ps : List Pair) (e : Option Entry) → lookup w ps ≡ e → f e ≡ e → lookup v ps ≡ cond (w == v) (f (lookup v ps)) (lookup v ps)
steady f w v ps e is stays = same_entry w v ps e is ∙ at_word f w v ps e e is stays

taken_out : (f : Option Entry → Option Entry) (w v : ℕ) (ps : List Pair) (e : Option Entry) → lookup w ps ≡ e → f e ≡ None → lookup v (without w ps) ≡ cond (w == v) (f (lookup v ps)) (lookup v ps)
taken_out f w v ps e is goes = lookup-without w v ps ∙ at_word f w v ps e None is goes

rewritten : (f : Option Entry → Option Entry) (w v : ℕ) (ps : List Pair) (a b : Entry) → lookup w ps ≡ Some a → f (Some a) ≡ Some b → lookup v (changed w b ps) ≡ cond (w == v) (f (lookup v ps)) (lookup v ps)
rewritten f w v ps a b is becomes =
    lookup-changed w v b ps ∙ ap (λ (o : Option Entry). cond (w == v) (option_map (λ (_ : Entry). b) o) (lookup v ps)) is ∙ at_word f w v ps (Some a) (Some b) is becomes

pub ack-entry : (n : NodeParts) (word : WordId) (v : ℕ) (e : Option Entry) → entry_of n word.0 ≡ e → entry_of (reg_ack_row n word e).0 v ≡ cond (word.0 == v) (on_reg_ack (entry_of n v)) (entry_of n v)
ack-entry n word v None is = steady on_reg_ack word.0 v n.cache.pairs None is refl
ack-entry n word v (Some (Valid value marked)) is = steady on_reg_ack word.0 v n.cache.pairs (Some (Valid value marked)) is refl
ack-entry n word v (Some (Registered value true)) is = rewritten on_reg_ack word.0 v n.cache.pairs (Registered value true) (Registered value false) is refl
ack-entry n word v (Some (Registered value false)) is = steady on_reg_ack word.0 v n.cache.pairs (Some (Registered value false)) is refl
ack-entry n word v (Some (Leaving value)) is = steady on_reg_ack word.0 v n.cache.pairs (Some (Leaving value)) is refl

pub forward-entry : (n : NodeParts) (word : WordId) (core : CoreId) (v : ℕ) (e : Option Entry) → entry_of n word.0 ≡ e
    → entry_of (reg_fwd_row n word core e).0 v ≡ cond (word.0 == v) (on_reg_fwd (entry_of n v)) (entry_of n v)
forward-entry n word core v None is = steady on_reg_fwd word.0 v n.cache.pairs None is refl
forward-entry n word core v (Some (Valid value marked)) is = steady on_reg_fwd word.0 v n.cache.pairs (Some (Valid value marked)) is refl
forward-entry n word core v (Some (Registered value true)) is = steady on_reg_fwd word.0 v n.cache.pairs (Some (Registered value true)) is refl
forward-entry n word core v (Some (Registered value false)) is = taken_out on_reg_fwd word.0 v n.cache.pairs (Some (Registered value false)) is refl
forward-entry n word core v (Some (Leaving value)) is = steady on_reg_fwd word.0 v n.cache.pairs (Some (Leaving value)) is refl

pub back-entry : (n : NodeParts) (word : WordId) (v : ℕ) (e : Option Entry) → entry_of n word.0 ≡ e → entry_of (wb_ack_row n word e).0 v ≡ cond (word.0 == v) (on_wb_ack (entry_of n v)) (entry_of n v)
back-entry n word v None is = steady on_wb_ack word.0 v n.cache.pairs None is refl
back-entry n word v (Some (Valid value marked)) is = steady on_wb_ack word.0 v n.cache.pairs (Some (Valid value marked)) is refl
back-entry n word v (Some (Registered value pending)) is = steady on_wb_ack word.0 v n.cache.pairs (Some (Registered value pending)) is refl
back-entry n word v (Some (Leaving value)) is = taken_out on_wb_ack word.0 v n.cache.pairs (Some (Leaving value)) is refl

pub evict-entry : (C : Setting) (n : NodeParts) (word : WordId) (v : ℕ) (e : Option Entry) → entry_of n word.0 ≡ e → entry_of (evicts C n word e).0 v ≡ cond (word.0 == v) (on_evict (entry_of n v)) (entry_of n v)
evict-entry C n word v None is = steady on_evict word.0 v n.cache.pairs None is refl
evict-entry C n word v (Some (Valid value marked)) is = taken_out on_evict word.0 v n.cache.pairs (Some (Valid value marked)) is refl
evict-entry C n word v (Some (Registered value true)) is = steady on_evict word.0 v n.cache.pairs (Some (Registered value true)) is refl
evict-entry C n word v (Some (Registered value false)) is = rewritten on_evict word.0 v n.cache.pairs (Registered value false) (Leaving value) is refl
evict-entry C n word v (Some (Leaving value)) is = steady on_evict word.0 v n.cache.pairs (Some (Leaving value)) is refl

pub read-same : (C : Setting) (n : NodeParts) (word : WordId) (reader : CoreId) (e : Option Entry) → (read_fwd_row C n word reader e).0 ≡ n
read-same C n word reader None = refl
read-same C n word reader (Some (Valid value marked)) = refl
read-same C n word reader (Some (Registered value pending)) = refl
read-same C n word reader (Some (Leaving value)) = refl

pub data-entry : (n : NodeParts) (word : WordId) (value v : ℕ) → n.waiting ≡ wait.TheVariants.Reading word → entry_of n word.0 ≡ None → has_room n.cache word.0 ≡ true
    → entry_of (data_reply_row n word value n.waiting).0 v ≡ cond (word.0 == v) (Some (Valid value false)) (entry_of n v)
data-entry n word value v waits none room =
    let same : (word.0 == word.0) ≡ true = grind (arith, nat_tests) in
    rw (waits, same, none, room) (lookup-put word (Valid value false) v n.cache.pairs)

pub store-entry : (C : Setting) (n : NodeParts) (d : TaskDecl) (t : TaskState) (word : WordId) (e : Entry) (v : ℕ)
    → entry_of (stored C n d t word e) v ≡ cond (word.0 == v) (Some e) (entry_of n v)
store-entry C n d t word e v = lookup-put word e v n.cache.pairs

-- ---- from the message

pub gets-ack : (C : Setting) (n : NodeParts) (word : WordId) (v : ℕ) → entry_of (node_gets C n (RegAck word)).0 v ≡ cond (word.0 == v) (on_reg_ack (entry_of n v)) (entry_of n v)
unfolding node_gets
gets-ack C n word v = ack-entry n word v (entry_of n word.0) refl

pub gets-forward : (C : Setting) (n : NodeParts) (word : WordId) (core : CoreId) (v : ℕ)
    → entry_of (node_gets C n (RegFwd word core)).0 v ≡ cond (word.0 == v) (on_reg_fwd (entry_of n v)) (entry_of n v)
unfolding node_gets
gets-forward C n word core v = forward-entry n word core v (entry_of n word.0) refl

pub gets-back : (C : Setting) (n : NodeParts) (word : WordId) (v : ℕ) → entry_of (node_gets C n (WbAck word)).0 v ≡ cond (word.0 == v) (on_wb_ack (entry_of n v)) (entry_of n v)
unfolding node_gets
gets-back C n word v = back-entry n word v (entry_of n word.0) refl

pub gets-read : (C : Setting) (n : NodeParts) (word : WordId) (reader : CoreId) → (node_gets C n (ReadFwd word reader)).0 ≡ n
unfolding node_gets
gets-read C n word reader = read-same C n word reader (entry_of n word.0)

pub gets-data : (C : Setting) (n : NodeParts) (word : WordId) (value v : ℕ) → n.waiting ≡ wait.TheVariants.Reading word → entry_of n word.0 ≡ None → has_room n.cache word.0 ≡ true
    → entry_of (node_gets C n (DataReply word value)).0 v ≡ cond (word.0 == v) (Some (Valid value false)) (entry_of n v)
unfolding node_gets
gets-data C n word value v waits none room = data-entry n word value v waits none room
