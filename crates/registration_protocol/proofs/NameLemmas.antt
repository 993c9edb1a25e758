-- What a node sends goes to an actor of the machine, and names what is the machine's.
use Rattle.std.proofs.Common.{◌≡◌, ℕ, ◌<◌, ◌%◌, nat_lt, Bool, true, false, length, Option, Some, None, IfSome, refl, sym, ap, ◌∙◌, subst, arith}
use Rattle.std.proofs.lemmas.Bool.Decides.{nat_tests}
use Rattle.dn_base.specs.declared.ids.CoreId.{CoreId}
use Rattle.dn_base.specs.declared.ids.WordId.{WordId}
use Rattle.region_table.specs.declared.declared.TaskDecl.{TaskDecl}
use Rattle.rv_core.specs.declared.task.TaskState.{TaskState}
use Rattle.rv_core.specs.declared.need.Need as need
use Rattle.rv_core.specs.declared.need.Need.{Need}
use Rattle.rv_core.specs.Need.{need_of}
use Rattle.rv_core.proofs.Completions.{load-allowed, store-allowed, acquire-allowed, release-allowed}
use Rattle.message_net.specs.declared.message.Message as message
use Rattle.message_net.specs.declared.message.Message.{Message}
use Rattle.message_net.specs.declared.message.Outgoing.{Outgoing}
use Rattle.message_net.specs.Mail.{to_home, to_core}
use Rattle.word_cache.specs.declared.row.Entry.{Entry}
use Rattle.word_cache.specs.declared.row.Entry.TheVariants.{Valid, Registered, Leaving}
use Rattle.registration_protocol.specs.declared.node.Received.{Received}
use Rattle.registration_protocol.specs.declared.node.Step.{Step}
use Rattle.registration_protocol.specs.Node.{NodeParts, Setting, entry_of}
use Rattle.registration_protocol.specs.Fit.{IsContext}
use Rattle.registration_protocol.specs.OwnEvents.{may_instr, instructed, evicts, evicted, arrives}
use Rattle.registration_protocol.specs.Messages.{node_gets, read_fwd_row}
use Rattle.registration_protocol.specs.Names.{NamesOwn, IsFor}
use Rattle.registration_protocol.specs.Parts.{accessed, load_sends, store_sends, sent_by}
use Rattle.registration_protocol.proofs.InstrLemmas.{may-instruct, instructed-is, instr-parts}
use Rattle.registration_protocol.proofs.MessageLemmas.{ack-sends, forward-sends, back-sends, data-sends, grant-sends, go-sends, halt-sends, other-is}

home_for : (C : Setting) (number : ℕ) (m : Message) → IsContext C → NamesOwn C m → IfSome (to_home C.shape.banks number m) (IsFor C)
home_for C number m context names =
    let some = context.some_banks in
    let bank : nat_lt (number % C.shape.banks) C.shape.banks ≡ true = grind (arith, nat_tests) in
    record { to = bank; message = names }

core_for : (C : Setting) (core : CoreId) (m : Message) → core.0 < C.shape.cores → NamesOwn C m → IfSome (to_core core m) (IsFor C)
core_for C core m within names =
    let own : nat_lt core.0 C.shape.cores ≡ true = grind (arith, nat_tests) in
    record { to = own; message = names }

silent_for : (C : Setting) (o : Option Outgoing) → o ≡ None → IfSome o (IsFor C)
silent_for C o is = subst (λ (x : Option Outgoing). IfSome x (IsFor C)) (sym is) tt

-- ---- messages

read_for : (C : Setting) (n : NodeParts) (word : WordId) (reader : CoreId) (e : Option Entry) → IsContext C → word.0 < length C.program.memory → reader.0 < C.shape.cores
    → IfSome (read_fwd_row C n word reader e).1.sent (IsFor C)
read_for C n word reader None context words cores = home_for C word.0 (message.TheVariants.ReadReq word reader) context (words, cores)
read_for C n word reader (Some (Valid value marked)) context words cores = home_for C word.0 (message.TheVariants.ReadReq word reader) context (words, cores)
read_for C n word reader (Some (Registered value pending)) context words cores = core_for C reader (message.TheVariants.DataReply word value) cores words
read_for C n word reader (Some (Leaving value)) context words cores = core_for C reader (message.TheVariants.DataReply word value) cores words

gets_read : (C : Setting) (n : NodeParts) (word : WordId) (reader : CoreId) → IsContext C → word.0 < length C.program.memory → reader.0 < C.shape.cores
    → IfSome (node_gets C n (message.TheVariants.ReadFwd word reader)).1.sent (IsFor C)
unfolding node_gets
gets_read C n word reader context words cores = read_for C n word reader (entry_of n word.0) context words cores

other_for : (C : Setting) (n : NodeParts) (r : NodeParts × Received) → r ≡ (n, record { sent = None; granted = None }) → IfSome r.1.sent (IsFor C)
other_for C n r is = silent_for C r.1.sent (ap (λ (x : NodeParts × Received). x.1.sent) is)

-- what a message makes a node send is right where the message is
pub gets-for : (C : Setting) (n : NodeParts) (m : Message) → IsContext C → NamesOwn C m → IfSome (node_gets C n m).1.sent (IsFor C)
gets-for C n (message.TheVariants.DataReply word value) context own = silent_for C _ (ap (λ (r : Received). r.sent) (data-sends C n word value))
gets-for C n (message.TheVariants.RegAck word) context own = silent_for C _ (ap (λ (r : Received). r.sent) (ack-sends C n word))
gets-for C n (message.TheVariants.RegFwd word core) context own =
    subst (λ (r : Received). IfSome r.sent (IsFor C)) (sym (forward-sends C n word core)) (core_for C core (message.TheVariants.RegAck word) own.1 own.0)
gets-for C n (message.TheVariants.ReadFwd word reader) context own = gets_read C n word reader context own.0 own.1
gets-for C n (message.TheVariants.WbAck word) context own = silent_for C _ (ap (λ (r : Received). r.sent) (back-sends C n word))
gets-for C n (message.TheVariants.Grant lock signature) context own = silent_for C _ (grant-sends C n lock signature)
gets-for C n (message.TheVariants.Go phase) context own = silent_for C _ (ap (λ (r : Received). r.sent) (go-sends C n phase))
gets-for C n message.TheVariants.Halt context own = silent_for C _ (ap (λ (r : Received). r.sent) (halt-sends C n))
gets-for C n (message.TheVariants.ReadReq word reader) context own = other_for C n _ (other-is C n (message.TheVariants.ReadReq word reader) refl)
gets-for C n (message.TheVariants.RegReq word core) context own = other_for C n _ (other-is C n (message.TheVariants.RegReq word core) refl)
gets-for C n (message.TheVariants.WriteBack word value core) context own = other_for C n _ (other-is C n (message.TheVariants.WriteBack word value core) refl)
gets-for C n (message.TheVariants.Acquire lock core) context own = other_for C n _ (other-is C n (message.TheVariants.Acquire lock core) refl)
gets-for C n (message.TheVariants.Release lock core signature) context own = other_for C n _ (other-is C n (message.TheVariants.Release lock core signature) refl)
gets-for C n (message.TheVariants.Arrived core bad) context own = other_for C n _ (other-is C n (message.TheVariants.Arrived core bad) refl)

-- ---- own events

load_for : (C : Setting) (n : NodeParts) (word : WordId) (e : Option Entry) → IsContext C → n.core < C.shape.cores → word.0 < length C.program.memory → IfSome (load_sends C n word e) (IsFor C)
load_for C n word None context own words = home_for C word.0 (message.TheVariants.ReadReq word (record { 0 = n.core })) context (words, own)
load_for C n word (Some e) context own words = tt

store_for : (C : Setting) (n : NodeParts) (word : WordId) (whole : Bool) (e : Option Entry) → IsContext C → n.core < C.shape.cores → word.0 < length C.program.memory
    → IfSome (store_sends C n word whole e) (IsFor C)
store_for C n word true None context own words = home_for C word.0 (message.TheVariants.RegReq word (record { 0 = n.core })) context (words, own)
store_for C n word false None context own words = home_for C word.0 (message.TheVariants.ReadReq word (record { 0 = n.core })) context (words, own)
store_for C n word whole (Some (Valid value marked)) context own words = home_for C word.0 (message.TheVariants.RegReq word (record { 0 = n.core })) context (words, own)
store_for C n word whole (Some (Registered value pending)) context own words = tt
store_for C n word whole (Some (Leaving value)) context own words = tt

pub sent-for : (C : Setting) (n : NodeParts) (d : TaskDecl) (t : TaskState) (x : Need) (e : Option Entry) → IsContext C → n.core < C.shape.cores → need_of C.program d C.fuel t ≡ x
    → IfSome (sent_by C n x e) (IsFor C)
sent-for C n d t need.TheVariants.Local e context own is = tt
sent-for C n d t (need.TheVariants.End by) e context own is = tt
sent-for C n d t (need.TheVariants.Load word) e context own is = load_for C n word e context own (load-allowed C.program d C.fuel t word is).0
sent-for C n d t (need.TheVariants.Store word whole) e context own is = store_for C n word whole e context own (store-allowed C.program d C.fuel t word whole is).0
sent-for C n d t (need.TheVariants.Acquire lock) e context own is =
    home_for C lock.0 (message.TheVariants.Acquire lock (record { 0 = n.core })) context ((acquire-allowed C.program d C.fuel t lock is).0, own)
sent-for C n d t (need.TheVariants.Release lock) e context own is = home_for C lock.0 _ context ((release-allowed C.program d C.fuel t lock is).0, own)

-- what an instruction sends is right
pub instr-for : (C : Setting) (n : NodeParts) → IsContext C → n.core < C.shape.cores → may_instr C n ≡ true → IfSome (instructed C n).1.sent (IsFor C)
instr-for C n context own may =
    let m = may-instruct C n may in
    let row = instructed-is C n m.decl m.task m.needs m.declares m.has m.now in
    let sends : (instructed C n).1.sent ≡ sent_by C n m.needs (accessed n m.needs) =
    ap (λ (r : NodeParts × Step). r.1.sent) row ∙ (instr-parts C n m.decl m.task m.needs m.has).sent in
    subst (λ (o : Option Outgoing). IfSome o (IsFor C)) (sym sends) (sent-for C n m.decl m.task m.needs (accessed n m.needs) context own m.asks)

evict_for : (C : Setting) (n : NodeParts) (word : WordId) (e : Option Entry) → IsContext C → n.core < C.shape.cores → word.0 < length C.program.memory → IfSome (evicts C n word e).1 (IsFor C)
evict_for C n word None context own words = tt
evict_for C n word (Some (Valid value marked)) context own words = tt
evict_for C n word (Some (Registered value true)) context own words = tt
evict_for C n word (Some (Registered value false)) context own words = home_for C word.0 (message.TheVariants.WriteBack word value (record { 0 = n.core })) context (words, own)
evict_for C n word (Some (Leaving value)) context own words = tt

-- what the eviction of a word of the machine sends is right
pub evict-for : (C : Setting) (n : NodeParts) (word : WordId) → IsContext C → n.core < C.shape.cores → word.0 < length C.program.memory → IfSome (evicted C n word).1 (IsFor C)
evict-for C n word context own words = evict_for C n word (entry_of n word.0) context own words

-- what an arrival sends is right
pub arrive-for : (C : Setting) (n : NodeParts) → n.core < C.shape.cores → IfSome (arrives n).1 (IsFor C)
arrive-for C n own = record { to = refl; message = own }
