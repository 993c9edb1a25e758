-- A node whose next instruction may come keeps it, whatever mail it gets. And a word that is removed makes room for the one that the instruction lacks.
use Rattle.std.proofs.Common.{◌≡◌, ℕ, zero, suc, ◌+◌, ◌-◌, ◌%◌, ◌≤◌, ◌==◌, Bool, true, false, not, cond, ◌&&◌, ◌||◌, nat_lt, List, [], ◌∷◌, ◌++◌, length, map, replicate, set, slice_get, Option, Some, None, refl, sym, ap, ◌∙◌, subst, arith}
use Rattle.std.proofs.lemmas.Bool.{and_parts, and_from}
use Rattle.std.proofs.lemmas.Bool.Decides.{nat_tests}
use Rattle.std.proofs.lemmas.Option.{same_Some}
use Rattle.std.specs.Option.{is_some, option_map, option_or}
use Rattle.dn_base.specs.declared.ids.CoreId.{CoreId}
use Rattle.dn_base.specs.declared.ids.WordId.{WordId}
use Rattle.dn_base.specs.declared.ids.LockId.{LockId}
use Rattle.region_table.specs.Tasks.{declared}
use Rattle.rv_core.specs.declared.task.TaskState.{TaskState}
use Rattle.rv_core.specs.declared.task.End.{End}
use Rattle.rv_core.specs.declared.need.Need as need
use Rattle.rv_core.specs.declared.need.Need.{Need}
use Rattle.message_net.specs.declared.event.Event.{Event}
use Rattle.message_net.specs.declared.event.Event.TheVariants.{Instr, Evict, Arrive}
use Rattle.message_net.specs.declared.message.Message as message
use Rattle.message_net.specs.declared.message.Message.{Message}
use Rattle.word_cache.specs.declared.row.Entry.{Entry}
use Rattle.word_cache.specs.declared.row.Entry.TheVariants.{Valid, Registered, Leaving}
use Rattle.word_cache.specs.Cache.{Pair, IsCache, lookup, without, changed, has_room, is_of, is_pending, pending_count, pending_bit, may_go}
use Rattle.word_cache.proofs.LookLemmas.{lookup-without, lookup-changed}
use Rattle.word_cache.proofs.WeightLemmas.{count-fewer, pending-most}
use Rattle.word_cache.proofs.CacheLaws.{room-changed, room-without, room-made}
use Rattle.registration_protocol.specs.declared.node.NodeWait as wait
use Rattle.registration_protocol.specs.declared.node.NodeWait.{NodeWait}
use Rattle.registration_protocol.specs.Node.{NodeParts, Setting, need_now, need_if, need_by, entry_of, is_settled, is_active, is_ready, waits_for_nothing, keeping}
use Rattle.registration_protocol.specs.Fit.{Fits}
use Rattle.registration_protocol.specs.OwnEvents.{may_access, lets, may_instr, may_evict, may_arrive, wanted_by, makes_room, evicts, evicted, victim_for, eviction_of, eviction, arrival, own_event, me, end_by, end_of, shown_by}
use Rattle.registration_protocol.specs.Messages.{becomes, begins, data_reply_row, reg_ack_row, reg_fwd_row, read_fwd_row, wb_ack_row, grant_row, go_row, halt_row, node_gets}
use Rattle.registration_protocol.proofs.EntryLemmas.{read-same}
use Rattle.dn_machine.specs.Content.{in_row}

-- what an instruction that may come tells of its node
pub record MayGo (C : Setting) (n : NodeParts) : Type 0 where
  pub active : is_active n ≡ true
  pub ready : is_ready n.waiting ≡ true
  pub goes : lets n (need_now C n) ≡ true

pub may-go : (C : Setting) (n : NodeParts) → may_instr C n ≡ true → MayGo C n
may-go C n may =
    let parts = and_parts (is_active n && is_ready n.waiting) (lets n (need_now C n)) may in
    let first = and_parts (is_active n) (is_ready n.waiting) parts.0 in
    record { active = first.0; ready = first.1; goes = parts.1 }

-- ---- other pairs in the cache

-- the instruction may come with these pairs too, if each access that might come may come still, and a settled node stays settled
kept-by : (C : Setting) (n : NodeParts) (ps : List Pair) → ((w : ℕ) → may_access n w (entry_of n w) ≡ true → may_access (keeping n ps) w (lookup w ps) ≡ true)
    → (is_settled n ≡ true → is_settled (keeping n ps) ≡ true) → may_instr C n ≡ true → may_instr C (keeping n ps) ≡ true
kept-by C n ps access settled may =
    let parts = and_parts (is_active n && is_ready n.waiting) (lets n (need_now C n)) may in
    and_from (is_active n && is_ready n.waiting) (lets (keeping n ps) (need_now C n)) parts.0 (by_need (need_now C n) parts.1)
  where
    by_need : (o : Option Need) → lets n o ≡ true → lets (keeping n ps) o ≡ true
    by_need None is = is
    by_need (Some need.TheVariants.Local) is = refl
    by_need (Some (need.TheVariants.End by)) is = refl
    by_need (Some (need.TheVariants.Acquire lock)) is = refl
    by_need (Some (need.TheVariants.Release lock)) is = settled is
    by_need (Some (need.TheVariants.Load word)) is = access word.0 is
    by_need (Some (need.TheVariants.Store word whole)) is = access word.0 is

-- a word goes
access-without : (n : NodeParts) (v w : ℕ) (old : Entry) → IsCache n.cache → entry_of n v ≡ Some old → may_access n w (entry_of n w) ≡ true
    → may_access (keeping n (without v n.cache.pairs)) w (lookup w (without v n.cache.pairs)) ≡ true
access-without n v w old good is may = by_test (v == w) refl (lookup-without v w n.cache.pairs) where
  by_entry : (o : Option Entry) → may_access n w o ≡ true → may_access (keeping n (without v n.cache.pairs)) w o ≡ true
  by_entry None may = room-without n.cache v w may
  by_entry (Some (Valid value marked)) may = refl
  by_entry (Some (Registered value pending)) may = refl
  by_entry (Some (Leaving value)) may = may

  by_test : (t : Bool) → (v == w) ≡ t → lookup w (without v n.cache.pairs) ≡ cond t None (lookup w n.cache.pairs)
      → may_access (keeping n (without v n.cache.pairs)) w (lookup w (without v n.cache.pairs)) ≡ true
  by_test true test e =
      let here : v ≡ w = grind (arith, nat_tests, test) in
      let same : v % n.cache.sets ≡ w % n.cache.sets = ap (λ (x : ℕ). x % n.cache.sets) here in
      subst (λ (o : Option Entry). may_access (keeping n (without v n.cache.pairs)) w o ≡ true) (sym e) (room-made n.cache v w old good is same)
  by_test false test e =
      subst (λ (o : Option Entry). may_access (keeping n (without v n.cache.pairs)) w o ≡ true) (sym e) (by_entry (lookup w n.cache.pairs) may)

settled-without : (v : ℕ) (ps : List Pair) → (pending_count ps == 0) ≡ true → (pending_count (without v ps) == 0) ≡ true
settled-without v ps is =
    let less : pending_count (without v ps) ≤ pending_count ps = count-fewer (λ (p : Pair). is_pending p.1) (λ (p : Pair). not (is_of v p)) ps in
    let none : pending_count ps ≡ 0 = grind (arith, nat_tests, is) in
    let still : pending_count (without v ps) ≡ 0 = omega (arith, less, none) in
    grind (arith, nat_tests, still)

kept-without : (C : Setting) (n : NodeParts) (v : ℕ) (old : Entry) → IsCache n.cache → entry_of n v ≡ Some old → may_instr C n ≡ true → may_instr C (keeping n (without v n.cache.pairs)) ≡ true
kept-without C n v old good is may =
    kept-by C n (without v n.cache.pairs) (λ w access. access-without n v w old good is access) (λ settled. settled-without v n.cache.pairs settled) may

-- a word is pending no longer
access-settled : (n : NodeParts) (v w value : ℕ) → entry_of n v ≡ Some (Registered value true) → may_access n w (entry_of n w) ≡ true
    → may_access (keeping n (changed v (Registered value false) n.cache.pairs)) w (lookup w (changed v (Registered value false) n.cache.pairs)) ≡ true
access-settled n v w value is may = by_test (v == w) (lookup-changed v w (Registered value false) n.cache.pairs) where
  by_entry : (o : Option Entry) → may_access n w o ≡ true → may_access (keeping n (changed v (Registered value false) n.cache.pairs)) w o ≡ true
  by_entry None may = room-changed n.cache v (Registered value false) w ∙ may
  by_entry (Some (Valid value marked)) may = refl
  by_entry (Some (Registered value pending)) may = refl
  by_entry (Some (Leaving value)) may = may

  by_test : (t : Bool) → lookup w (changed v (Registered value false) n.cache.pairs) ≡ cond t (option_map (λ (_ : Entry). Registered value false) (lookup v n.cache.pairs)) (lookup w n.cache.pairs)
      → may_access (keeping n (changed v (Registered value false) n.cache.pairs)) w (lookup w (changed v (Registered value false) n.cache.pairs)) ≡ true
  by_test true e =
      let entry : lookup w (changed v (Registered value false) n.cache.pairs) ≡ Some (Registered value false) = e ∙ ap (option_map (λ (_ : Entry). Registered value false)) is in
      subst (λ (o : Option Entry). may_access (keeping n (changed v (Registered value false) n.cache.pairs)) w o ≡ true) (sym entry) refl
  by_test false e =
      subst (λ (o : Option Entry). may_access (keeping n (changed v (Registered value false) n.cache.pairs)) w o ≡ true) (sym e) (by_entry (lookup w n.cache.pairs) may)

kept-settled : (C : Setting) (n : NodeParts) (v value : ℕ) → entry_of n v ≡ Some (Registered value true) → may_instr C n ≡ true
    → may_instr C (keeping n (changed v (Registered value false) n.cache.pairs)) ≡ true
kept-settled C n v value is may =
    kept-by C n (changed v (Registered value false) n.cache.pairs) (λ w access. access-settled n v w value is access)
    (λ settled.
    let none : pending_count n.cache.pairs ≡ 0 = grind (arith, nat_tests, settled) in
    let one : pending_bit (lookup v n.cache.pairs) ≡ 1 = ap pending_bit is in
    absurd (omega (arith, one, none, pending-most v n.cache.pairs)))
    may

-- ---- the rows of the messages

-- a node of this core whose instruction may come
abbrev pub Goes : Setting → NodeParts → NodeParts → Type 0
Goes C n m = (may_instr C m ≡ true) × (m.core ≡ n.core)

data-stays : (C : Setting) (n : NodeParts) (word : WordId) (value : ℕ) (w : NodeWait) → is_ready w ≡ true → may_instr C n ≡ true → Goes C n (data_reply_row n word value w).0
data-stays C n word value wait.TheVariants.None ready may = (may, refl)
data-stays C n word value (wait.TheVariants.Filled wanted) ready may = (may, refl)
data-stays C n word value (wait.TheVariants.Reading wanted) ready may = absurd (cc)
data-stays C n word value (wait.TheVariants.Locking lock) ready may = (may, refl)

grant-stays : (C : Setting) (n : NodeParts) (lock : LockId) (s : _) (w : NodeWait) → is_ready w ≡ true → may_instr C n ≡ true → Goes C n (grant_row C n lock s w).0
grant-stays C n lock s wait.TheVariants.None ready may = (may, refl)
grant-stays C n lock s (wait.TheVariants.Filled wanted) ready may = (may, refl)
grant-stays C n lock s (wait.TheVariants.Reading wanted) ready may = (may, refl)
grant-stays C n lock s (wait.TheVariants.Locking wanted) ready may = absurd (cc)

ack-stays : (C : Setting) (n : NodeParts) (word : WordId) (e : Option Entry) → entry_of n word.0 ≡ e → may_instr C n ≡ true → Goes C n (reg_ack_row n word e).0
ack-stays C n word None is may = (may, refl)
ack-stays C n word (Some (Valid value marked)) is may = (may, refl)
ack-stays C n word (Some (Registered value true)) is may = (kept-settled C n word.0 value is may, refl)
ack-stays C n word (Some (Registered value false)) is may = (may, refl)
ack-stays C n word (Some (Leaving value)) is may = (may, refl)

forward-stays : (C : Setting) (n : NodeParts) (word : WordId) (core : CoreId) (e : Option Entry) → IsCache n.cache → entry_of n word.0 ≡ e → may_instr C n ≡ true → Goes C n (reg_fwd_row n word core e).0
forward-stays C n word core None good is may = (may, refl)
forward-stays C n word core (Some (Valid value marked)) good is may = (may, refl)
forward-stays C n word core (Some (Registered value true)) good is may = (may, refl)
forward-stays C n word core (Some (Registered value false)) good is may = (kept-without C n word.0 (Registered value false) good is may, refl)
forward-stays C n word core (Some (Leaving value)) good is may = (may, refl)

back-stays : (C : Setting) (n : NodeParts) (word : WordId) (e : Option Entry) → IsCache n.cache → entry_of n word.0 ≡ e → may_instr C n ≡ true → Goes C n (wb_ack_row n word e).0
back-stays C n word None good is may = (may, refl)
back-stays C n word (Some (Valid value marked)) good is may = (may, refl)
back-stays C n word (Some (Registered value pending)) good is may = (may, refl)
back-stays C n word (Some (Leaving value)) good is may = (kept-without C n word.0 (Leaving value) good is may, refl)

read-stays : (C : Setting) (n : NodeParts) (word : WordId) (reader : CoreId) → may_instr C n ≡ true → Goes C n (read_fwd_row C n word reader (entry_of n word.0)).0
read-stays C n word reader may = subst (Goes C n) (sym (read-same C n word reader (entry_of n word.0))) (may, refl)

not-arrived : (a b : Bool) → not (a || b) ≡ true → b ≡ false
not-arrived true b is = absurd (cc)
not-arrived false true is = absurd (cc)
not-arrived false false is = refl

go-stays : (C : Setting) (n : NodeParts) (phase : ℕ) → n.arrived ≡ false → may_instr C n ≡ true → Goes C n (go_row C n phase).0
go-stays C n phase arrived may =
    subst (λ (b : Bool). Goes C n (cond (b && not n.halted && (phase == n.phase + 1) && nat_lt phase (length C.program.phases)) (becomes (begins C n phase)) (becomes n)).0) (sym arrived) (may, refl)

halt-stays : (C : Setting) (n : NodeParts) → n.arrived ≡ false → may_instr C n ≡ true → Goes C n (halt_row n).0
halt-stays C n arrived may = subst (λ (b : Bool). Goes C n (cond b (becomes (record n { halted = true })) (becomes n)).0) (sym arrived) (may, refl)

gets-stays : (C : Setting) (n : NodeParts) (m : Message) → IsCache n.cache → MayGo C n → may_instr C n ≡ true → Goes C n (node_gets C n m).0
unfolding node_gets
gets-stays C n (message.TheVariants.ReadReq word reader) good goes may = (may, refl)
gets-stays C n (message.TheVariants.ReadFwd word reader) good goes may = read-stays C n word reader may
gets-stays C n (message.TheVariants.DataReply word value) good goes may = data-stays C n word value n.waiting goes.ready may
gets-stays C n (message.TheVariants.RegReq word core) good goes may = (may, refl)
gets-stays C n (message.TheVariants.RegFwd word core) good goes may = forward-stays C n word core (entry_of n word.0) good refl may
gets-stays C n (message.TheVariants.RegAck word) good goes may = ack-stays C n word (entry_of n word.0) refl may
gets-stays C n (message.TheVariants.WriteBack word value core) good goes may = (may, refl)
gets-stays C n (message.TheVariants.WbAck word) good goes may = back-stays C n word (entry_of n word.0) good refl may
gets-stays C n (message.TheVariants.Acquire lock core) good goes may = (may, refl)
gets-stays C n (message.TheVariants.Release lock core signature) good goes may = (may, refl)
gets-stays C n (message.TheVariants.Grant lock signature) good goes may = grant-stays C n lock signature n.waiting goes.ready may
gets-stays C n (message.TheVariants.Arrived core bad) good goes may = (may, refl)
gets-stays C n (message.TheVariants.Go phase) good goes may = go-stays C n phase.0 (not-arrived n.halted n.arrived goes.active) may
gets-stays C n message.TheVariants.Halt good goes may = halt-stays C n (not-arrived n.halted n.arrived goes.active) may

-- ---- the own event

-- the own event is the instruction exactly if that may come
pub own-of-may : (C : Setting) (n : NodeParts) → may_instr C n ≡ true → own_event C n ≡ Some (Instr (me n))
own-of-may C n may = ap (λ (b : Bool). cond b (Some (Instr (me n))) (option_or (eviction C n) (arrival n))) may

pub may-of-own : (C : Setting) (n : NodeParts) (c : CoreId) → own_event C n ≡ Some (Instr c) → (may_instr C n ≡ true) × (me n ≡ c)
may-of-own C n c is = by_instr (may_instr C n) refl is where
  by_arrive : (b : Bool) → cond b (Some (Arrive (me n))) None ≡ Some (Instr c) → ⊥
  by_arrive true is = cc
  by_arrive false is = cc

  by_evict : (v : WordId) (b : Bool) → option_or (cond b (Some (Evict (me n) v)) None) (arrival n) ≡ Some (Instr c) → ⊥
  by_evict v true is = cc
  by_evict v false is = by_arrive (may_arrive n) is

  by_victim : (o : Option WordId) → option_or (eviction_of C n o) (arrival n) ≡ Some (Instr c) → ⊥
  by_victim None is = by_arrive (may_arrive n) is
  by_victim (Some v) is = by_evict v (may_evict C n v.0) is

  by_instr : (b : Bool) → may_instr C n ≡ b → cond b (Some (Instr (me n))) (option_or (eviction C n) (arrival n)) ≡ Some (Instr c) → (may_instr C n ≡ true) × (me n ≡ c)
  by_instr true may is = let same : Instr (me n) ≡ Instr c = same_Some (Instr (me n)) (Instr c) is in (may, cc)
  by_instr false may is = absurd (by_victim (victim_for n (wanted_by n (need_now C n))) is)

-- a node whose instruction is its own event keeps it, whatever it gets
pub own-stays : (C : Setting) (n : NodeParts) (m : Message) (c : CoreId) → Fits C n → own_event C n ≡ Some (Instr c) → own_event C (node_gets C n m).0 ≡ Some (Instr c)
own-stays C n m c fits is =
    let had = may-of-own C n c is in
    let still = gets-stays C n m fits.cache (may-go C n had.0) had.0 in
    own-of-may C (node_gets C n m).0 still.0 ∙ ap (λ (k : ℕ). let x : CoreId = record { 0 = k } in Some (Instr x)) still.1 ∙ ap (λ (x : CoreId). Some (Instr x)) had.1

-- its task goes on, and waits for no lock
pub instr-no-end : (C : Setting) (n : NodeParts) → may_instr C n ≡ true → end_of n n.task ≡ None
instr-no-end C n may = by_task n.task refl where
  goes : MayGo C n
  goes = may-go C n may

  by_wait : (t : TaskState) (w : NodeWait) → is_ready w ≡ true → end_by n t (shown_by None w) ≡ None
  by_wait t wait.TheVariants.None is = refl
  by_wait t (wait.TheVariants.Filled word) is = refl
  by_wait t (wait.TheVariants.Reading word) is = refl
  by_wait t (wait.TheVariants.Locking lock) is = absurd (cc)

  by_end : (t : TaskState) (e : Option End) → lets n (cond (is_some e) None (need_by C (declared C.program n.phase n.core) t)) ≡ true → end_by n t (shown_by e n.waiting) ≡ None
  by_end t None now = by_wait t n.waiting goes.ready
  by_end t (Some x) now = absurd (cc)

  by_task : (o : Option TaskState) → n.task ≡ o → end_of n o ≡ None
  by_task None is = refl
  by_task (Some t) is = by_end t t.end (subst (λ (o : Option TaskState). lets n (need_if C n.phase n.core o) ≡ true) is goes.goes)

-- ---- an eviction

-- the word that lacks a place gets one if another word of its set goes
room-for : (C : Setting) (n : NodeParts) (v : ℕ) (old : Entry) → IsCache n.cache → entry_of n v ≡ Some old → (o : Option Need) → makes_room n v (wanted_by n o) ≡ true
    → lets (keeping n (without v n.cache.pairs)) o ≡ true
room-for C n v old good is o room = by_need o room where
  gone : (word : WordId) → lookup word.0 n.cache.pairs ≡ None → lookup word.0 (without v n.cache.pairs) ≡ None
  gone word none = by_test (v == word.0) (lookup-without v word.0 n.cache.pairs) where
    by_test : (t : Bool) → lookup word.0 (without v n.cache.pairs) ≡ cond t None (lookup word.0 n.cache.pairs) → lookup word.0 (without v n.cache.pairs) ≡ None
    by_test true e = e
    by_test false e = e ∙ none

  made : (word : WordId) → lookup word.0 n.cache.pairs ≡ None → makes_room n v (Some word) ≡ true
      → may_access (keeping n (without v n.cache.pairs)) word.0 (lookup word.0 (without v n.cache.pairs)) ≡ true
  made word none room =
      let parts = and_parts (v % n.cache.sets == word.0 % n.cache.sets) (may_go (entry_of n v)) room in
      let same : v % n.cache.sets ≡ word.0 % n.cache.sets = grind (arith, nat_tests, parts.0) in
      subst (λ (x : Option Entry). may_access (keeping n (without v n.cache.pairs)) word.0 x ≡ true) (sym (gone word none)) (room-made n.cache v word.0 old good is same)

  by_room : (word : WordId) (e : Option Entry) (b : Bool) → entry_of n word.0 ≡ e → makes_room n v (cond (is_some e || b) None (Some word)) ≡ true
      → may_access (keeping n (without v n.cache.pairs)) word.0 (lookup word.0 (without v n.cache.pairs)) ≡ true
  by_room word (Some x) b e room = absurd (cc)
  by_room word None true e room = absurd (cc)
  by_room word None false e room = made word e room

  by_need : (o : Option Need) → makes_room n v (wanted_by n o) ≡ true → lets (keeping n (without v n.cache.pairs)) o ≡ true
  by_need None room = absurd (cc)
  by_need (Some need.TheVariants.Local) room = absurd (cc)
  by_need (Some (need.TheVariants.End by)) room = absurd (cc)
  by_need (Some (need.TheVariants.Acquire lock)) room = absurd (cc)
  by_need (Some (need.TheVariants.Release lock)) room = absurd (cc)
  by_need (Some (need.TheVariants.Load word)) room = by_room word (entry_of n word.0) (has_room n.cache word.0) refl room
  by_need (Some (need.TheVariants.Store word whole)) room = by_room word (entry_of n word.0) (has_room n.cache word.0) refl room

idle-ready : (w : NodeWait) → waits_for_nothing w ≡ true → is_ready w ≡ true
idle-ready wait.TheVariants.None is = refl
idle-ready (wait.TheVariants.Filled word) is = refl
idle-ready (wait.TheVariants.Reading word) is = absurd (cc)
idle-ready (wait.TheVariants.Locking lock) is = absurd (cc)

no-room : (n : NodeParts) (v : ℕ) (o : Option WordId) → makes_room n v o ≡ true → may_go (entry_of n v) ≡ true
no-room n v None room = absurd (cc)
no-room n v (Some wanted) room = (and_parts (v % n.cache.sets == wanted.0 % n.cache.sets) (may_go (entry_of n v)) room).1

-- an eviction that sends nothing removes its word, and then the instruction may come
pub evicted-goes : (C : Setting) (n : NodeParts) (word : WordId) → Fits C n → may_evict C n word.0 ≡ true → (evicted C n word).1 ≡ None
    → own_event C (evicted C n word).0 ≡ Some (Instr (me (evicted C n word).0))
evicted-goes C n word fits may silent = own-of-may C (evicted C n word).0 (by_entry (entry_of n word.0) refl (no-room n word.0 (wanted_by n (need_now C n)) parts.1) silent) where
  parts : ((is_active n && waits_for_nothing n.waiting) ≡ true) × (makes_room n word.0 (wanted_by n (need_now C n)) ≡ true)
  parts = and_parts (is_active n && waits_for_nothing n.waiting) (makes_room n word.0 (wanted_by n (need_now C n))) may

  idle : (is_active n ≡ true) × (waits_for_nothing n.waiting ≡ true)
  idle = and_parts (is_active n) (waits_for_nothing n.waiting) parts.0

  by_entry : (e : Option Entry) → entry_of n word.0 ≡ e → may_go e ≡ true → (evicts C n word e).1 ≡ None → may_instr C (evicts C n word e).0 ≡ true
  by_entry None is go silent = absurd (cc)
  by_entry (Some (Valid value marked)) is go silent =
      and_from (is_active n && is_ready n.waiting) (lets (keeping n (without word.0 n.cache.pairs)) (need_now C n)) (and_from (is_active n) (is_ready n.waiting) idle.0 (idle-ready n.waiting idle.1))
      (room-for C n word.0 (Valid value marked) fits.cache is (need_now C n) parts.1)
  by_entry (Some (Registered value true)) is go silent = absurd (cc)
  by_entry (Some (Registered value false)) is go silent = absurd (cc)
  by_entry (Some (Leaving value)) is go silent = absurd (cc)

-- ---- the row of own events

set-same : {X : Type 0} (xs : List X) (i : ℕ) (x : X) → slice_get xs i ≡ Some x → set xs i x ≡ xs
set-same [] i x is = absurd (cc)
set-same {X = X} (y ∷ xs) zero x is = ap (λ (z : X). z ∷ xs) (sym (same_Some y x is))
set-same {X = X} (y ∷ xs) (suc i) x is = ap (λ (l : List X). y ∷ l) (set-same xs i x is)

-- where the own event of a core stays, the row of own events does
pub row-stays : (row : List (Option Event)) (core : ℕ) (o now : Option Event) → slice_get row core ≡ Some o → now ≡ o → row ≡ set row core now
row-stays row core o now there is = sym (ap (set row core) is ∙ set-same row core o there)

get-row : (C : Setting) (nodes : List NodeParts) (rest : List (Option Event)) (core : ℕ) (n : NodeParts) → slice_get nodes core ≡ Some n → slice_get (map (own_event C) nodes ++ rest) core ≡ Some (own_event C n)
get-row C [] rest core n there = absurd (cc)
get-row C (m ∷ nodes) rest zero n there = ap (λ (x : NodeParts). Some (own_event C x)) (same_Some m n there)
get-row C (m ∷ nodes) rest (suc core) n there = get-row C nodes rest core n there

-- the own event in the row is that of the node
pub own-known : (C : Setting) (nodes : List NodeParts) (row : List (Option Event)) (core : ℕ) (n : NodeParts) (o : Option Event) → row ≡ in_row (map (own_event C) nodes) → slice_get nodes core ≡ Some n
    → slice_get row core ≡ Some o → own_event C n ≡ o
own-known C nodes row core n o known there is =
    same_Some (own_event C n) o (sym (get-row C nodes (replicate (16 - length (map (own_event C) nodes)) None) core n there) ∙ ap (λ (l : List (Option Event)). slice_get l core) (sym known) ∙ is)
