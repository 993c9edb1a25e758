-- A node fits its context, whatever it does.
use Rattle.std.proofs.Common.{◌≡◌, ℕ, ◌+◌, ◌^◌, ◌<◌, ◌≤◌, Bool, true, false, cond, ◌&&◌, ◌||◌, not, ◌==◌, nat_lt, List, length, Option, Some, None, IfSome, refl, sym, ap, ◌∙◌, subst, ⊎_elim, bit_or, bit_xor, arith}
use Rattle.std.proofs.lemmas.Bool.{and_parts, cases_eq}
use Rattle.std.proofs.lemmas.Bool.Decides.{nat_tests}
use Rattle.std.proofs.lemmas.List.{length-replicate}
use Rattle.std.proofs.Math.ListN.{length-set}
use Rattle.std.proofs.lemmas.Nat.{and_or_apart, and_xor_apart, pow_apart}
use Rattle.std.specs.Int.Bits.{and_zero_l}
use Rattle.std.specs.List.{All}
use Rattle.std.proofs.lemmas.List.Elements.{All-replicate, All-set}
use Rattle.std.specs.Option.{is_some, option_map}
use Rattle.dn_base.specs.declared.ids.WordId.{WordId}
use Rattle.dn_base.specs.declared.ids.CoreId.{CoreId}
use Rattle.dn_base.specs.declared.ids.LockId.{LockId}
use Rattle.region_table.specs.Program.{ProgramParts}
use Rattle.region_table.specs.declared.declared.TaskDecl.{TaskDecl}
use Rattle.region_table.specs.Tasks.{declared}
use Rattle.rv_core.specs.declared.task.TaskState.{TaskState}
use Rattle.rv_core.specs.declared.task.End as cause
use Rattle.rv_core.specs.declared.task.End.{End}
use Rattle.rv_core.specs.declared.need.Need as need
use Rattle.rv_core.specs.declared.need.Need.{Need}
use Rattle.rv_core.specs.Access.{is_held}
use Rattle.rv_core.specs.Kinds.{IsLoad, IsAdvance, EndsByFuel, Tells}
use Rattle.rv_core.specs.Need.{need_of}
use Rattle.rv_core.specs.Step.{advanced, loaded_of}
use Rattle.rv_core.specs.Task.{started, stopped}
use Rattle.rv_core.proofs.Needs.{need-allowed}
use Rattle.rv_core.proofs.Completions.{acquire-allowed, advanced-retired, loaded-retired, loaded-held, fuel-left}
use Rattle.write_signature.specs.declared.signature.Signature.{Signature}
use Rattle.write_signature.specs.Signature.{empty, in_phase}
use Rattle.write_signature.proofs.SignatureLemmas.{tag-empty, tag-in_phase}
use Rattle.message_net.specs.declared.message.Message as message
use Rattle.message_net.specs.declared.message.Message.{Message}
use Rattle.word_cache.specs.declared.row.Entry.{Entry}
use Rattle.word_cache.specs.declared.row.Entry.TheVariants.{Valid, Registered, Leaving}
use Rattle.word_cache.specs.Cache.{IsCache, with_pairs, Pair, has_room, put}
use Rattle.word_cache.proofs.CacheLaws.{cache-empty, cache-put, cache-changed, cache-without, cache-touched, cache-dropped_written, cache-dropped_signed}
use Rattle.registration_protocol.specs.declared.node.NodeWait as wait
use Rattle.registration_protocol.specs.declared.node.NodeWait.{NodeWait}
use Rattle.registration_protocol.specs.declared.node.Received.{Received}
use Rattle.registration_protocol.specs.Node.{NodeParts, Setting, need_now, need_if, entry_of, is_ready, keeping, initial_node}
use Rattle.registration_protocol.specs.Fit.{Fits, HoldsOwn, NeedsLock, IsOfPhase}
use Rattle.registration_protocol.specs.OwnEvents.{may_access, lets, noted, load_row, store_row, stored, instr_row, instr_by, instructed, may_instr, evicts, evicted, arrives}
use Rattle.registration_protocol.specs.Messages.{fills, data_reply_row, reg_ack_row, reg_fwd_row, read_fwd_row, wb_ack_row, granted_to, grant_row, begins, go_row, halt_row, node_gets}
use Rattle.registration_protocol.proofs.InstrLemmas.{HasNext, has-next}
use Rattle.registration_protocol.proofs.SignatureLemmas.{length-noted, noted-tags}

-- ---- a node of which one part changes

pub with_cache : (C : Setting) (n : NodeParts) (ps : List Pair) → IsCache (with_pairs n.cache ps) → Fits C n → Fits C (keeping n ps)
with_cache C n ps is fit =
    record {
      core = fit.core;
      phase = fit.phase;
      task = fit.task;
      retired = fit.retired;
      held = fit.held;
      signatures = fit.signatures;
      tags = fit.tags;
      cache = is;
      sets = fit.sets;
      ways = fit.ways;
      waiting = fit.waiting;
    }

pub with_wait : (C : Setting) (n : NodeParts) (w : NodeWait) → NeedsLock (need_now C n) w → Fits C n → Fits C (record n { waiting = w })
with_wait C n w needs fit =
    record {
      core = fit.core;
      phase = fit.phase;
      task = fit.task;
      retired = fit.retired;
      held = fit.held;
      signatures = fit.signatures;
      tags = fit.tags;
      cache = fit.cache;
      sets = fit.sets;
      ways = fit.ways;
      waiting = needs;
    }

pub with_arrived : (C : Setting) (n : NodeParts) (arrived : Bool) → Fits C n → Fits C (record n { arrived = arrived })
with_arrived C n arrived fit =
    record {
      core = fit.core;
      phase = fit.phase;
      task = fit.task;
      retired = fit.retired;
      held = fit.held;
      signatures = fit.signatures;
      tags = fit.tags;
      cache = fit.cache;
      sets = fit.sets;
      ways = fit.ways;
      waiting = fit.waiting;
    }

pub with_halted : (C : Setting) (n : NodeParts) → Fits C n → Fits C (record n { halted = true })
with_halted C n fit =
    record {
      core = fit.core;
      phase = λ e. absurd (cc);
      task = fit.task;
      retired = fit.retired;
      held = fit.held;
      signatures = fit.signatures;
      tags = fit.tags;
      cache = fit.cache;
      sets = fit.sets;
      ways = fit.ways;
      waiting = fit.waiting;
    }

-- what a task must be for its node to fit
pub record IsFine (C : Setting) (t : TaskState) : Type 0 where
  pub retired : t.retired ≤ C.fuel
  pub held : HoldsOwn (length C.program.locks) t

-- signatures of a node's phase, one for each lock
pub record AreSigned (n : NodeParts) (ss : List Signature) : Type 0 where
  pub count : length ss ≡ length n.signatures
  pub tags : All (IsOfPhase n.phase) ss

same_signed : (C : Setting) (n : NodeParts) → Fits C n → AreSigned n n.signatures
same_signed C n fit = record { count = refl; tags = fit.tags }

pub with_task : (C : Setting) (n : NodeParts) (t : TaskState) (w : NodeWait) (ps : List Pair) (ss : List Signature) → Fits C n → is_some n.task ≡ true → IsFine C t
    → ((x : Option Need) → NeedsLock x w) → IsCache (with_pairs n.cache ps) → AreSigned n ss
    → Fits C (record n { task = Some t; waiting = w; cache = with_pairs n.cache ps; signatures = ss })
with_task C n t w ps ss fit has fine free is signed =
    record {
      core = fit.core;
      phase = fit.phase;
      task = sym has ∙ fit.task;
      retired = fine.retired;
      held = fine.held;
      signatures = signed.count ∙ fit.signatures;
      tags = signed.tags;
      cache = is;
      sets = fit.sets;
      ways = fit.ways;
      waiting = free (need_if C n.phase n.core (Some t));
    }

ready_needs : (w : NodeWait) (x : Option Need) → is_ready w ≡ true → NeedsLock x w
ready_needs wait.TheVariants.None x e = tt
ready_needs (wait.TheVariants.Reading word) x e = tt
ready_needs (wait.TheVariants.Filled word) x e = tt
ready_needs (wait.TheVariants.Locking lock) x e = absurd (cc)

-- ---- what is held after an instruction

held_same : (locks : ℕ) (t next : TaskState) → next.held ≡ t.held → HoldsOwn locks t → HoldsOwn locks next
held_same locks t next same own = λ l h. own l (subst (λ (x : ℕ). is_held x l ≡ true) same h)

held_more : (locks lock : ℕ) (t next : TaskState) → lock < locks → next.held ≡ bit_or t.held (2 ^ lock) → HoldsOwn locks t → HoldsOwn locks next
held_more locks lock t next within e own =
    λ k h.
    ⊎_elim (λ (same : k ≡ lock). subst (λ (x : ℕ). x < locks) (sym same) within)
    (λ (apart : k ≡ lock → ⊥).
    let now : is_held (bit_or t.held (2 ^ lock)) k ≡ true = subst (λ (x : ℕ). is_held x k ≡ true) e h in
    own k (ap (nat_lt 0) (sym (and_or_apart (2 ^ k) t.held (2 ^ lock) (pow_apart lock k (λ s. apart (sym s))))) ∙ now))
    (cases_eq k lock)

held_less : (locks lock : ℕ) (t next : TaskState) → is_held t.held lock ≡ true → next.held ≡ bit_xor t.held (2 ^ lock) → HoldsOwn locks t → HoldsOwn locks next
held_less locks lock t next there e own =
    λ k h.
    ⊎_elim (λ (same : k ≡ lock). own k (subst (λ (x : ℕ). is_held t.held x ≡ true) (sym same) there))
    (λ (apart : k ≡ lock → ⊥).
    let now : is_held (bit_xor t.held (2 ^ lock)) k ≡ true = subst (λ (x : ℕ). is_held x k ≡ true) e h in
    own k (ap (nat_lt 0) (sym (and_xor_apart (2 ^ k) t.held (2 ^ lock) (pow_apart lock k (λ s. apart (sym s))))) ∙ now))
    (cases_eq k lock)

held_told : (P : ProgramParts) (d : TaskDecl) (t next : TaskState) (n : Need) → Tells P d t next n → IsAdvance n → HoldsOwn (length P.locks) t → HoldsOwn (length P.locks) next
held_told P d t next need.TheVariants.Local tells k own = held_same _ t next tells own
held_told P d t next (need.TheVariants.Load word) tells k own = absurd k
held_told P d t next (need.TheVariants.Store word whole) tells k own = held_same _ t next tells.2 own
held_told P d t next (need.TheVariants.Acquire lock) tells k own = held_more _ lock.0 t next tells.0 tells.2 own
held_told P d t next (need.TheVariants.Release lock) tells k own = held_less _ lock.0 t next tells.1 tells.2 own
held_told P d t next (need.TheVariants.End cause) tells k own = absurd k

advanced-fine : (C : Setting) (d : TaskDecl) (t : TaskState) (n : Need) → need_of C.program d C.fuel t ≡ n → IsAdvance n → (EndsByFuel n → ⊥) → IsFine C t → IsFine C (advanced C.program t)
advanced-fine C d t n is k unspent fine =
    let tells = subst (Tells C.program d t (advanced C.program t)) is (need-allowed C.program d C.fuel t) in
    record {
      retired =
          let once = advanced-retired C.program d C.fuel t (subst IsAdvance (sym is) k) in
          let left = fuel-left C.program d C.fuel t n is unspent fine.retired in
          omega arith;
      held = held_told C.program d t (advanced C.program t) n tells k fine.held;
    }

loaded-fine : (C : Setting) (d : TaskDecl) (t : TaskState) (value : ℕ) (word : WordId) → need_of C.program d C.fuel t ≡ need.TheVariants.Load word → IsFine C t → IsFine C (loaded_of C.program value t)
loaded-fine C d t value word is fine =
    let left = fuel-left C.program d C.fuel t _ is (λ x. x) fine.retired in
    let load : IsLoad (need_of C.program d C.fuel t) = subst IsLoad (sym is) tt in
    let once = loaded-retired C.program d C.fuel t value load in
    record {
      retired = omega arith;
      held = held_same _ t (loaded_of C.program value t) (loaded-held C.program d C.fuel t value load) fine.held;
    }

stopped-fine : (C : Setting) (d : TaskDecl) (t : TaskState) (by : End) → need_of C.program d C.fuel t ≡ need.TheVariants.End by → IsFine C t → IsFine C (stopped by t)
stopped-fine C d t cause.TheVariants.Finished is fine =
    record { retired = fuel-left C.program d C.fuel t _ is (λ x. x) fine.retired; held = fine.held }
stopped-fine C d t cause.TheVariants.Fuel is fine = record { retired = fine.retired; held = fine.held }
stopped-fine C d t (cause.TheVariants.Trap kind pc value) is fine = record { retired = fine.retired; held = fine.held }

-- ---- an instruction

-- what is known of a node whose task has a need
pub record HasNeed (C : Setting) (n : NodeParts) (d : TaskDecl) (t : TaskState) (x : Need) : Type 0 where
  pub task : n.task ≡ Some t
  pub needs : need_of C.program d C.fuel t ≡ x
  pub now : need_now C n ≡ Some x
  pub fine : IsFine C t
  pub ready : is_ready n.waiting ≡ true
  pub allows : lets n (Some x) ≡ true

has_task : (C : Setting) (n : NodeParts) (d : TaskDecl) (t : TaskState) (x : Need) → HasNeed C n d t x → is_some n.task ≡ true
has_task C n d t x has = ap is_some has.task

-- the word of an access that may go on has an entry or room
access_room : (n : NodeParts) (w : ℕ) (e : Option Entry) → entry_of n w ≡ e → may_access n w e ≡ true → (is_some (entry_of n w) || has_room n.cache w) ≡ true
access_room n w None is may = rw is may
access_room n w (Some e) is may = rw is refl

load_fits : (C : Setting) (n : NodeParts) (d : TaskDecl) (t : TaskState) (word : WordId) (e : Option Entry) → Fits C n → HasNeed C n d t (need.TheVariants.Load word)
    → Fits C (load_row C n d t word e).0
load_fits C n d t word None fit has = with_wait C n (wait.TheVariants.Reading word) tt fit
load_fits C n d t word (Some (Valid value marked)) fit has =
    with_task C n _ wait.TheVariants.None _ n.signatures fit (has_task C n d t _ has) (loaded-fine C d t value word has.needs has.fine) (λ x. tt)
    (cache-put n.cache word _ fit.cache (access_room n word.0 (entry_of n word.0) refl has.allows)) (same_signed C n fit)
load_fits C n d t word (Some (Registered value pending)) fit has =
    with_task C n _ wait.TheVariants.None _ n.signatures fit (has_task C n d t _ has) (loaded-fine C d t value word has.needs has.fine) (λ x. tt)
    (cache-touched n.cache word fit.cache) (same_signed C n fit)
load_fits C n d t word (Some (Leaving value)) fit has = fit

stored_fits : (C : Setting) (n : NodeParts) (d : TaskDecl) (t : TaskState) (word : WordId) (whole : Bool) (e : Entry) → Fits C n → HasNeed C n d t (need.TheVariants.Store word whole)
    → Fits C (stored C n d t word e)
stored_fits C n d t word whole e fit has =
    with_task C n _ wait.TheVariants.None _ (noted d t.held word.0 n.phase 0 n.signatures) fit (has_task C n d t _ has)
    (advanced-fine C d t _ has.needs tt (λ x. x) has.fine) (λ x. tt)
    (cache-put n.cache word e fit.cache (access_room n word.0 (entry_of n word.0) refl has.allows))
    (record { count = length-noted d t.held word.0 n.phase 0 n.signatures; tags = noted-tags d t.held word.0 n.phase 0 n.signatures fit.tags })

store_fits : (C : Setting) (n : NodeParts) (d : TaskDecl) (t : TaskState) (word : WordId) (whole all : Bool) (e : Option Entry) → Fits C n → HasNeed C n d t (need.TheVariants.Store word all)
    → Fits C (store_row C n d t word whole e).0
store_fits C n d t word true all None fit has = stored_fits C n d t word all _ fit has
store_fits C n d t word false all None fit has = with_wait C n (wait.TheVariants.Reading word) tt fit
store_fits C n d t word whole all (Some (Valid value marked)) fit has = stored_fits C n d t word all _ fit has
store_fits C n d t word whole all (Some (Registered value pending)) fit has = stored_fits C n d t word all _ fit has
store_fits C n d t word whole all (Some (Leaving value)) fit has = fit

-- the task alone changes
task_fits : (C : Setting) (n : NodeParts) (t : TaskState) → Fits C n → is_some n.task ≡ true → IsFine C t → is_ready n.waiting ≡ true → Fits C (record n { task = Some t })
task_fits C n t fit has fine ready =
    with_task C n t n.waiting n.cache.pairs n.signatures fit has fine (λ x. ready_needs n.waiting x ready) fit.cache (same_signed C n fit)

row_fits : (C : Setting) (n : NodeParts) (d : TaskDecl) (t : TaskState) (x : Need) → Fits C n → HasNeed C n d t x → Fits C (instr_row C n d t x).0
row_fits C n d t need.TheVariants.Local fit has = task_fits C n _ fit (has_task C n d t _ has) (advanced-fine C d t _ has.needs tt (λ x. x) has.fine) has.ready
row_fits C n d t (need.TheVariants.End by) fit has = task_fits C n _ fit (has_task C n d t _ has) (stopped-fine C d t by has.needs has.fine) has.ready
row_fits C n d t (need.TheVariants.Load word) fit has = load_fits C n d t word (entry_of n word.0) fit has
row_fits C n d t (need.TheVariants.Store word whole) fit has = store_fits C n d t word whole whole (entry_of n word.0) fit has
row_fits C n d t (need.TheVariants.Acquire lock) fit has = with_wait C n (wait.TheVariants.Locking lock) has.now fit
row_fits C n d t (need.TheVariants.Release lock) fit has = task_fits C n _ fit (has_task C n d t _ has) (advanced-fine C d t _ has.needs tt (λ x. x) has.fine) has.ready

pub now-need : (C : Setting) (n : NodeParts) (d : TaskDecl) (t : TaskState) (x : Need) → declared C.program n.phase n.core ≡ Some d → n.task ≡ Some t → need_now C n ≡ Some x
    → need_of C.program d C.fuel t ≡ x
now-need C n d t x there is now =
    let next = has-next C n t x is now in
    let same : next.decl ≡ d = cc in
    subst (λ (y : TaskDecl). need_of C.program y C.fuel t ≡ x) same next.asks

pub task-fine : (C : Setting) (n : NodeParts) (t : TaskState) → Fits C n → n.task ≡ Some t → IsFine C t
task-fine C n t fit is =
    record {
      retired = subst (λ (o : Option TaskState). IfSome o (λ t. t.retired ≤ C.fuel)) is fit.retired;
      held = subst (λ (o : Option TaskState). IfSome o (HoldsOwn (length C.program.locks))) is fit.held;
    }

instr_parts : (C : Setting) (n : NodeParts) (o : Option TaskDecl) (p : Option TaskState) (x : Option Need) → Fits C n → is_ready n.waiting ≡ true → lets n x ≡ true
    → declared C.program n.phase n.core ≡ o → n.task ≡ p → need_now C n ≡ x → Fits C (instr_by C n o p x).0
instr_parts C n None p x fit ready may there is now = fit
instr_parts C n (Some d) None x fit ready may there is now = fit
instr_parts C n (Some d) (Some t) None fit ready may there is now = fit
instr_parts C n (Some d) (Some t) (Some x) fit ready may there is now =
    row_fits C n d t x fit (record { task = is; needs = now-need C n d t x there is now; now = now; fine = task-fine C n t fit is; ready = ready; allows = may })

pub instr-fits : (C : Setting) (n : NodeParts) → Fits C n → may_instr C n ≡ true → Fits C (instructed C n).0
unfolding instructed
instr-fits C n fit may =
    let parts = and_parts _ _ may in
    let ready = (and_parts _ _ parts.0).1 in
    instr_parts C n (declared C.program n.phase n.core) n.task (need_now C n) fit ready parts.1 refl refl refl

-- so does one that may have been made
pub computed-fits : (C : Setting) (n m : NodeParts) (b : Bool) → Fits C n → may_instr C n ≡ true → (b ≡ true → m ≡ (instructed C n).0) → (b ≡ false → m ≡ n) → Fits C m
computed-fits C n m true fit may done left = rw (done refl) (instr-fits C n fit may)
computed-fits C n m false fit may done left = rw (left refl) fit

-- ---- an eviction and an arrival

evicts_fit : (C : Setting) (n : NodeParts) (word : WordId) (e : Option Entry) → Fits C n → Fits C (evicts C n word e).0
evicts_fit C n word None fit = fit
evicts_fit C n word (Some (Valid value marked)) fit = with_cache C n _ (cache-without n.cache word.0 fit.cache) fit
evicts_fit C n word (Some (Registered value true)) fit = fit
evicts_fit C n word (Some (Registered value false)) fit = with_cache C n _ (cache-changed n.cache word.0 _ fit.cache) fit
evicts_fit C n word (Some (Leaving value)) fit = fit

pub evict-fits : (C : Setting) (n : NodeParts) (word : WordId) → Fits C n → Fits C (evicted C n word).0
evict-fits C n word fit = evicts_fit C n word (entry_of n word.0) fit

pub arrive-fits : (C : Setting) (n : NodeParts) → Fits C n → Fits C (arrives n).0
arrive-fits C n fit = with_arrived C n true fit

-- ---- messages

-- a choice between two nodes that fit
either_fits : (C : Setting) (b : Bool) (x y : NodeParts × Received) → Fits C x.0 → Fits C y.0 → Fits C (cond b x y).0
either_fits C true x y p q = p
either_fits C false x y p q = q

or_second : (a b : Bool) → b ≡ true → (a || b) ≡ true
or_second true b e = refl
or_second false b e = e

-- the first is chosen for a reason
chosen_fits : (C : Setting) (b : Bool) (x y : NodeParts × Received) → (b ≡ true → Fits C x.0) → Fits C y.0 → Fits C (cond b x y).0
chosen_fits C true x y p q = p refl
chosen_fits C false x y p q = q

fills_fit : (C : Setting) (n : NodeParts) (word : WordId) (value : ℕ) (e : Option Entry) → Fits C n → Fits C (fills n word value e).0
fills_fit C n word value None fit =
    chosen_fits C (has_room n.cache word.0) _ _
    (λ room. with_wait C (keeping n (put word (Valid value false) n.cache.pairs)) (wait.TheVariants.Filled word) tt
    (with_cache C n _ (cache-put n.cache word _ fit.cache (or_second (is_some (entry_of n word.0)) (has_room n.cache word.0) room)) fit)) fit
fills_fit C n word value (Some e) fit = fit

data_fits : (C : Setting) (n : NodeParts) (word : WordId) (value : ℕ) (w : NodeWait) → Fits C n → Fits C (data_reply_row n word value w).0
data_fits C n word value wait.TheVariants.None fit = fit
data_fits C n word value (wait.TheVariants.Reading wanted) fit = either_fits C (wanted.0 == word.0) _ _ (fills_fit C n word value (entry_of n word.0) fit) fit
data_fits C n word value (wait.TheVariants.Filled wanted) fit = fit
data_fits C n word value (wait.TheVariants.Locking lock) fit = fit

ack_fits : (C : Setting) (n : NodeParts) (word : WordId) (e : Option Entry) → Fits C n → Fits C (reg_ack_row n word e).0
ack_fits C n word None fit = fit
ack_fits C n word (Some (Valid value marked)) fit = fit
ack_fits C n word (Some (Registered value true)) fit = with_cache C n _ (cache-changed n.cache word.0 _ fit.cache) fit
ack_fits C n word (Some (Registered value false)) fit = fit
ack_fits C n word (Some (Leaving value)) fit = fit

forward_fits : (C : Setting) (n : NodeParts) (word : WordId) (core : CoreId) (e : Option Entry) → Fits C n → Fits C (reg_fwd_row n word core e).0
forward_fits C n word core None fit = fit
forward_fits C n word core (Some (Valid value marked)) fit = fit
forward_fits C n word core (Some (Registered value true)) fit = fit
forward_fits C n word core (Some (Registered value false)) fit = with_cache C n _ (cache-without n.cache word.0 fit.cache) fit
forward_fits C n word core (Some (Leaving value)) fit = fit

read_fits : (C : Setting) (n : NodeParts) (word : WordId) (reader : CoreId) (e : Option Entry) → Fits C n → Fits C (read_fwd_row C n word reader e).0
read_fits C n word reader None fit = fit
read_fits C n word reader (Some (Valid value marked)) fit = fit
read_fits C n word reader (Some (Registered value pending)) fit = fit
read_fits C n word reader (Some (Leaving value)) fit = fit

gone_fits : (C : Setting) (n : NodeParts) (word : WordId) (e : Option Entry) → Fits C n → Fits C (wb_ack_row n word e).0
gone_fits C n word None fit = fit
gone_fits C n word (Some (Valid value marked)) fit = fit
gone_fits C n word (Some (Registered value pending)) fit = fit
gone_fits C n word (Some (Leaving value)) fit = with_cache C n _ (cache-without n.cache word.0 fit.cache) fit

-- a node whose next instruction acquires a lock has its task's declaration, and the lock is the program's
pub record HasAcquire (C : Setting) (n : NodeParts) (t : TaskState) (lock : LockId) : Type 0 where
  pub next : HasNext C n t (need.TheVariants.Acquire lock)
  pub within : lock.0 < length C.program.locks

pub acquire-has : (C : Setting) (n : NodeParts) (t : TaskState) (lock : LockId) → n.task ≡ Some t → need_now C n ≡ Some (need.TheVariants.Acquire lock) → HasAcquire C n t lock
acquire-has C n t lock is now =
    let next = has-next C n t (need.TheVariants.Acquire lock) is now in
    record { next = next; within = (acquire-allowed C.program next.decl C.fuel t lock next.asks).0 }

granted_fits : (C : Setting) (n : NodeParts) (lock : LockId) (signature : Signature) (o : Option TaskState) → Fits C n → n.task ≡ o → need_now C n ≡ Some (need.TheVariants.Acquire lock)
    → Fits C (granted_to C n lock signature o).0
granted_fits C n lock signature None fit is now = fit
granted_fits C n lock signature (Some t) fit is now =
    let has = acquire-has C n t lock is now in
    with_task C n _ wait.TheVariants.None _ _ fit (ap is_some is) (advanced-fine C has.next.decl t _ has.next.asks tt (λ x. x) (task-fine C n t fit is)) (λ x. tt)
    (cache-dropped_signed n.cache signature n.phase _ fit.cache)
    (record {
      count = length-set n.signatures lock.0 _;
      tags = All-set (IsOfPhase n.phase) n.signatures lock.0 (in_phase n.phase signature) (tag-in_phase n.phase signature) fit.tags;
    })

same_lock : (a b : LockId) → (a.0 == b.0) ≡ true → a ≡ b
same_lock a b e =
    let same : a.0 ≡ b.0 = grind (arith, nat_tests) in
    let F : ℕ → LockId = λ x. record { 0 = x } in
    ap F same

grant_fits : (C : Setting) (n : NodeParts) (lock : LockId) (signature : Signature) (w : NodeWait) → Fits C n → n.waiting ≡ w → Fits C (grant_row C n lock signature w).0
grant_fits C n lock signature wait.TheVariants.None fit is = fit
grant_fits C n lock signature (wait.TheVariants.Reading word) fit is = fit
grant_fits C n lock signature (wait.TheVariants.Filled word) fit is = fit
grant_fits C n lock signature (wait.TheVariants.Locking wanted) fit is =
    let waits : NeedsLock (need_now C n) (wait.TheVariants.Locking wanted) = subst (NeedsLock (need_now C n)) is fit.waiting in
    chosen_fits C (wanted.0 == lock.0) _ _
    (λ test. granted_fits C n lock signature n.task fit refl (waits ∙ ap (λ (l : LockId). Some (need.TheVariants.Acquire l)) (same_lock wanted lock test))) fit

started_retired : (fuel : ℕ) (o : Option TaskDecl) → IfSome (option_map started o) (λ t. t.retired ≤ fuel)
started_retired fuel None = tt
started_retired fuel (Some d) = omega arith

started_held : (locks : ℕ) (o : Option TaskDecl) → IfSome (option_map started o) (HoldsOwn locks)
started_held locks None = tt
started_held locks (Some d) =
    λ l h. let none : is_held 0 l ≡ false = ap (nat_lt 0) (and_zero_l (2 ^ l)) in absurd (cc)

started_some : (o : Option TaskDecl) → is_some (option_map started o) ≡ is_some o
started_some None = refl
started_some (Some d) = refl

begins_fit : (C : Setting) (n : NodeParts) (phase : ℕ) → Fits C n → phase < length C.program.phases → Fits C (begins C n phase)
begins_fit C n phase fit within =
    record {
      core = fit.core;
      phase = λ e. within;
      task = started_some (declared C.program phase n.core);
      retired = started_retired C.fuel (declared C.program phase n.core);
      held = started_held (length C.program.locks) (declared C.program phase n.core);
      signatures = length-replicate (length C.program.locks) (empty phase);
      tags = All-replicate (IsOfPhase phase) (length C.program.locks) (empty phase) (tag-empty phase);
      cache = cache-dropped_written n.cache _ fit.cache;
      sets = fit.sets;
      ways = fit.ways;
      waiting = tt;
    }

go_fits : (C : Setting) (n : NodeParts) (phase : ℕ) → Fits C n → Fits C (go_row C n phase).0
go_fits C n phase fit =
    chosen_fits C _ _ _
    (λ test. let last = (and_parts (n.arrived && not n.halted && (phase == n.phase + 1)) (nat_lt phase (length C.program.phases)) test).1 in
    begins_fit C n phase fit (grind (arith, nat_tests))) fit

halt_fits : (C : Setting) (n : NodeParts) → Fits C n → Fits C (halt_row n).0
halt_fits C n fit = either_fits C n.arrived _ _ (with_halted C n fit) fit

pub gets-fits : (C : Setting) (n : NodeParts) (m : Message) → Fits C n → Fits C (node_gets C n m).0
unfolding node_gets
gets-fits C n (message.TheVariants.DataReply word value) fit = data_fits C n word value n.waiting fit
gets-fits C n (message.TheVariants.RegAck word) fit = ack_fits C n word (entry_of n word.0) fit
gets-fits C n (message.TheVariants.RegFwd word core) fit = forward_fits C n word core (entry_of n word.0) fit
gets-fits C n (message.TheVariants.ReadFwd word reader) fit = read_fits C n word reader (entry_of n word.0) fit
gets-fits C n (message.TheVariants.WbAck word) fit = gone_fits C n word (entry_of n word.0) fit
gets-fits C n (message.TheVariants.Grant lock signature) fit = grant_fits C n lock signature n.waiting fit refl
gets-fits C n (message.TheVariants.Go phase) fit = go_fits C n phase.0 fit
gets-fits C n message.TheVariants.Halt fit = halt_fits C n fit
gets-fits C n (message.TheVariants.ReadReq word reader) fit = fit
gets-fits C n (message.TheVariants.RegReq word core) fit = fit
gets-fits C n (message.TheVariants.WriteBack word value core) fit = fit
gets-fits C n (message.TheVariants.Acquire lock core) fit = fit
gets-fits C n (message.TheVariants.Release lock core signature) fit = fit
gets-fits C n (message.TheVariants.Arrived core bad) fit = fit

-- ---- the node of a core as a run begins

pub opened-fits : (C : Setting) (core : ℕ) → core < C.shape.cores → Fits C (initial_node C core)
opened-fits C core within =
    record {
      core = within;
      phase = λ e. first_phase (length C.program.phases) e;
      task = started_some (declared C.program 0 core);
      retired = started_retired C.fuel (declared C.program 0 core);
      held = started_held (length C.program.locks) (declared C.program 0 core);
      signatures = length-replicate (length C.program.locks) (empty 0);
      tags = All-replicate (IsOfPhase 0) (length C.program.locks) (empty 0) (tag-empty 0);
      cache = cache-empty C.shape.sets C.shape.ways;
      sets = refl;
      ways = refl;
      waiting = tt;
    }
  where
    first_phase : (n : ℕ) → (n == 0) ≡ false → 0 < n
    first_phase n e = grind (arith, nat_tests)
