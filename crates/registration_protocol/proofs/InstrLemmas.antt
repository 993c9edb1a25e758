-- An instruction, part by part, and what its permission to go on tells.
use Rattle.std.proofs.Common.{◌≡◌, ℕ, Bool, true, false, cond, not, ◌&&◌, ◌||◌, Option, Some, None, refl, ap, ◌∙◌, subst, sym, arith}
use Rattle.std.proofs.lemmas.Bool.{and_parts}
use Rattle.std.specs.Option.{is_some}
use Rattle.dn_base.specs.declared.ids.WordId.{WordId}
use Rattle.dn_base.specs.declared.ids.LockId.{LockId}
use Rattle.region_table.specs.declared.declared.TaskDecl.{TaskDecl}
use Rattle.region_table.specs.Tasks.{declared}
use Rattle.rv_core.specs.declared.task.TaskState.{TaskState}
use Rattle.rv_core.specs.declared.task.End.{End}
use Rattle.rv_core.specs.declared.need.Need as need
use Rattle.rv_core.specs.declared.need.Need.{Need}
use Rattle.rv_core.specs.Need.{need_of}
use Rattle.rv_core.specs.Kinds.{IsLoad, IsStore, IsAdvance}
use Rattle.rv_core.specs.Step.{advanced, merged_of}
use Rattle.rv_core.proofs.Completions.{acquire-allowed, advanced-held, loaded-held, stopped-held, advanced-retired, loaded-retired, stopped-retired, advanced-end, loaded-end, stopped-end}
use Rattle.word_cache.specs.declared.row.Entry.{Entry}
use Rattle.word_cache.specs.declared.row.Entry.TheVariants.{Valid, Registered, Leaving}
use Rattle.word_cache.specs.Cache.{may_go}
use Rattle.word_cache.proofs.LookLemmas.{lookup-put, lookup-touched}
use Rattle.registration_protocol.specs.declared.node.NodeWait as wait
use Rattle.registration_protocol.specs.declared.node.NodeWait.{NodeWait}
use Rattle.registration_protocol.specs.Node.{NodeParts, Setting, need_now, need_if, need_by, entry_of, is_active, is_ready, is_settled, is_running, waits_for_nothing}
use Rattle.registration_protocol.specs.OwnEvents.{lets, load_row, store_row, instr_row, instr_by, instructed, may_instr, may_evict, may_arrive, makes_room, wanted_by, written_by, written_if, written_now}
use Rattle.registration_protocol.specs.Changes.{on_load, on_store}
use Rattle.registration_protocol.specs.Parts.{MayInstruct, MayEvict, MayArrive, accessed, Instructs, completes, loads_to, task_by, Retires, Acquires}
use Rattle.registration_protocol.proofs.EntryLemmas.{at_word, steady}

-- ---- what the permissions tell

inactive : (a b : Bool) → not (a || b) ≡ true → (a ≡ false) × (b ≡ false)
inactive true b e = absurd (cc)
inactive false true e = absurd (cc)
inactive false false e = (refl, refl)

going_needs : (e : Option End) (x y : Need) → cond (is_some e) None (Some x) ≡ Some y → x ≡ y
going_needs None x y e = cc
going_needs (Some by) x y e = absurd (cc)

-- a task whose next instruction has a need goes on, and is declared
pub record HasNext (C : Setting) (n : NodeParts) (t : TaskState) (x : Need) : Type 0 where
  pub decl : TaskDecl
  pub declares : declared C.program n.phase n.core ≡ Some decl
  pub going : t.end ≡ None
  pub asks : need_of C.program decl C.fuel t ≡ x

next_by : (C : Setting) (n : NodeParts) (t : TaskState) (x : Need) (e : Option End) (o : Option TaskDecl) → t.end ≡ e → declared C.program n.phase n.core ≡ o
    → cond (is_some e) None (need_by C o t) ≡ Some x → HasNext C n t x
next_by C n t x (Some by) o going there now = absurd (cc)
next_by C n t x None None going there now = absurd (cc)
next_by C n t x None (Some d) going there now =
    record { decl = d; declares = there; going = going; asks = going_needs None _ _ now }

pub has-next : (C : Setting) (n : NodeParts) (t : TaskState) (x : Need) → n.task ≡ Some t → need_now C n ≡ Some x → HasNext C n t x
has-next C n t x is now =
    next_by C n t x t.end (declared C.program n.phase n.core) refl refl (subst (λ (o : Option TaskState). need_if C n.phase n.core o ≡ Some x) is now)

may_by : (C : Setting) (n : NodeParts) (o : Option TaskState) (p : Option Need) → (is_active n && is_ready n.waiting) ≡ true → lets n p ≡ true → n.task ≡ o → need_now C n ≡ p → MayInstruct C n
may_by C n o None first allows has now = absurd (cc)
may_by C n None (Some x) first allows has now =
    let none : need_if C n.phase n.core None ≡ Some x = subst (λ (o : Option TaskState). need_if C n.phase n.core o ≡ Some x) has now in
    absurd (cc)
may_by C n (Some t) (Some x) first allows has now =
    let parts = and_parts (is_active n) (is_ready n.waiting) first in
    let marks = inactive n.halted n.arrived parts.0 in
    let next = has-next C n t x has now in
    record {
      task = t;
      decl = next.decl;
      needs = x;
      has = has;
      going = next.going;
      declares = next.declares;
      asks = next.asks;
      now = now;
      ready = parts.1;
      allows = allows;
      arrived = marks.1;
      halted = marks.0;
    }

pub may-instruct : (C : Setting) (n : NodeParts) → may_instr C n ≡ true → MayInstruct C n
may-instruct C n may =
    let parts = and_parts (is_active n && is_ready n.waiting) (lets n (need_now C n)) may in
    may_by C n n.task (need_now C n) parts.0 parts.1 refl refl

waits_none : (w : NodeWait) → waits_for_nothing w ≡ true → w ≡ wait.TheVariants.None
waits_none wait.TheVariants.None e = refl
waits_none (wait.TheVariants.Reading word) e = absurd (cc)
waits_none (wait.TheVariants.Filled word) e = absurd (cc)
waits_none (wait.TheVariants.Locking lock) e = absurd (cc)

room_goes : (n : NodeParts) (w : ℕ) (o : Option WordId) → makes_room n w o ≡ true → may_go (entry_of n w) ≡ true
room_goes n w None e = absurd (cc)
room_goes n w (Some wanted) e = (and_parts _ (may_go (entry_of n w)) e).1

pub may-evict : (C : Setting) (n : NodeParts) (w : ℕ) → may_evict C n w ≡ true → MayEvict C n w
may-evict C n w may =
    let parts = and_parts (is_active n && waits_for_nothing n.waiting) (makes_room n w (wanted_by n (need_now C n))) may in
    let first = and_parts (is_active n) (waits_for_nothing n.waiting) parts.0 in
    let marks = inactive n.halted n.arrived first.0 in
    record {
      room = parts.1;
      evictable = room_goes n w (wanted_by n (need_now C n)) parts.1;
      waiting = waits_none n.waiting first.1;
      arrived = marks.1;
      halted = marks.0;
    }

not_going : (b : Bool) → not b ≡ true → b ≡ false
not_going true e = absurd (cc)
not_going false e = refl

pub may-arrive : (n : NodeParts) → may_arrive n ≡ true → MayArrive n
may-arrive n may =
    let parts = and_parts (is_active n && not (is_running n.task)) (is_settled n) may in
    let first = and_parts (is_active n) (not (is_running n.task)) parts.0 in
    let marks = inactive n.halted n.arrived first.0 in
    record { done = not_going (is_running n.task) first.1; settled = parts.1; arrived = marks.1; halted = marks.0 }

-- ---- the row of an instruction

pub instructed-is : (C : Setting) (n : NodeParts) (d : TaskDecl) (t : TaskState) (x : Need) → declared C.program n.phase n.core ≡ Some d → n.task ≡ Some t → need_now C n ≡ Some x
    → instructed C n ≡ instr_row C n d t x
unfolding instructed
instructed-is C n d t x there has now =
    ap (λ (o : Option TaskDecl). instr_by C n o n.task (need_now C n)) there
    ∙ ap (λ (o : Option TaskState). instr_by C n (Some d) o (need_now C n)) has
    ∙ ap (λ (o : Option Need). instr_by C n (Some d) (Some t) o) now

load_parts : (C : Setting) (n : NodeParts) (d : TaskDecl) (t : TaskState) (word : WordId) (e : Option Entry) → n.task ≡ Some t → entry_of n word.0 ≡ e
    → Instructs C n d t (need.TheVariants.Load word) e (load_row C n d t word e).0 (load_row C n d t word e).1
load_parts C n d t word None has is =
    record {
      phase_kept = record { core = refl; phase = refl; arrived = refl; halted = refl };
      sets = refl;
      ways = refl;
      entries = λ w. steady (on_load d word.0) word.0 w n.cache.pairs None is refl;
      task = has;
      waiting = refl;
      signatures = refl;
      sent = refl;
      seen = refl;
    }
load_parts C n d t word (Some (Valid value marked)) has is =
    record {
      phase_kept = record { core = refl; phase = refl; arrived = refl; halted = refl };
      sets = refl;
      ways = refl;
      entries = λ w. lookup-put word _ w n.cache.pairs ∙ at_word (on_load d word.0) word.0 w n.cache.pairs (Some (Valid value marked)) _ is refl;
      task = refl;
      waiting = refl;
      signatures = refl;
      sent = refl;
      seen = refl;
    }
load_parts C n d t word (Some (Registered value pending)) has is =
    record {
      phase_kept = record { core = refl; phase = refl; arrived = refl; halted = refl };
      sets = refl;
      ways = refl;
      entries = λ w. lookup-touched word w n.cache.pairs ∙ steady (on_load d word.0) word.0 w n.cache.pairs (Some (Registered value pending)) is refl;
      task = refl;
      waiting = refl;
      signatures = refl;
      sent = refl;
      seen = refl;
    }
load_parts C n d t word (Some (Leaving value)) has is =
    record {
      phase_kept = record { core = refl; phase = refl; arrived = refl; halted = refl };
      sets = refl;
      ways = refl;
      entries = λ w. steady (on_load d word.0) word.0 w n.cache.pairs (Some (Leaving value)) is refl;
      task = has;
      waiting = refl;
      signatures = refl;
      sent = refl;
      seen = refl;
    }

store_parts : (C : Setting) (n : NodeParts) (d : TaskDecl) (t : TaskState) (word : WordId) (whole : Bool) (e : Option Entry) → n.task ≡ Some t → entry_of n word.0 ≡ e
    → Instructs C n d t (need.TheVariants.Store word whole) e (store_row C n d t word whole e).0 (store_row C n d t word whole e).1
store_parts C n d t word true None has is =
    record {
      phase_kept = record { core = refl; phase = refl; arrived = refl; halted = refl };
      sets = refl;
      ways = refl;
      entries = λ w. lookup-put word _ w n.cache.pairs ∙ at_word (on_store C t true) word.0 w n.cache.pairs None _ is refl;
      task = refl;
      waiting = refl;
      signatures = refl;
      sent = refl;
      seen = refl;
    }
store_parts C n d t word false None has is =
    record {
      phase_kept = record { core = refl; phase = refl; arrived = refl; halted = refl };
      sets = refl;
      ways = refl;
      entries = λ w. steady (on_store C t false) word.0 w n.cache.pairs None is refl;
      task = has;
      waiting = refl;
      signatures = refl;
      sent = refl;
      seen = refl;
    }
store_parts C n d t word whole (Some (Valid value marked)) has is =
    record {
      phase_kept = record { core = refl; phase = refl; arrived = refl; halted = refl };
      sets = refl;
      ways = refl;
      entries = λ w. lookup-put word _ w n.cache.pairs ∙ at_word (on_store C t whole) word.0 w n.cache.pairs (Some (Valid value marked)) _ is refl;
      task = refl;
      waiting = refl;
      signatures = refl;
      sent = refl;
      seen = refl;
    }
store_parts C n d t word whole (Some (Registered value pending)) has is =
    record {
      phase_kept = record { core = refl; phase = refl; arrived = refl; halted = refl };
      sets = refl;
      ways = refl;
      entries = λ w. lookup-put word _ w n.cache.pairs ∙ at_word (on_store C t whole) word.0 w n.cache.pairs (Some (Registered value pending)) _ is refl;
      task = refl;
      waiting = refl;
      signatures = refl;
      sent = refl;
      seen = refl;
    }
store_parts C n d t word whole (Some (Leaving value)) has is =
    record {
      phase_kept = record { core = refl; phase = refl; arrived = refl; halted = refl };
      sets = refl;
      ways = refl;
      entries = λ w. steady (on_store C t whole) word.0 w n.cache.pairs (Some (Leaving value)) is refl;
      task = has;
      waiting = refl;
      signatures = refl;
      sent = refl;
      seen = refl;
    }

pub instr-parts : (C : Setting) (n : NodeParts) (d : TaskDecl) (t : TaskState) (x : Need) → n.task ≡ Some t → Instructs C n d t x (accessed n x) (instr_row C n d t x).0 (instr_row C n d t x).1
instr-parts C n d t need.TheVariants.Local has = record { phase_kept = record { core = refl; phase = refl; arrived = refl; halted = refl }; sets = refl; ways = refl; entries = λ w. refl; task = refl; waiting = refl; signatures = refl; sent = refl; seen = refl }
instr-parts C n d t (need.TheVariants.End by) has = record { phase_kept = record { core = refl; phase = refl; arrived = refl; halted = refl }; sets = refl; ways = refl; entries = λ w. refl; task = refl; waiting = refl; signatures = refl; sent = refl; seen = refl }
instr-parts C n d t (need.TheVariants.Acquire lock) has = record { phase_kept = record { core = refl; phase = refl; arrived = refl; halted = refl }; sets = refl; ways = refl; entries = λ w. refl; task = has; waiting = refl; signatures = refl; sent = refl; seen = refl }
instr-parts C n d t (need.TheVariants.Release lock) has = record { phase_kept = record { core = refl; phase = refl; arrived = refl; halted = refl }; sets = refl; ways = refl; entries = λ w. refl; task = refl; waiting = refl; signatures = refl; sent = refl; seen = refl }
instr-parts C n d t (need.TheVariants.Load word) has = load_parts C n d t word (entry_of n word.0) has refl
instr-parts C n d t (need.TheVariants.Store word whole) has = store_parts C n d t word whole (entry_of n word.0) has refl

-- ---- the task after an instruction

load_retires : (C : Setting) (d : TaskDecl) (t : TaskState) (word : WordId) (e : Option Entry) → need_of C.program d C.fuel t ≡ need.TheVariants.Load word
    → Retires t (need.TheVariants.Load word) e (loads_to C t e)
load_retires C d t word None is = record { retired = omega arith; held = refl; end = refl }
load_retires C d t word (Some (Valid value marked)) is =
    let load : IsLoad (need_of C.program d C.fuel t) = subst IsLoad (sym is) tt in
    record { retired = loaded-retired C.program d C.fuel t value load; held = loaded-held C.program d C.fuel t value load; end = loaded-end C.program value t }
load_retires C d t word (Some (Registered value pending)) is =
    let load : IsLoad (need_of C.program d C.fuel t) = subst IsLoad (sym is) tt in
    record { retired = loaded-retired C.program d C.fuel t value load; held = loaded-held C.program d C.fuel t value load; end = loaded-end C.program value t }
load_retires C d t word (Some (Leaving value)) is = record { retired = omega arith; held = refl; end = refl }

store_retires : (C : Setting) (d : TaskDecl) (t : TaskState) (word : WordId) (whole : Bool) (e : Option Entry) (b : Bool) → need_of C.program d C.fuel t ≡ need.TheVariants.Store word whole
    → completes whole e ≡ b → Retires t (need.TheVariants.Store word whole) e (cond b (advanced C.program t) t)
store_retires C d t word whole e true is done =
    let once = advanced-retired C.program d C.fuel t (subst IsAdvance (sym is) tt) in
    record { retired = rw done once; held = advanced-held C.program d C.fuel t _ is tt; end = advanced-end C.program t }
store_retires C d t word whole e false is done = record { retired = rw done (omega arith); held = refl; end = refl }

pub instr-retires : (C : Setting) (d : TaskDecl) (t : TaskState) (x : Need) (e : Option Entry) → need_of C.program d C.fuel t ≡ x → Retires t x e (task_by C t x e)
instr-retires C d t need.TheVariants.Local e is =
    record { retired = advanced-retired C.program d C.fuel t (subst IsAdvance (sym is) tt); held = advanced-held C.program d C.fuel t _ is tt; end = advanced-end C.program t }
instr-retires C d t (need.TheVariants.End by) e is = record { retired = stopped-retired by t; held = stopped-held by t; end = stopped-end by t }
instr-retires C d t (need.TheVariants.Load word) e is = load_retires C d t word e is
instr-retires C d t (need.TheVariants.Store word whole) e is = store_retires C d t word whole e (completes whole e) is refl
instr-retires C d t (need.TheVariants.Acquire lock) e is = record { retired = omega arith; held = refl; end = refl }
instr-retires C d t (need.TheVariants.Release lock) e is =
    record { retired = advanced-retired C.program d C.fuel t (subst IsAdvance (sym is) tt); held = advanced-held C.program d C.fuel t _ is tt; end = advanced-end C.program t }

-- the task that a lock is granted to
pub grant-acquires : (C : Setting) (n : NodeParts) (t : TaskState) (lock : LockId) → n.task ≡ Some t → need_now C n ≡ Some (need.TheVariants.Acquire lock) → Acquires C t lock (advanced C.program t)
grant-acquires C n t lock has now =
    let next = has-next C n t (need.TheVariants.Acquire lock) has now in
    let allowed = acquire-allowed C.program next.decl C.fuel t lock next.asks in
    record {
      within = allowed.0;
      free = allowed.1;
      retired = advanced-retired C.program next.decl C.fuel t (subst IsAdvance (sym next.asks) tt);
      held = advanced-held C.program next.decl C.fuel t _ next.asks tt;
      end = advanced-end C.program t;
    }

-- ---- the word that a store writes

written_is : (C : Setting) (n : NodeParts) (o : Option TaskState) (x : Option Need) (t : TaskState) (word : WordId) (whole : Bool) → o ≡ Some t → x ≡ Some (need.TheVariants.Store word whole)
    → written_if C n o x ≡ written_by C t word whole (entry_of n word.0)
written_is C n o x t word whole has now = rw (has, now) refl

pub written-is : (C : Setting) (n : NodeParts) (t : TaskState) (word : WordId) (whole : Bool) → n.task ≡ Some t → need_now C n ≡ Some (need.TheVariants.Store word whole)
    → written_now C n ≡ written_by C t word whole (entry_of n word.0)
unfolding written_now
written-is C n t word whole has now = written_is C n n.task (need_now C n) t word whole has now

written_same : (C : Setting) (t : TaskState) (word v : WordId) (old value : ℕ) (pending : Bool) → ◌≡◌ {A = Option (WordId × ℕ)} (Some (word, old)) (Some (v, value))
    → (p : Bool) × (v ≡ word) × (Some (Registered old pending) ≡ Some (Registered value p))
written_same C t word v old value pending is =
    let pair : Option (WordId × ℕ) → WordId × ℕ = λ (o : Option (WordId × ℕ)). elim o as (λ _. WordId × ℕ) [ None ↦ (word, old) | Some p ↦ p ] in
    let one : word ≡ v = ap (λ (o : Option (WordId × ℕ)). (pair o).0) is in
    let two : old ≡ value = ap (λ (o : Option (WordId × ℕ)). (pair o).1) is in
    (pending, sym one, ap (λ (x : ℕ). let o : Option Entry = Some (Registered x pending) in o) two)

-- what is written is what the word's entry has then, which is registered
pub written-entry : (C : Setting) (t : TaskState) (word v : WordId) (whole : Bool) (e : Option Entry) (value : ℕ) → written_by C t word whole e ≡ Some (v, value)
    → (pending : Bool) × (v ≡ word) × (on_store C t whole e ≡ Some (Registered value pending))
written-entry C t word v true None value is = written_same C t word v (merged_of C.program 0 t) value true is
written-entry C t word v false None value is = absurd (cc)
written-entry C t word v whole (Some (Valid old marked)) value is = written_same C t word v (merged_of C.program old t) value true is
written-entry C t word v whole (Some (Registered old pending)) value is = written_same C t word v (merged_of C.program old t) value pending is
written-entry C t word v whole (Some (Leaving old)) value is = absurd (cc)

-- an instruction that is no store writes no word
pub written-none : (C : Setting) (n : NodeParts) (x : Need) → need_now C n ≡ Some x → (IsStore x → ⊥) → written_now C n ≡ None
unfolding written_now
written-none C n x now other = by_task n.task (need_now C n) x now other
  where
    by_task : (o : Option TaskState) (p : Option Need) (x : Need) → p ≡ Some x → (IsStore x → ⊥) → written_if C n o p ≡ None
    by_task None p x is other = refl
    by_task (Some t) None x is other = refl
    by_task (Some t) (Some need.TheVariants.Local) x is other = refl
    by_task (Some t) (Some (need.TheVariants.End by)) x is other = refl
    by_task (Some t) (Some (need.TheVariants.Load word)) x is other = refl
    by_task (Some t) (Some (need.TheVariants.Store word whole)) x is other =
        let same : need.TheVariants.Store word whole ≡ x = cc in
        absurd (other (subst IsStore same tt))
    by_task (Some t) (Some (need.TheVariants.Acquire lock)) x is other = refl
    by_task (Some t) (Some (need.TheVariants.Release lock)) x is other = refl
