-- The changes of an event lead from the task that its core had to the one that it has, where its phase stays.
use Rattle.std.proofs.Common.{◌≡◌, ℕ, ◌+◌, ◌==◌, ◌&&◌, not, nat_lt, Bool, true, false, cond, length, List, [], ◌++◌, Option, Some, None, refl, sym, ap, subst, ◌∙◌, arith}
use Rattle.std.proofs.lemmas.Bool.Decides.{nat_tests}
use Rattle.std.proofs.lemmas.Option.{same_Some}
use Rattle.std.specs.Option.{is_some}
use Rattle.std.specs.List.{fold}
use Rattle.dn_base.specs.declared.ids.LoadSeen.{LoadSeen}
use Rattle.dn_base.specs.declared.ids.LockId.{LockId}
use Rattle.dn_base.specs.declared.ids.WordId.{WordId}
use Rattle.region_table.specs.declared.declared.TaskDecl.{TaskDecl}
use Rattle.rv_core.specs.declared.need.Need.{Need}
use Rattle.rv_core.specs.declared.need.Need.TheVariants as need
use Rattle.rv_core.specs.declared.task.End.{End}
use Rattle.rv_core.specs.declared.task.End.TheVariants as cause
use Rattle.rv_core.specs.declared.task.TaskState.{TaskState}
use Rattle.rv_core.specs.Kinds.{IsLoad, IsAdvance}
use Rattle.rv_core.specs.Need.{need_of}
use Rattle.rv_core.specs.Step.{advanced, loaded_of}
use Rattle.rv_core.specs.Task.{stopped, retires_at}
use Rattle.rv_core.proofs.Completions.{advanced-retired, loaded-retired, advanced-end, loaded-end}
use Rattle.write_signature.specs.declared.signature.Signature.{Signature}
use Rattle.message_net.specs.declared.message.Message.{Message}
use Rattle.message_net.specs.declared.message.Message.TheVariants as message
use Rattle.word_cache.specs.declared.row.Entry.{Entry}
use Rattle.word_cache.specs.declared.row.Entry.TheVariants.{Valid, Registered, Leaving}
use Rattle.word_cache.specs.Cache.{has_room, put}
use Rattle.registration_protocol.specs.declared.node.NodeWait.{NodeWait}
use Rattle.registration_protocol.specs.declared.node.NodeWait.TheVariants as wait
use Rattle.registration_protocol.specs.Fit.{NeedsLock}
use Rattle.registration_protocol.specs.Node.{NodeParts, Setting, need_now, entry_of, keeping}
use Rattle.registration_protocol.specs.OwnEvents.{instructed, evicted, arrives, may_instr}
use Rattle.registration_protocol.specs.Messages.{node_gets, data_reply_row, fills, grant_row, granted_to, holds_now, go_row, halt_row, begins, becomes}
use Rattle.registration_protocol.specs.Parts.{accessed, completes, task_by}
use Rattle.registration_protocol.proofs.InstrLemmas.{may-instruct, instructed-is, instr-parts, has-next}
use Rattle.registration_protocol.proofs.MessageLemmas.{ack-kept, forward-kept, read-kept, back-kept}
use Rattle.registration_protocol.proofs.PhaseLemmas.{evict-keeps}
use Rattle.run_changes.specs.declared.change.Change.{Change}
use Rattle.run_changes.specs.declared.change.Change.TheVariants as change
use Rattle.run_changes.specs.declared.look.EntryBefore.{EntryBefore}
use Rattle.run_changes.specs.Looks.{node_look}
use Rattle.run_changes.specs.Changes.{change_unless, entry_changes, end_change, task_change, wait_change, same_wait, locks_held, lock_changes, flag_change, core_changes, node_changes}
use Rattle.run_changes.specs.Applied.{pc_step, retired_step, end_step, TaskFollows}
use Rattle.run_changes.proofs.Applied.{Leaves, all-append, all-entries, all-locks, all-flag, all-unless, skip, behind, told-all, parts}
use Rattle.run_changes.proofs.Status.{by-phase}

-- what an event does to the task of a node that stays in its phase
abbrev pub TaskMoves : NodeParts → NodeParts → Type 0
TaskMoves n m = (n.phase == m.phase) ≡ true → (t u : TaskState) → n.task ≡ Some t → m.task ≡ Some u → TaskFollows t (end_change t u u.end) u

-- ---- one change, or none

nothing-told : (t : TaskState) (b : Bool) (c : Change) → b ≡ true → TaskFollows t (change_unless b c) t
nothing-told t true c e = record { pc = refl; retired = refl; end = refl }
nothing-told t false c e = absurd (cc)

same-by : (t : TaskState) (e : Option End) → t.end ≡ e → TaskFollows t (end_change t t e) t
same-by t None is = nothing-told t (t.retired == t.retired) (change.Retired t.pc) (grind (arith, nat_tests))
same-by t (Some by) is = nothing-told t (is_some t.end) (change.Ended by) (rw (is) refl)

stays : (t : TaskState) → TaskFollows t (end_change t t t.end) t
stays t = same-by t t.end refl

retired-told : (t u : TaskState) (b : Bool) → b ≡ false → u.retired ≡ t.retired + 1 → u.end ≡ t.end → TaskFollows t (change_unless b (change.Retired u.pc)) u
retired-told t u false e once end = record { pc = refl; retired = sym once; end = sym end }
retired-told t u true e once end = absurd (cc)

next-by : (t u : TaskState) (e : Option End) → e ≡ None → u.retired ≡ t.retired + 1 → u.end ≡ t.end → TaskFollows t (end_change t u e) u
next-by t u None none once end = retired-told t u (t.retired == u.retired) (grind (arith, nat_tests, once)) once end
next-by t u (Some by) none once end = absurd (cc)

retires : (t u : TaskState) → t.end ≡ None → u.retired ≡ t.retired + 1 → u.end ≡ t.end → TaskFollows t (end_change t u u.end) u
retires t u going once end = next-by t u u.end (end ∙ going) once end

ended-told : (t u : TaskState) (by : End) (b : Bool) → b ≡ false → u.pc ≡ t.pc → u.retired ≡ t.retired + retires_at by → u.end ≡ Some by → TaskFollows t (change_unless b (change.Ended by)) u
ended-told t u by false e pc once end = record { pc = sym pc; retired = sym once; end = sym end }
ended-told t u by true e pc once end = absurd (cc)

ends : (t : TaskState) (by : End) → t.end ≡ None → TaskFollows t (end_change t (stopped by t) (stopped by t).end) (stopped by t)
ends t cause.Finished going = ended-told t (stopped cause.Finished t) cause.Finished (is_some t.end) (rw (going) refl) refl refl refl
ends t cause.Fuel going = ended-told t (stopped cause.Fuel t) cause.Fuel (is_some t.end) (rw (going) refl) refl (omega arith) refl
ends t (cause.Trap kind pc value) going = ended-told t (stopped (cause.Trap kind pc value) t) (cause.Trap kind pc value) (is_some t.end) (rw (going) refl) refl (omega arith) refl

-- ---- the changes of a core

module _ {X : Type 0} (step : X → Change → X) (gone : (w : WordId) → Leaves step (change.Gone w)) (holds : (w : WordId) (e : Entry) → Leaves step (change.Holds w e)) (waits : (y : NodeWait) → Leaves step (change.Waits y))
    (takes : (l : LockId) → Leaves step (change.Takes l)) (gives : (l : LockId) → Leaves step (change.Gives l)) (signed : (l : LockId) (s : Signature) → Leaves step (change.Signed l s)) (arrived : Leaves step change.Arrived)
    (halted : Leaves step change.Halted) (loaded : (s : LoadSeen) → Leaves step (change.Loaded s)) (stored : (w : WordId) (v : ℕ) → Leaves step (change.Stored w v)) where
  task-alone : (x y : X) (n m : NodeParts) (es : List EntryBefore) → fold step x (task_change n.task m.task) ≡ y → fold step x (entry_changes m es ++ parts n m es []) ≡ y
  task-alone x y n m es is =
      skip step x (entry_changes m es) (parts n m es []) (all-entries (Leaves step) gone holds m es)
      ∙ behind step x y (task_change n.task m.task) _ is
      (all-append (Leaves step) (wait_change n.waiting m.waiting) _ (all-unless (Leaves step) (same_wait n.waiting m.waiting) (change.Waits m.waiting) (waits m.waiting))
      (all-append (Leaves step) (lock_changes (locks_held n.task) (locks_held m.task) n.signatures 0 m.signatures) _
      (all-locks (Leaves step) takes gives signed (locks_held n.task) (locks_held m.task) n.signatures 0 m.signatures)
      (all-append (Leaves step) (flag_change n.arrived m.arrived change.Arrived) _ (all-flag (Leaves step) n.arrived m.arrived change.Arrived arrived)
      (all-flag (Leaves step) n.halted m.halted change.Halted halted))))

  pub to-task : (x y : X) (n m : NodeParts) (needs : Option Need) (es : List EntryBefore) (seen : Option LoadSeen) → (n.phase == m.phase) ≡ true → fold step x (task_change n.task m.task) ≡ y
      → fold step x (core_changes (node_look n needs es) seen (Some m)) ≡ y
  to-task x y n m needs es seen same is =
      behind step x y (node_changes (node_look n needs es) m) _
      (by-phase step x y n m needs es (λ e. task-alone x y n m es is) (λ e. absurd (cc)))
      (told-all step n m needs es seen loaded stored)

told-of : (n m : NodeParts) (t u : TaskState) → n.task ≡ Some t → m.task ≡ Some u → task_change n.task m.task ≡ end_change t u u.end
told-of n m t u has is = rw (has, is) refl

pub task-leads : (n m : NodeParts) (needs : Option Need) (es : List EntryBefore) (seen : Option LoadSeen) (t u : TaskState) → TaskMoves n m → (n.phase == m.phase) ≡ true → n.task ≡ Some t → m.task ≡ Some u
    → TaskFollows t (core_changes (node_look n needs es) seen (Some m)) u
task-leads n m needs es seen t u moves same has is =
    let f = moves same t u has is in
    let told = told-of n m t u has is in
    record {
      pc =
          to-task pc_step (λ w x. refl) (λ w e x. refl) (λ y x. refl) (λ l x. refl) (λ l x. refl) (λ l s x. refl) (λ x. refl) (λ x. refl) (λ s x. refl) (λ w v x. refl)
          t.pc u.pc n m needs es seen same (ap (fold pc_step t.pc) told ∙ f.pc);
      retired =
          to-task retired_step (λ w x. refl) (λ w e x. refl) (λ y x. refl) (λ l x. refl) (λ l x. refl) (λ l s x. refl) (λ x. refl) (λ x. refl) (λ s x. refl) (λ w v x. refl)
          t.retired u.retired n m needs es seen same (ap (fold retired_step t.retired) told ∙ f.retired);
      end =
          to-task end_step (λ w x. refl) (λ w e x. refl) (λ y x. refl) (λ l x. refl) (λ l x. refl) (λ l s x. refl) (λ x. refl) (λ x. refl) (λ s x. refl) (λ w v x. refl)
          t.end u.end n m needs es seen same (ap (fold end_step t.end) told ∙ f.end);
    }

-- ---- events

-- a node whose task stays, and one with another task
keeps : (n m : NodeParts) → m.task ≡ n.task → TaskMoves n m
keeps n m kept = λ same t u has is. let one : u ≡ t = same_Some u t (sym is ∙ kept ∙ has) in rw (one) (stays t)

becomes-task : (n m : NodeParts) (t u : TaskState) → n.task ≡ Some t → m.task ≡ Some u → TaskFollows t (end_change t u u.end) u → TaskMoves n m
becomes-task n m t u has is f = λ same v w hasv isw.
    let a : v ≡ t = same_Some v t (sym hasv ∙ has) in
    let b : w ≡ u = same_Some w u (sym isw ∙ is) in
    rw (a, b) f

module _ (C : Setting) (d : TaskDecl) (t : TaskState) (going : t.end ≡ None) where
  advances : IsAdvance (need_of C.program d C.fuel t) → TaskFollows t (end_change t (advanced C.program t) (advanced C.program t).end) (advanced C.program t)
  advances k = retires t (advanced C.program t) going (advanced-retired C.program d C.fuel t k) (advanced-end C.program t)

  loads : (value : ℕ) → IsLoad (need_of C.program d C.fuel t) → TaskFollows t (end_change t (loaded_of C.program value t) (loaded_of C.program value t).end) (loaded_of C.program value t)
  loads value k = retires t (loaded_of C.program value t) going (loaded-retired C.program d C.fuel t value k) (loaded-end C.program value t)

  stores : (b : Bool) → IsAdvance (need_of C.program d C.fuel t) → TaskFollows t (end_change t (cond b (advanced C.program t) t) (cond b (advanced C.program t) t).end) (cond b (advanced C.program t) t)
  stores true k = advances k
  stores false k = stays t

  by-need : (x : Need) (e : Option Entry) → need_of C.program d C.fuel t ≡ x → TaskFollows t (end_change t (task_by C t x e) (task_by C t x e).end) (task_by C t x e)
  by-need need.Local e is = advances (subst IsAdvance (sym is) tt)
  by-need (need.Release lock) e is = advances (subst IsAdvance (sym is) tt)
  by-need (need.Acquire lock) e is = stays t
  by-need (need.End by) e is = ends t by going
  by-need (need.Store word whole) e is = stores (completes whole e) (subst IsAdvance (sym is) tt)
  by-need (need.Load word) None is = stays t
  by-need (need.Load word) (Some (Leaving value)) is = stays t
  by-need (need.Load word) (Some (Valid value marked)) is = loads value (subst IsLoad (sym is) tt)
  by-need (need.Load word) (Some (Registered value pending)) is = loads value (subst IsLoad (sym is) tt)

pub tasks-instr : (C : Setting) (n : NodeParts) → may_instr C n ≡ true → TaskMoves n (instructed C n).0
tasks-instr C n may =
    let h = may-instruct C n may in
    let row = instr-parts C n h.decl h.task h.needs h.has in
    let is : (instructed C n).0.task ≡ Some (task_by C h.task h.needs (accessed n h.needs)) = rw (instructed-is C n h.decl h.task h.needs h.declares h.has h.now) row.task in
    becomes-task n (instructed C n).0 h.task (task_by C h.task h.needs (accessed n h.needs)) h.has is (by-need C h.decl h.task h.going h.needs (accessed n h.needs) h.asks)

pub tasks-evict : (C : Setting) (n : NodeParts) (word : WordId) → TaskMoves n (evicted C n word).0
tasks-evict C n word = keeps n (evicted C n word).0 (evict-keeps C n word).task

pub tasks-arrive : (n : NodeParts) → TaskMoves n (arrives n).0
tasks-arrive n = keeps n (arrives n).0 refl

data-kept : (n : NodeParts) (word : WordId) (value : ℕ) (w : NodeWait) → (data_reply_row n word value w).0.task ≡ n.task
data-kept n word value wait.None = refl
data-kept n word value (wait.Filled other) = refl
data-kept n word value (wait.Locking lock) = refl
data-kept n word value (wait.Reading wanted) = by_test (wanted.0 == word.0) where
  by_room : (r : Bool) → (cond r (becomes (record (keeping n (put word (Valid value false) n.cache.pairs)) { waiting = wait.Filled word })) (becomes n)).0.task ≡ n.task
  by_room true = refl
  by_room false = refl

  by_entry : (e : Option Entry) → (fills n word value e).0.task ≡ n.task
  by_entry None = by_room (has_room n.cache word.0)
  by_entry (Some e) = refl

  by_test : (t : Bool) → (cond t (fills n word value (entry_of n word.0)) (becomes n)).0.task ≡ n.task
  by_test true = by_entry (entry_of n word.0)
  by_test false = refl

-- a lock is granted to a task whose next instruction acquires it
grant-moves : (C : Setting) (n : NodeParts) (lock : LockId) (signature : Signature) (w : NodeWait) → NeedsLock (need_now C n) w → TaskMoves n (grant_row C n lock signature w).0
grant-moves C n lock signature wait.None needs = keeps n n refl
grant-moves C n lock signature (wait.Reading other) needs = keeps n n refl
grant-moves C n lock signature (wait.Filled other) needs = keeps n n refl
grant-moves C n lock signature (wait.Locking wanted) needs = by_test (wanted.0 == lock.0) where
  by_task : (o : Option TaskState) → n.task ≡ o → TaskMoves n (granted_to C n lock signature o).0
  by_task None has = keeps n n refl
  by_task (Some t) has =
      let next = has-next C n t (need.Acquire wanted) has needs in
      becomes-task n (holds_now C n t lock signature).0 t (advanced C.program t) has refl (advances C next.decl t next.going (subst IsAdvance (sym next.asks) tt))

  by_test : (b : Bool) → TaskMoves n (cond b (granted_to C n lock signature n.task) (becomes n)).0
  by_test true = by_task n.task refl
  by_test false = keeps n n refl

third : (a b c d : Bool) → (a && b && c && d) ≡ true → c ≡ true
third true true true true e = refl
third true true false d e = cc
third true false c d e = cc
third false b c d e = cc
third true true true false e = cc

later : (n p : ℕ) → p ≡ n + 1 → (n == p) ≡ true → ⊥
later n p e same = grind (arith, nat_tests, e, same)

go-moves : (C : Setting) (n : NodeParts) (phase : ℕ) → TaskMoves n (go_row C n phase).0
go-moves C n phase = by_test (n.arrived && not n.halted && (phase == n.phase + 1) && nat_lt phase (length C.program.phases)) refl where
  by_test : (b : Bool) → (n.arrived && not n.halted && (phase == n.phase + 1) && nat_lt phase (length C.program.phases)) ≡ b → TaskMoves n (cond b (becomes (begins C n phase)) (becomes n)).0
  by_test false e = keeps n n refl
  by_test true e =
      let test : (phase == n.phase + 1) ≡ true = third n.arrived (not n.halted) (phase == n.phase + 1) (nat_lt phase (length C.program.phases)) e in
      let next : phase ≡ n.phase + 1 = grind (arith, nat_tests, test) in
      λ same t u has is. absurd (later n.phase phase next same)

halt-kept : (n : NodeParts) → (halt_row n).0.task ≡ n.task
halt-kept n = by_test n.arrived where
  by_test : (t : Bool) → (cond t (becomes (record n { halted = true })) (becomes n)).0.task ≡ n.task
  by_test true = refl
  by_test false = refl

pub tasks-message : (C : Setting) (n : NodeParts) (m : Message) → NeedsLock (need_now C n) n.waiting → TaskMoves n (node_gets C n m).0
unfolding node_gets
tasks-message C n (message.Go phase) needs = go-moves C n phase.0
tasks-message C n (message.Grant lock signature) needs = grant-moves C n lock signature n.waiting needs
tasks-message C n message.Halt needs = keeps n (halt_row n).0 (halt-kept n)
tasks-message C n (message.DataReply word value) needs = keeps n (data_reply_row n word value n.waiting).0 (data-kept n word value n.waiting)
tasks-message C n (message.RegAck word) needs = keeps n (node_gets C n (message.RegAck word)).0 (ack-kept C n word).task
tasks-message C n (message.RegFwd word core) needs = keeps n (node_gets C n (message.RegFwd word core)).0 (forward-kept C n word core).task
tasks-message C n (message.WbAck word) needs = keeps n (node_gets C n (message.WbAck word)).0 (back-kept C n word).task
tasks-message C n (message.ReadFwd word reader) needs = keeps n (node_gets C n (message.ReadFwd word reader)).0 (read-kept C n word reader).task
tasks-message C n (message.ReadReq word reader) needs = keeps n n refl
tasks-message C n (message.RegReq word core) needs = keeps n n refl
tasks-message C n (message.WriteBack word value core) needs = keeps n n refl
tasks-message C n (message.Acquire lock core) needs = keeps n n refl
tasks-message C n (message.Release lock core signature) needs = keeps n n refl
tasks-message C n (message.Arrived core bad) needs = keeps n n refl
