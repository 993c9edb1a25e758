-- Every event keeps what is known of the phases.
use Rattle.std.proofs.Common.{◌≡◌, inl, inr, ℕ, ◌||◌, not, Bool, true, false, slice_get, Option, Some, None, refl, sym, ap, ◌∙◌, arith}
use Rattle.std.specs.Option.{is_some}
use Rattle.std.proofs.lemmas.Bool.Decides.{nat_tests}
use Rattle.dn_base.specs.declared.ids.WordId.{WordId}
use Rattle.dn_base.specs.declared.ids.CoreId.{CoreId}
use Rattle.message_net.specs.declared.event.Event.{Event}
use Rattle.message_net.specs.declared.message.Message.TheVariants.{ReadReq, ReadFwd, DataReply, RegReq, RegFwd, RegAck, WriteBack, WbAck, Acquire, Release, Grant}
use Rattle.message_net.specs.declared.message.Outgoing.{Outgoing}
use Rattle.region_table.specs.declared.declared.TaskDecl.{TaskDecl}
use Rattle.region_table.specs.Program.{ProgramParts}
use Rattle.rv_core.specs.declared.task.TaskState.{TaskState}
use Rattle.rv_core.specs.declared.task.End.{End as Ended}
use Rattle.rv_core.specs.declared.task.End.TheVariants.{Finished}
use Rattle.rv_core.specs.declared.need.Need as need
use Rattle.rv_core.specs.declared.need.Need.{Need}
use Rattle.rv_core.specs.Need.{need_of}
use Rattle.rv_core.specs.Task.{stopped}
use Rattle.rv_core.proofs.Completions.{advanced-end, loaded-end, stopped-end, stopped-held, finished-holds_none}
use Rattle.word_cache.specs.declared.row.Entry.TheVariants.{Registered}
use Rattle.word_cache.specs.Cache.{AreDifferent, pending_bit}
use Rattle.word_cache.proofs.WeightLemmas.{pending_count-without, pending-most}
use Rattle.queue_lock.specs.Lock.{Lock}
use Rattle.registry_bank.specs.declared.bank.BankWord.{BankWord}
use Rattle.registration_protocol.specs.declared.node.NodeWait as wait
use Rattle.registration_protocol.specs.declared.node.NodeWait.{NodeWait}
use Rattle.registration_protocol.specs.Node.{NodeParts, Setting, need_now, is_running, entry_of, is_active}
use Rattle.registration_protocol.specs.Messages.{lacking}
use Rattle.machine_rules.specs.State.{State}
use Rattle.machine_rules.specs.Next.{next}
use Rattle.machine_rules.specs.Coherent.{HasArrived, NeedsValue}
use Rattle.machine_rules.proofs.Invariant.{Invariant, PhasesGood}
use Rattle.machine_rules.proofs.Steps.{NodeStep}
use Rattle.machine_rules.proofs.Outcomes.{Outcomes, IsActing, WordStep, LockStep}
use Rattle.machine_rules.proofs.PhaseRows.{IsOther, other-none, other-some, phases-still}
use Rattle.machine_rules.proofs.PhaseNodes.{FinishesFree, working, receiving, arriving-node, going-node, halting-node}
use Rattle.machine_rules.proofs.PhaseKeeper.{counted-node, going-all, halting-all}

-- ---- Tasks that end.

-- a task that goes on isn't one that has finished
unfinished : (t : TaskState) → t.end ≡ None → (u : TaskState) → Some t ≡ Some u → u.end ≡ Some Finished → u.held ≡ 0
unfinished t open' u is ended = let same : t ≡ u = cc in absurd (cc)

-- one that has finished holds no lock
finishes-free : (P : ProgramParts) (d : TaskDecl) (fuel : ℕ) (t : TaskState) (by : Ended) → need_of P d fuel t ≡ need.TheVariants.End by
    → (u : TaskState) → Some (stopped by t) ≡ Some u → u.end ≡ Some Finished → u.held ≡ 0
finishes-free P d fuel t by wants u is ended =
    let same : stopped by t ≡ u = cc in
    let cause : Some by ≡ Some Finished = sym (stopped-end by t) ∙ ap (λ (x : TaskState). x.end) same ∙ ended in
    let finished : need_of P d fuel t ≡ need.TheVariants.End Finished = let one : by ≡ Finished = cc in wants ∙ ap need.TheVariants.End one in
    sym (ap (λ (x : TaskState). x.held) same) ∙ stopped-held by t ∙ finished-holds_none P d fuel t finished

-- ---- A task that doesn't go on needs nothing, and its node waits for nothing.

needs-none : (C : Setting) (n : NodeParts) → is_running n.task ≡ false → need_now C n ≡ None
needs-none C n done = by_task n.task refl where
  by_end : (t : TaskState) → n.task ≡ Some t → (x : Bool) → is_some t.end ≡ x → need_now C n ≡ None
  by_end t is true e = rw (is, e) refl
  by_end t is false e = let on : is_running n.task ≡ true = rw (is, e) refl in absurd (cc)

  by_task : (o : Option TaskState) → n.task ≡ o → need_now C n ≡ None
  by_task None is = rw (is) refl
  by_task (Some t) is = by_end t is (is_some t.end) refl

wants-value : (S : State) (n : NodeParts) (word : WordId) → need_now S.setting n ≡ None → NeedsValue S n word → ⊥
wants-value S n word none (inl load) = absurd (cc)
wants-value S n word none (inr store) = absurd (cc)

idle : (S : State) (M : ℕ → ℕ) (core : ℕ) (n : NodeParts) → Invariant S M → slice_get S.nodes core ≡ Some n → is_running n.task ≡ false → n.waiting ≡ wait.TheVariants.None
idle S M core n inv found done = by_wait n.waiting refl where
  none : need_now S.setting n ≡ None
  none = needs-none S.setting n done

  by_wait : (w : NodeWait) → n.waiting ≡ w → n.waiting ≡ wait.TheVariants.None
  by_wait wait.TheVariants.None is = is
  by_wait (wait.TheVariants.Reading word) is = absurd (wants-value S n word none (inv.reads.reading core n word found is).2)
  by_wait (wait.TheVariants.Filled word) is = absurd (wants-value S n word none (inv.reads.filled core n word found is).1)
  by_wait (wait.TheVariants.Locking lock) is =
      let locks : need_now S.setting n ≡ Some (need.TheVariants.Acquire lock) = rw (is) at ((inv.machine.node core n found).fits).waiting in
      let never = none in
      absurd (cc)

-- ---- What a node that has arrived receives.

-- it has no pending entry, and so it gets no acknowledgement
not-pending : (n : NodeParts) (w value : ℕ) → entry_of n w ≡ Some (Registered value true) → HasArrived n → ⊥
not-pending n w value is h =
    let one : pending_bit (entry_of n w) ≡ 1 = rw (is) refl in
    grind (arith, nat_tests, one, pending-most w n.cache.pairs, h.settled)

-- an entry that goes is one entry less
lacks : (n : NodeParts) (w : ℕ) → AreDifferent n.cache.pairs → HasArrived n → HasArrived (lacking n w)
lacks n w apart h =
    record {
      settled = grind (arith, nat_tests, pending_count-without w n.cache.pairs apart, h.settled);
      waiting = h.waiting;
      over = h.over;
    }

awake-by : (n : NodeParts) → is_active n ≡ true → (n.halted ≡ false) × (n.arrived ≡ false)
awake-by n active = by_flags n.halted n.arrived refl refl active where
  by_flags : (x y : Bool) → n.halted ≡ x → n.arrived ≡ y → not (x || y) ≡ true → (n.halted ≡ false) × (n.arrived ≡ false)
  by_flags false false e f is = (e, f)
  by_flags false true e f is = absurd (cc)
  by_flags true y e f is = absurd (cc)

-- ---- The outcomes.

pub phases-outcomes : (S : State) (M : ℕ → ℕ) (e : Event) → Invariant S M → Outcomes S M e (λ M'. PhasesGood (next S e))
phases-outcomes S M e inv =
    record {
      local = λ core n d t acts told step. works core n d t need.TheVariants.Local _ None acts step acts.awake acts.absent refl (unfinished _ (advanced-end P t ∙ acts.open')) other-none;
      ends = λ core n d t by acts told step. works core n d t (need.TheVariants.End by) _ None acts step acts.awake acts.absent refl (finishes-free P d S.setting.fuel t by acts.wants) other-none;
      load_copy = λ core n d t word value marked acts is told step.
          works core n d t (need.TheVariants.Load word) _ None acts step acts.awake acts.absent refl (unfinished _ (loaded-end P value t ∙ acts.open')) other-none;
      load_own = λ core n d t word value pending acts is told step.
          works core n d t (need.TheVariants.Load word) _ None acts step acts.awake acts.absent refl (unfinished _ (loaded-end P value t ∙ acts.open')) other-none;
      miss = λ core n d t word needs which acts none room told step.
          works core n d t needs _ _ acts step acts.awake acts.absent refl (free core.0 n acts.found) (other-some _ (ReadReq word core) refl);
      store_new = λ core n d t word value acts none room is told step.
          works core n d t (need.TheVariants.Store word true) _ _ acts step acts.awake acts.absent refl (unfinished _ (advanced-end P t ∙ acts.open')) (other-some _ (RegReq word core) refl);
      store_copy = λ core n d t word whole old value marked acts entry is told step.
          works core n d t (need.TheVariants.Store word whole) _ _ acts step acts.awake acts.absent refl (unfinished _ (advanced-end P t ∙ acts.open')) (other-some _ (RegReq word core) refl);
      store_own = λ core n d t word whole old value pending acts entry is told step.
          works core n d t (need.TheVariants.Store word whole) _ None acts step acts.awake acts.absent refl (unfinished _ (advanced-end P t ∙ acts.open')) other-none;
      acquire = λ core n d t lock acts told step.
          works core n d t (need.TheVariants.Acquire lock) _ _ acts step acts.awake acts.absent refl (free core.0 n acts.found) (other-some _ (Acquire lock core) refl);
      release = λ core n d t lock acts settled told step.
          works core n d t (need.TheVariants.Release lock) _ _ acts step acts.awake acts.absent refl (unfinished _ (advanced-end P t ∙ acts.open')) (other-some _ (Release lock core _) refl);
      evict_copy = λ core n word value marked found active waits is told step. (
          let up = awake-by n active in
          working S T core.0 n _ None None step inv.phases up.0 up.1 up.0 up.1 refl (free core.0 n found) other-none other-none
          );
      evict_own = λ core n word value found active waits is told step. (
          let up = awake-by n active in
          working S T core.0 n _ None _ step inv.phases up.0 up.1 up.0 up.1 refl (free core.0 n found) other-none (other-some _ (WriteBack word value core) refl)
          );
      arrive = λ core n found awake absent done settled told step. arriving-node S T core n step inv.phases awake absent done settled (idle S M core.0 n inv found done);
      reply = λ core n word value found waits none room told step.
          receiving S T core.0 n _ _ None step inv.phases refl refl refl refl (λ h. (let idle_is = h.waiting in absurd (cc))) (other-some _ (DataReply word value) refl) other-none;
      acknowledge = λ core n word value found is told step.
          receiving S T core.0 n _ _ None step inv.phases refl refl refl refl (λ h. absurd (not-pending n word.0 value is h)) (other-some _ (RegAck word) refl) other-none;
      forward = λ core other n word value found is told step.
          receiving S T core.0 n _ _ _ step inv.phases refl refl refl refl (lacks n word.0 (apart core.0 n found)) (other-some _ (RegFwd word other) refl) (other-some _ (RegAck word) refl);
      forward_past = λ core other n word found none told step.
          receiving S T core.0 n n _ _ step inv.phases refl refl refl refl (λ h. h) (other-some _ (RegFwd word other) refl) (other-some _ (RegAck word) refl);
      answer = λ core reader n word value found is told step.
          receiving S T core.0 n n _ _ step inv.phases refl refl refl refl (λ h. h) (other-some _ (ReadFwd word reader) refl) (other-some _ (DataReply word value) refl);
      bounce = λ core reader n word found none told step.
          receiving S T core.0 n n _ _ step inv.phases refl refl refl refl (λ h. h) (other-some _ (ReadFwd word reader) refl) (other-some _ (ReadReq word reader) refl);
      freed = λ core n word value found is told step.
          receiving S T core.0 n _ _ None step inv.phases refl refl refl refl (lacks n word.0 (apart core.0 n found)) (other-some _ (WbAck word) refl) other-none;
      grant = λ core n d t lock s found waits task open' declares wants awake absent told step.
          working S T core.0 n _ _ None step inv.phases awake absent awake absent refl (unfinished _ (advanced-end P t ∙ open')) (other-some _ (Grant lock s) refl) other-none;
      go = λ core n phase found awake there right later within told step. going-node S T core n phase step inv.phases awake there right;
      halt = λ core n found awake there told step. halting-node S T core n step inv.phases awake there;
      read_home = λ bank word reader value is told step. home _ _ _ _ step (other-some _ (ReadReq word reader) refl) (other-some _ (DataReply word value) refl);
      read_owned = λ bank word reader owner is told step. home _ _ _ _ step (other-some _ (ReadReq word reader) refl) (other-some _ (ReadFwd word reader) refl);
      register_home = λ bank word core value is told step. home _ _ _ _ step (other-some _ (RegReq word core) refl) (other-some _ (RegAck word) refl);
      register_owned = λ bank word core owner is other told step. home _ _ _ _ step (other-some _ (RegReq word core) refl) (other-some _ (RegFwd word core) refl);
      write_back = λ bank word core value is told step. home _ _ _ _ step (other-some _ (WriteBack word value core) refl) (other-some _ (WbAck word) refl);
      write_past = λ bank word core value content is other told step. home _ _ _ _ step (other-some _ (WriteBack word value core) refl) (other-some _ (WbAck word) refl);
      acquire_free = λ bank lock core h is none told step. lock_home _ _ _ _ step (other-some _ (Acquire lock core) refl) (other-some _ (Grant lock h.kept) refl);
      acquire_held = λ bank lock core holder h is held told step. lock_home _ _ _ _ step (other-some _ (Acquire lock core) refl) other-none;
      release_last = λ bank lock core holder s h is held same none told step. lock_home _ _ _ _ step (other-some _ (Release lock core s) refl) other-none;
      release_on = λ bank lock core holder waiter others s h is held same queue told step. lock_home _ _ _ _ step (other-some _ (Release lock core s) refl) (other-some _ (Grant lock _) refl);
      arrived = λ core bad new missing told step. counted-node S T core bad step inv.machine inv.phases new missing;
      all_go = λ core bad new whole on told step. going-all S T core bad step inv.machine inv.addressed inv.phases new whole on;
      all_halt = λ core bad new whole over told step. halting-all S T core bad step inv.machine inv.phases new whole;
    }
  where
    T : State
    T = next S e

    P : ProgramParts
    P = S.setting.program

    free : (core : ℕ) (n : NodeParts) → slice_get S.nodes core ≡ Some n → FinishesFree n
    free core n found t is = inv.phases.finished core n t found is

    apart : (core : ℕ) (n : NodeParts) → slice_get S.nodes core ≡ Some n → AreDifferent n.cache.pairs
    apart core n found = (((inv.machine.node core n found).fits).cache).apart

    works : (core : CoreId) (n : NodeParts) (d : TaskDecl) (t : TaskState) (needs : Need) (m : NodeParts) (sent : Option Outgoing) → IsActing S core n d t needs → NodeStep S T core.0 n m None sent
        → m.halted ≡ false → m.arrived ≡ false → m.phase ≡ n.phase → FinishesFree m → IsOther sent → PhasesGood T
    works core n d t needs m sent acts step awake absent phase finished went =
        working S T core.0 n m None sent step inv.phases acts.awake acts.absent awake absent phase finished other-none went

    home : (w : ℕ) (content : BankWord) (left sent : Option Outgoing) → WordStep S T w content left sent → IsOther left → IsOther sent → PhasesGood T
    home w content left sent step came went = phases-still S T left sent step.setting step.nodes step.keeper step.flown inv.phases came went

    lock_home : (l : ℕ) (state : Lock) (left sent : Option Outgoing) → LockStep S T l state left sent → IsOther left → IsOther sent → PhasesGood T
    lock_home l state left sent step came went = phases-still S T left sent step.setting step.nodes step.keeper step.flown inv.phases came went
