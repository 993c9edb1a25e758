-- What the barrier does keeps that the state agrees with the run: the next phase begins once all tasks of this one have finished.
use Rattle.std.proofs.Common.{◌≡◌, ◌⊎◌, inl, inr, ℕ, suc, ◌+◌, ◌<◌, ◌≤◌, ◌==◌, ◌||◌, nat_le, Bool, true, false, List, ◌++◌, length, map, take, slice_get, Option, Some, None, refl, sym, ap, subst, ◌∙◌, arith}
use Rattle.std.specs.List.{IsAmong}
use Rattle.std.proofs.lemmas.Bool.{eqb-true}
use Rattle.std.proofs.lemmas.Bool.Decides.{nat_tests}
use Rattle.dn_base.specs.declared.ids.CoreId.{CoreId}
use Rattle.dn_base.specs.declared.ids.Grant.{Grant}
use Rattle.region_table.specs.Program.{ProgramParts}
use Rattle.region_table.specs.declared.declared.TaskDecl.{TaskDecl}
use Rattle.region_table.specs.declared.declared.Phase.{Phase}
use Rattle.flat_machine.proofs.InOrder.{declared-only}
use Rattle.rv_core.specs.declared.task.TaskState.{TaskState}
use Rattle.rv_core.specs.declared.task.End.{End}
use Rattle.rv_core.specs.declared.task.End.TheVariants.{Finished, Fuel, Trap}
use Rattle.rv_core.specs.Task.{started}
use Rattle.flat_machine.specs.Step.{fresh}
use Rattle.flat_machine.specs.Phases.{has_finished, finished_by}
use Rattle.run_agreement.proofs.Places.{get-cases}
use Rattle.run_agreement.proofs.CoreByCore.{agreed-begin}
use Rattle.message_net.specs.declared.message.Message.{Message}
use Rattle.message_net.specs.declared.message.Message.TheVariants.{Arrived, Go}
use Rattle.phase_barrier.specs.Barrier.{Barrier, with_arrival, in_next_phase, all_arrived, is_over}
use Rattle.registration_protocol.specs.Node.{NodeParts, Setting, is_running}
use Rattle.registration_protocol.specs.OwnEvents.{task_ended_badly}
use Rattle.machine_rules.specs.State.{State}
use Rattle.machine_rules.specs.Flight.{bit, is_arrival_of}
use Rattle.machine_rules.specs.Coherent.{is_alive}
use Rattle.machine_rules.proofs.Invariant.{Invariant, bad_in, is_lie}
use Rattle.machine_rules.proofs.Outcomes.{BarrierStep, at_keeper}
use Rattle.machine_rules.proofs.PhaseRows.{counts-is}
use Rattle.machine_rules.proofs.PhaseWhole.{none-posted, alive-arrived, Arriving, arriving, in-flight, said, IsWhole, is-whole, there-within}
use Rattle.run_agreement.specs.Agreed.{States, Loads, Ends, stands, tasks_from, IsWorldAt, AreShown, Agreed}
use Rattle.run_agreement.proofs.Standing.{tasks-next}
use Rattle.run_agreement.proofs.Shown.{shown-still, ended-still}
use Rattle.run_agreement.proofs.Acting.{world-same}
use Rattle.run_agreement.proofs.Nodes.{node-there, HasIt, stands-or}

-- ---- all tasks have finished at the last arrival

or-false : (x y : Bool) → (x || y) ≡ false → (x ≡ false) × (y ≡ false)
or-false true y e = absurd (cc)
or-false false y e = (refl, e)

-- a task that is over and not bad has finished
over-finished : (t : TaskState) → is_running (Some t) ≡ false → task_ended_badly (Some t) ≡ false → finished_by t.end ≡ true
over-finished t over fine = by_end t.end refl where
  by_end : (o : Option End) → t.end ≡ o → finished_by t.end ≡ true
  by_end None is = let on : is_running (Some t) ≡ true = rw (is) refl in absurd (cc)
  by_end (Some Finished) is = rw (is) refl
  by_end (Some Fuel) is = let bad : task_ended_badly (Some t) ≡ true = rw (is) refl in absurd (cc)
  by_end (Some (Trap kind pc value)) is = let bad : task_ended_badly (Some t) ≡ true = rw (is) refl in absurd (cc)

pub alive-awake : (S : State) (c : ℕ) (n : NodeParts) → slice_get S.nodes c ≡ Some n → 1 ≤ bit (is_alive (slice_get S.nodes c)) → n.halted ≡ false
alive-awake S c n found some = by_flags n.arrived n.halted refl refl where
  by_flags : (x y : Bool) → n.arrived ≡ x → n.halted ≡ y → n.halted ≡ false
  by_flags x false e f = f
  by_flags true true e f = let none : bit (is_alive (slice_get S.nodes c)) ≡ 0 = rw (found, e, f) refl in absurd (omega (arith, some, none))
  by_flags false true e f = let none : bit (is_alive (slice_get S.nodes c)) ≡ 0 = rw (found, e) refl in absurd (omega (arith, some, none))

-- each node is in the phase, its task is over, and it isn't bad
pub record IsDone (S : State) (n : NodeParts) : Type 0 where
  pub phase : n.phase ≡ S.keeper.phase
  pub over : is_running n.task ≡ false
  pub fine : task_ended_badly n.task ≡ false

pub all-done : (S T : State) (M : ℕ → ℕ) (core : CoreId) (bad : Bool) → Invariant S M
    → BarrierStep S T (in_next_phase (with_arrival core.0 bad S.keeper)) (at_keeper (Arrived core bad)) (Some (Go (record { 0 = S.keeper.phase + 1 })))
    → slice_get S.keeper.arrived core.0 ≡ Some false → all_arrived (with_arrival core.0 bad S.keeper) ≡ true → is_over (with_arrival core.0 bad S.keeper) ≡ false
    → (c : ℕ) (n : NodeParts) → slice_get S.nodes c ≡ Some n → IsDone S n
all-done S T M core bad inv step new whole on c n found =
    record {
      phase = omega (arith, inv.phases.phase c n found (alive-awake S c n found alive), all.going c);
      over = (inv.phases.arrived c n found (alive-arrived S c n found alive)).over;
      fine = fine-at (core.0 == c) refl;
    }
  where
    go : Message
    go = Go (record { 0 = S.keeper.phase + 1 })

    a : Arriving S core.0 bad
    a = arriving S core.0 bad inv.machine new

    all : IsWhole S core.0
    all = is-whole S core.0 bad inv.machine inv.phases a (in-flight S T (in_next_phase (with_arrival core.0 bad S.keeper)) core bad (Some go) step (none-posted (is_arrival_of core.0) go (λ d. refl) S.setting.shape.cores)) whole

    says : bad ≡ bad_in (slice_get S.nodes core.0)
    says = said S T (in_next_phase (with_arrival core.0 bad S.keeper)) core bad (Some go) step inv.phases (none-posted (is_lie S.nodes) go (λ d. refl) S.setting.shape.cores)

    alive : 1 ≤ bit (is_alive (slice_get S.nodes c))
    alive = omega (arith, all.alive c, there-within S c n inv.machine found)

    parts : ((S.keeper.bad || bad) ≡ false) × (nat_le S.keeper.phases (S.keeper.phase + 1) ≡ false)
    parts = or-false (S.keeper.bad || bad) (nat_le S.keeper.phases (S.keeper.phase + 1)) on

    good : (S.keeper.bad ≡ false) × (bad ≡ false)
    good = or-false S.keeper.bad bad parts.0

    fine-at : (x : Bool) → (core.0 == c) ≡ x → task_ended_badly n.task ≡ false
    fine-at true e =
        let here = subst (λ (x : ℕ). bad ≡ bad_in (slice_get S.nodes x)) (eqb-true core.0 c e) says in
        sym (ap bad_in found) ∙ sym here ∙ good.1
    fine-at false e =
        let mark = all.marked c e (grind (arith, nat_tests, there-within S c n inv.machine found)) in
        rw (mark) at (sym (counts-is S c n found) ∙ inv.phases.good good.0 c)

later-phase : (S T : State) (M : ℕ → ℕ) (core : CoreId) (bad : Bool) → Invariant S M → is_over (with_arrival core.0 bad S.keeper) ≡ false → S.keeper.phase + 1 < length S.setting.program.phases
later-phase S T M core bad inv on =
    let parts = or-false (S.keeper.bad || bad) (nat_le S.keeper.phases (S.keeper.phase + 1)) on in
    grind (arith, nat_tests, parts.1, inv.machine.phases)

-- ---- the next phase

-- each task of the next phase is at its start
next-fresh : (S : State) (M : ℕ → ℕ) (K : States) (L : Loads) (phase : ℕ) (q : Phase) (d : TaskDecl) → Invariant S M → AreShown S K L → slice_get S.setting.program.phases phase ≡ Some q → S.keeper.phase < phase → IsAmong q.tasks d
    → stands K L phase d ≡ fresh phase d
next-fresh S M K L phase q d inv shown there later among =
    let node = node-there S M phase q d inv there among in
    let before : node.0.phase < phase = omega (arith, later, inv.behind d.core.0 node.0 node.1) in
    let declares = declared-only S.setting.program phase q d inv.machine.program.order there among in
    rw (shown.ahead d.core.0 phase node.0 d node.1 before declares, shown.unread d.core.0 phase node.0 node.1 before) refl

pub begins-agreed : {E : Ends} (S T : State) (M : ℕ → ℕ) (gs : List Grant) (L : Loads) (core : CoreId) (bad : Bool) → Invariant S M → Agreed S M gs L E
    → BarrierStep S T (in_next_phase (with_arrival core.0 bad S.keeper)) (at_keeper (Arrived core bad)) (Some (Go (record { 0 = S.keeper.phase + 1 })))
    → slice_get S.keeper.arrived core.0 ≡ Some false → all_arrived (with_arrival core.0 bad S.keeper) ≡ true → is_over (with_arrival core.0 bad S.keeper) ≡ false → Agreed T M gs L E
begins-agreed {E} S T M gs L core bad inv h step new whole on =
    record {
      states = K;
      shown = shown-still S T K L L step.setting step.nodes (λ q c. refl) h.shown;
      ended = ended-still S T K E step.setting step.nodes h.ended;
      memory = h.memory;
      same = h.same;
      phase = q;
      world = subst (λ (C : Setting). IsWorldAt C gs K L T.keeper.phase q h.memory) (sym step.setting) (subst (λ (x : ℕ). IsWorldAt S.setting gs K L x q h.memory) (sym phase_is) now);
    }
  where
    K : States
    K = h.states

    P : ProgramParts
    P = S.setting.program

    k : ℕ
    k = S.keeper.phase

    next_one : (x : Phase) × (slice_get P.phases (k + 1) ≡ Some x)
    next_one = get-cases P.phases (k + 1) (later-phase S T M core bad inv on)

    q : Phase
    q = next_one.0

    phase_is : T.keeper.phase ≡ k + 1
    phase_is = ap (λ (x : Barrier). x.phase) step.keeper

    finished : (d : TaskDecl) → IsAmong h.phase.tasks d → has_finished (stands K L k d) ≡ true
    finished d among = by_node (node-there S M k h.phase d inv h.world.there among) where
      by_ways : (n : NodeParts) → IsDone S n → HasIt S K d n ⊎ ((n.phase < k) × (K k d.core.0 ≡ started d)) → has_finished (stands K L k d) ≡ true
      by_ways n done (inl it) =
          let over : is_running (Some it.task) ≡ false = sym (ap is_running it.has) ∙ done.over in
          let fine : task_ended_badly (Some it.task) ≡ false = sym (ap task_ended_badly it.has) ∙ done.fine in
          ap (λ (t : TaskState). finished_by t.end) it.is ∙ over-finished it.task over fine
      by_ways n done (inr before) = absurd (omega (arith, before.0, done.phase))

      by_node : (n : NodeParts) × (slice_get S.nodes d.core.0 ≡ Some n) → has_finished (stands K L k d) ≡ true
      by_node (n, found) = by_ways n (all-done S T M core bad inv step new whole on d.core.0 n found) (stands-or S M K L h.phase d n inv h.shown h.world.there among found)

    first : tasks_from K L 0 (take (k + 1) P.phases) ≡ tasks_from K L 0 (take k P.phases) ++ map (stands K L k) h.phase.tasks
    first =
        let number : 0 + k ≡ k = omega arith in
        let one : k + 1 ≡ suc k = omega arith in
        ap (λ (x : ℕ). tasks_from K L 0 (take x P.phases)) one ∙ tasks-next K L 0 k P.phases h.phase h.world.there ∙ ap (λ (x : ℕ). tasks_from K L 0 (take k P.phases) ++ map (stands K L x) h.phase.tasks) number

    now : IsWorldAt S.setting gs K L (k + 1) q h.memory
    now =
        world-same P S.setting.fuel gs (k + 1) (tasks_from K L 0 (take k P.phases) ++ map (stands K L k) h.phase.tasks) (tasks_from K L 0 (take (k + 1) P.phases)) q (fresh (k + 1)) (stands K L (k + 1)) h.memory first
        (λ d among. next-fresh S M K L (k + 1) q d inv h.shown next_one.1 (omega arith) among)
        (agreed-begin P S.setting.fuel gs k (tasks_from K L 0 (take k P.phases)) h.phase q (stands K L k) h.memory inv.machine.program.order inv.machine.checked finished next_one.1 h.world)
