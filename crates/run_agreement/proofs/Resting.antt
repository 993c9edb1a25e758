-- Where a run is complete, each task of the keeper's phase has ended or wants a lock that another holds, and no phase begins.
use Rattle.std.proofs.Common.{◌≡◌, ◌⊎◌, inl, inr, ℕ, ◌+◌, ◌<◌, ◌&&◌, nat_le, Bool, true, false, List, slice_get, slice_index_or, Option, Some, None, refl, sym, ap, subst, ◌∙◌, arith}
use Rattle.std.specs.List.{IsAmong}
use Rattle.std.specs.Option.{is_some}
use Rattle.std.proofs.lemmas.Bool.Decides.{nat_tests}
use Rattle.std.proofs.lemmas.Option.{same_Some}
use Rattle.region_table.specs.Program.{ProgramParts}
use Rattle.region_table.specs.declared.declared.TaskDecl.{TaskDecl}
use Rattle.region_table.specs.declared.declared.Phase.{Phase}
use Rattle.region_table.specs.Tasks.{declared, IsDeclaration}
use Rattle.region_table.proofs.TaskLemmas.{declared-tells}
use Rattle.flat_machine.proofs.InOrder.{declared-only}
use Rattle.rv_core.specs.declared.task.TaskState.{TaskState}
use Rattle.rv_core.specs.declared.task.End.{End}
use Rattle.rv_core.specs.declared.task.End.TheVariants.{Finished, Fuel, Trap}
use Rattle.rv_core.specs.declared.need.Need as need
use Rattle.rv_core.specs.Need.{need_of}
use Rattle.rv_core.specs.Access.{is_held}
use Rattle.rv_core.specs.Task.{started}
use Rattle.flat_machine.specs.Step.{Started, wish, wish_unless}
use Rattle.flat_machine.specs.Phases.{has_finished, finished_by, next_phase}
use Rattle.rv_core.proofs.HeldLemmas.{holds-none}
use Rattle.flat_machine.proofs.Rights.{both-ways}
use Rattle.run_agreement.specs.Cores.{world_of, IsHeldAmong, IsStoppedAmong}
use Rattle.run_agreement.proofs.CoreByCore.{last-phase, unfinished-phase}
use Rattle.phase_barrier.specs.Barrier.{all_arrived, is_over}
use Rattle.registration_protocol.specs.Node.{NodeParts, is_running, need_now}
use Rattle.registration_protocol.specs.declared.node.NodeWait as wait
use Rattle.registration_protocol.specs.OwnEvents.{task_ended_badly}
use Rattle.registration_protocol.proofs.InstrLemmas.{HasNext, has-next}
use Rattle.machine_rules.specs.State.{State}
use Rattle.machine_rules.specs.Flight.{is_go_to}
use Rattle.machine_rules.specs.Runs.{IsOver}
use Rattle.machine_rules.specs.Sound.{IsNodeAt}
use Rattle.machine_rules.specs.Rest.{HasOpenTask, IsLockedOut, IsAtRest}
use Rattle.machine_rules.specs.Coherent.{has_lock, holds_lock, counts_bad}
use Rattle.machine_rules.proofs.Invariant.{Invariant}
use Rattle.machine_rules.proofs.RestNodes.{over-quiet}
use Rattle.machine_rules.proofs.RestStates.{rest}
use Rattle.machine_rules.proofs.PhaseRows.{marked, counts-is}
use Rattle.run_agreement.specs.Agreed.{States, Loads, stands, AreShown}
use Rattle.run_agreement.proofs.Halting.{IsHalting}
use Rattle.run_agreement.proofs.Nodes.{node-there, HasIt, stands-or}

-- a state in which no event may come, with how its tasks stand
pub record IsResting (S : State) (M : ℕ → ℕ) (K : States) (L : Loads) (p : Phase) : Type 0 where
  pub inv : Invariant S M
  pub halting : IsHalting S
  pub over : IsOver S
  pub shown : AreShown S K L
  pub there : slice_get S.setting.program.phases S.keeper.phase ≡ Some p

-- the node of each task has it
rests-in : (S : State) (M : ℕ → ℕ) (K : States) (L : Loads) (p : Phase) (d : TaskDecl) (n : NodeParts) → IsResting S M K L p → IsAmong p.tasks d → slice_get S.nodes d.core.0 ≡ Some n → HasIt S K d n
rests-in S M K L p d n h among found = by_ways (stands-or S M K L p d n h.inv h.shown h.there among found) where
  by_halted : n.phase < S.keeper.phase → (x : Bool) → n.halted ≡ x → ⊥
  by_halted before true is = omega (arith, before, h.halting.level d.core.0 n found is)
  by_halted before false is = omega (arith, before, h.inv.phases.phase d.core.0 n found is, over-quiet S h.over (is_go_to d.core.0))

  by_ways : HasIt S K d n ⊎ ((n.phase < S.keeper.phase) × (K S.keeper.phase d.core.0 ≡ started d)) → HasIt S K d n
  by_ways (inl it) = it
  by_ways (inr before) = absurd (by_halted before.0 n.halted refl)

-- who holds a lock is a task of the phase
holder-among : (S : State) (M : ℕ → ℕ) (K : States) (L : Loads) (p : Phase) (c lock : ℕ) → IsResting S M K L p → has_lock S c lock ≡ true → IsHeldAmong p (stands K L S.keeper.phase) lock
holder-among S M K L p c lock h has = by_node (slice_get S.nodes c) refl where
  with_decl : (n : NodeParts) → slice_get S.nodes c ≡ Some n → (t : TaskState) → n.task ≡ Some t → (o : Option TaskDecl) → declared S.setting.program n.phase c ≡ o → IsHeldAmong p (stands K L S.keeper.phase) lock
  with_decl n found t task None is =
      let fits : IsNodeAt S c n = h.inv.machine.node c n found in
      let some : is_some n.task ≡ true = ap is_some task in
      let none : is_some n.task ≡ false = fits.fits.task ∙ ap (λ (x : ℕ). is_some (declared S.setting.program n.phase x)) fits.core ∙ ap is_some is in
      absurd (cc)
  with_decl n found t task (Some e) is = by_halted n.halted refl where
    held : is_held t.held lock ≡ true
    held = sym (ap (holds_lock lock) found ∙ rw (task) refl) ∙ has

    in_phase : n.phase ≡ S.keeper.phase → IsHeldAmong p (stands K L S.keeper.phase) lock
    in_phase same =
        let here : declared S.setting.program S.keeper.phase c ≡ Some e = subst (λ (k : ℕ). declared S.setting.program k c ≡ Some e) same is in
        let tells : IsDeclaration S.setting.program S.keeper.phase c e = declared-tells S.setting.program S.keeper.phase c e here in
        let one : tells.phase ≡ p = same_Some tells.phase p (sym tells.there ∙ h.there) in
        let state : K S.keeper.phase c ≡ t = subst (λ (k : ℕ). K k c ≡ t) same (h.shown.here c n t found task) in
        record {
          by = e;
          among = subst (λ (x : Phase). IsAmong x.tasks e) one tells.among;
          holds = ap (λ (x : ℕ). is_held (K S.keeper.phase x).held lock) tells.own ∙ ap (λ (x : TaskState). is_held x.held lock) state ∙ held;
        }

    by_halted : (x : Bool) → n.halted ≡ x → IsHeldAmong p (stands K L S.keeper.phase) lock
    by_halted true off = in_phase (h.halting.level c n found off)
    by_halted false off = in_phase (omega (arith, h.inv.phases.phase c n found off, over-quiet S h.over (is_go_to c)))

  by_task : (n : NodeParts) → slice_get S.nodes c ≡ Some n → (o : Option TaskState) → n.task ≡ o → IsHeldAmong p (stands K L S.keeper.phase) lock
  by_task n found None task =
      let none : has_lock S c lock ≡ is_held 0 lock = ap (holds_lock lock) found ∙ rw (task) refl in
      absurd (held-none (sym none ∙ has))
    where
      held-none : is_held 0 lock ≡ true → ⊥
      held-none some = both-ways (is_held 0 lock) (holds-none lock) some
  by_task n found (Some t) task = with_decl n found t task (declared S.setting.program n.phase c) refl

  by_node : (o : Option NodeParts) → slice_get S.nodes c ≡ o → IsHeldAmong p (stands K L S.keeper.phase) lock
  by_node None is = let none : has_lock S c lock ≡ false = ap (holds_lock lock) is in absurd (cc)
  by_node (Some n) is = by_task n is n.task refl

-- ---- each task has ended or waits

ended-stops : (P : ProgramParts) (fuel : ℕ) (p : Phase) (task : TaskDecl → Started) (r : Started) (by : End) → r.state.end ≡ Some by → IsStoppedAmong p task (wish P fuel r)
ended-stops P fuel p task r by is = subst (λ (o : Option End). IsStoppedAmong p task (wish_unless P fuel r o)) (sym is) tt

pub task-stops : (S : State) (M : ℕ → ℕ) (K : States) (L : Loads) (p : Phase) (d : TaskDecl) → IsResting S M K L p → IsAmong p.tasks d
    → IsStoppedAmong p (stands K L S.keeper.phase) (wish S.setting.program S.setting.fuel (stands K L S.keeper.phase d))
task-stops S M K L p d h among = by_node (node-there S M S.keeper.phase p d h.inv h.there among) where
  P : ProgramParts
  P = S.setting.program

  r : Started
  r = stands K L S.keeper.phase d

  Stops : Type 0
  Stops = IsStoppedAmong p (stands K L S.keeper.phase) (wish P S.setting.fuel r)

  waits : (n : NodeParts) → slice_get S.nodes d.core.0 ≡ Some n → (it : HasIt S K d n) → it.task.end ≡ None → IsLockedOut S d.core.0 → Stops
  waits n found it open' out =
      let same : out.waits.0 ≡ n = same_Some out.waits.0 n (sym out.waits.1 ∙ found) in
      let waiting : n.waiting ≡ wait.TheVariants.Locking out.lock = subst (λ (x : NodeParts). x.waiting ≡ wait.TheVariants.Locking out.lock) same out.waits.2 in
      let needs : need_now S.setting n ≡ Some (need.TheVariants.Acquire out.lock) = rw (waiting) at ((h.inv.machine.node d.core.0 n found).fits).waiting in
      let next_is : HasNext S.setting n it.task (need.TheVariants.Acquire out.lock) = has-next S.setting n it.task (need.TheVariants.Acquire out.lock) it.has needs in
      let core : n.core ≡ d.core.0 = (h.inv.machine.node d.core.0 n found).core in
      let declares : declared P S.keeper.phase d.core.0 ≡ Some next_is.decl = subst (λ (k : ℕ). declared P k d.core.0 ≡ Some next_is.decl) it.phase (subst (λ (c : ℕ). declared P n.phase c ≡ Some next_is.decl) core next_is.declares) in
      let decl : next_is.decl ≡ d = same_Some next_is.decl d (sym declares ∙ declared-only P S.keeper.phase p d h.inv.machine.program.order h.there among) in
      let wants : need_of P d S.setting.fuel it.task ≡ need.TheVariants.Acquire out.lock = subst (λ (x : TaskDecl). need_of P x S.setting.fuel it.task ≡ need.TheVariants.Acquire out.lock) decl next_is.asks in
      let end_is : r.state.end ≡ None = ap (λ (t : TaskState). t.end) it.is ∙ open' in
      let wish_is : wish P S.setting.fuel r ≡ Some (need.TheVariants.Acquire out.lock) =
      ap (wish_unless P S.setting.fuel r) end_is ∙ ap (λ (t : TaskState). Some (need_of P d S.setting.fuel t)) it.is ∙ ap Some wants in
      subst (IsStoppedAmong p (stands K L S.keeper.phase)) (sym wish_is) (holder-among S M K L p out.holder out.lock.0 h out.has)

  by_rest : (n : NodeParts) → slice_get S.nodes d.core.0 ≡ Some n → (it : HasIt S K d n) → it.task.end ≡ None → IsAtRest S → Stops
  by_rest n found it open' (inl all) =
      let over = (h.inv.phases.asleep d.core.0 n found (all d.core.0 n found)).over in
      let on : is_running n.task ≡ true = rw (it.has, open') refl in
      absurd (cc)
  by_rest n found it open' (inr stuck) =
      waits n found it open' (stuck.each d.core.0 (record { node = n; found = found; phase = it.phase; goes = rw (it.has, open') refl }))

  by_end : (n : NodeParts) → slice_get S.nodes d.core.0 ≡ Some n → (it : HasIt S K d n) → (o : Option End) → it.task.end ≡ o → Stops
  by_end n found it None is = by_rest n found it is (rest S M h.inv h.over)
  by_end n found it (Some by) is = ended-stops P S.setting.fuel p (stands K L S.keeper.phase) r by (ap (λ (t : TaskState). t.end) it.is ∙ is)

  by_node : (n : NodeParts) × (slice_get S.nodes d.core.0 ≡ Some n) → Stops
  by_node (n, found) = let it = rests-in S M K L p d n h among found in by_end n found it it.task.end refl

-- ---- no phase begins

-- the task of a core in the phase
core-task : (S : State) (M : ℕ → ℕ) (K : States) (L : Loads) (p : Phase) (c : ℕ) (n : NodeParts) (t : TaskState) → IsResting S M K L p → slice_get S.nodes c ≡ Some n → n.task ≡ Some t → finished_by t.end ≡ false
    → n.phase ≡ S.keeper.phase → (d : TaskDecl) × IsAmong p.tasks d × (has_finished (stands K L S.keeper.phase d) ≡ false)
core-task S M K L p c n t h found task fails same = by_decl (declared S.setting.program n.phase c) refl where
  by_decl : (o : Option TaskDecl) → declared S.setting.program n.phase c ≡ o → (d : TaskDecl) × IsAmong p.tasks d × (has_finished (stands K L S.keeper.phase d) ≡ false)
  by_decl None is =
      let fits : IsNodeAt S c n = h.inv.machine.node c n found in
      let some : is_some n.task ≡ true = ap is_some task in
      let none : is_some n.task ≡ false = fits.fits.task ∙ ap (λ (x : ℕ). is_some (declared S.setting.program n.phase x)) fits.core ∙ ap is_some is in
      absurd (cc)
  by_decl (Some d) is =
      let here : declared S.setting.program S.keeper.phase c ≡ Some d = subst (λ (k : ℕ). declared S.setting.program k c ≡ Some d) same is in
      let tells : IsDeclaration S.setting.program S.keeper.phase c d = declared-tells S.setting.program S.keeper.phase c d here in
      let one : tells.phase ≡ p = same_Some tells.phase p (sym tells.there ∙ h.there) in
      let state : K S.keeper.phase c ≡ t = subst (λ (k : ℕ). K k c ≡ t) same (h.shown.here c n t found task) in (
        d,
        subst (λ (x : Phase). IsAmong x.tasks d) one tells.among,
        ap (λ (x : ℕ). finished_by (K S.keeper.phase x).end) tells.own ∙ ap (λ (x : TaskState). finished_by x.end) state ∙ fails,
      )

open-fails : (t : TaskState) → is_running (Some t) ≡ true → finished_by t.end ≡ false
open-fails t on = by_end t.end refl where
  by_end : (o : Option End) → t.end ≡ o → finished_by t.end ≡ false
  by_end None is = rw (is) refl
  by_end (Some by) is = let off : is_running (Some t) ≡ false = rw (is) refl in absurd (cc)

bad-fails : (t : TaskState) → task_ended_badly (Some t) ≡ true → finished_by t.end ≡ false
bad-fails t bad = by_end t.end refl where
  by_end : (o : Option End) → t.end ≡ o → finished_by t.end ≡ false
  by_end None is = rw (is) refl
  by_end (Some Finished) is = let fine : task_ended_badly (Some t) ≡ false = rw (is) refl in absurd (cc)
  by_end (Some Fuel) is = rw (is) refl
  by_end (Some (Trap kind pc value)) is = rw (is) refl

pub no-next : (S : State) (M : ℕ → ℕ) (K : States) (L : Loads) (p : Phase) (past : List Started) (m : List ℕ) → IsResting S M K L p → (all_arrived S.keeper ≡ true) ⊎ ((c : ℕ) × HasOpenTask S c)
    → next_phase S.setting.program (world_of S.keeper.phase past p (stands K L S.keeper.phase) m) ≡ None
no-next S M K L p past m h (inr (c, open')) = by_task open'.node.task refl where
  None-next : Type 0
  None-next = next_phase S.setting.program (world_of S.keeper.phase past p (stands K L S.keeper.phase) m) ≡ None

  by_task : (o : Option TaskState) → open'.node.task ≡ o → None-next
  by_task None is = let off : is_running open'.node.task ≡ false = ap is_running is in let on = open'.goes in absurd (cc)
  by_task (Some t) is =
      let u = core-task S M K L p c open'.node t h open'.found is (open-fails t (sym (ap is_running is) ∙ open'.goes)) open'.phase in
      unfinished-phase S.setting.program S.keeper.phase past p (stands K L S.keeper.phase) m u.0 u.1 u.2
no-next S M K L p past m h (inl all) = by_bad S.keeper.bad refl (h.halting.over all) where
  None-next : Type 0
  None-next = next_phase S.setting.program (world_of S.keeper.phase past p (stands K L S.keeper.phase) m) ≡ None

  with_node : (c : ℕ) → counts_bad S c ≡ true → (o : Option NodeParts) → slice_get S.nodes c ≡ o → None-next
  with_node c bad None is = absurd (none-bad c bad is) where
    and-none : (x : Bool) → (x && false) ≡ true → ⊥
    and-none true e = absurd (cc)
    and-none false e = absurd (cc)

    none-bad : (c : ℕ) → counts_bad S c ≡ true → slice_get S.nodes c ≡ None → ⊥
    none-bad c bad is =
        let none : counts_bad S c ≡ (slice_index_or S.keeper.arrived c false && false) = rw (is) refl in
        absurd (and-none (slice_index_or S.keeper.arrived c false) (sym none ∙ bad))
  with_node c bad (Some n) is = by_task n.task refl where
    bad-node : (x y : Bool) → (x && y) ≡ true → y ≡ true
    bad-node true y e = e
    bad-node false y e = absurd (cc)

    bad_is : task_ended_badly n.task ≡ true
    bad_is = bad-node (marked S c) (task_ended_badly n.task) (sym (counts-is S c n is) ∙ bad)

    level : (x : Bool) → n.halted ≡ x → n.phase ≡ S.keeper.phase
    level true off = h.halting.level c n is off
    level false off = omega (arith, h.inv.phases.phase c n is off, over-quiet S h.over (is_go_to c))

    by_task : (o : Option TaskState) → n.task ≡ o → None-next
    by_task None has = let fine : task_ended_badly n.task ≡ false = ap task_ended_badly has in let bad_too = bad_is in absurd (cc)
    by_task (Some t) has =
        let u = core-task S M K L p c n t h is has (bad-fails t (sym (ap task_ended_badly has) ∙ bad_is)) (level n.halted refl) in
        unfinished-phase S.setting.program S.keeper.phase past p (stands K L S.keeper.phase) m u.0 u.1 u.2

  by_bad : (x : Bool) → S.keeper.bad ≡ x → is_over S.keeper ≡ true → None-next
  by_bad true is over = let one = h.inv.phases.bad is in with_node one.0 one.1 (slice_get S.nodes one.0) refl
  by_bad false is over =
      let past_all : nat_le S.keeper.phases (S.keeper.phase + 1) ≡ true = rw (is) at over in
      last-phase S.setting.program S.keeper.phase past p (stands K L S.keeper.phase) m (grind (arith, nat_tests, past_all, h.inv.machine.phases))
