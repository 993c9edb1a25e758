-- Where a run is complete, each task stands in the flat machine as it was seen to stand when its node last had it.
use Rattle.std.proofs.Common.{◌≡◌, inl, inr, ℕ, zero, suc, ◌+◌, ◌<◌, ◌≤◌, ◌==◌, Bool, true, false, List, [], ◌∷◌, ◌++◌, map, take, slice_get, Option, Some, None, refl, sym, ap, subst, ◌∙◌, arith}
use Rattle.std.specs.List.{IsAmong, filter_map}
use Rattle.std.proofs.lemmas.Bool.{eqb-true}
use Rattle.std.proofs.lemmas.Bool.Decides.{nat_tests}
use Rattle.std.proofs.lemmas.List.{map-append}
use Rattle.std.proofs.lemmas.Option.{none-some, same_Some}
use Rattle.dn_base.specs.declared.ids.CoreId.{CoreId}
use Rattle.dn_base.specs.declared.ids.LockId.{LockId}
use Rattle.region_table.specs.Program.{ProgramParts}
use Rattle.region_table.specs.declared.declared.TaskDecl.{TaskDecl}
use Rattle.region_table.specs.declared.declared.Phase.{Phase}
use Rattle.region_table.specs.Tasks.{declared}
use Rattle.flat_machine.proofs.InOrder.{declared-only}
use Rattle.rv_core.specs.declared.task.TaskState.{TaskState}
use Rattle.rv_core.specs.declared.task.End.{End}
use Rattle.rv_core.specs.declared.need.Need as need
use Rattle.rv_core.specs.declared.need.Need.{Need}
use Rattle.rv_core.specs.declared.ending.EndShown as shown
use Rattle.rv_core.specs.declared.ending.TaskEnd.{TaskEnd}
use Rattle.rv_core.specs.Need.{need_of}
use Rattle.flat_machine.specs.Step.{Started}
use Rattle.flat_machine.specs.Ending.{task_end, shown_of, wait_shown}
use Rattle.message_net.specs.declared.event.Event.{Event}
use Rattle.registration_protocol.specs.Node.{NodeParts, is_running, need_now}
use Rattle.registration_protocol.specs.declared.node.NodeWait as wait
use Rattle.registration_protocol.specs.declared.node.NodeWait.{NodeWait}
use Rattle.registration_protocol.specs.OwnEvents.{end_of, end_by, shown_by as shown_in}
use Rattle.registration_protocol.proofs.InstrLemmas.{HasNext, has-next}
use Rattle.machine_rules.specs.State.{State}
use Rattle.machine_rules.specs.Flight.{is_go_to}
use Rattle.machine_rules.specs.Rest.{IsLockedOut, IsAtRest}
use Rattle.machine_rules.specs.Runs.{last_end, ends_from}
use Rattle.machine_rules.proofs.RestNodes.{over-quiet}
use Rattle.machine_rules.proofs.RestStates.{rest}
use Rattle.run_agreement.specs.Agreed.{States, Loads, Ends, stands, tasks_from, TaskHasEnded, AreEnded}
use Rattle.run_agreement.proofs.Nodes.{node-there, task-there}
use Rattle.run_agreement.proofs.Quiet.{IsLast, seen-ended}
use Rattle.run_agreement.proofs.Resting.{IsResting}

-- ---- one task

-- each node is in the keeper's phase
rests-level : (S : State) (M : ℕ → ℕ) (K : States) (L : Loads) (p : Phase) (c : ℕ) (n : NodeParts) → IsResting S M K L p → slice_get S.nodes c ≡ Some n → n.phase ≡ S.keeper.phase
rests-level S M K L p c n h found = by_halted n.halted refl where
  by_halted : (x : Bool) → n.halted ≡ x → n.phase ≡ S.keeper.phase
  by_halted true off = h.halting.level c n found off
  by_halted false off = omega (arith, h.inv.phases.phase c n found off, over-quiet S h.over (is_go_to c))

-- a task that is seen to have ended
ended-shows : (P : ProgramParts) (fuel : ℕ) (K : States) (L : Loads) (q : ℕ) (d : TaskDecl) (o : Option TaskEnd) → TaskHasEnded q d (K q d.core.0) o → o ≡ Some (task_end P fuel (stands K L q d))
ended-shows P fuel K L q d o h =
    h.shown
    ∙ ap (λ (e : Option End). Some (record { phase = record { 0 = q }; core = d.core; end = shown_of P fuel (stands K L q d) e; retired = (K q d.core.0).retired })) (sym h.over)

-- a task that waits for a lock
waiting-shows : (P : ProgramParts) (fuel : ℕ) (K : States) (L : Loads) (q : ℕ) (d : TaskDecl) (t : TaskState) (needs : Need) → K q d.core.0 ≡ t → t.end ≡ None → need_of P d fuel t ≡ needs
    → task_end P fuel (stands K L q d) ≡ record { phase = record { 0 = q }; core = d.core; end = wait_shown needs; retired = t.retired }
waiting-shows P fuel K L q d t needs state open' wants =
    let r : TaskState → Started = λ x. record { phase = record { 0 = q }; decl = d; state = x; loads = L q d.core.0 } in
    ap (λ (x : TaskState). task_end P fuel (r x)) state
    ∙ ap (λ (e : Option End). record { phase = record { 0 = q }; core = d.core; end = shown_of P fuel (r t) e; retired = t.retired }) open'
    ∙ ap (λ (x : Need). record { phase = record { 0 = q }; core = d.core; end = wait_shown x; retired = t.retired }) wants

waiting-tells : (n : NodeParts) (t : TaskState) (lock : LockId) (q : ℕ) (c : CoreId) → n.task ≡ Some t → t.end ≡ None → n.waiting ≡ wait.TheVariants.Locking lock → n.phase ≡ q → n.core ≡ c.0
    → end_of n n.task ≡ Some (record { phase = record { 0 = q }; core = c; end = shown.TheVariants.Waits lock; retired = t.retired })
waiting-tells n t lock q c task open' waiting phase core =
    let tells : ℕ → ℕ → Option TaskEnd = λ k x. Some (record { phase = record { 0 = k }; core = record { 0 = x }; end = shown.TheVariants.Waits lock; retired = t.retired }) in
    ap (end_of n) task ∙ ap (λ (o : Option End). end_by n t (shown_in o n.waiting)) open' ∙ ap (λ (w : NodeWait). end_by n t (shown_in None w)) waiting
    ∙ ap (λ (k : ℕ). tells k n.core) phase ∙ ap (tells q) core

-- a task of a phase that has begun
pub task-seen : (S : State) (M : ℕ → ℕ) (K : States) (L : Loads) (E : Ends) (p : Phase) (q : ℕ) (x : Phase) (d : TaskDecl) → IsResting S M K L p → IsLast S E → AreEnded S K E → q ≤ S.keeper.phase
    → slice_get S.setting.program.phases q ≡ Some x → IsAmong x.tasks d → E q d.core.0 ≡ Some (task_end S.setting.program S.setting.fuel (stands K L q d))
task-seen S M K L E p q x d h last ended begun there among = by_node (node-there S M q x d h.inv there among) where
  P : ProgramParts
  P = S.setting.program

  c : ℕ
  c = d.core.0

  declares : declared P q c ≡ Some d
  declares = declared-only P q x d h.inv.machine.program.order there among

  Seen : Type 0
  Seen = E q c ≡ Some (task_end P S.setting.fuel (stands K L q d))

  waits : (n : NodeParts) → slice_get S.nodes c ≡ Some n → n.phase ≡ q → (t : TaskState) → n.task ≡ Some t → K q c ≡ t → t.end ≡ None → IsLockedOut S c → Seen
  waits n found same t task state open' out =
      let one : out.waits.0 ≡ n = same_Some out.waits.0 n (sym out.waits.1 ∙ found) in
      let waiting : n.waiting ≡ wait.TheVariants.Locking out.lock = subst (λ (y : NodeParts). y.waiting ≡ wait.TheVariants.Locking out.lock) one out.waits.2 in
      let needs : need_now S.setting n ≡ Some (need.TheVariants.Acquire out.lock) = rw (waiting) at ((h.inv.machine.node c n found).fits).waiting in
      let next_is : HasNext S.setting n t (need.TheVariants.Acquire out.lock) = has-next S.setting n t (need.TheVariants.Acquire out.lock) task needs in
      let core : n.core ≡ c = (h.inv.machine.node c n found).core in
      let here : declared P q c ≡ Some next_is.decl = subst (λ (k : ℕ). declared P k c ≡ Some next_is.decl) same (subst (λ (y : ℕ). declared P n.phase y ≡ Some next_is.decl) core next_is.declares) in
      let decl : next_is.decl ≡ d = same_Some next_is.decl d (sym here ∙ declares) in
      let wants : need_of P d S.setting.fuel t ≡ need.TheVariants.Acquire out.lock = subst (λ (y : TaskDecl). need_of P y S.setting.fuel t ≡ need.TheVariants.Acquire out.lock) decl next_is.asks in
      let tells = waiting-tells n t out.lock q d.core task open' waiting same core in
      let told : E q c ≡ Some (record { phase = record { 0 = q }; core = d.core; end = shown.TheVariants.Waits out.lock; retired = t.retired }) =
      subst (λ (k : ℕ). E k c ≡ Some (record { phase = record { 0 = q }; core = d.core; end = shown.TheVariants.Waits out.lock; retired = t.retired })) same (last c n _ found tells) in
      told ∙ ap Some (sym (waiting-shows P S.setting.fuel K L q d t (need.TheVariants.Acquire out.lock) state open' wants))

  by_rest : (n : NodeParts) → slice_get S.nodes c ≡ Some n → n.phase ≡ q → (t : TaskState) → n.task ≡ Some t → K q c ≡ t → t.end ≡ None → IsAtRest S → Seen
  by_rest n found same t task state open' (inl all) =
      let over = (h.inv.phases.asleep c n found (all c n found)).over in
      let on : is_running n.task ≡ true = rw (task, open') refl in
      absurd (cc)
  by_rest n found same t task state open' (inr stuck) =
      waits n found same t task state open' (stuck.each c (record { node = n; found = found; phase = rests-level S M K L p c n h found; goes = rw (task, open') refl }))

  by_end : (n : NodeParts) → slice_get S.nodes c ≡ Some n → n.phase ≡ q → (t : TaskState) → n.task ≡ Some t → K q c ≡ t → (o : Option End) → t.end ≡ o → Seen
  by_end n found same t task state None is = by_rest n found same t task state is (rest S M h.inv h.over)
  by_end n found same t task state (Some by) is =
      let now : TaskHasEnded n.phase d t (E n.phase c) = seen-ended S M E c n d t by h.inv last found task (subst (λ (k : ℕ). declared P k c ≡ Some d) (sym same) declares) is in
      let here : TaskHasEnded q d t (E q c) = subst (λ (k : ℕ). TaskHasEnded k d t (E k c)) same now in
      ended-shows P S.setting.fuel K L q d (E q c) (subst (λ (y : TaskState). TaskHasEnded q d y (E q c)) (sym state) here)

  by_phase : (n : NodeParts) → slice_get S.nodes c ≡ Some n → (b : Bool) → (n.phase == q) ≡ b → Seen
  by_phase n found true e =
      let same : n.phase ≡ q = eqb-true n.phase q e in
      let task = task-there S M c n d h.inv found (subst (λ (k : ℕ). declared P k c ≡ Some d) (sym same) declares) in
      by_end n found same task.0 task.1 (subst (λ (k : ℕ). K k c ≡ task.0) same (h.shown.here c n task.0 found task.1)) task.0.end refl
  by_phase n found false e =
      ended-shows P S.setting.fuel K L q d (E q c) (ended c q n d found (grind (arith, nat_tests, e, begun, rests-level S M K L p c n h found)) declares)

  by_node : (n : NodeParts) × (slice_get S.nodes c ≡ Some n) → Seen
  by_node (n, found) = by_phase n found (n.phase == q) refl

-- ---- all tasks

ends-map : (P : ProgramParts) (fuel : ℕ) (K : States) (L : Loads) (S : State) (events : List Event) (phase : ℕ) (ds : List TaskDecl)
    → ((d : TaskDecl) → IsAmong ds d → last_end phase d.core.0 S events ≡ Some (task_end P fuel (stands K L phase d)))
    → map (task_end P fuel) (map (stands K L phase) ds) ≡ filter_map (λ (d : TaskDecl). last_end phase d.core.0 S events) ds
ends-map P fuel K L S events phase [] same = refl
ends-map P fuel K L S events phase (d ∷ ds) same =
    let first : last_end phase d.core.0 S events ≡ Some (task_end P fuel (stands K L phase d)) = same d (0, (omega arith, refl)) in
    let rest = ends-map P fuel K L S events phase ds (λ e among. same e (suc among.0, (let l = among.1.0 in omega arith, among.1.1))) in
    ap (λ (xs : List TaskEnd). task_end P fuel (stands K L phase d) ∷ xs) rest ∙ rw (first) refl

pub ends-list : (P : ProgramParts) (fuel : ℕ) (K : States) (L : Loads) (S : State) (events : List Event) (phase : ℕ) (ps : List Phase)
    → ((j : ℕ) (x : Phase) (d : TaskDecl) → slice_get ps j ≡ Some x → IsAmong x.tasks d → last_end (phase + j) d.core.0 S events ≡ Some (task_end P fuel (stands K L (phase + j) d)))
    → map (task_end P fuel) (tasks_from K L phase ps) ≡ ends_from phase ps S events
ends-list P fuel K L S events phase [] same = refl
ends-list P fuel K L S events phase (p ∷ ps) same =
    let f : TaskDecl → Option TaskEnd = λ d. last_end phase d.core.0 S events in
    let none : phase + zero ≡ phase = omega arith in
    let first : map (task_end P fuel) (map (stands K L phase) p.tasks) ≡ filter_map f p.tasks =
    ends-map P fuel K L S events phase p.tasks
    (λ d among. subst (λ (k : ℕ). last_end k d.core.0 S events ≡ Some (task_end P fuel (stands K L k d))) none (same zero p d refl among)) in
    let rest : map (task_end P fuel) (tasks_from K L (phase + 1) ps) ≡ ends_from (phase + 1) ps S events =
    ends-list P fuel K L S events (phase + 1) ps
    (λ j x d there among.
    (let number : phase + suc j ≡ phase + 1 + j = omega arith in
    subst (λ (k : ℕ). last_end k d.core.0 S events ≡ Some (task_end P fuel (stands K L k d))) number (same (suc j) x d there among))) in
    map-append (task_end P fuel) (map (stands K L phase) p.tasks) (tasks_from K L (phase + 1) ps)
    ∙ ap (λ (xs : List TaskEnd). xs ++ map (task_end P fuel) (tasks_from K L (phase + 1) ps)) first ∙ ap (λ (xs : List TaskEnd). filter_map f p.tasks ++ xs) rest

-- who is among the first elements of a list
pub take-back : {X : Type 0} (xs : List X) (k j : ℕ) (x : X) → slice_get (take k xs) j ≡ Some x → (j < k) × (slice_get xs j ≡ Some x)
take-back [] zero j x there = absurd (none-some x there)
take-back [] (suc k) j x there = absurd (none-some x there)
take-back (z ∷ xs) zero j x there = absurd (none-some x there)
take-back (z ∷ xs) (suc k) zero x there = (omega arith, there)
take-back (z ∷ xs) (suc k) (suc j) x there = let rest = take-back xs k j x there in ((let l = rest.0 in omega arith), rest.1)
