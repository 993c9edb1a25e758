-- Events that leave each task as it was keep that the state agrees with the run.
use Rattle.std.proofs.Common.{◌≡◌, ℕ, ◌+◌, ◌<◌, ◌==◌, Bool, true, false, slice_get, arith, List, Option, Some, None, refl, sym, ap, subst, ◌∙◌}
use Rattle.std.specs.Option.{option_map}
use Rattle.std.proofs.lemmas.Bool.Decides.{nat_tests}
use Rattle.std.proofs.lemmas.Option.{none-some, same_Some}
use Rattle.dn_base.specs.declared.ids.Grant.{Grant}
use Rattle.region_table.specs.declared.declared.TaskDecl.{TaskDecl}
use Rattle.region_table.specs.Tasks.{declared, IsDeclaration}
use Rattle.region_table.proofs.TaskLemmas.{declared-tells}
use Rattle.rv_core.specs.declared.task.TaskState.{TaskState}
use Rattle.rv_core.specs.declared.task.End.{End}
use Rattle.rv_core.specs.declared.ending.TaskEnd.{TaskEnd}
use Rattle.rv_core.specs.Ending.{shown_end}
use Rattle.rv_core.specs.Task.{started}
use Rattle.message_net.specs.declared.message.Outgoing.{Outgoing}
use Rattle.phase_barrier.specs.Barrier.{Barrier}
use Rattle.registration_protocol.specs.Node.{NodeParts, is_running}
use Rattle.registration_protocol.specs.OwnEvents.{end_of, end_by, shown_by}
use Rattle.registration_protocol.specs.Messages.{begins}
use Rattle.machine_rules.specs.State.{State}
use Rattle.machine_rules.proofs.Invariant.{Invariant}
use Rattle.machine_rules.proofs.Steps.{NodeStep}
use Rattle.run_agreement.specs.Agreed.{Loads, Ends, stands, AreShown, TaskHasEnded, AreEnded, Agreed, more_ends}
use Rattle.run_agreement.proofs.Standing.{SameAt, stands-same}
use Rattle.run_agreement.proofs.Shown.{shown-still, shown-step, shown-go, ended-still, ended-step, ended-go}
use Rattle.run_agreement.proofs.Acting.{past-same, world-same, world-moves}
use Rattle.run_agreement.proofs.Nodes.{task-there}

-- the nodes have the same tasks in the same phases; the keeper is in the same phase
moves : {E : Ends} (S T : State) (M : ℕ → ℕ) (gs : List Grant) (L : Loads) → T.setting ≡ S.setting → T.keeper.phase ≡ S.keeper.phase → (h : Agreed S M gs L E) → AreShown T h.states L → AreEnded T h.states E → Agreed T M gs L E
moves S T M gs L setting phase h shown ended =
    record {
      states = h.states;
      shown = shown;
      ended = ended;
      memory = h.memory;
      same = h.same;
      phase = h.phase;
      world = world-moves S T gs h.states L h.phase h.memory setting phase h.world;
    }

-- an event of a bank, or of the keeper in its phase
pub still-agreed : {E : Ends} (S T : State) (M : ℕ → ℕ) (gs : List Grant) (L : Loads) → T.setting ≡ S.setting → T.nodes ≡ S.nodes → T.keeper.phase ≡ S.keeper.phase → Agreed S M gs L E → Agreed T M gs L E
still-agreed {E} S T M gs L setting nodes phase h =
    moves S T M gs L setting phase h (shown-still S T h.states L L setting nodes (λ q c. refl) h.shown) (ended-still S T h.states E setting nodes h.ended)

-- an event of a core that leaves its task
pub quiet-agreed : {E : Ends} (S T : State) (M : ℕ → ℕ) (gs : List Grant) (L : Loads) (core : ℕ) (n m : NodeParts) (left sent : Option Outgoing) → NodeStep S T core n m left sent → m.phase ≡ n.phase → m.task ≡ n.task
    → Agreed S M gs L E → Agreed T M gs L E
quiet-agreed {E} S T M gs L core n m left sent step phase task h =
    moves S T M gs L step.setting (ap (λ (k : Barrier). k.phase) step.keeper) h
    (shown-step S T h.states h.states L L core n m left sent step phase (λ t is. h.shown.here core n t step.found (sym task ∙ is)) (λ q c apart. record { state = refl; load = refl }) h.shown)
    (ended-step S T h.states h.states E core n m left sent step phase (λ q c apart. refl) h.ended)

-- the ends that are seen tell each task of a node that has ended or waits for a lock
abbrev pub IsLast : State → Ends → Type 0
IsLast S E = (c : ℕ) (n : NodeParts) (x : TaskEnd) → slice_get S.nodes c ≡ Some n → end_of n n.task ≡ Some x → E n.phase c ≡ Some x

over-ended : (t : TaskState) → is_running (Some t) ≡ false → (by : End) × (t.end ≡ Some by)
over-ended t off = by_end t.end refl where
  by_end : (o : Option End) → t.end ≡ o → (by : End) × (t.end ≡ Some by)
  by_end None is = let on : is_running (Some t) ≡ true = rw (is) refl in absurd (cc)
  by_end (Some by) is = (by, is)

-- the end of a node's task is seen
pub seen-ended : (S : State) (M : ℕ → ℕ) (E : Ends) (c : ℕ) (n : NodeParts) (d : TaskDecl) (t : TaskState) (by : End) → Invariant S M → IsLast S E → slice_get S.nodes c ≡ Some n → n.task ≡ Some t
    → declared S.setting.program n.phase c ≡ Some d → t.end ≡ Some by → TaskHasEnded n.phase d t (E n.phase c)
seen-ended S M E c n d t by inv last found task declares over =
    let tells : IsDeclaration S.setting.program n.phase c d = declared-tells S.setting.program n.phase c d declares in
    let place : n.core ≡ d.core.0 = (inv.machine.node c n found).core ∙ sym tells.own in
    let now : end_of n n.task ≡ Some (record { phase = record { 0 = n.phase }; core = d.core; end = shown_end by; retired = t.retired }) =
    ap (end_of n) task ∙ ap (λ (o : Option End). end_by n t (shown_by o n.waiting)) over
    ∙ ap (λ (x : ℕ). Some (record { phase = record { 0 = n.phase }; core = record { 0 = x }; end = shown_end by; retired = t.retired })) place in
    record { by = by; over = over; shown = last c n _ found now }

-- a core enters the keeper's phase
new-task : (o : Option TaskDecl) (t : TaskState) → option_map started o ≡ Some t → (d : TaskDecl) × (o ≡ Some d) × (started d ≡ t)
new-task None t is = absurd (none-some t is)
new-task (Some d) t is = (d, refl, same_Some (started d) t is)

pub go-agreed : {E : Ends} (S T : State) (M : ℕ → ℕ) (gs : List Grant) (L : Loads) (core : ℕ) (n : NodeParts) (phase : ℕ) (left sent : Option Outgoing) → Invariant S M → NodeStep S T core n (begins S.setting n phase) left sent → phase ≡ n.phase + 1 → n.arrived ≡ true → IsLast S E
    → Agreed S M gs L E → Agreed T M gs L E
go-agreed {E} S T M gs L core n phase left sent inv step later there last h =
    moves S T M gs L step.setting (ap (λ (k : Barrier). k.phase) step.keeper) h
    (shown-go S T h.states L L core n (begins S.setting n phase) left sent step later
    (λ t is. new-task (declared S.setting.program phase core) t (subst (λ (c : ℕ). option_map started (declared S.setting.program phase c) ≡ Some t) (inv.machine.node core n step.found).core is))
    (λ q c. refl) h.shown)
    (ended-go S T h.states E core n (begins S.setting n phase) left sent step later own h.ended)
  where
    own : (d : TaskDecl) → declared S.setting.program n.phase core ≡ Some d → TaskHasEnded n.phase d (h.states n.phase core) (E n.phase core)
    own d declares =
        let task = task-there S M core n d inv step.found declares in
        let over : is_running (Some task.0) ≡ false = sym (ap is_running task.1) ∙ (inv.phases.arrived core n step.found there).over in
        let by = over-ended task.0 over in
        subst (λ (t : TaskState). TaskHasEnded n.phase d t (E n.phase core)) (sym (h.shown.here core n task.0 step.found task.1)) (seen-ended S M E core n d task.0 by.0 inv last step.found task.1 declares by.1)

-- the same loads, and the same grants
pub loads-same : {E : Ends} (S : State) (M : ℕ → ℕ) (gs gs' : List Grant) (L L' : Loads) → gs' ≡ gs → ((q c : ℕ) → L' q c ≡ L q c) → Agreed S M gs L E → Agreed S M gs' L' E
loads-same {E} S M gs gs' L L' grants loads h = subst (λ (x : List Grant). Agreed S M x L' E) (sym grants) same where
  at : (q c : ℕ) → SameAt h.states h.states L L' q c
  at q c = record { state = refl; load = loads q c }

  same : Agreed S M gs L' E
  same =
      record {
        states = h.states;
        shown = record { here = h.shown.here; ahead = h.shown.ahead; unread = λ c q n found later. loads q c ∙ h.shown.unread c q n found later };
        ended = h.ended;
        memory = h.memory;
        same = h.same;
        phase = h.phase;
        world = world-same S.setting.program S.setting.fuel gs S.keeper.phase _ _ h.phase (stands h.states L S.keeper.phase) (stands h.states L' S.keeper.phase) h.memory
            (past-same S.setting h.states h.states L L' S.keeper.phase h.phase h.world.there (λ q c before. at q c))
            (λ d among. stands-same h.states h.states L L' S.keeper.phase d (at S.keeper.phase d.core.0)) h.world;
      }

-- the ends that are seen, and those that are seen in the state itself
pub ends-more : (S : State) (M : ℕ → ℕ) (gs : List Grant) (L : Loads) (E : Ends) → Agreed S M gs L E → Agreed S M gs L (more_ends E S)
ends-more S M gs L E h = record { states = h.states; shown = h.shown; ended = ended; memory = h.memory; same = h.same; phase = h.phase; world = h.world } where
  past : (c q : ℕ) (n : NodeParts) → slice_get S.nodes c ≡ Some n → q < n.phase → more_ends E S q c ≡ E q c
  past c q n found before = by_test (n.phase == q) refl where
    by_test : (b : Bool) → (n.phase == q) ≡ b → more_ends E S q c ≡ E q c
    by_test true e = absurd (grind (arith, nat_tests, e, before))
    by_test false e = rw (found, e) refl

  ended : AreEnded S h.states (more_ends E S)
  ended c q n d found before is = subst (λ (o : Option TaskEnd). TaskHasEnded q d (h.states q c) o) (sym (past c q n found before)) (h.ended c q n d found before is)

pub last-more : (S : State) (E : Ends) → IsLast S (more_ends E S)
last-more S E c n x found is = by_test (n.phase == n.phase) refl where
  by_test : (b : Bool) → (n.phase == n.phase) ≡ b → more_ends E S n.phase c ≡ Some x
  by_test true e = rw (found, e, is) refl
  by_test false e = absurd (grind (arith, nat_tests, e))
