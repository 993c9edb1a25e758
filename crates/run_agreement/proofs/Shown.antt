-- The nodes of a state have the tasks that stand so: what events keep of that.
use Rattle.std.proofs.Common.{◌≡◌, ◌⊎◌, inl, inr, ℕ, ◌+◌, ◌<◌, ◌==◌, Bool, true, false, cond, List, [], slice_get, Option, Some, refl, sym, ap, subst, ◌∙◌, arith}
use Rattle.std.proofs.lemmas.Bool.{eqb-true}
use Rattle.std.proofs.lemmas.Bool.Decides.{nat_tests}
use Rattle.std.proofs.lemmas.Option.{same_Some}
use Rattle.region_table.specs.declared.declared.TaskDecl.{TaskDecl}
use Rattle.region_table.specs.Tasks.{declared}
use Rattle.rv_core.specs.declared.task.TaskState.{TaskState}
use Rattle.rv_core.specs.Task.{started}
use Rattle.message_net.specs.declared.message.Outgoing.{Outgoing}
use Rattle.registration_protocol.specs.Node.{NodeParts, Setting}
use Rattle.machine_rules.specs.State.{State}
use Rattle.machine_rules.proofs.Steps.{NodeStep}
use Rattle.run_agreement.specs.Agreed.{States, Loads, Ends, AreShown, TaskHasEnded, AreEnded}
use Rattle.run_agreement.proofs.Standing.{SameAt}

-- the nodes of the state after a core's event
pub node-at : (S T : State) (core : ℕ) (n m : NodeParts) (left sent : Option Outgoing) (c : ℕ) (x : NodeParts) → NodeStep S T core n m left sent → slice_get T.nodes c ≡ Some x
    → ((core ≡ c) × (m ≡ x)) ⊎ ((c ≡ core → ⊥) × (slice_get S.nodes c ≡ Some x))
node-at S T core n m left sent c x step found = by_core (core == c) refl (sym (step.nodes c) ∙ found) where
  by_core : (b : Bool) → (core == c) ≡ b → cond (core == c) (Some m) (slice_get S.nodes c) ≡ Some x → ((core ≡ c) × (m ≡ x)) ⊎ ((c ≡ core → ⊥) × (slice_get S.nodes c ≡ Some x))
  by_core true e is =
      let one : Some m ≡ Some x = rw (e) at is in
      inl (eqb-true core c e, same_Some m x one)
  by_core false e is =
      let one : slice_get S.nodes c ≡ Some x = rw (e) at is in
      inr (λ f. grind (arith, nat_tests, e, f), one)

-- no node changes
pub shown-still : (S T : State) (K : States) (L L' : Loads) → T.setting ≡ S.setting → T.nodes ≡ S.nodes → ((q c : ℕ) → L' q c ≡ L q c) → AreShown S K L → AreShown T K L'
shown-still S T K L L' setting nodes loads h =
    record {
      here = λ c n t found task. h.here c n t (old c n found) task;
      ahead = λ c phase n d found later is. h.ahead c phase n d (old c n found) later (subst (λ (C : Setting). declared C.program phase c ≡ Some d) setting is);
      unread = λ c phase n found later. loads phase c ∙ h.unread c phase n (old c n found) later;
    }
  where
    old : (c : ℕ) (n : NodeParts) → slice_get T.nodes c ≡ Some n → slice_get S.nodes c ≡ Some n
    old c n found = subst (λ (ns : List NodeParts). slice_get ns c ≡ Some n) nodes found

-- a core's event leaves its phase; the task may change
pub shown-step : (S T : State) (K K' : States) (L L' : Loads) (core : ℕ) (n m : NodeParts) (left sent : Option Outgoing) → NodeStep S T core n m left sent → m.phase ≡ n.phase
    → ((t : TaskState) → m.task ≡ Some t → K' n.phase core ≡ t) → ((q c : ℕ) → (q ≡ n.phase → c ≡ core → ⊥) → SameAt K K' L L' q c) → AreShown S K L → AreShown T K' L'
shown-step S T K K' L L' core n m left sent step phase own others h =
    record {
      here = λ c x t found task. by_here c x t task (node-at S T core n m left sent c x step found);
      ahead = λ c q x d found later is. by_ahead c q x d later (subst (λ (C : Setting). declared C.program q c ≡ Some d) step.setting is) (node-at S T core n m left sent c x step found);
      unread = λ c q x found later. by_unread c q x later (node-at S T core n m left sent c x step found);
    }
  where
    Ways : ℕ → NodeParts → Type 0
    Ways c x = ((core ≡ c) × (m ≡ x)) ⊎ ((c ≡ core → ⊥) × (slice_get S.nodes c ≡ Some x))

    by_here : (c : ℕ) (x : NodeParts) (t : TaskState) → x.task ≡ Some t → Ways c x → K' x.phase c ≡ t
    by_here c x t task (inl (at', is)) =
        let mine : K' n.phase core ≡ t = own t (ap (λ (y : NodeParts). y.task) is ∙ task) in
        ap (λ (y : ℕ). K' x.phase y) (sym at') ∙ ap (λ (y : ℕ). K' y core) (sym (ap (λ (y : NodeParts). y.phase) is) ∙ phase) ∙ mine
    by_here c x t task (inr (apart, found)) = (others x.phase c (λ e f. apart f)).state ∙ h.here c x t found task

    by_ahead : (c q : ℕ) (x : NodeParts) (d : TaskDecl) → x.phase < q → declared S.setting.program q c ≡ Some d → Ways c x → K' q c ≡ started d
    by_ahead c q x d later is (inl (at', same)) =
        let before : n.phase < q = subst (λ (y : ℕ). y < q) (sym (ap (λ (y : NodeParts). y.phase) same) ∙ phase) later in
        let found : slice_get S.nodes c ≡ Some n = subst (λ (y : ℕ). slice_get S.nodes y ≡ Some n) at' step.found in
        (others q c (λ e f. omega (arith, e, before))).state ∙ h.ahead c q n d found before is
    by_ahead c q x d later is (inr (apart, found)) = (others q c (λ e f. apart f)).state ∙ h.ahead c q x d found later is

    by_unread : (c q : ℕ) (x : NodeParts) → x.phase < q → Ways c x → L' q c ≡ []
    by_unread c q x later (inl (at', same)) =
        let before : n.phase < q = subst (λ (y : ℕ). y < q) (sym (ap (λ (y : NodeParts). y.phase) same) ∙ phase) later in
        let found : slice_get S.nodes c ≡ Some n = subst (λ (y : ℕ). slice_get S.nodes y ≡ Some n) at' step.found in
        (others q c (λ e f. omega (arith, e, before))).load ∙ h.unread c q n found before
    by_unread c q x later (inr (apart, found)) = (others q c (λ e f. apart f)).load ∙ h.unread c q x found later

-- a node enters the next phase, and its task there is at its start
pub shown-go : (S T : State) (K : States) (L L' : Loads) (core : ℕ) (n m : NodeParts) (left sent : Option Outgoing) → NodeStep S T core n m left sent → m.phase ≡ n.phase + 1
    → ((t : TaskState) → m.task ≡ Some t → (d : TaskDecl) × (declared S.setting.program m.phase core ≡ Some d) × (started d ≡ t)) → ((q c : ℕ) → L' q c ≡ L q c) → AreShown S K L → AreShown T K L'
shown-go S T K L L' core n m left sent step phase own loads h =
    record {
      here = λ c x t found task. by_here c x t task (node-at S T core n m left sent c x step found);
      ahead = λ c q x d found later is. by_ahead c q x d later (subst (λ (C : Setting). declared C.program q c ≡ Some d) step.setting is) (node-at S T core n m left sent c x step found);
      unread = λ c q x found later. loads q c ∙ by_unread c q x later (node-at S T core n m left sent c x step found);
    }
  where
    Ways : ℕ → NodeParts → Type 0
    Ways c x = ((core ≡ c) × (m ≡ x)) ⊎ ((c ≡ core → ⊥) × (slice_get S.nodes c ≡ Some x))

    next-one : n.phase < m.phase
    next-one = omega (arith, phase)

    by_here : (c : ℕ) (x : NodeParts) (t : TaskState) → x.task ≡ Some t → Ways c x → K x.phase c ≡ t
    by_here c x t task (inl (at', is)) =
        let new = own t (ap (λ (y : NodeParts). y.task) is ∙ task) in
        let mine : K m.phase core ≡ started new.0 = h.ahead core m.phase n new.0 step.found next-one new.1 in
        ap (λ (y : ℕ). K x.phase y) (sym at') ∙ ap (λ (y : NodeParts). K y.phase core) (sym is) ∙ mine ∙ new.2
    by_here c x t task (inr (apart, found)) = h.here c x t found task

    before : (c q : ℕ) (x : NodeParts) → m ≡ x → x.phase < q → n.phase < q
    before c q x same later = omega (arith, later, phase, ap (λ (y : NodeParts). y.phase) same)

    there : (c : ℕ) → core ≡ c → slice_get S.nodes c ≡ Some n
    there c at' = subst (λ (y : ℕ). slice_get S.nodes y ≡ Some n) at' step.found

    by_ahead : (c q : ℕ) (x : NodeParts) (d : TaskDecl) → x.phase < q → declared S.setting.program q c ≡ Some d → Ways c x → K q c ≡ started d
    by_ahead c q x d later is (inl (at', same)) = h.ahead c q n d (there c at') (before c q x same later) is
    by_ahead c q x d later is (inr (apart, found)) = h.ahead c q x d found later is

    by_unread : (c q : ℕ) (x : NodeParts) → x.phase < q → Ways c x → L q c ≡ []
    by_unread c q x later (inl (at', same)) = h.unread c q n (there c at') (before c q x same later)
    by_unread c q x later (inr (apart, found)) = h.unread c q x found later

-- ---- the tasks of past phases

pub ended-still : (S T : State) (K : States) (E : Ends) → T.setting ≡ S.setting → T.nodes ≡ S.nodes → AreEnded S K E → AreEnded T K E
ended-still S T K E setting nodes h c q n d found before is =
    h c q n d (subst (λ (ns : List NodeParts). slice_get ns c ≡ Some n) nodes found) before (subst (λ (C : Setting). declared C.program q c ≡ Some d) setting is)

pub ended-step : (S T : State) (K K' : States) (E : Ends) (core : ℕ) (n m : NodeParts) (left sent : Option Outgoing) → NodeStep S T core n m left sent → m.phase ≡ n.phase
    → ((q c : ℕ) → (q ≡ n.phase → c ≡ core → ⊥) → K' q c ≡ K q c) → AreEnded S K E → AreEnded T K' E
ended-step S T K K' E core n m left sent step phase others h c q x d found before is = by_ways (node-at S T core n m left sent c x step found) where
  declares : declared S.setting.program q c ≡ Some d
  declares = subst (λ (C : Setting). declared C.program q c ≡ Some d) step.setting is

  by_ways : ((core ≡ c) × (m ≡ x)) ⊎ ((c ≡ core → ⊥) × (slice_get S.nodes c ≡ Some x)) → TaskHasEnded q d (K' q c) (E q c)
  by_ways (inl (at', same)) =
      let earlier : q < n.phase = subst (λ (y : ℕ). q < y) (sym (ap (λ (y : NodeParts). y.phase) same) ∙ phase) before in
      let there : slice_get S.nodes c ≡ Some n = subst (λ (y : ℕ). slice_get S.nodes y ≡ Some n) at' step.found in
      subst (λ (t : TaskState). TaskHasEnded q d t (E q c)) (sym (others q c (λ e f. omega (arith, e, earlier)))) (h c q n d there earlier declares)
  by_ways (inr (apart, there)) = subst (λ (t : TaskState). TaskHasEnded q d t (E q c)) (sym (others q c (λ e f. apart f))) (h c q x d there before declares)

-- a node enters the next phase, and its task was over
pub ended-go : (S T : State) (K : States) (E : Ends) (core : ℕ) (n m : NodeParts) (left sent : Option Outgoing) → NodeStep S T core n m left sent → m.phase ≡ n.phase + 1
    → ((d : TaskDecl) → declared S.setting.program n.phase core ≡ Some d → TaskHasEnded n.phase d (K n.phase core) (E n.phase core)) → AreEnded S K E → AreEnded T K E
ended-go S T K E core n m left sent step phase own h c q x d found before is = by_ways (node-at S T core n m left sent c x step found) where
  declares : declared S.setting.program q c ≡ Some d
  declares = subst (λ (C : Setting). declared C.program q c ≡ Some d) step.setting is

  by_phase : core ≡ c → q < n.phase + 1 → (b : Bool) → (n.phase == q) ≡ b → TaskHasEnded q d (K q c) (E q c)
  by_phase at' earlier true e =
      let same : n.phase ≡ q = eqb-true n.phase q e in
      let mine : declared S.setting.program n.phase core ≡ Some d =
      subst (λ (y : ℕ). declared S.setting.program n.phase y ≡ Some d) (sym at') (subst (λ (k : ℕ). declared S.setting.program k c ≡ Some d) (sym same) declares) in
      subst (λ (y : ℕ). TaskHasEnded q d (K q y) (E q y)) at' (subst (λ (k : ℕ). TaskHasEnded k d (K k core) (E k core)) same (own d mine))
  by_phase at' earlier false e =
      h c q n d (subst (λ (y : ℕ). slice_get S.nodes y ≡ Some n) at' step.found) (grind (arith, nat_tests, e, earlier)) declares

  by_ways : ((core ≡ c) × (m ≡ x)) ⊎ ((c ≡ core → ⊥) × (slice_get S.nodes c ≡ Some x)) → TaskHasEnded q d (K q c) (E q c)
  by_ways (inl (at', same)) = by_phase at' (subst (λ (y : ℕ). q < y) (sym (ap (λ (y : NodeParts). y.phase) same) ∙ phase) before) (n.phase == q) refl
  by_ways (inr (apart, there)) = h c q x d there before declares
