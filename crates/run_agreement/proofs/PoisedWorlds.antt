-- Where a core of a poised state goes on, the tasks as they stand are the flat machine's state by the grants so far.
use Rattle.std.proofs.Common.{◌≡◌, ◌⊎◌, inl, inr, ℕ, ◌<◌, true, false, List, length, take, slice_get, Option, Some, None, refl, sym, ap, subst, ◌∙◌, arith}
use Rattle.std.specs.List.{IsAmong}
use Rattle.std.specs.Option.{is_some}
use Rattle.std.proofs.lemmas.Bool.{false_from_ne_true}
use Rattle.std.proofs.lemmas.Option.{same_Some, slice_get_within, get_or_from_slice_get}
use Rattle.dn_base.specs.declared.ids.Grant.{Grant}
use Rattle.region_table.specs.Program.{ProgramParts}
use Rattle.region_table.specs.declared.declared.TaskDecl.{TaskDecl}
use Rattle.region_table.specs.declared.declared.Phase.{Phase}
use Rattle.region_table.specs.Tasks.{declared, IsDeclaration}
use Rattle.region_table.proofs.TaskLemmas.{declared-tells}
use Rattle.rv_core.specs.Access.{is_held}
use Rattle.rv_core.specs.declared.task.TaskState.{TaskState}
use Rattle.rv_core.specs.declared.task.End.{End}
use Rattle.rv_core.specs.declared.need.Need as need
use Rattle.rv_core.specs.declared.need.Need.{Need}
use Rattle.rv_core.specs.Need.{need_of}
use Rattle.rv_core.specs.Task.{started}
use Rattle.rv_core.proofs.HeldLemmas.{holds-none}
use Rattle.flat_machine.specs.Step.{Started, wish, wish_unless}
use Rattle.flat_machine.specs.Phases.{Flat, finished_by, has_finished}
use Rattle.flat_machine.specs.Grants.{so_far}
use Rattle.flat_machine.specs.Laws.{EndsSegment}
use Rattle.flat_machine.proofs.InOrder.{declared-only}
use Rattle.flat_machine.proofs.Rights.{both-ways}
use Rattle.phase_barrier.specs.Barrier.{all_arrived}
use Rattle.registration_protocol.specs.Node.{NodeParts, is_running, need_now}
use Rattle.registration_protocol.proofs.InstrLemmas.{HasNext, has-next}
use Rattle.machine_rules.specs.State.{State}
use Rattle.machine_rules.specs.Flight.{is_go_to}
use Rattle.machine_rules.specs.Sound.{IsNodeAt}
use Rattle.machine_rules.specs.Coherent.{has_lock, holds_lock}
use Rattle.machine_rules.proofs.Invariant.{Invariant}
use Rattle.run_agreement.specs.Agreed.{States, Loads, Ends, stands, tasks_from, AreShown, Agreed}
use Rattle.run_agreement.specs.Cores.{world_of, IsHeldAmong}
use Rattle.run_agreement.specs.Worlds.{IsResting}
use Rattle.run_agreement.proofs.Agreeing.{run-reaches}
use Rattle.run_agreement.proofs.CoreByCore.{unfinished-phase}
use Rattle.run_agreement.proofs.Nodes.{node-there, HasIt, stands-or}
use Rattle.run_agreement.proofs.Places.{map-place}
use Rattle.run_agreement.proofs.Choosing.{IsPoised}
use Rattle.run_agreement.proofs.Poised.{poised-quiet, IsOpen, Wants, open-wants, SomeOpen}

-- a poised state, with how its tasks stand, in which a core goes on
pub record IsAwaiting (S : State) (M : ℕ → ℕ) (K : States) (L : Loads) (p : Phase) : Type 0 where
  pub inv : Invariant S M
  pub poised : IsPoised S
  pub some : SomeOpen S
  pub shown : AreShown S K L
  pub there : slice_get S.setting.program.phases S.keeper.phase ≡ Some p

-- nobody is halted, and all are in the keeper's phase
awake : (S : State) (M : ℕ → ℕ) (K : States) (L : Loads) (p : Phase) (c : ℕ) (n : NodeParts) → IsAwaiting S M K L p → slice_get S.nodes c ≡ Some n → n.halted ≡ false
awake S M K L p c n h found = false_from_ne_true n.halted (λ off. never (h.inv.ended c n found off)) where
  o : IsOpen S h.some.core h.some.node
  o = h.some.open'

  never : (all_arrived S.keeper ≡ true) ⊎ (length S.setting.program.phases ≡ 0) → ⊥
  never (inl all) = let there = h.inv.phases.whole all h.some.core h.some.node o.found in let absent = o.absent in absurd (cc)
  never (inr none) = omega (arith, none, slice_get_within S.setting.program.phases S.keeper.phase p h.there)

pub level : (S : State) (M : ℕ → ℕ) (K : States) (L : Loads) (p : Phase) (c : ℕ) (n : NodeParts) → IsAwaiting S M K L p → slice_get S.nodes c ≡ Some n → n.phase ≡ S.keeper.phase
level S M K L p c n h found = omega (arith, h.inv.phases.phase c n found (awake S M K L p c n h found), poised-quiet S h.poised (is_go_to c))

-- the node of each task has it
pub has-it : (S : State) (M : ℕ → ℕ) (K : States) (L : Loads) (p : Phase) (d : TaskDecl) (n : NodeParts) → IsAwaiting S M K L p → IsAmong p.tasks d → slice_get S.nodes d.core.0 ≡ Some n → HasIt S K d n
has-it S M K L p d n h among found = by_ways (stands-or S M K L p d n h.inv h.shown h.there among found) where
  by_ways : HasIt S K d n ⊎ ((n.phase < S.keeper.phase) × (K S.keeper.phase d.core.0 ≡ started d)) → HasIt S K d n
  by_ways (inl it) = it
  by_ways (inr before) = absurd (omega (arith, before.0, level S M K L p d.core.0 n h found))

-- a task that goes on is that of a node that goes on
pub open-node : (S : State) (M : ℕ → ℕ) (K : States) (L : Loads) (p : Phase) (c : ℕ) (n : NodeParts) → IsAwaiting S M K L p → slice_get S.nodes c ≡ Some n → is_running n.task ≡ true → IsOpen S c n
open-node S M K L p c n h found on = record { found = found; awake = awake S M K L p c n h found; absent = false_from_ne_true n.arrived never } where
  never : n.arrived ≡ true → ⊥
  never there = let off = (h.inv.phases.arrived c n found there).over in cc

-- what a task needs whose node needs it
task-wish : (S : State) (M : ℕ → ℕ) (K : States) (L : Loads) (p : Phase) (d : TaskDecl) (n : NodeParts) (x : Need) → IsAwaiting S M K L p → IsAmong p.tasks d → slice_get S.nodes d.core.0 ≡ Some n → (it : HasIt S K d n) → it.task.end ≡ None
    → need_now S.setting n ≡ Some x → wish S.setting.program S.setting.fuel (stands K L S.keeper.phase d) ≡ Some x
task-wish S M K L p d n x h among found it open' needs =
    let P : ProgramParts = S.setting.program in
    let r : Started = stands K L S.keeper.phase d in
    let next_is : HasNext S.setting n it.task x = has-next S.setting n it.task x it.has needs in
    let core : n.core ≡ d.core.0 = (h.inv.machine.node d.core.0 n found).core in
    let declares : declared P S.keeper.phase d.core.0 ≡ Some next_is.decl = subst (λ (k : ℕ). declared P k d.core.0 ≡ Some next_is.decl) it.phase (subst (λ (c : ℕ). declared P n.phase c ≡ Some next_is.decl) core next_is.declares) in
    let decl : next_is.decl ≡ d = same_Some next_is.decl d (sym declares ∙ declared-only P S.keeper.phase p d h.inv.machine.program.order h.there among) in
    let wants : need_of P d S.setting.fuel it.task ≡ x = subst (λ (y : TaskDecl). need_of P y S.setting.fuel it.task ≡ x) decl next_is.asks in
    let end_is : r.state.end ≡ None = ap (λ (t : TaskState). t.end) it.is ∙ open' in
    ap (wish_unless P S.setting.fuel r) end_is ∙ ap (λ (t : TaskState). Some (need_of P d S.setting.fuel t)) it.is ∙ ap (λ (y : Need). Some y) wants

-- a task of the phase that goes on, with its node, and the lock that it wants
pub record Wanting (S : State) (K : States) (L : Loads) (d : TaskDecl) : Type 0 where
  pub node : NodeParts
  pub open' : IsOpen S d.core.0 node
  pub wants : Wants S node
  pub wish_is : wish S.setting.program S.setting.fuel (stands K L S.keeper.phase d) ≡ Some (need.TheVariants.Acquire wants.lock)

pub wanting : (S : State) (M : ℕ → ℕ) (K : States) (L : Loads) (p : Phase) (d : TaskDecl) → IsAwaiting S M K L p → IsAmong p.tasks d → (K S.keeper.phase d.core.0).end ≡ None → Wanting S K L d
wanting S M K L p d h among going = by_node (node-there S M S.keeper.phase p d h.inv h.there among) where
  by_node : (n : NodeParts) × (slice_get S.nodes d.core.0 ≡ Some n) → Wanting S K L d
  by_node (n, found) =
      let it : HasIt S K d n = has-it S M K L p d n h among found in
      let end_is : it.task.end ≡ None = ap (λ (t : TaskState). t.end) (sym it.is) ∙ going in
      let o : IsOpen S d.core.0 n = open-node S M K L p d.core.0 n h found (rw (it.has, end_is) refl) in
      let w : Wants S n = open-wants S M d.core.0 n h.inv h.poised o in
      record { node = n; open' = o; wants = w; wish_is = task-wish S M K L p d n (need.TheVariants.Acquire w.lock) h among found it end_is w.needs }

-- each task has ended or wants a lock
task-rests : (S : State) (M : ℕ → ℕ) (K : States) (L : Loads) (p : Phase) (d : TaskDecl) → IsAwaiting S M K L p → IsAmong p.tasks d → EndsSegment (wish S.setting.program S.setting.fuel (stands K L S.keeper.phase d))
task-rests S M K L p d h among = by_end (K S.keeper.phase d.core.0).end refl where
  by_end : (o : Option End) → (K S.keeper.phase d.core.0).end ≡ o → EndsSegment (wish S.setting.program S.setting.fuel (stands K L S.keeper.phase d))
  by_end (Some by) is = subst (λ (o : Option End). EndsSegment (wish_unless S.setting.program S.setting.fuel (stands K L S.keeper.phase d) o)) (sym is) tt
  by_end None is = subst EndsSegment (sym (wanting S M K L p d h among is).wish_is) tt

-- ---- the task of a core

-- a task that a node has is one of the phase
pub record IsTaskOf (S : State) (K : States) (p : Phase) (c : ℕ) (t : TaskState) : Type 0 where
  pub decl : TaskDecl
  pub among : IsAmong p.tasks decl
  pub own : decl.core.0 ≡ c
  pub is : K S.keeper.phase decl.core.0 ≡ t

pub task-of : (S : State) (M : ℕ → ℕ) (K : States) (L : Loads) (p : Phase) (c : ℕ) (n : NodeParts) (t : TaskState) → IsAwaiting S M K L p → slice_get S.nodes c ≡ Some n → n.task ≡ Some t → IsTaskOf S K p c t
task-of S M K L p c n t h found task = by_decl (declared S.setting.program n.phase c) refl where
  by_decl : (o : Option TaskDecl) → declared S.setting.program n.phase c ≡ o → IsTaskOf S K p c t
  by_decl None is =
      let fits : IsNodeAt S c n = h.inv.machine.node c n found in
      let some : is_some n.task ≡ true = ap is_some task in
      let none : is_some n.task ≡ false = fits.fits.task ∙ ap (λ (x : ℕ). is_some (declared S.setting.program n.phase x)) fits.core ∙ ap is_some is in
      absurd (cc)
  by_decl (Some d) is =
      let same : n.phase ≡ S.keeper.phase = level S M K L p c n h found in
      let here : declared S.setting.program S.keeper.phase c ≡ Some d = subst (λ (k : ℕ). declared S.setting.program k c ≡ Some d) same is in
      let tells : IsDeclaration S.setting.program S.keeper.phase c d = declared-tells S.setting.program S.keeper.phase c d here in
      let one : tells.phase ≡ p = same_Some tells.phase p (sym tells.there ∙ h.there) in
      record {
        decl = d;
        among = subst (λ (x : Phase). IsAmong x.tasks d) one tells.among;
        own = tells.own;
        is = ap (K S.keeper.phase) tells.own ∙ subst (λ (k : ℕ). K k c ≡ t) same (h.shown.here c n t found task);
      }

-- who holds a lock is a task of the phase
pub holder-among : (S : State) (M : ℕ → ℕ) (K : States) (L : Loads) (p : Phase) (c lock : ℕ) → IsAwaiting S M K L p → has_lock S c lock ≡ true → IsHeldAmong p (stands K L S.keeper.phase) lock
holder-among S M K L p c lock h has = by_node (slice_get S.nodes c) refl where
  by_task : (n : NodeParts) → slice_get S.nodes c ≡ Some n → (o : Option TaskState) → n.task ≡ o → IsHeldAmong p (stands K L S.keeper.phase) lock
  by_task n found None task =
      let none : has_lock S c lock ≡ is_held 0 lock = ap (holds_lock lock) found ∙ rw (task) refl in
      absurd (both-ways (is_held 0 lock) (holds-none lock) (sym none ∙ has))
  by_task n found (Some t) task =
      let u = task-of S M K L p c n t h found task in
      let held : is_held t.held lock ≡ true = sym (ap (holds_lock lock) found ∙ rw (task) refl) ∙ has in
      record { by = u.decl; among = u.among; holds = ap (λ (x : TaskState). is_held x.held lock) u.is ∙ held }

  by_node : (o : Option NodeParts) → slice_get S.nodes c ≡ o → IsHeldAmong p (stands K L S.keeper.phase) lock
  by_node None is = let none : has_lock S c lock ≡ false = ap (holds_lock lock) is in absurd (cc)
  by_node (Some n) is = by_task n is n.task refl

-- ---- the world

-- the tasks of the earlier phases, and the world of a state
abbrev pub past_of : State → States → Loads → List Started
past_of S K L = tasks_from K L 0 (take S.keeper.phase S.setting.program.phases)

abbrev pub world_at : State → States → Loads → Phase → List ℕ → Flat
world_at S K L p m = world_of S.keeper.phase (past_of S K L) p (stands K L S.keeper.phase) m

all-rest : (S : State) (M : ℕ → ℕ) (K : States) (L : Loads) (p : Phase) (m : List ℕ) → IsAwaiting S M K L p → IsResting S.setting.program S.setting.fuel (world_at S K L p m)
all-rest S M K L p m h i r there =
    let e = map-place (stands K L S.keeper.phase) p.tasks i r there in
    let among : IsAmong p.tasks e.0 = (i, (slice_get_within p.tasks i e.0 e.1, sym (get_or_from_slice_get p.tasks i e.0 e.0 e.1))) in
    subst (λ (x : Started). EndsSegment (wish S.setting.program S.setting.fuel x)) e.2 (task-rests S M K L p e.0 h among)

open-fails : (t : TaskState) → t.end ≡ None → finished_by t.end ≡ false
open-fails t is = rw (is) refl

-- it is the flat machine's state
pub world-is : (S : State) (M : ℕ → ℕ) (gs : List Grant) (L : Loads) (E : Ends) → (h : Agreed S M gs L E) → IsAwaiting S M h.states L h.phase
    → so_far S.setting.program S.setting.fuel gs ≡ Some (world_at S h.states L h.phase h.memory)
world-is S M gs L E h a =
    run-reaches S.setting.program S.setting.fuel gs (world_at S h.states L h.phase h.memory) h.world.leads (all-rest S M h.states L h.phase h.memory a)
    (unfinished-phase S.setting.program S.keeper.phase (past_of S h.states L) h.phase (stands h.states L S.keeper.phase) h.memory task.decl task.among fails)
  where
    o : IsOpen S a.some.core a.some.node
    o = a.some.open'

    w : Wants S a.some.node
    w = open-wants S M a.some.core a.some.node a.inv a.poised o

    going : (t : TaskState) × (a.some.node.task ≡ Some t) × (t.end ≡ None)
    going = by_task a.some.node.task refl where
      by_task : (x : Option TaskState) → a.some.node.task ≡ x → (t : TaskState) × (a.some.node.task ≡ Some t) × (t.end ≡ None)
      by_task None is = let none : need_now S.setting a.some.node ≡ None = rw (is) refl in let some = w.needs in absurd (cc)
      by_task (Some t) is = (t, is, (has-next S.setting a.some.node t (need.TheVariants.Acquire w.lock) is w.needs).going)

    task : IsTaskOf S h.states h.phase a.some.core going.0
    task = task-of S M h.states L h.phase a.some.core a.some.node going.0 a o.found going.1

    fails : has_finished (stands h.states L S.keeper.phase task.decl) ≡ false
    fails = open-fails (h.states S.keeper.phase task.decl.core.0) (ap (λ (t : TaskState). t.end) task.is ∙ going.2)
