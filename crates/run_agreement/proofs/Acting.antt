-- What a core's own task does keeps that the state agrees with the run.
use Rattle.std.proofs.Common.{◌≡◌, ℕ, ◌+◌, ◌<◌, List, [], ◌∷◌, ◌++◌, length, map, take, slice_get, slice_index, Option, Some, None, refl, sym, ap, subst, ◌∙◌, arith}
use Rattle.std.specs.List.{IsAmong}
use Rattle.std.proofs.lemmas.List.{length-take-le}
use Rattle.std.proofs.lemmas.Option.{same_Some, slice_get_within}
use Rattle.dn_base.specs.declared.ids.CoreId.{CoreId}
use Rattle.dn_base.specs.declared.ids.LockId.{LockId}
use Rattle.dn_base.specs.declared.ids.Grant.{Grant}
use Rattle.dn_base.specs.declared.ids.LoadSeen.{LoadSeen}
use Rattle.region_table.specs.Program.{ProgramParts}
use Rattle.region_table.specs.declared.declared.TaskDecl.{TaskDecl}
use Rattle.region_table.specs.declared.declared.Phase.{Phase}
use Rattle.region_table.specs.Tasks.{declared, IsDeclaration}
use Rattle.region_table.proofs.TaskLemmas.{declared-tells}
use Rattle.rv_core.specs.declared.task.TaskState.{TaskState}
use Rattle.rv_core.specs.declared.need.Need as need
use Rattle.rv_core.specs.declared.need.Need.{Need}
use Rattle.rv_core.specs.Need.{need_of}
use Rattle.rv_core.specs.Step.{advanced}
use Rattle.flat_machine.specs.Step.{Started, At, wish, wish_unless, step_by}
use Rattle.flat_machine.specs.Grants.{grant_of}
use Rattle.flat_machine.specs.Laws.{AreCoresRising, at_memory}
use Rattle.run_agreement.specs.Worlds.{LeadsToRun, past_acquire}
use Rattle.run_agreement.specs.Cores.{world_of, ChangesOne, step_of_task, IsFreeAmong, IsAgreed}
use Rattle.run_agreement.proofs.CoreByCore.{agreed-step, agreed-grant}
use Rattle.effect_checker.specs.Checked.{IsChecked}
use Rattle.message_net.specs.declared.message.Outgoing.{Outgoing}
use Rattle.registration_protocol.specs.Node.{NodeParts, Setting}
use Rattle.phase_barrier.specs.Barrier.{Barrier}
use Rattle.machine_rules.specs.State.{State}
use Rattle.machine_rules.proofs.Invariant.{Invariant}
use Rattle.machine_rules.proofs.Steps.{NodeStep}
use Rattle.machine_rules.proofs.Exclusive.{IsAtWork, in-phase}
use Rattle.run_agreement.specs.Agreed.{States, Loads, Ends, stands, tasks_from, IsWorldAt, AreShown, Agreed}
use Rattle.run_agreement.proofs.Standing.{SameAt, ChangesAt, stands-same, tasks-same, map-same, with_state, with-own, with-other}
use Rattle.run_agreement.proofs.Shown.{shown-step, ended-step}

-- a task with its state and its loads
abbrev pub task_of : ℕ → TaskDecl → TaskState → List LoadSeen → Started
task_of phase d t loads = record { phase = record { 0 = phase }; decl = d; state = t; loads = loads }

-- ---- the world

-- the tasks of the phases before this one are the same
pub past-same : (C : Setting) (K K' : States) (L L' : Loads) (phase : ℕ) (p : Phase) → slice_get C.program.phases phase ≡ Some p → ((q c : ℕ) → q < phase → SameAt K K' L L' q c)
    → tasks_from K' L' 0 (take phase C.program.phases) ≡ tasks_from K L 0 (take phase C.program.phases)
past-same C K K' L L' phase p there same =
    let within : phase < length C.program.phases = slice_get_within C.program.phases phase p there in
    let long : length (take phase C.program.phases) ≡ phase = length-take-le phase C.program.phases (omega (arith, within)) in
    tasks-same K K' L L' 0 (take phase C.program.phases) (λ q c before. same q c (omega (arith, before, long)))

-- the world of the same tasks
pub world-same : (P : ProgramParts) (fuel : ℕ) (gs : List Grant) (phase : ℕ) (past past' : List Started) (p : Phase) (task task' : TaskDecl → Started) (m : List ℕ) → past' ≡ past
    → ((d : TaskDecl) → IsAmong p.tasks d → task' d ≡ task d) → IsAgreed P fuel gs phase past p task m → IsAgreed P fuel gs phase past' p task' m
world-same P fuel gs phase past past' p task task' m before same h =
    let tasks : map task p.tasks ≡ map task' p.tasks = sym (map-same task' task p.tasks same) in
    let one : LeadsToRun P fuel gs (world_of phase past p task' m) =
    subst (λ (ts : List Started). LeadsToRun P fuel gs (record { begun = phase + 1; past = past; tasks = ts; memory = m })) tasks h.leads in
    record { there = h.there; leads = subst (λ (ts : List Started). LeadsToRun P fuel gs (world_of phase ts p task' m)) (sym before) one }

-- who a core's task is among those of the phase
pub record IsTaskOf (C : Setting) (phase core : ℕ) (p : Phase) (d : TaskDecl) : Type 0 where
  pub among : IsAmong p.tasks d
  pub own : d.core.0 ≡ core

pub task-of : (C : Setting) (phase core : ℕ) (p : Phase) (d : TaskDecl) → slice_get C.program.phases phase ≡ Some p → declared C.program phase core ≡ Some d → IsTaskOf C phase core p d
task-of C phase core p d there is =
    let tells : IsDeclaration C.program phase core d = declared-tells C.program phase core d is in
    let same : tells.phase ≡ p = same_Some tells.phase p (sym tells.there ∙ there) in
    record { among = subst (λ (x : Phase). IsAmong x.tasks d) same tells.among; own = tells.own }

-- the task of the core as it stands before and after
pub stands-as : (K : States) (L : Loads) (phase core : ℕ) (d : TaskDecl) (t : TaskState) (loads : List LoadSeen) → d.core.0 ≡ core → K phase core ≡ t → L phase core ≡ loads
    → stands K L phase d ≡ task_of phase d t loads
stands-as K L phase core d t loads own state load = rw (own, state, load) refl

wants-one : (P : ProgramParts) (fuel phase : ℕ) (d : TaskDecl) (t : TaskState) (loads : List LoadSeen) (needs : Need) → t.end ≡ None → need_of P d fuel t ≡ needs → wish P fuel (task_of phase d t loads) ≡ Some needs
wants-one P fuel phase d t loads needs open' wants = ap (wish_unless P fuel (task_of phase d t loads)) open' ∙ ap Some wants

changes-one : (K K' : States) (L L' : Loads) (phase core : ℕ) (d : TaskDecl) (t : TaskState) (loads : List LoadSeen) → ChangesAt K K' L L' phase core t loads → d.core.0 ≡ core
    → ChangesOne d (task_of phase d t loads) (stands K L phase) (stands K' L' phase)
changes-one K K' L L' phase core d t loads h own =
    record {
      own = stands-as K' L' phase core d t loads own h.state h.load;
      others = λ e apart. stands-same K K' L L' phase e (h.others phase e.core.0 (λ same here. apart (here ∙ sym own)));
    }

-- a task does what it needs
pub world-step : (C : Setting) (gs : List Grant) (K K' : States) (L L' : Loads) (phase core : ℕ) (p : Phase) (d : TaskDecl) (t t' : TaskState) (loads : List LoadSeen) (needs : Need) (m m' : List ℕ) → AreCoresRising C.program → IsChecked C.program
    → declared C.program phase core ≡ Some d → t.end ≡ None → need_of C.program d C.fuel t ≡ needs → K phase core ≡ t → ChangesAt K K' L L' phase core t' loads
    → step_by C.program (at_memory (task_of phase d t (L phase core)) m) (Some needs) ≡ at_memory (task_of phase d t' loads) m'
    → IsWorldAt C gs K L phase p m → IsWorldAt C gs K' L' phase p m'
world-step C gs K K' L L' phase core p d t t' loads needs m m' program checked declares open' wants here change goes h =
    let P : ProgramParts = C.program in
    let who = task-of C phase core p d h.there declares in
    let old : stands K L phase d ≡ task_of phase d t (L phase core) = stands-as K L phase core d t (L phase core) who.own here refl in
    let wish_is : wish P C.fuel (stands K L phase d) ≡ Some needs = ap (wish P C.fuel) old ∙ wants-one P C.fuel phase d t (L phase core) needs open' wants in
    let done : step_of_task P (stands K L phase) d m needs ≡ at_memory (task_of phase d t' loads) m' = ap (λ (r : Started). step_by P (at_memory r m) (Some needs)) old ∙ goes in
    let one : ChangesOne d (task_of phase d t' loads) (stands K L phase) (stands K' L' phase) = changes-one K K' L L' phase core d t' loads change who.own in
    let changes : ChangesOne d (step_of_task P (stands K L phase) d m needs).task (stands K L phase) (stands K' L' phase) =
    subst (λ (s : At). ChangesOne d s.task (stands K L phase) (stands K' L' phase)) (sym done) one in
    let next = agreed-step P C.fuel gs phase (tasks_from K L 0 (take phase P.phases)) p d needs (stands K L phase) (stands K' L' phase) m program checked who.among wish_is changes h in
    let there : IsAgreed P C.fuel gs phase (tasks_from K L 0 (take phase P.phases)) p (stands K' L' phase) m' =
    subst (λ (s : At). IsAgreed P C.fuel gs phase (tasks_from K L 0 (take phase P.phases)) p (stands K' L' phase) s.memory) done next in
    world-same P C.fuel gs phase (tasks_from K L 0 (take phase P.phases)) (tasks_from K' L' 0 (take phase P.phases)) p (stands K' L' phase) (stands K' L' phase) m'
    (past-same C K K' L L' phase p h.there (λ q c before. change.others q c (λ e f. omega (arith, e, before)))) (λ e among. refl) there

-- a task acquires the free lock that it wants
pub world-grant : (C : Setting) (gs : List Grant) (K K' : States) (L L' : Loads) (phase core : ℕ) (p : Phase) (d : TaskDecl) (t : TaskState) (lock : LockId) (m : List ℕ) → AreCoresRising C.program → IsChecked C.program
    → declared C.program phase core ≡ Some d → t.end ≡ None → need_of C.program d C.fuel t ≡ need.TheVariants.Acquire lock → K phase core ≡ t
    → ChangesAt K K' L L' phase core (advanced C.program t) (L phase core) → IsFreeAmong p (stands K L phase) lock.0
    → IsWorldAt C gs K L phase p m → IsWorldAt C (gs ++ record { phase = record { 0 = phase }; core = record { 0 = core }; lock = lock } ∷ []) K' L' phase p m
world-grant C gs K K' L L' phase core p d t lock m program checked declares open' wants here change free h =
    let P : ProgramParts = C.program in
    let who = task-of C phase core p d h.there declares in
    let old : stands K L phase d ≡ task_of phase d t (L phase core) = stands-as K L phase core d t (L phase core) who.own here refl in
    let wish_is : wish P C.fuel (stands K L phase d) ≡ Some (need.TheVariants.Acquire lock) =
    ap (wish P C.fuel) old ∙ wants-one P C.fuel phase d t (L phase core) (need.TheVariants.Acquire lock) open' wants in
    let one : ChangesOne d (task_of phase d (advanced P t) (L phase core)) (stands K L phase) (stands K' L' phase) = changes-one K K' L L' phase core d (advanced P t) (L phase core) change who.own in
    let changes : ChangesOne d (past_acquire P (stands K L phase d)) (stands K L phase) (stands K' L' phase) =
    subst (λ (r : Started). ChangesOne d (past_acquire P r) (stands K L phase) (stands K' L' phase)) (sym old) one in
    let next = agreed-grant P C.fuel gs phase (tasks_from K L 0 (take phase P.phases)) p d lock (stands K L phase) (stands K' L' phase) m program checked who.among wish_is free changes h in
    let grant : grant_of (stands K L phase d) lock ≡ record { phase = record { 0 = phase }; core = record { 0 = core }; lock = lock } =
    ap (λ (x : ℕ). record { phase = record { 0 = phase }; core = record { 0 = x }; lock = lock }) who.own in
    let there = subst (λ (g : Grant). IsAgreed P C.fuel (gs ++ g ∷ []) phase (tasks_from K L 0 (take phase P.phases)) p (stands K' L' phase) m) grant next in
    world-same P C.fuel (gs ++ record { phase = record { 0 = phase }; core = record { 0 = core }; lock = lock } ∷ []) phase (tasks_from K L 0 (take phase P.phases)) (tasks_from K' L' 0 (take phase P.phases)) p
    (stands K' L' phase) (stands K' L' phase) m
    (past-same C K K' L L' phase p h.there (λ q c before. change.others q c (λ e f. omega (arith, e, before)))) (λ e among. refl) there

-- ---- the state

-- a core at work: its node's event changes its task from t to t', which has done these loads then; the memory changes so
pub record Acts (S T : State) (L L' : Loads) (core : CoreId) (n m : NodeParts) (d : TaskDecl) (t t' : TaskState) (loads : List LoadSeen) (left sent : Option Outgoing) : Type 0 where
  pub works : IsAtWork S core.0 n d t
  pub step : NodeStep S T core.0 n m left sent
  pub phase : m.phase ≡ n.phase
  pub task : m.task ≡ Some t'
  pub own : L' n.phase core.0 ≡ loads
  pub others : (q c : ℕ) → (q ≡ n.phase → c ≡ core.0 → ⊥) → L' q c ≡ L q c

changes-at : (S T : State) (L L' : Loads) (core : CoreId) (n m : NodeParts) (d : TaskDecl) (t t' : TaskState) (loads : List LoadSeen) (left sent : Option Outgoing) (K : States)
    → Acts S T L L' core n m d t t' loads left sent → ChangesAt K (with_state K n.phase core.0 t') L L' n.phase core.0 t' loads
changes-at S T L L' core n m d t t' loads left sent K h =
    record {
      state = with-own K n.phase core.0 t';
      load = h.own;
      others = λ q c apart. record { state = with-other K n.phase core.0 t' q c apart; load = h.others q c apart };
    }

shown-acts : (S T : State) (L L' : Loads) (core : CoreId) (n m : NodeParts) (d : TaskDecl) (t t' : TaskState) (loads : List LoadSeen) (left sent : Option Outgoing) (K : States)
    → Acts S T L L' core n m d t t' loads left sent → AreShown S K L → AreShown T (with_state K n.phase core.0 t') L'
shown-acts S T L L' core n m d t t' loads left sent K h shown =
    let change = changes-at S T L L' core n m d t t' loads left sent K h in
    shown-step S T K (with_state K n.phase core.0 t') L L' core.0 n m left sent h.step h.phase
    (λ x is. change.state ∙ same_Some t' x (sym h.task ∙ is)) change.others shown

-- the world of the state after an event that leaves the setting and the phase
pub world-moves : (S T : State) (gs : List Grant) (K : States) (L : Loads) (p : Phase) (m : List ℕ) → T.setting ≡ S.setting → T.keeper.phase ≡ S.keeper.phase → IsWorldAt S.setting gs K L S.keeper.phase p m
    → IsWorldAt T.setting gs K L T.keeper.phase p m
world-moves S T gs K L p m setting phase h =
    let one : IsWorldAt S.setting gs K L T.keeper.phase p m = subst (λ (k : ℕ). IsWorldAt S.setting gs K L k p m) (sym phase) h in
    subst (λ (C : Setting). IsWorldAt C gs K L T.keeper.phase p m) (sym setting) one

pub act : {E : Ends} (S T : State) (M M' : ℕ → ℕ) (gs : List Grant) (L L' : Loads) (core : CoreId) (n m : NodeParts) (d : TaskDecl) (t t' : TaskState) (loads : List LoadSeen) (left sent : Option Outgoing) (needs : Need)
    → Invariant S M → (h : Agreed S M gs L E) → Acts S T L L' core n m d t t' loads left sent → t.end ≡ None → need_of S.setting.program d S.setting.fuel t ≡ needs
    → (memory : List ℕ) → ((w : ℕ) → slice_index memory w ≡ M' w)
    → ((k : ℕ) → step_by S.setting.program (at_memory (task_of k d t (L n.phase core.0)) h.memory) (Some needs) ≡ at_memory (task_of k d t' loads) memory)
    → Agreed T M' gs L' E
act {E} S T M M' gs L L' core n m d t t' loads left sent needs inv h a open' wants memory same goes =
    let K : States = h.states in
    let phase : n.phase ≡ S.keeper.phase = in-phase S M core.0 n d t inv a.works in
    let world : IsWorldAt S.setting gs K L n.phase h.phase h.memory = subst (λ (k : ℕ). IsWorldAt S.setting gs K L k h.phase h.memory) (sym phase) h.world in
    let next : IsWorldAt S.setting gs (with_state K n.phase core.0 t') L' n.phase h.phase memory =
    world-step S.setting gs K (with_state K n.phase core.0 t') L L' n.phase core.0 h.phase d t t' loads needs h.memory memory inv.machine.program.order inv.machine.checked a.works.declares open' wants
    (h.shown.here core.0 n t a.works.found a.works.task) (changes-at S T L L' core n m d t t' loads left sent K a) (goes n.phase) world in
    record {
      states = with_state K n.phase core.0 t';
      shown = shown-acts S T L L' core n m d t t' loads left sent K a h.shown;
      ended = ended-step S T K (with_state K n.phase core.0 t') E core.0 n m left sent a.step a.phase (with-other K n.phase core.0 t') h.ended;
      memory = memory;
      same = same;
      phase = h.phase;
      world = world-moves S T gs (with_state K n.phase core.0 t') L' h.phase memory a.step.setting (ap (λ (k : Barrier). k.phase) a.step.keeper)
          (subst (λ (k : ℕ). IsWorldAt S.setting gs (with_state K n.phase core.0 t') L' k h.phase memory) phase next);
    }

-- a core's grant of a lock that no task of the phase holds
pub act-grant : {E : Ends} (S T : State) (M : ℕ → ℕ) (gs : List Grant) (L L' : Loads) (core : CoreId) (n m : NodeParts) (d : TaskDecl) (t : TaskState) (lock : LockId) (left sent : Option Outgoing)
    → Invariant S M → (h : Agreed S M gs L E) → Acts S T L L' core n m d t (advanced S.setting.program t) (L n.phase core.0) left sent → t.end ≡ None
    → need_of S.setting.program d S.setting.fuel t ≡ need.TheVariants.Acquire lock → IsFreeAmong h.phase (stands h.states L n.phase) lock.0
    → Agreed T M (gs ++ record { phase = record { 0 = n.phase }; core = core; lock = lock } ∷ []) L' E
act-grant {E} S T M gs L L' core n m d t lock left sent inv h a open' wants free =
    let K : States = h.states in
    let t' : TaskState = advanced S.setting.program t in
    let gs' : List Grant = gs ++ record { phase = record { 0 = n.phase }; core = core; lock = lock } ∷ [] in
    let phase : n.phase ≡ S.keeper.phase = in-phase S M core.0 n d t inv a.works in
    let world : IsWorldAt S.setting gs K L n.phase h.phase h.memory = subst (λ (k : ℕ). IsWorldAt S.setting gs K L k h.phase h.memory) (sym phase) h.world in
    let next : IsWorldAt S.setting gs' (with_state K n.phase core.0 t') L' n.phase h.phase h.memory =
    world-grant S.setting gs K (with_state K n.phase core.0 t') L L' n.phase core.0 h.phase d t lock h.memory inv.machine.program.order inv.machine.checked a.works.declares open' wants
    (h.shown.here core.0 n t a.works.found a.works.task) (changes-at S T L L' core n m d t t' (L n.phase core.0) left sent K a) free world in
    record {
      states = with_state K n.phase core.0 t';
      shown = shown-acts S T L L' core n m d t t' (L n.phase core.0) left sent K a h.shown;
      ended = ended-step S T K (with_state K n.phase core.0 t') E core.0 n m left sent a.step a.phase (with-other K n.phase core.0 t') h.ended;
      memory = h.memory;
      same = h.same;
      phase = h.phase;
      world = world-moves S T gs' (with_state K n.phase core.0 t') L' h.phase h.memory a.step.setting (ap (λ (k : Barrier). k.phase) a.step.keeper)
          (subst (λ (k : ℕ). IsWorldAt S.setting gs' (with_state K n.phase core.0 t') L' k h.phase h.memory) phase next);
    }
