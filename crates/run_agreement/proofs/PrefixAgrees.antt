-- Each run's loads are fronts of those of the flat machine's run by its grants.
use Rattle.std.proofs.Common.{◌≡◌, ℕ, zero, suc, ◌+◌, ◌<◌, ◌≤◌, List, [], ◌∷◌, ◌++◌, length, map, take, slice_get, Some, refl, sym, ap, subst, ◌∙◌, arith}
use Rattle.std.specs.List.{IsAmong}
use Rattle.std.proofs.lemmas.Option.{none-some, same_Some, slice_get-get_or, slice_get_within, get_or_from_slice_get}
use Rattle.dn_base.specs.declared.ids.Grant.{Grant}
use Rattle.region_table.specs.declared.declared.TaskDecl.{TaskDecl}
use Rattle.region_table.specs.declared.declared.Phase.{Phase}
use Rattle.flat_machine.specs.Step.{Started}
use Rattle.flat_machine.specs.Phases.{Flat, all_tasks, settled, initial_flat}
use Rattle.flat_machine.specs.Grants.{so_far}
use Rattle.flat_machine.specs.Laws.{StandsLater}
use Rattle.run_agreement.specs.Cores.{world_of}
use Rattle.run_agreement.proofs.Agreeing.{run-later}
use Rattle.run_agreement.proofs.Places.{front-place, place-map}
use Rattle.message_net.specs.declared.event.Event.{Event}
use Rattle.registration_protocol.specs.Node.{Setting}
use Rattle.machine_rules.specs.State.{initial_state}
use Rattle.machine_rules.specs.Runs.{after, IsRun, grants_of}
use Rattle.machine_rules.proofs.OpenedFacts.{opened-setting}
use Rattle.machine_rules.proofs.OpenedSound.{opened-sound}
use Rattle.machine_rules.proofs.OpenedInvariant.{opened-invariant}
use Rattle.machine_rules.proofs.RunsKept.{memory_over, run-setting}
use Rattle.machine_rules.specs.Sound.{IsReady, IsWellFormed}
use Rattle.machine_rules.proofs.AnySize.{well-formed}
use Rattle.machine_rules.proofs.RunsCoherent.{first_memory}
use Rattle.run_agreement.specs.Agreed.{States, Loads, stands, tasks_from, IsWorldAt, Agreed, more_ends}
use Rattle.run_agreement.specs.Fronts.{HasStartedWith, IsFrontOf}
use Rattle.run_agreement.proofs.Standing.{tasks-next}
use Rattle.run_agreement.proofs.Quiet.{last-more}
use Rattle.machine_rules.proofs.NoPhases.{no-phases-run}
use Rattle.run_agreement.proofs.Opened.{no_loads, opened-agreed}
use Rattle.run_agreement.proofs.AgreedRuns.{loads_over, ends_over, no_ends, agreed-run}

-- ---- where a task stands

back-place : {X : Type 0} (xs ys : List X) (i : ℕ) (x : X) → slice_get ys i ≡ Some x → (j : ℕ) × (slice_get (xs ++ ys) j ≡ Some x)
back-place [] ys i x there = (i, there)
back-place (z ∷ xs) ys i x there = let rest = back-place xs ys i x there in (suc rest.0, rest.1)

take-place : {X : Type 0} (xs : List X) (k i : ℕ) (x : X) → i < k → slice_get xs i ≡ Some x → slice_get (take k xs) i ≡ Some x
take-place [] k i x within there = absurd (none-some x there)
take-place (z ∷ xs) zero i x within there = absurd (omega (arith, within))
take-place (z ∷ xs) (suc k) zero x within there = there
take-place (z ∷ xs) (suc k) (suc i) x within there = take-place xs k i x (omega (arith, within)) there

task-place : (K : States) (L : Loads) (first : ℕ) (ps : List Phase) (j : ℕ) (p : Phase) (i : ℕ) (d : TaskDecl) → slice_get ps j ≡ Some p → slice_get p.tasks i ≡ Some d
    → (place : ℕ) × (slice_get (tasks_from K L first ps) place ≡ Some (stands K L (first + j) d))
task-place K L first [] j p i d there at' = absurd (none-some p there)
task-place K L first (x ∷ ps) zero p i d there at' =
    let same : x ≡ p = same_Some x p there in
    let number : first ≡ first + zero = omega arith in
    let here : slice_get x.tasks i ≡ Some d = subst (λ (y : Phase). slice_get y.tasks i ≡ Some d) (sym same) at' in (
      i,
      front-place (map (stands K L first) x.tasks) (tasks_from K L (first + 1) ps) i (stands K L (first + zero) d)
          (place-map (stands K L first) x.tasks i d here ∙ ap (λ (k : ℕ). Some (stands K L k d)) number),
    )
task-place K L first (x ∷ ps) (suc j) p i d there at' =
    let rest = task-place K L (first + 1) ps j p i d there at' in
    let number : first + 1 + j ≡ first + suc j = omega arith in
    back-place (map (stands K L first) x.tasks) (tasks_from K L (first + 1) ps) rest.0 (stands K L (first + suc j) d) (rest.1 ∙ ap (λ (k : ℕ). Some (stands K L k d)) number)

-- all tasks of a world
pub all-standing : (C : Setting) (gs : List Grant) (K : States) (L : Loads) (k : ℕ) (p : Phase) (m : List ℕ) → IsWorldAt C gs K L k p m
    → all_tasks (world_of k (tasks_from K L 0 (take k C.program.phases)) p (stands K L k) m) ≡ tasks_from K L 0 (take (suc k) C.program.phases)
all-standing C gs K L k p m h =
    let number : 0 + k ≡ k = omega arith in
    sym (tasks-next K L 0 k C.program.phases p h.there ∙ ap (λ (x : ℕ). tasks_from K L 0 (take k C.program.phases) ++ map (stands K L x) p.tasks) number)

-- ---- fronts

among-place : {X : Type 0} (xs : List X) (i : ℕ) (x : X) → slice_get xs i ≡ Some x → IsAmong xs x
among-place xs i x there = (i, (slice_get_within xs i x there, sym (get_or_from_slice_get xs i x x there)))

world-begins : (C : Setting) (gs : List Grant) (K : States) (L : Loads) (k : ℕ) (p : Phase) (m : List ℕ) (F : Flat) → IsWorldAt C gs K L k p m → so_far C.program C.fuel gs ≡ Some F
    → (q : ℕ) (x : Phase) (d : TaskDecl) → q ≤ k → slice_get C.program.phases q ≡ Some x → IsAmong x.tasks d → HasStartedWith F q d (L q d.core.0)
world-begins C gs K L k p m F h run q x d before there among =
    let W : Flat = world_of k (tasks_from K L 0 (take k C.program.phases)) p (stands K L k) m in
    let at' : slice_get x.tasks among.0 ≡ Some d = slice_get-get_or x.tasks among.0 d among.1.0 ∙ ap Some (sym among.1.1) in
    let place = task-place K L 0 (take (suc k) C.program.phases) q x among.0 d (take-place C.program.phases (suc k) q x (omega (arith, before)) there) at' in
    let number : 0 + q ≡ q = omega arith in
    let here : slice_get (all_tasks W) place.0 ≡ Some (stands K L q d) =
    ap (λ (ts : List Started). slice_get ts place.0) (all-standing C gs K L k p m h) ∙ place.1 ∙ ap (λ (y : ℕ). Some (stands K L y d)) number in
    let later : StandsLater (all_tasks F) place.0 (stands K L q d) = run-later C.program C.fuel gs W F h.leads run place.0 (stands K L q d) here in
    record {
      task = later.task;
      among = among-place (all_tasks F) place.0 later.task later.there;
      in_phase = ap (λ y. y.0) later.later.phase;
      decl = later.later.decl;
      more = later.later.more;
      front = later.later.loads;
    }

-- the state after a run agrees
pub run-agreed : (C : Setting) (p : Phase) (events : List Event) → IsWellFormed C → slice_get C.program.phases 0 ≡ Some p → IsRun (initial_state C) events
    → Agreed (after (initial_state C) events) (memory_over (first_memory C) (initial_state C) events) (grants_of (initial_state C) events) (loads_over no_loads (initial_state C) events)
    (ends_over (more_ends no_ends (initial_state C)) (initial_state C) events)
run-agreed C p events well there run =
    agreed-run (initial_state C) (first_memory C) 0 [] no_loads (more_ends no_ends (initial_state C)) events (opened-sound C well) (opened-invariant C well)
    (last-more (initial_state C) no_ends) (opened-agreed C p well there) run

pub run-world : (C : Setting) (p : Phase) (events : List Event) → IsWellFormed C → slice_get C.program.phases 0 ≡ Some p → IsRun (initial_state C) events
    → (K : States) × (q : Phase) × (m : List ℕ) × IsWorldAt C (grants_of (initial_state C) events) K (loads_over no_loads (initial_state C) events) (after (initial_state C) events).keeper.phase q m
run-world C p events well there run =
    let h = run-agreed C p events well there run in (
      h.states,
      h.phase,
      h.memory,
      subst (λ (x : Setting). IsWorldAt x (grants_of (initial_state C) events) h.states (loads_over no_loads (initial_state C) events) (after (initial_state C) events).keeper.phase h.phase h.memory)
          (run-setting (initial_state C) events ∙ opened-setting C) h.world,
    )

pub well-agrees : (C : Setting) (events : List Event) → IsWellFormed C → IsRun (initial_state C) events → (F : Flat) × IsFrontOf C events F
well-agrees C events well run = by_phases C.program.phases refl where
  by_phases : (ps : List Phase) → C.program.phases ≡ ps → (F : Flat) × IsFrontOf C events F
  by_phases [] is =
      let none : events ≡ [] = no-phases-run C events (ap length is) run in (
        initial_flat C.program C.fuel,
        record {
          leads = ap (λ (es : List Event). so_far C.program C.fuel (grants_of (initial_state C) es)) none;
          fronts = λ q x d before there among. absurd (none-some x (ap (λ (ps : List Phase). slice_get ps q) (sym is) ∙ there));
        },
      )
  by_phases (p ∷ ps) is =
      let gs : List Grant = grants_of (initial_state C) events in
      let w = run-world C p events well (ap (λ (xs : List Phase). slice_get xs 0) is) run in
      let F : Flat = settled C.program C.fuel w.3.leads.flat in (
        F,
        record {
          leads = w.3.leads.run;
          fronts = λ q x d before there among. world-begins C gs w.0 (loads_over no_loads (initial_state C) events) (after (initial_state C) events).keeper.phase w.1 w.2 F w.3 w.3.leads.run q x d before there among;
        },
      )

-- the same within the limits of the code
pub prefix-agrees : (C : Setting) (events : List Event) → IsReady C → IsRun (initial_state C) events → (F : Flat) × IsFrontOf C events F
prefix-agrees C events ready run = well-agrees C events (well-formed C ready) run
