-- The events of every run of a checked program are at most 12 for each instruction that its tasks have retired and for each
-- task that has started, and 3 for each core and phase.
use Rattle.std.proofs.Common.{◌≡◌, ◌⊎◌, inl, inr, ℕ, zero, suc, ◌+◌, ◌*◌, ◌<◌, ◌≤◌, ◌==◌, true, List, [], ◌∷◌, length, take, slice_get, sum_by, Option, Some, None, refl, sym, ap, subst, ◌∙◌, arith, length-append}
use Rattle.std.specs.Option.{option_or}
use Rattle.std.specs.List.{All, IsAmong}
use Rattle.std.proofs.Math.Nat.{mul-le-mul, mul-le-mul_left}
use Rattle.std.proofs.lemmas.Bool.Decides.{nat_tests}
use Rattle.std.proofs.lemmas.Option.{none-some, same_Some, slice_get_within}
use Rattle.std.proofs.lemmas.List.{length-take-le}
use Rattle.std.proofs.lemmas.List.Concat.{length-flat_map}
use Rattle.std.proofs.lemmas.List.Elements.{All-head, All-tail}
use Rattle.std.proofs.lemmas.List.Sums.{sum_by-cons, sum_by-le, sum_by-take-le, get_or-le-sum_by}
use Rattle.region_table.specs.declared.declared.TaskDecl.{TaskDecl}
use Rattle.region_table.specs.declared.declared.Phase.{Phase}
use Rattle.region_table.specs.Program.{cores_in, tasks_of, IsPhase}
use Rattle.region_table.proofs.ProgramLemmas.{cores-append, cores-within, cores-below}
use Rattle.region_table.proofs.TaskLemmas.{declared-tells}
use Rattle.rv_core.specs.declared.task.TaskState.{TaskState}
use Rattle.message_net.specs.declared.event.Event.{Event}
use Rattle.registration_protocol.specs.Node.{NodeParts, Setting}
use Rattle.registration_protocol.specs.Parts.{retired_so_far}
use Rattle.machine_rules.specs.State.{State, initial_state}
use Rattle.machine_rules.specs.Next.{next}
use Rattle.machine_rules.specs.Memory.{store_in}
use Rattle.machine_rules.specs.Runs.{after, IsRun, begun_in}
use Rattle.machine_rules.specs.Bound.{task_in_phase, last_task, retired_from, retired_in, started_in}
use Rattle.machine_rules.specs.Sound.{IsSound, IsReady, IsWellFormed}
use Rattle.machine_rules.proofs.AnySize.{well-formed}
use Rattle.machine_rules.proofs.Invariant.{Invariant}
use Rattle.machine_rules.proofs.Outcomes.{stored_to}
use Rattle.machine_rules.proofs.SoundEvents.{sound-next}
use Rattle.machine_rules.proofs.Kept.{kept}
use Rattle.machine_rules.proofs.OpenedFacts.{opened-setting}
use Rattle.machine_rules.proofs.OpenedSound.{opened-sound}
use Rattle.machine_rules.proofs.OpenedInvariant.{opened-invariant}
use Rattle.machine_rules.proofs.RunsKept.{memory_over, same-setting, run-setting, run-kept}
use Rattle.machine_rules.proofs.RunsCoherent.{first_memory}
use Rattle.machine_rules.proofs.Spending.{total, HasEarned}
use Rattle.machine_rules.proofs.SpendBound.{worked, worked_at, earned-most, opened-spent, spent-bound, HaveEarned, spent-run}
use Rattle.machine_rules.proofs.Totals.{total-le, total-raised, total-part, total-first, total-swap, sum-total, only_at, total-places}
use Rattle.machine_rules.proofs.PhasesOn.{keeper-on}
use Rattle.machine_rules.proofs.NoPhases.{no-phases-run}
use Rattle.machine_rules.proofs.LastTasks.{own-task, none-past, last-declared, last-fuel}

-- ---- what the tasks of all cores and phases have done

-- the instructions that a core's task of a phase has retired, as its node last had it, and one more if it had it
abbrev done : State → List Event → ℕ → ℕ → ℕ
done S events c q = worked (last_task q c S events)

abbrev all_done : ℕ → ℕ → State → List Event → ℕ
all_done cores phases S events = total (λ (c : ℕ). total (done S events c) phases) cores

-- a later state shows no less
done-later : (x y : Option TaskState) → worked x ≤ worked (option_or x y)
done-later None y = omega arith
done-later (Some t) y = omega arith

-- the tasks that the nodes have are among them
here-done : (S : State) (cores phases : ℕ) → ((c : ℕ) (n : NodeParts) → slice_get S.nodes c ≡ Some n → n.phase < phases) → length S.nodes ≡ cores
    → sum_by worked_at S.nodes ≤ all_done cores phases S []
here-done S cores phases low long =
    subst (λ (k : ℕ). sum_by worked_at S.nodes ≤ all_done k phases S []) long (sum-total worked_at (λ (c : ℕ). total (done S [] c) phases) S.nodes each)
  where
    each : (c : ℕ) (n : NodeParts) → slice_get S.nodes c ≡ Some n → worked_at n ≤ total (done S [] c) phases
    each c n found =
        let here : last_task n.phase c S [] ≡ n.task = ap (task_in_phase n.phase) found ∙ own-task n in
        omega (arith, total-part (done S [] c) phases n.phase (low c n found), ap worked here)

-- ---- what the tasks of ended phases have earned

-- an event more: where a phase ends for a core, what the task earned is within what it has done, and no later state shows it
event-done : (S : State) (M : ℕ → ℕ) (count : ℕ) (e : Event) (es : List Event) (cores phases due : ℕ) → IsSound S count → Invariant S M → IsRun S (e ∷ es)
    → S.setting.shape.cores ≡ cores → S.keeper.phase < phases → HasEarned S (next S e) due
    → due + 12 * all_done cores phases (next S e) es ≤ 12 * all_done cores phases S (e ∷ es)
event-done S M count e es cores phases due sound inv run long low earns = by_end earns where
  T : State
  T = next S e

  each : (c q : ℕ) → done T es c q ≤ done S (e ∷ es) c q
  each c q = done-later (last_task q c T es) (task_in_phase q (slice_get S.nodes c))

  rows : (c : ℕ) → total (done T es c) phases ≤ total (done S (e ∷ es) c) phases
  rows c = total-le (done T es c) (done S (e ∷ es) c) phases (each c)

  by_end : HasEarned S (next S e) due → due + 12 * all_done cores phases (next S e) es ≤ 12 * all_done cores phases S (e ∷ es)
  by_end (inl none) = omega (arith, none, total-le (λ (c : ℕ). total (done T es c) phases) (λ (c : ℕ). total (done S (e ∷ es) c) phases) cores rows)
  by_end (inr (core, n, m, ends, is)) =
      let after_it = sound-next S count e sound run.0 in
      let gone : last_task n.phase core T es ≡ None =
      none-past T (stored_to (store_in S e) M) (count + 1) es n.phase core m after_it (kept S M e inv run.0 after_it.machine) run.1 ends.now (omega (arith, ends.next_phase)) in
      let shown : last_task n.phase core S (e ∷ es) ≡ n.task =
      ap (λ (o : Option TaskState). option_or o (task_in_phase n.phase (slice_get S.nodes core))) gone ∙ (ap (task_in_phase n.phase) ends.found ∙ own-task n) in
      let one : done T es core n.phase + worked n.task ≤ done S (e ∷ es) core n.phase = omega (arith, ap worked gone, ap worked shown) in
      let row = total-raised (done T es core) (done S (e ∷ es) core) phases n.phase (worked n.task) (each core) (omega (arith, low, inv.behind core n ends.found)) one in
      let all = total-raised (λ (c : ℕ). total (done T es c) phases) (λ (c : ℕ). total (done S (e ∷ es) c) phases) cores core (worked n.task) rows
      (omega (arith, slice_get_within S.nodes core n ends.found, inv.machine.nodes, long)) row in
      omega (arith, is, earned-most n.task, all)

-- all events of a run
run-done : (S : State) (M : ℕ → ℕ) (count : ℕ) (events : List Event) (cores phases past : ℕ) → IsSound S count → Invariant S M → IsRun S events
    → S.setting.shape.cores ≡ cores → (after S events).keeper.phase < phases → HaveEarned S events past
    → past + 12 * sum_by worked_at (after S events).nodes ≤ 12 * all_done cores phases S events
run-done S M count [] cores phases past sound inv run long low none =
    omega (arith, none, here-done S cores phases (λ c n found. omega (arith, inv.behind c n found, low)) (inv.machine.nodes ∙ long))
run-done S M count (e ∷ es) cores phases past sound inv run long low (due, more, earns, rest, is) =
    let after_it = sound-next S count e sound run.0 in
    let behind = run-done (next S e) (stored_to (store_in S e) M) (count + 1) es cores phases more after_it (kept S M e inv run.0 after_it.machine) run.1
    (ap (λ (C : Setting). C.shape.cores) (same-setting S e) ∙ long) low rest in
    let one = event-done S M count e es cores phases due sound inv run long (omega (arith, low, keeper-on S M count (e ∷ es) sound inv run)) earns in
    omega (arith, is, behind, one)

-- ---- the tasks of the phases that have begun

count-more : {X : Type 0} (f : X → ℕ) (xs : List X) → sum_by (λ (x : X). f x + 1) xs ≡ sum_by f xs + length xs
count-more f [] = refl
count-more {X} f (x ∷ xs) = omega (arith, count-more f xs, sum_by-cons f x xs, sum_by-cons (λ (y : X). f y + 1) x xs)

-- what the tasks of a phase have done, by the cores and by the tasks
phase-done : (S : State) (M : ℕ → ℕ) (count : ℕ) (events : List Event) (cores q : ℕ) (p : Phase) → IsSound S count → Invariant S M → IsRun S events → slice_get S.setting.program.phases q ≡ Some p
    → total (λ (c : ℕ). done S events c q) cores ≤ sum_by (λ (d : TaskDecl). retired_so_far (last_task q d.core.0 S events)) p.tasks + length p.tasks
phase-done S M count events cores q p sound inv run there =
    omega (
      arith,
      total-le (λ (c : ℕ). done S events c q) (λ (c : ℕ). sum_by (λ (d : TaskDecl). only_at d.core.0 most c) p.tasks) cores (λ c. by_last c (last_task q c S events) refl),
      total-places (λ (d : TaskDecl). d.core.0) most p.tasks cores,
      count-more (λ (d : TaskDecl). retired_so_far (last_task q d.core.0 S events)) p.tasks,
    )
  where
    most : ℕ → ℕ
    most c = retired_so_far (last_task q c S events) + 1

    same-core : (c : ℕ) → (c == c) ≡ true
    same-core c = grind (arith, nat_tests)

    by_last : (c : ℕ) (o : Option TaskState) → last_task q c S events ≡ o → worked o ≤ sum_by (λ (d : TaskDecl). only_at d.core.0 most c) p.tasks
    by_last c None last = omega arith
    by_last c (Some t) last =
        let of = last-declared S M count events q c t sound inv run last in
        let tells = declared-tells S.setting.program q c of.decl of.declares in
        let same : tells.phase ≡ p = same_Some tells.phase p (sym tells.there ∙ there) in
        let among : IsAmong p.tasks of.decl = subst (λ (x : Phase). IsAmong x.tasks of.decl) same tells.among in
        let part = get_or-le-sum_by (λ (d : TaskDecl). only_at d.core.0 most c) p.tasks among.0 of.decl among.1.0 in
        let its : only_at of.decl.core.0 most c ≡ most c = rw (tells.own, same-core c) refl in
        omega (arith, part, ap (λ (d : TaskDecl). only_at d.core.0 most c) among.1.1, its, ap retired_so_far last)

-- some phases in a row, the first of which is phase number q
phases-done : (row : ℕ → ℕ) (S : State) (events : List Event) (q : ℕ) (ps : List Phase)
    → ((j : ℕ) (p : Phase) → slice_get ps j ≡ Some p → row (q + j) ≤ sum_by (λ (d : TaskDecl). retired_so_far (last_task (q + j) d.core.0 S events)) p.tasks + length p.tasks)
    → total (λ (j : ℕ). row (q + j)) (length ps) ≤ retired_from q ps S events + length (tasks_of ps)
phases-done row S events q [] each = omega arith
phases-done row S events q (p ∷ ps) each =
    omega (
      arith,
      total-first (λ (j : ℕ). row (q + j)) (length ps),
      first,
      total-le (λ (j : ℕ). row (q + suc j)) (λ (j : ℕ). row (q + 1 + j)) (length ps) (λ j. omega (arith, ap row (number j))),
      phases-done row S events (q + 1) ps (λ j x there. subst (HasDone x) (number j) (each (suc j) x there)),
      length-append p.tasks (tasks_of ps),
    )
  where
    HasDone : Phase → ℕ → Type 0
    HasDone x k = row k ≤ sum_by (λ (d : TaskDecl). retired_so_far (last_task k d.core.0 S events)) x.tasks + length x.tasks

    number : (j : ℕ) → q + suc j ≡ q + 1 + j
    number j = omega arith

    none : q + 0 ≡ q
    none = omega arith

    first : row (q + 0) ≤ sum_by (λ (d : TaskDecl). retired_so_far (last_task q d.core.0 S events)) p.tasks + length p.tasks
    first = subst (λ (k : ℕ). row (q + 0) ≤ sum_by (λ (d : TaskDecl). retired_so_far (last_task k d.core.0 S events)) p.tasks + length p.tasks) none (each 0 p refl)

-- who is among the first elements of a list
take-there : {X : Type 0} (xs : List X) (k j : ℕ) (x : X) → slice_get (take k xs) j ≡ Some x → slice_get xs j ≡ Some x
take-there [] zero j x there = there
take-there [] (suc k) j x there = there
take-there (z ∷ xs) zero j x there = absurd (none-some x there)
take-there (z ∷ xs) (suc k) zero x there = there
take-there (z ∷ xs) (suc k) (suc j) x there = take-there xs k j x there

begun-done : (S : State) (M : ℕ → ℕ) (count : ℕ) (events : List Event) (cores : ℕ) → IsSound S count → Invariant S M → IsRun S events
    → (after S events).keeper.phase + 1 ≤ length (after S events).setting.program.phases
    → all_done cores ((after S events).keeper.phase + 1) S events ≤ retired_in S events + started_in S events
begun-done S M count events cores sound inv run within =
    omega (
      arith,
      total-swap (done S events) cores begun,
      total-le row (λ (j : ℕ). row (0 + j)) begun (λ j. omega (arith, ap row (none j))),
      ap (total (λ (j : ℕ). row (0 + j))) (length-take-le begun phases within),
      phases-done row S events 0 (take begun phases) each,
    )
  where
    begun : ℕ
    begun = (after S events).keeper.phase + 1

    phases : List Phase
    phases = (after S events).setting.program.phases

    row : ℕ → ℕ
    row q = total (λ (c : ℕ). done S events c q) cores

    none : (j : ℕ) → 0 + j ≡ j
    none j = omega arith

    each : (j : ℕ) (p : Phase) → slice_get (take begun phases) j ≡ Some p
        → row (0 + j) ≤ sum_by (λ (d : TaskDecl). retired_so_far (last_task (0 + j) d.core.0 S events)) p.tasks + length p.tasks
    each j p there =
        let here : slice_get S.setting.program.phases j ≡ Some p = subst (λ (C : Setting). slice_get C.program.phases j ≡ Some p) (run-setting S events) (take-there phases begun j p there) in
        let number : j ≡ 0 + j = sym (none j) in
        phase-done S M count events cores (0 + j) p sound inv run (subst (λ (k : ℕ). slice_get S.setting.program.phases k ≡ Some p) number here)

-- ---- every run

pub well-few : (C : Setting) (events : List Event) → IsWellFormed C → IsRun (initial_state C) events
    → length events ≤ 12 * (retired_in (initial_state C) events + started_in (initial_state C) events) + 3 * (C.shape.cores * length C.program.phases)
well-few C events well run = by_phases inv.phases.within where
  M : ℕ → ℕ
  M = first_memory C

  T : State
  T = after (initial_state C) events

  sound : IsSound (initial_state C) 0
  sound = opened-sound C well

  first : Invariant (initial_state C) M
  first = opened-invariant C well

  inv : Invariant T (memory_over M (initial_state C) events)
  inv = (run-kept (initial_state C) M 0 events sound first run).1

  setting : T.setting ≡ C
  setting = run-setting (initial_state C) events ∙ opened-setting C

  by_phases : T.keeper.phase < length T.setting.program.phases ⊎ (length T.setting.program.phases ≡ 0)
      → length events ≤ 12 * (retired_in (initial_state C) events + started_in (initial_state C) events) + 3 * (C.shape.cores * length C.program.phases)
  by_phases (inr none) = omega (arith, ap length (no-phases-run C events (ap (λ (x : Setting). length x.program.phases) (sym setting) ∙ none) run))
  by_phases (inl within) =
      let along = spent-run (initial_state C) M 0 0 0 events sound first run (opened-spent C well.context) in
      let bound = spent-bound T (memory_over M (initial_state C) events) (0 + length events) (0 + along.more) inv along.spent in
      let done = run-done (initial_state C) M 0 events C.shape.cores (T.keeper.phase + 1) along.more sound first run (ap (λ (x : Setting). x.shape.cores) (opened-setting C)) (omega arith) along.earns in
      let tasks = begun-done (initial_state C) M 0 events C.shape.cores sound first run (omega (arith, within)) in
      let cores = ap (λ (x : Setting). x.shape.cores * (T.keeper.phase + 1)) setting in
      let turns : C.shape.cores * (T.keeper.phase + 1) ≤ C.shape.cores * length C.program.phases =
      mul-le-mul_left C.shape.cores (omega (arith, within, ap (λ (x : Setting). length x.program.phases) setting)) in
      omega (arith, bound, done, tasks, cores, turns)

-- ---- within the limits of programs and fuel

retired-most : (q : ℕ) (ps : List Phase) (S : State) (events : List Event) → ((k c : ℕ) → retired_so_far (last_task k c S events) ≤ 32768) → retired_from q ps S events ≤ length (tasks_of ps) * 32768
retired-most q [] S events each = omega arith
retired-most q (p ∷ ps) S events each =
    omega (
      arith,
      sum_by-le (λ (d : TaskDecl). retired_so_far (last_task q d.core.0 S events)) 32768 p.tasks (λ i d l. each q _),
      retired-most (q + 1) ps S events each,
      length-append p.tasks (tasks_of ps),
    )

started-most : (k : ℕ) (ps : List Phase) → length (tasks_of (take k ps)) ≤ length (tasks_of ps)
started-most k ps =
    omega (
      arith,
      length-flat_map (λ (p : Phase). p.tasks) (take k ps),
      length-flat_map (λ (p : Phase). p.tasks) ps,
      sum_by-take-le (λ (p : Phase). length p.tasks) ps k,
    )

cores-most : (words locks : ℕ) (ps : List Phase) → All (IsPhase words locks) ps → cores_in (tasks_of ps) ≤ 16
cores-most words locks [] all = omega arith
cores-most words locks (p ∷ ps) all =
    omega (
      arith,
      cores-append p.tasks (tasks_of ps),
      cores-within p.tasks (cores-below words locks p (All-head (IsPhase words locks) p ps all)),
      cores-most words locks ps (All-tail (IsPhase words locks) p ps all),
    )

pub run-few : (C : Setting) (events : List Event) → IsReady C → IsRun (initial_state C) events
    → length events ≤ 12 * (retired_in (initial_state C) events + started_in (initial_state C) events) + 3 * (C.shape.cores * length C.program.phases)
run-few C events ready run = well-few C events (well-formed C ready) run

pub run-ends : (C : Setting) (events : List Event) → IsReady C → IsRun (initial_state C) events → length events ≤ 25169664
run-ends C events ready run =
    omega (arith, run-few C events ready run, retired, started, cores)
  where
    T : State
    T = after (initial_state C) events

    each : (k c : ℕ) → retired_so_far (last_task k c (initial_state C) events) ≤ 32768
    each k c =
        omega (
          arith,
          last-fuel (initial_state C) (first_memory C) 0 events k c (opened-sound C (well-formed C ready)) (opened-invariant C (well-formed C ready)) run,
          ap (λ (x : Setting). x.fuel) (opened-setting C),
          ready.context.most_fuel,
        )

    retired : retired_in (initial_state C) events ≤ started_in (initial_state C) events * 32768
    retired = retired-most 0 (begun_in T) (initial_state C) events each

    started : started_in (initial_state C) events ≤ 64
    started =
        omega (
          arith,
          started-most (T.keeper.phase + 1) T.setting.program.phases,
          ap (λ (x : Setting). length (tasks_of x.program.phases)) (run-setting (initial_state C) events ∙ opened-setting C),
          ready.program.tasks,
        )

    cores : C.shape.cores * length C.program.phases ≤ 16 * 64
    cores =
        let few : C.shape.cores ≤ 16 = omega (arith, ready.context.cores, cores-most (length C.program.memory) (length C.program.locks) C.program.phases ready.program.each_phase) in
        mul-le-mul few ready.program.phases
