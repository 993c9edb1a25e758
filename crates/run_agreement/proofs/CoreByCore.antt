-- The same core by core: what one core does keeps that the tasks of a phase lead to the flat machine's run.
use Rattle.std.proofs.Common.{◌≡◌, ◌<◌, ◌≤◌, ℕ, suc, ◌+◌, Bool, true, false, ◌&&◌, not, if◌then◌else◌, List, [], ◌∷◌, ◌++◌, length, map, get_or, slice_get, slice_set, Option, Some, None, refl, sym, ap, ◌∙◌, subst, ⊎_elim, arith}
use Rattle.std.specs.List.{AllPairs, IsAmong, list_any, list_all}
use Rattle.std.proofs.lemmas.Bool.{cases_eq, true≢false, false_from_ne_true}
use Rattle.std.proofs.lemmas.List.{length-map}
use Rattle.std.proofs.lemmas.List.Folds.{list_any_none, list_any_at, list_all_at}
use Rattle.std.proofs.lemmas.Option.{none-some, same_Some, slice_get_past, slice_get_within, slice_get-get_or, get_or_from_slice_get}
use Rattle.dn_base.specs.declared.ids.Grant.{Grant}
use Rattle.dn_base.specs.declared.ids.LockId.{LockId}
use Rattle.region_table.specs.Program.{ProgramParts}
use Rattle.region_table.specs.declared.declared.TaskDecl.{TaskDecl}
use Rattle.region_table.specs.declared.declared.Phase.{Phase}
use Rattle.rv_core.specs.declared.need.Need.{Need}
use Rattle.rv_core.specs.declared.need.Need.TheVariants.{Local, Load, Store, Acquire, Release, End}
use Rattle.rv_core.specs.Access.{is_held}
use Rattle.effect_checker.specs.Checked.{IsChecked}
use Rattle.flat_machine.specs.Step.{Started, At, fresh, wish, step_by, flat_step}
use Rattle.flat_machine.specs.Phases.{Flat, has_finished, next_phase, initial}
use Rattle.flat_machine.specs.Grants.{is_free, grant_of, with_task}
use Rattle.flat_machine.specs.Ending.{flat_end_of, flat_end}
use Rattle.flat_machine.proofs.InOrder.{phase-order}
use Rattle.flat_machine.specs.Laws.{AreCoresRising, at_memory}
use Rattle.run_agreement.specs.Worlds.{LeadsToRun, past_acquire, IsStopped}
use Rattle.run_agreement.specs.Cores.{world_of, ChangesOne, step_of_task, IsFreeAmong, IsStoppedAmong, IsAgreed}
use Rattle.run_agreement.proofs.Places.{set-there, set-other, set-length, same-places, map-place, place-map}
use Rattle.run_agreement.proofs.Holding.{cores-apart}
use Rattle.run_agreement.proofs.Granting.{run-step, run-grant}
use Rattle.run_agreement.proofs.Agreeing.{run-ends}
use Rattle.run_agreement.proofs.Beginning.{run-begin, run-opens}

-- ---- one task changes

change-place : (ds : List TaskDecl) (i : ℕ) (d : TaskDecl) (x : Started) (old new : TaskDecl → Started) → AllPairs (λ (a b : TaskDecl). a.core.0 < b.core.0) ds → slice_get ds i ≡ Some d
    → ChangesOne d x old new → map new ds ≡ slice_set (map old ds) i x
change-place ds i d x old new rising there h =
    same-places (map new ds) (slice_set (map old ds) i x) (length-map ds new ∙ sym (length-map ds old) ∙ sym (set-length (map old ds) i x)) (λ j y at'.
    let e = map-place new ds j y at' in
    ⊎_elim
    (λ (same : j ≡ i).
    let is : e.0 ≡ d = same_Some e.0 d (sym e.1 ∙ ap (slice_get ds) same ∙ there) in
    let value : x ≡ y = sym h.own ∙ ap new (sym is) ∙ e.2 in
    ap (slice_get (slice_set (map old ds) i x)) same ∙ set-there (map old ds) i x (old d) (place-map old ds i d there) ∙ ap Some value)
    (λ (away : j ≡ i → ⊥).
    let kept : new e.0 ≡ old e.0 = h.others e.0 (cores-apart ds j i e.0 d rising away e.1 there) in
    set-other (map old ds) i j x away ∙ place-map old ds j e.0 e.1 ∙ ap Some (sym kept ∙ e.2))
    (cases_eq j i))

among-at : (ds : List TaskDecl) (d : TaskDecl) → (among : IsAmong ds d) → slice_get ds among.0 ≡ Some d
among-at ds d among = slice_get-get_or ds among.0 d among.1.0 ∙ ap Some (sym among.1.1)

-- the world after the change
changed-world : (P : ProgramParts) (phase : ℕ) (past : List Started) (p : Phase) (d : TaskDecl) (s : At) (old new : TaskDecl → Started) (m : List ℕ) → AreCoresRising P → slice_get P.phases phase ≡ Some p
    → (among : IsAmong p.tasks d) → ChangesOne d s.task old new → with_task (world_of phase past p old m) among.0 s ≡ world_of phase past p new s.memory
changed-world P phase past p d s old new m is there among h =
    let with_tasks : List Started → Flat = λ ts. record { begun = phase + 1; past = past; tasks = ts; memory = s.memory } in
    ap with_tasks (sym (change-place p.tasks among.0 d s.task old new (phase-order P phase p is there) (among-at p.tasks d among) h))

same-tasks : (ds : List TaskDecl) (old new : TaskDecl → Started) → ((d : TaskDecl) → IsAmong ds d → new d ≡ old d) → map old ds ≡ map new ds
same-tasks [] old new same = refl
same-tasks (d ∷ ds) old new same =
    let first : old d ≡ new d = sym (same d (0, (omega arith, refl))) in
    let rest : map old ds ≡ map new ds = same-tasks ds old new (λ e among. same e (suc among.0, (omega arith, among.1.1))) in
    ap (λ (r : Started). r ∷ map old ds) first ∙ ap (λ (rs : List Started). new d ∷ rs) rest

-- no task of the phase changes
pub agreed-same : (P : ProgramParts) (fuel : ℕ) (gs : List Grant) (phase : ℕ) (past : List Started) (p : Phase) (old new : TaskDecl → Started) (m : List ℕ)
    → ((d : TaskDecl) → IsAmong p.tasks d → new d ≡ old d) → IsAgreed P fuel gs phase past p old m → IsAgreed P fuel gs phase past p new m
agreed-same P fuel gs phase past p old new m same h =
    let with_tasks : List Started → Flat = λ ts. record { begun = phase + 1; past = past; tasks = ts; memory = m } in
    record { there = h.there; leads = subst (LeadsToRun P fuel gs) (ap with_tasks (same-tasks p.tasks old new same)) h.leads }

-- a task does what it needs
pub agreed-step : (P : ProgramParts) (fuel : ℕ) (gs : List Grant) (phase : ℕ) (past : List Started) (p : Phase) (d : TaskDecl) (need : Need) (old new : TaskDecl → Started) (m : List ℕ)
    → AreCoresRising P → IsChecked P → IsAmong p.tasks d → wish P fuel (old d) ≡ Some need → ChangesOne d (step_of_task P old d m need).task old new
    → IsAgreed P fuel gs phase past p old m → IsAgreed P fuel gs phase past p new (step_of_task P old d m need).memory
agreed-step P fuel gs phase past p d need old new m is checked among wants change h =
    let W : Flat = world_of phase past p old m in
    let start : At = at_memory (old d) m in
    let done : At = step_of_task P old d m need in
    let goes : flat_step P fuel start ≡ done = ap (step_by P start) wants in
    let at' : slice_get W.tasks among.0 ≡ Some (old d) = place-map old p.tasks among.0 d (among-at p.tasks d among) in
    let next : LeadsToRun P fuel gs (with_task W among.0 (flat_step P fuel start)) = run-step P fuel gs W among.0 (old d) is checked at' h.leads in
    record {
      there = h.there;
      leads = subst (LeadsToRun P fuel gs) (ap (with_task W among.0) goes ∙ changed-world P phase past p d done old new m is h.there among change) next;
    }

-- a lock that no task of the phase holds is free
pub free-among : (p : Phase) (task : TaskDecl → Started) (lock : ℕ) → IsFreeAmong p task lock → is_free (map task p.tasks) lock ≡ true
free-among p task lock free =
    let test : Started → Bool = λ r. is_held r.state.held lock in
    let none : list_any test (map task p.tasks) ≡ false =
    list_any_none test (map task p.tasks)
    (λ j r within.
    let q : Started = get_or (map task p.tasks) j r in
    let e = map-place task p.tasks j q (slice_get-get_or (map task p.tasks) j r within) in
    let among : IsAmong p.tasks e.0 = (j, (slice_get_within p.tasks j e.0 e.1, sym (get_or_from_slice_get p.tasks j e.0 e.0 e.1))) in
    false_from_ne_true (test q) (λ has. free e.0 among (ap test e.2 ∙ has))) in
    ap not none

-- a task acquires the free lock that it wants
pub agreed-grant : (P : ProgramParts) (fuel : ℕ) (gs : List Grant) (phase : ℕ) (past : List Started) (p : Phase) (d : TaskDecl) (lock : LockId) (old new : TaskDecl → Started) (m : List ℕ)
    → AreCoresRising P → IsChecked P → IsAmong p.tasks d → wish P fuel (old d) ≡ Some (Acquire lock) → IsFreeAmong p old lock.0 → ChangesOne d (past_acquire P (old d)) old new
    → IsAgreed P fuel gs phase past p old m → IsAgreed P fuel (gs ++ grant_of (old d) lock ∷ []) phase past p new m
agreed-grant P fuel gs phase past p d lock old new m is checked among wants free change h =
    let W : Flat = world_of phase past p old m in
    let at' : slice_get W.tasks among.0 ≡ Some (old d) = place-map old p.tasks among.0 d (among-at p.tasks d among) in
    let next = run-grant P fuel gs W among.0 (old d) lock is checked at' wants (free-among p old lock.0 free) h.leads in
    record {
      there = h.there;
      leads = subst (LeadsToRun P fuel (gs ++ grant_of (old d) lock ∷ [])) (changed-world P phase past p d (at_memory (past_acquire P (old d)) m) old new m is h.there among change) next;
    }

-- ---- phases

all-finished : (ds : List TaskDecl) (task : TaskDecl → Started) → ((d : TaskDecl) → IsAmong ds d → has_finished (task d) ≡ true) → list_all has_finished (map task ds) ≡ true
all-finished [] task done = refl
all-finished (d ∷ ds) task done =
    let first : has_finished (task d) ≡ true = done d (0, (omega arith, refl)) in
    let rest : list_all has_finished (map task ds) ≡ true = all-finished ds task (λ e among. done e (suc among.0, (omega arith, among.1.1))) in
    both (has_finished (task d)) (list_all has_finished (map task ds)) first rest
  where
    both : (a b : Bool) → a ≡ true → b ≡ true → (a && b) ≡ true
    both true b x y = y
    both false b x y = absurd (true≢false (sym x))

-- the phase after this one begins
pub agreed-begin : (P : ProgramParts) (fuel : ℕ) (gs : List Grant) (phase : ℕ) (past : List Started) (p q : Phase) (task : TaskDecl → Started) (m : List ℕ) → AreCoresRising P → IsChecked P
    → ((d : TaskDecl) → IsAmong p.tasks d → has_finished (task d) ≡ true) → slice_get P.phases (phase + 1) ≡ Some q
    → IsAgreed P fuel gs phase past p task m → IsAgreed P fuel gs (phase + 1) (past ++ map task p.tasks) q (fresh (phase + 1)) m
agreed-begin P fuel gs phase past p q task m is checked done there h =
    let W : Flat = world_of phase past p task m in
    let choice : Bool → Option Phase = λ b. if b then slice_get P.phases (phase + 1) else None in
    let next : next_phase P W ≡ Some q = ap choice (all-finished p.tasks task done) ∙ there in
    record { there = there; leads = run-begin P fuel gs W q is checked next h.leads }

-- the first phase
pub agreed-opens : (P : ProgramParts) (fuel : ℕ) (p : Phase) → AreCoresRising P → IsChecked P → slice_get P.phases 0 ≡ Some p → IsAgreed P fuel [] 0 [] p (fresh 0) P.memory
agreed-opens P fuel p is checked there = record { there = there; leads = run-begin P fuel [] (initial P) p is checked there (run-opens P fuel) }

-- ---- no phase begins

pub last-phase : (P : ProgramParts) (phase : ℕ) (past : List Started) (p : Phase) (task : TaskDecl → Started) (m : List ℕ) → length P.phases ≤ phase + 1 → next_phase P (world_of phase past p task m) ≡ None
last-phase P phase past p task m last = by_test (list_all has_finished (map task p.tasks))
  where
    by_test : (b : Bool) → (if b then slice_get P.phases (phase + 1) else None) ≡ None
    by_test true = slice_get_past P.phases (phase + 1) last
    by_test false = refl

pub unfinished-phase : (P : ProgramParts) (phase : ℕ) (past : List Started) (p : Phase) (task : TaskDecl → Started) (m : List ℕ) (d : TaskDecl) → IsAmong p.tasks d → has_finished (task d) ≡ false
    → next_phase P (world_of phase past p task m) ≡ None
unfinished-phase P phase past p task m d among fails =
    let at' : slice_get (map task p.tasks) among.0 ≡ Some (task d) = place-map task p.tasks among.0 d (among-at p.tasks d among) in
    let is : get_or (map task p.tasks) among.0 (task d) ≡ task d = get_or_from_slice_get (map task p.tasks) among.0 (task d) (task d) at' in
    let some : list_all has_finished (map task p.tasks) ≡ false = list_all_at has_finished (map task p.tasks) among.0 (task d) (slice_get_within (map task p.tasks) among.0 (task d) at') (ap has_finished is ∙ fails) in
    let choice : Bool → Option Phase = λ b. if b then slice_get P.phases (phase + 1) else None in
    ap choice some

-- a lock that a task of the phase holds isn't free
pub held-among : (p : Phase) (task : TaskDecl → Started) (lock : ℕ) (e : TaskDecl) → IsAmong p.tasks e → is_held (task e).state.held lock ≡ true → is_free (map task p.tasks) lock ≡ false
held-among p task lock e among has =
    let test : Started → Bool = λ r. is_held r.state.held lock in
    let at' : slice_get (map task p.tasks) among.0 ≡ Some (task e) = place-map task p.tasks among.0 e (among-at p.tasks e among) in
    let is : get_or (map task p.tasks) among.0 (task e) ≡ task e = get_or_from_slice_get (map task p.tasks) among.0 (task e) (task e) at' in
    ap not (list_any_at test (map task p.tasks) among.0 (task e) (slice_get_within (map task p.tasks) among.0 (task e) at') (ap test is ∙ has))

-- ---- the end

stopped-among : (p : Phase) (task : TaskDecl → Started) (o : Option Need) → IsStoppedAmong p task o → IsStopped (map task p.tasks) o
stopped-among p task None k = tt
stopped-among p task (Some (Acquire lock)) k = held-among p task lock.0 k.by k.among k.holds
stopped-among p task (Some Local) k = absurd k
stopped-among p task (Some (Load word)) k = absurd k
stopped-among p task (Some (Store word whole)) k = absurd k
stopped-among p task (Some (Release lock)) k = absurd k
stopped-among p task (Some (End by)) k = absurd k

pub agreed-ends : (P : ProgramParts) (fuel : ℕ) (gs : List Grant) (phase : ℕ) (past : List Started) (p : Phase) (task : TaskDecl → Started) (m : List ℕ)
    → ((d : TaskDecl) → IsAmong p.tasks d → IsStoppedAmong p task (wish P fuel (task d))) → next_phase P (world_of phase past p task m) ≡ None
    → IsAgreed P fuel gs phase past p task m → flat_end P fuel gs ≡ Some (flat_end_of P fuel (world_of phase past p task m))
agreed-ends P fuel gs phase past p task m stop last h =
    run-ends P fuel gs (world_of phase past p task m) h.leads
    (λ i r at'.
    let e = map-place task p.tasks i r at' in
    let among : IsAmong p.tasks e.0 = (i, (slice_get_within p.tasks i e.0 e.1, sym (get_or_from_slice_get p.tasks i e.0 e.0 e.1))) in
    subst (λ (x : Started). IsStopped (map task p.tasks) (wish P fuel x)) e.2 (stopped-among p task (wish P fuel (task e.0)) (stop e.0 among)))
    last

-- a program without phases
pub none-ends : (P : ProgramParts) (fuel : ℕ) → length P.phases ≡ 0 → flat_end P fuel [] ≡ Some (flat_end_of P fuel (initial P))
none-ends P fuel none =
    run-ends P fuel [] (initial P) (run-opens P fuel) (λ i r at'. absurd (none-some r at')) (slice_get_past P.phases 0 (omega arith))
