-- The tasks of a world: two of them keep out of each other's words; a step, a grant and the beginning of a phase keep what a
-- world is.
use Rattle.std.proofs.Common.{◌≡◌, ◌≢◌, ◌<◌, ◌+◌, ◌==◌, ◌||◌, ◌^◌, ℕ, zero, suc, Bool, true, not, List, [], ◌∷◌, ◌++◌, length, map, get_or, slice_get, slice_set, Some, refl, sym, ap, ◌∙◌, subst, bit_or, ◌⊎◌, inl, inr, ⊎_elim, arith}
use Rattle.std.specs.List.{AllPairs, IsAmong, list_any}
use Rattle.std.proofs.lemmas.Bool.{false≢true, or_cases}
use Rattle.std.proofs.lemmas.Bool.Decides.{nat_tests}
use Rattle.std.proofs.lemmas.List.{map-append}
use Rattle.std.proofs.lemmas.List.Elements.{All-set}
use Rattle.std.proofs.lemmas.List.Folds.{list_any_at}
use Rattle.std.proofs.lemmas.Option.{none-some, same_Some, slice_get_within, slice_get-get_or, get_or_from_slice_get}
use Rattle.dn_base.specs.declared.ids.LockId.{LockId}
use Rattle.dn_base.specs.declared.ids.PhaseId.{PhaseId}
use Rattle.region_table.specs.Program.{ProgramParts}
use Rattle.region_table.specs.declared.declared.TaskDecl.{TaskDecl}
use Rattle.region_table.specs.declared.declared.Phase.{Phase}
use Rattle.rv_core.specs.declared.need.Need.TheVariants.{Acquire}
use Rattle.rv_core.specs.Access.{is_held}
use Rattle.rv_core.specs.Kinds.{IsAdvance}
use Rattle.rv_core.proofs.HeldLemmas.{holds-acquired}
use Rattle.rv_core.proofs.Completions.{advanced-held, advanced-retired, fuel-left}
use Rattle.effect_checker.specs.Checked.{IsChecked}
use Rattle.flat_machine.specs.Step.{Started, At, wish, flat_step, IsWithin}
use Rattle.flat_machine.specs.Phases.{Flat}
use Rattle.flat_machine.specs.Grants.{is_free, with_task}
use Rattle.flat_machine.specs.Laws.{AreCoresRising, at_memory, IsLater, HoldApart, HasTasks}
use Rattle.flat_machine.proofs.CauseLemmas.{step-within}
use Rattle.flat_machine.proofs.Rest.{wish-open}
use Rattle.flat_machine.proofs.Rights.{wish-need, step-after}
use Rattle.flat_machine.proofs.SegmentLaws.{step-later, same-later}
use Rattle.flat_machine.proofs.Separation.{keeps-out}
use Rattle.run_agreement.specs.Worlds.{IsWorld, stepped, past_acquire, world_after_grant}
use Rattle.run_agreement.proofs.Places.{by-place}
use Rattle.run_agreement.proofs.Keeping.{AreSeparate, step-size}

-- ---- two tasks of a world

decl-place : (tasks : List Started) (i : ℕ) (r : Started) → slice_get tasks i ≡ Some r → slice_get (map (λ (x : Started). x.decl) tasks) i ≡ Some r.decl
decl-place [] i r there = absurd (none-some r there)
decl-place (t ∷ ts) zero r there = ap (λ (x : Started). Some x.decl) (same_Some t r there)
decl-place (t ∷ ts) (suc i) r there = decl-place ts i r there

among-place : (ds : List TaskDecl) (i : ℕ) (d : TaskDecl) → slice_get ds i ≡ Some d → IsAmong ds d
among-place ds i d there = (i, (slice_get_within ds i d there, sym (get_or_from_slice_get ds i d d there)))

in-order : (i j : ℕ) → i ≢ j → (i < j) ⊎ (j < i)
in-order zero zero apart = absurd (apart refl)
in-order zero (suc j) apart = inl (omega arith)
in-order (suc i) zero apart = inr (omega arith)
in-order (suc i) (suc j) apart =
    ⊎_elim (λ (less : i < j). let found : (suc i < suc j) ⊎ (suc j < suc i) = inl (omega arith) in found)
    (λ (less : j < i). let found : (suc i < suc j) ⊎ (suc j < suc i) = inr (omega arith) in found) (in-order i j (λ e. apart (ap suc e)))

-- two places of a rising list have different cores
pub cores-apart : (ds : List TaskDecl) (i j : ℕ) (a b : TaskDecl) → AllPairs (λ (x y : TaskDecl). x.core.0 < y.core.0) ds → i ≢ j → slice_get ds i ≡ Some a → slice_get ds j ≡ Some b → a.core.0 ≢ b.core.0
cores-apart ds i j a b rising apart first second =
    let is_a : get_or ds i a ≡ a = get_or_from_slice_get ds i a a first in
    let is_b : get_or ds j a ≡ b = get_or_from_slice_get ds j b a second in
    let before : i < j → a.core.0 < b.core.0 =
    λ less. subst (λ (x : TaskDecl). x.core.0 < b.core.0) is_a (subst (λ (y : TaskDecl). (get_or ds i a).core.0 < y.core.0) is_b (rising i j a less (slice_get_within ds j b second))) in
    let behind : j < i → b.core.0 < a.core.0 =
    λ less. subst (λ (x : TaskDecl). x.core.0 < a.core.0) is_b (subst (λ (y : TaskDecl). (get_or ds j a).core.0 < y.core.0) is_a (rising j i a less (slice_get_within ds i a first))) in
    let apart' : (i < j) ⊎ (j < i) = in-order i j apart in
    λ same. ⊎_elim (λ (less : i < j). let l = before less in omega arith) (λ (less : j < i). let l = behind less in omega arith) apart'

-- the phase of the tasks of a world
record IsPhaseOf (P : ProgramParts) (W : Flat) : Type 0 where
  phase : Phase
  known : IsAmong P.phases phase
  decls : map (λ (r : Started). r.decl) W.tasks ≡ phase.tasks
  rising : AllPairs (λ (x y : TaskDecl). x.core.0 < y.core.0) phase.tasks

phase-of : (P : ProgramParts) (W : Flat) (i : ℕ) (r : Started) → AreCoresRising P → HasTasks P W → slice_get W.tasks i ≡ Some r → IsPhaseOf P W
phase-of P W i r is h there = by_begun W.begun refl
  where
    by_begun : (n : ℕ) → W.begun ≡ n → IsPhaseOf P W
    by_begun zero e = absurd (none-some r (ap (λ (l : List Started). slice_get l i) (sym (h.none e)) ∙ there))
    by_begun (suc k) e =
        let few = h.begun in
        let within : k < length P.phases = omega arith in
        let default : Phase = record { tasks = [] } in
        let p : Phase = get_or P.phases k default in
        let one : W.begun ≡ k + 1 = omega arith in
        let at' : slice_get P.phases k ≡ Some p = slice_get-get_or P.phases k default within in
        record {
          phase = p;
          known = (k, (within, sym (get_or_from_slice_get P.phases k p p at')));
          decls = h.last k p one at';
          rising = is k default within;
        }

-- tasks that are some phase's, and hold no lock in common
pub world-separate : (P : ProgramParts) (fuel : ℕ) (W : Flat) → AreCoresRising P → IsChecked P → IsWorld P fuel W → AreSeparate W.tasks
world-separate P fuel W is checked h i j a b apart first second =
    let p = phase-of P W i a is h.tasks first in
    let at_a : slice_get p.phase.tasks i ≡ Some a.decl = ap (λ (l : List TaskDecl). slice_get l i) (sym p.decls) ∙ decl-place W.tasks i a first in
    let at_b : slice_get p.phase.tasks j ≡ Some b.decl = ap (λ (l : List TaskDecl). slice_get l j) (sym p.decls) ∙ decl-place W.tasks j b second in
    keeps-out P p.phase a b (record {
      checked = checked;
      phase = p.known;
      first = among-place p.phase.tasks i a.decl at_a;
      second = among-place p.phase.tasks j b.decl at_b;
      cores = cores-apart p.phase.tasks i j a.decl b.decl p.rising apart at_a at_b;
      held = h.held i j a b apart first second;
    })

-- ---- a task takes the place of an earlier one of its kind

map-same : (ts : List Started) (i : ℕ) (r s : Started) → slice_get ts i ≡ Some r → s.decl ≡ r.decl → map (λ (x : Started). x.decl) (slice_set ts i s) ≡ map (λ (x : Started). x.decl) ts
map-same [] i r s there e = refl
map-same (t ∷ ts) zero r s there e =
    let same : t ≡ r = same_Some t r there in
    ap (λ (d : TaskDecl). d ∷ map (λ (x : Started). x.decl) ts) (e ∙ ap (λ (x : Started). x.decl) (sym same))
map-same (t ∷ ts) (suc i) r s there e = ap (λ (ds : List TaskDecl). t.decl ∷ ds) (map-same ts i r s there e)

here-after : (begun : ℕ) (r s : Started) → IsLater r s → r.phase.0 + 1 ≡ begun → s.phase.0 + 1 ≡ begun
here-after begun r s h e = ap (λ (x : PhaseId). x.0 + 1) h.phase ∙ e

later-tasks : (P : ProgramParts) (W : Flat) (i : ℕ) (r : Started) (s : At) → slice_get W.tasks i ≡ Some r → IsLater r s.task → HasTasks P W → HasTasks P (with_task W i s)
later-tasks P W i r s there later h =
    let decl : Started → TaskDecl = λ r. r.decl in
    let decls : map decl (slice_set W.tasks i s.task) ≡ map decl W.tasks = map-same W.tasks i r s.task there later.decl in
    let is : get_or W.tasks i r ≡ r = get_or_from_slice_get W.tasks i r r there in
    let at' : r.phase.0 + 1 ≡ W.begun = ap (λ (x : Started). x.phase.0 + 1) (sym is) ∙ h.here i r (slice_get_within W.tasks i r there) in
    record {
      begun = h.begun;
      all = map-append decl W.past (slice_set W.tasks i s.task) ∙ ap (λ (l : List TaskDecl). map decl W.past ++ l) decls ∙ sym (map-append decl W.past W.tasks) ∙ h.all;
      none = λ e. absurd (omega arith);
      last = λ k p e at'. decls ∙ h.last k p e at';
      here = All-set (λ (x : Started). x.phase.0 + 1 ≡ W.begun) W.tasks i s.task (here-after W.begun r s.task later at') h.here;
      before = h.before;
    }

-- a task is replaced by one that holds no lock that another one holds
record Fits (P : ProgramParts) (fuel : ℕ) (W : Flat) (i : ℕ) (r : Started) (s : At) : Type 0 where
  there : slice_get W.tasks i ≡ Some r
  later : IsLater r s.task
  words : length s.memory ≡ length P.memory
  within : IsWithin fuel s.task
  held : (j : ℕ) (q : Started) → j ≢ i → slice_get W.tasks j ≡ Some q → HoldApart s.task.state.held q.state.held

fits-world : (P : ProgramParts) (fuel : ℕ) (W : Flat) (i : ℕ) (r : Started) (s : At) → Fits P fuel W i r s → IsWorld P fuel W → IsWorld P fuel (with_task W i s)
fits-world P fuel W i r s f h =
    record {
      tasks = later-tasks P W i r s f.there f.later h.tasks;
      words = f.words;
      within = by-place (λ (j : ℕ) (q : Started). IsWithin fuel q) W.tasks i s.task (λ q at'. f.within) (λ j q away at'. h.within j q at');
      held =
          λ j k a b apart at_a at_b.
          by-place (λ (j : ℕ) (a : Started). (k : ℕ) (b : Started) → j ≢ k → slice_get (slice_set W.tasks i s.task) k ≡ Some b → HoldApart a.state.held b.state.held) W.tasks i s.task
          (λ x at' k b apart at_b. by-place (λ (k : ℕ) (b : Started). i ≢ k → HoldApart s.task.state.held b.state.held) W.tasks i s.task
          (λ y at' differ. absurd (differ refl))
          (λ k b away at' differ. f.held k b away at') k b at_b apart)
          (λ j a away at_a k b apart at_b. by-place (λ (k : ℕ) (b : Started). j ≢ k → HoldApart a.state.held b.state.held) W.tasks i s.task
          (λ z at' differ lock x y. f.held j a away at_a lock y x)
          (λ k b away at' differ. h.held j k a b differ at_a at') k b at_b apart)
          j a at_a k b apart at_b;
    }

-- ---- a step

pub world-step : (P : ProgramParts) (fuel : ℕ) (W : Flat) (i : ℕ) (r : Started) → slice_get W.tasks i ≡ Some r → IsWorld P fuel W → IsWorld P fuel (stepped P fuel W i r)
world-step P fuel W i r there h =
    let start : At = at_memory r W.memory in
    fits-world P fuel W i r (flat_step P fuel start) (record {
      there = there;
      later = step-later P fuel start;
      words = step-size P fuel start ∙ h.words;
      within = step-within P fuel start (h.within i r there);
      held = λ j q away at' lock x y. h.held i j r q (λ e. away (sym e)) there at' lock ((step-after P fuel start).less.among lock x) y;
    }) h

-- ---- a grant

-- a lock that is free is held by no task
pub free-lacks : (tasks : List Started) (lock j : ℕ) (q : Started) → is_free tasks lock ≡ true → slice_get tasks j ≡ Some q → is_held q.state.held lock ≡ true → ⊥
free-lacks tasks lock j q free at' has =
    let test : Started → Bool = λ r. is_held r.state.held lock in
    let is : get_or tasks j q ≡ q = get_or_from_slice_get tasks j q q at' in
    let some : list_any test tasks ≡ true = list_any_at test tasks j q (slice_get_within tasks j q at') (ap test is ∙ has) in
    false≢true (sym (ap not some) ∙ free)

same-number : (a b : ℕ) → (a == b) ≡ true → a ≡ b
same-number a b e = grind (arith, nat_tests)

-- the task holds the lock that it acquires, beside those that it held
pub acquired-holds : (P : ProgramParts) (fuel : ℕ) (r : Started) (lock : LockId) (k : ℕ) → wish P fuel r ≡ Some (Acquire lock) → is_held (past_acquire P r).state.held k ≡ ((k == lock.0) || is_held r.state.held k)
acquired-holds P fuel r lock k wants =
    let held : (past_acquire P r).state.held ≡ bit_or r.state.held (2 ^ lock.0) = advanced-held P r.decl fuel r.state (Acquire lock) (wish-need P fuel r (Acquire lock) wants) tt in
    ap (λ (x : ℕ). is_held x k) held ∙ holds-acquired r.state.held lock.0 k

acquired-within : (P : ProgramParts) (fuel : ℕ) (r : Started) (lock : LockId) → wish P fuel r ≡ Some (Acquire lock) → IsWithin fuel r → IsWithin fuel (past_acquire P r)
acquired-within P fuel r lock wants within on =
    let needs = wish-need P fuel r (Acquire lock) wants in
    let opened = wish-open P fuel r (Acquire lock) wants in
    let more = advanced-retired P r.decl fuel r.state (subst IsAdvance (sym needs) tt) in
    let left = fuel-left P r.decl fuel r.state (Acquire lock) needs (λ x. x) (within opened) in
    omega arith

pub world-grant : (P : ProgramParts) (fuel : ℕ) (W : Flat) (i : ℕ) (r : Started) (lock : LockId) → slice_get W.tasks i ≡ Some r → wish P fuel r ≡ Some (Acquire lock) → is_free W.tasks lock.0 ≡ true
    → IsWorld P fuel W → IsWorld P fuel (world_after_grant P W i r)
world-grant P fuel W i r lock there wants free h =
    fits-world P fuel W i r (at_memory (past_acquire P r) W.memory) (record {
      there = there;
      later = same-later r (past_acquire P r) refl refl refl;
      words = h.words;
      within = acquired-within P fuel r lock wants (h.within i r there);
      held =
          λ j q away at' k x y.
          ⊎_elim
          (λ (own : (k == lock.0) ≡ true). free-lacks W.tasks lock.0 j q free at' (subst (λ (l : ℕ). is_held q.state.held l ≡ true) (same-number k lock.0 own) y))
          (λ (had : is_held r.state.held k ≡ true). h.held i j r q (λ e. away (sym e)) there at' k had y)
          (or_cases (k == lock.0) (is_held r.state.held k) (sym (acquired-holds P fuel r lock k wants) ∙ x));
    }) h
