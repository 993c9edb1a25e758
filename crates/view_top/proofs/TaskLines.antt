-- The tasks that have started are those of the phases that have begun, each with the number of its phase.
use Rattle.std.proofs.Common.{◌≡◌, ◌⊎◌, inl, inr, ℕ, zero, suc, ◌+◌, ◌<◌, ◌≤◌, true, false, Bool, if◌then◌else◌, List, [], ◌∷◌, ◌++◌, length, map, take, flat_map, get_or, position, slice_get, slice_set, Option, Some, None, refl, sym, ap, ◌∙◌, subst, arith}
use Rattle.std.specs.List.{list_all, list_any}
use Rattle.std.proofs.lemmas.List.{append-nil, append_assoc, map-append, take_more, length-take-le}
use Rattle.std.proofs.lemmas.Bool.{and_from, and_parts, or_parts}
use Rattle.std.proofs.lemmas.List.Folds.{list_all-append}
use Rattle.std.proofs.lemmas.Option.{none-some, same_Some, slice_get_within, get_or_from_slice_get, slice_get_cases}
use Rattle.std.proofs.lemmas.Simd.{map-map}
use Rattle.dn_base.specs.declared.ids.Grant.{Grant}
use Rattle.dn_base.specs.declared.ids.PhaseId.{PhaseId}
use Rattle.dn_base.specs.declared.status.Outcome.TheVariants as outcome
use Rattle.region_table.specs.Program.{ProgramParts}
use Rattle.region_table.specs.declared.declared.TaskDecl.{TaskDecl}
use Rattle.region_table.specs.declared.declared.Phase.{Phase}
use Rattle.rv_core.specs.declared.ending.Ending.{Ending}
use Rattle.rv_core.specs.declared.ending.TaskEnd.{TaskEnd}
use Rattle.rv_core.specs.declared.need.Need.{Need}
use Rattle.rv_core.specs.declared.need.Need as need
use Rattle.rv_core.specs.declared.task.End.{End}
use Rattle.rv_core.specs.declared.task.End.TheVariants.{Finished, Fuel, Trap}
use Rattle.rv_core.specs.Need.{need_of}
use Rattle.rv_core.specs.Ending.{outcome_of, is_waiting, is_trapped, is_spent}
use Rattle.flat_machine.specs.Step.{Started, At, fresh, segment}
use Rattle.flat_machine.specs.Phases.{Flat, all_tasks, run_all, begin, finished_by, has_finished, initial, initial_flat, next_phase, settled}
use Rattle.flat_machine.specs.Grants.{can_take, go_on, with_task, resumed, granted_at, granted, granted_if, grants_from, so_far}
use Rattle.flat_machine.specs.declared.ending.FlatEnd.{FlatEnd}
use Rattle.flat_machine.specs.Ending.{flat_end, shown_of, task_end, wait_shown}
use Rattle.flat_machine.specs.Laws.{IsLater}
use Rattle.flat_machine.proofs.CauseLemmas.{run-ended}
use Rattle.flat_machine.proofs.KeptLaws.{so_far-kept}
use Rattle.flat_machine.proofs.ReachedLaws.{go_on-later, reached-tasks}
use Rattle.flat_machine.proofs.SegmentLaws.{segment-later}
use Rattle.flat_machine.proofs.SettleLaws.{settled-last}
use Rattle.dn_machine.specs.declared.record.RunRecord.{RunRecord}
use Rattle.run_report.specs.Answer.{outcome_line}
use Rattle.run_replay.specs.declared.trace.Trace.{Trace}
use Rattle.checked_runs.specs.Documents.{IsRunTold}
use Rattle.state_text.specs.declared.base.Base.{Base}
use Rattle.state_text.specs.ForReaders.{answer_for_readers, named_grant_line, region_lines, task_end_line}
use Rattle.view_top.specs.Answers.{located}
use Rattle.view_top.specs.Tasks.{cores_by_phase, phase_and_core, HasLineOfEachTask}

-- the phase and the core of a task
abbrev place_of : Started → ℕ × ℕ
place_of r = (r.phase.0, r.decl.core.0)

-- the tasks that have started are those of the phases that have begun
abbrev AreNumbered : ProgramParts → Flat → Type 0
AreNumbered P F = map place_of (all_tasks F) ≡ cores_by_phase 0 (take F.begun P.phases)

-- ---- a phase begins

same-place : (r s : Started) → IsLater r s → place_of s ≡ place_of r
same-place r s h = ap (λ (p : PhaseId). (p.0, s.decl.core.0)) h.phase ∙ ap (λ (d : TaskDecl). (r.phase.0, d.core.0)) h.decl

run-places : (P : ProgramParts) (fuel phase : ℕ) (ds : List TaskDecl) (m : List ℕ) → map place_of (run_all P fuel phase ds m).tasks ≡ map (λ (d : TaskDecl). (phase, d.core.0)) ds
run-places P fuel phase [] m = refl
run-places P fuel phase (d ∷ ds) m =
    let first : At = record { task = fresh phase d; memory = m } in
    let s : At = segment P fuel first in
    let rest : List (ℕ × ℕ) = map place_of (run_all P fuel phase ds s.memory).tasks in
    ap (λ (x : ℕ × ℕ). x ∷ rest) (same-place (fresh phase d) s.task (segment-later P fuel first)) ∙ ap (λ (xs : List (ℕ × ℕ)). (phase, d.core.0) ∷ xs) (run-places P fuel phase ds s.memory)

-- one more phase
one-more : (from : ℕ) (ps : List Phase) (p : Phase) → cores_by_phase from (ps ++ p ∷ []) ≡ cores_by_phase from ps ++ map (λ (d : TaskDecl). (from + length ps, d.core.0)) p.tasks
one-more from [] p =
    let none : from ≡ from + 0 = omega arith in
    append-nil (map (λ (d : TaskDecl). (from, d.core.0)) p.tasks) ∙ ap (λ (n : ℕ). map (λ (d : TaskDecl). (n, d.core.0)) p.tasks) none
one-more from (q ∷ ps) p =
    let number : from + 1 + length ps ≡ from + suc (length ps) = omega arith in
    let these : List (ℕ × ℕ) = map (λ (d : TaskDecl). (from, d.core.0)) q.tasks in
    let those : ℕ → List (ℕ × ℕ) = λ (n : ℕ). map (λ (d : TaskDecl). (n, d.core.0)) p.tasks in
    ap (λ (xs : List (ℕ × ℕ)). these ++ xs) (one-more (from + 1) ps p ∙ ap (λ (n : ℕ). cores_by_phase (from + 1) ps ++ those n) number)
    ∙ sym (append_assoc these (cores_by_phase (from + 1) ps) (those (from + suc (length ps))))

places-more : (phases : List Phase) (k : ℕ) (p : Phase) → slice_get phases k ≡ Some p
    → cores_by_phase 0 (take (k + 1) phases) ≡ cores_by_phase 0 (take k phases) ++ map (λ (d : TaskDecl). (k, d.core.0)) p.tasks
places-more phases k p there =
    let within : k < length phases = slice_get_within phases k p there in
    let is : get_or phases k p ≡ p = get_or_from_slice_get phases k p p there in
    let long : 0 + length (take k phases) ≡ k = omega (arith, length-take-le k phases (omega (arith, within))) in
    ap (cores_by_phase 0) (take_more phases k p within ∙ ap (λ (q : Phase). take k phases ++ q ∷ []) is)
    ∙ one-more 0 (take k phases) p
    ∙ ap (λ (n : ℕ). cores_by_phase 0 (take k phases) ++ map (λ (d : TaskDecl). (n, d.core.0)) p.tasks) long

begin-numbered : (P : ProgramParts) (fuel : ℕ) (p : Phase) (F : Flat) → slice_get P.phases F.begun ≡ Some p → AreNumbered P F → AreNumbered P (begin P fuel p F)
unfolding begin
begin-numbered P fuel p F there h =
    let ran = (run_all P fuel F.begun p.tasks F.memory).tasks in
    map-append place_of (all_tasks F) ran
    ∙ ap (λ (xs : List (ℕ × ℕ)). xs ++ map place_of ran) h
    ∙ ap (λ (xs : List (ℕ × ℕ)). cores_by_phase 0 (take F.begun P.phases) ++ xs) (run-places P fuel F.begun p.tasks F.memory)
    ∙ sym (places-more P.phases F.begun p there)

-- ---- a task takes a grant

set-place : (ts : List Started) (i : ℕ) (r s : Started) → slice_get ts i ≡ Some r → place_of s ≡ place_of r → map place_of (slice_set ts i s) ≡ map place_of ts
set-place [] i r s there e = refl
set-place (t ∷ ts) zero r s there e =
    let same : t ≡ r = same_Some t r there in
    ap (λ (x : ℕ × ℕ). x ∷ map place_of ts) (e ∙ ap place_of (sym same))
set-place (t ∷ ts) (suc i) r s there e = ap (λ (xs : List (ℕ × ℕ)). place_of t ∷ xs) (set-place ts i r s there e)

resumed-numbered : (P : ProgramParts) (fuel : ℕ) (F : Flat) (i : ℕ) (r : Started) → slice_get F.tasks i ≡ Some r → AreNumbered P F → AreNumbered P (with_task F i (go_on P fuel r F.memory))
resumed-numbered P fuel F i r there h =
    let s : Started = (go_on P fuel r F.memory).task in
    let same = same-place r s (go_on-later P fuel r F.memory) in
    map-append place_of F.past (slice_set F.tasks i s)
    ∙ ap (λ (xs : List (ℕ × ℕ)). map place_of F.past ++ xs) (set-place F.tasks i r s there same)
    ∙ sym (map-append place_of F.past F.tasks)
    ∙ h

reached-numbered : (P : ProgramParts) (fuel : ℕ) (gs : List Grant) (F : Flat) → so_far P fuel gs ≡ Some F → AreNumbered P F
reached-numbered P fuel gs F e =
    so_far-kept P fuel (AreNumbered P) (record {
      starts = refl;
      begins = record { keeps = λ p F there done k. begin-numbered P fuel p F there k };
      resumes = λ F g i r there takes k. resumed-numbered P fuel F i r there k;
    }) gs F e

-- ---- no further phase may begin

opened-last : (P : ProgramParts) (fuel : ℕ) → next_phase P (initial_flat P fuel) ≡ None
unfolding initial_flat
opened-last P fuel = settled-last P fuel (initial P)

granted-last : (P : ProgramParts) (fuel : ℕ) (g : Grant) (F G : Flat) → granted P fuel g F ≡ Some G → next_phase P G ≡ None
unfolding granted
granted-last P fuel g F G e = by_place (position (can_take P fuel F.tasks g) F.tasks) e
  where
    by_place : (o : Option ℕ) → granted_at P fuel F o ≡ Some G → next_phase P G ≡ None
    by_place None e = absurd (none-some G e)
    by_place (Some i) e =
        let next : Flat = resumed P fuel F i (slice_get F.tasks i) in
        subst (λ (H : Flat). next_phase P H ≡ None) (same_Some (settled P fuel next) G e) (settled-last P fuel next)

from-last : (P : ProgramParts) (fuel : ℕ) (gs : List Grant) (o : Option Flat) → ((F : Flat) → o ≡ Some F → next_phase P F ≡ None) → (G : Flat) → grants_from P fuel o gs ≡ Some G → next_phase P G ≡ None
from-last P fuel [] o last G e = last G e
from-last P fuel (g ∷ gs) o last G e = from-last P fuel gs (granted_if P fuel o g) (one o) G e
  where
    one : (p : Option Flat) (F : Flat) → granted_if P fuel p g ≡ Some F → next_phase P F ≡ None
    one None F e = absurd (none-some F e)
    one (Some H) F e = granted-last P fuel g H F e

reached-last : (P : ProgramParts) (fuel : ℕ) (gs : List Grant) (F : Flat) → so_far P fuel gs ≡ Some F → next_phase P F ≡ None
reached-last P fuel gs F e =
    from-last P fuel gs (Some (initial_flat P fuel))
    (λ G is. subst (λ (H : Flat). next_phase P H ≡ None) (same_Some (initial_flat P fuel) G is) (opened-last P fuel)) F e

-- ---- in a run that is done all tasks have finished, so that all phases have begun

true-false : {X : Type 0} → true ≡ false → X
true-false e = absurd cc

-- none of these tests is true of the tasks of a run that is done
record NoneLeft (w t s : Bool) : Type 0 where
  waits : w ≡ false
  traps : t ≡ false
  spent : s ≡ false

none-left : (w t s : Bool) → (if w then outcome.Stuck else if t then outcome.Trapped else if s then outcome.Fuel else outcome.Done) ≡ outcome.Done → NoneLeft w t s
none-left true t s e = absurd cc
none-left false true s e = absurd cc
none-left false false true e = absurd cc
none-left false false false e = record { waits = refl; traps = refl; spent = refl }

done-left : (ends : List TaskEnd) → outcome_of ends ≡ outcome.Done
    → NoneLeft (list_any (λ (e : TaskEnd). is_waiting e.end) ends) (list_any (λ (e : TaskEnd). is_trapped e.end) ends) (list_any (λ (e : TaskEnd). is_spent e.end) ends)
unfolding outcome_of
done-left ends e = none-left _ _ _ e

waits-or-spent : (n : Need) → is_waiting (wait_shown n) ≡ false → is_spent (wait_shown n) ≡ false → finished_by None ≡ true
waits-or-spent (need.TheVariants.Acquire lock) w s = true-false w
waits-or-spent need.TheVariants.Local w s = true-false s
waits-or-spent (need.TheVariants.Load word) w s = true-false s
waits-or-spent (need.TheVariants.Store word whole) w s = true-false s
waits-or-spent (need.TheVariants.Release lock) w s = true-false s
waits-or-spent (need.TheVariants.End cause) w s = true-false s

has-ended : (P : ProgramParts) (fuel : ℕ) (r : Started) (end : Option End) → is_waiting (shown_of P fuel r end) ≡ false → is_trapped (shown_of P fuel r end) ≡ false → is_spent (shown_of P fuel r end) ≡ false
    → finished_by end ≡ true
has-ended P fuel r None w t s = waits-or-spent (need_of P r.decl fuel r.state) w s
has-ended P fuel r (Some Finished) w t s = refl
has-ended P fuel r (Some Fuel) w t s = true-false s
has-ended P fuel r (Some (Trap kind pc value)) w t s = true-false t

all-ended : (P : ProgramParts) (fuel : ℕ) (rs : List Started)
    → NoneLeft (list_any (λ (e : TaskEnd). is_waiting e.end) (map (task_end P fuel) rs)) (list_any (λ (e : TaskEnd). is_trapped e.end) (map (task_end P fuel) rs)) (list_any (λ (e : TaskEnd). is_spent e.end) (map (task_end P fuel) rs))
    → list_all has_finished rs ≡ true
all-ended P fuel [] h = refl
all-ended P fuel (r ∷ rs) h =
    let w = or_parts (is_waiting (task_end P fuel r).end) (list_any (λ (e : TaskEnd). is_waiting e.end) (map (task_end P fuel) rs)) h.waits in
    let t = or_parts (is_trapped (task_end P fuel r).end) (list_any (λ (e : TaskEnd). is_trapped e.end) (map (task_end P fuel) rs)) h.traps in
    let s = or_parts (is_spent (task_end P fuel r).end) (list_any (λ (e : TaskEnd). is_spent e.end) (map (task_end P fuel) rs)) h.spent in
    let one = has-ended P fuel r r.state.end w.0 t.0 s.0 in
    let rest = all-ended P fuel rs (record { waits = w.1; traps = t.1; spent = s.1 }) in
    and_from (has_finished r) (list_all has_finished rs) one rest

all-begun : (P : ProgramParts) (F : Flat) → list_all has_finished F.tasks ≡ true → next_phase P F ≡ None → length P.phases ≤ F.begun
all-begun P F finished last = by_place (slice_get_cases P.phases F.begun).1
  where
    none : slice_get P.phases F.begun ≡ None
    none = sym (ap (λ (b : Bool). if b then slice_get P.phases F.begun else None) finished) ∙ last

    by_place : ((p : Phase) × (F.begun < length P.phases) × (slice_get P.phases F.begun ≡ Some p) × (get_or P.phases F.begun p ≡ p)) ⊎ ((length P.phases ≤ F.begun) × (slice_get P.phases F.begun ≡ None)) → length P.phases ≤ F.begun
    by_place (inl here) = absurd (none-some here.0 (sym none ∙ here.2))
    by_place (inr past) = past.0

-- ---- the lines of a run

-- the phases that have begun, of which these are the tasks
record HasEndOfEachTask (P : ProgramParts) (e : Ending) : Type 0 where
  begun : ℕ
  within : begun ≤ length P.phases
  done : e.outcome ≡ outcome.Done → begun ≡ length P.phases
  each : map phase_and_core e.tasks ≡ cores_by_phase 0 (take begun P.phases)

each-end : (P : ProgramParts) (fuel : ℕ) (gs : List Grant) (e : FlatEnd) → flat_end P fuel gs ≡ Some e → HasEndOfEachTask P e.ending
each-end P fuel gs e is =
    let ended = run-ended P fuel gs e is in
    let F = ended.last in
    let has = reached-tasks P fuel gs F ended.leads in
    record {
      begun = F.begun;
      within = has.begun;
      done = λ done.
          (let left = done-left (map (task_end P fuel) (all_tasks F)) (ap outcome_of (sym ended.tasks) ∙ sym ended.outcome ∙ done) in
          let finished = all-ended P fuel (all_tasks F) left in
          let here = and_parts (list_all has_finished F.past) (list_all has_finished F.tasks) (sym (list_all-append has_finished F.past F.tasks) ∙ finished) in
          let past = all-begun P F here.1 (reached-last P fuel gs F ended.leads) in
          let within = has.begun in
          omega (arith, past, within));
      each = ap (map phase_and_core) ended.tasks ∙ map-map phase_and_core (task_end P fuel) (all_tasks F) ∙ reached-numbered P fuel gs F ended.leads;
    }

-- what stands behind the lines of tasks
behind-tasks : Base → List ℕ → ProgramParts → RunRecord → List ℕ
behind-tasks b text P r = flat_map (region_lines b r.ending.memory) P.regions ++ flat_map (named_grant_line P.locks) r.grants

lines-first : (P : ProgramParts) (text : List ℕ) (b : Base) (r : RunRecord)
    → answer_for_readers b text (located P text) r.ending r.grants ≡ outcome_line r.ending.outcome ++ flat_map (task_end_line text (located P text)) r.ending.tasks ++ behind-tasks b text P r
unfolding answer_for_readers behind-tasks
lines-first P text b r =
    append_assoc (outcome_line r.ending.outcome ++ flat_map (task_end_line text (located P text)) r.ending.tasks) (flat_map (region_lines b r.ending.memory) P.regions) (flat_map (named_grant_line P.locks) r.grants)

pub each-line : (t : Trace) (r : RunRecord) (P : ProgramParts) (b : Base) → IsRunTold P t r → HasLineOfEachTask P t.text b r
each-line t r P b told =
    let flat = told.is.flat in
    let ends : HasEndOfEachTask P r.ending =
    subst (λ (e : Ending). HasEndOfEachTask P e) flat.ending
    (subst (λ (Q : ProgramParts). HasEndOfEachTask Q flat.end'.ending) told.is.setting_is.program (each-end told.is.setting.program told.is.setting.fuel r.grants flat.end' flat.value)) in
    record {
      begun = ends.begun;
      within = ends.within;
      done = ends.done;
      each = ends.each;
      behind = behind-tasks b t.text P r;
      lines = lines-first P t.text b r;
    }
