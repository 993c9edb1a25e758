-- Where all tasks of a phase have ended, they are as their summaries say.
use Rattle.std.proofs.Common.{◌≡◌, ℕ, zero, suc, ◌+◌, ◌-◌, ◌<◌, ◌≤◌, Bool, ◌&&◌, List, [], ◌∷◌, length, map, slice_index_or, slice_get, Option, Some, refl, sym, ap, ◌∙◌, arith, ⊎_elim}
use Rattle.std.specs.List.{list_all}
use Rattle.std.proofs.lemmas.Bool.{cases_lt}
use Rattle.region_table.specs.Program.{ProgramParts}
use Rattle.region_table.specs.declared.declared.TaskDecl.{TaskDecl}
use Rattle.region_table.specs.declared.declared.Phase.{Phase}
use Rattle.rv_core.specs.declared.task.End.{End}
use Rattle.rv_core.specs.declared.ending.TaskEnd.{TaskEnd}
use Rattle.flat_machine.specs.Phases.{finished_by, has_finished}
use Rattle.flat_machine.specs.Ending.{shown_of, task_end}
use Rattle.common_outcomes.specs.declared.value.Value.{Value}
use Rattle.common_outcomes.specs.Values.{known, applied, joined_effect}
use Rattle.common_outcomes.specs.Alone.{Setup, Alone, cell_at, alone_steps, start_alone, alone}
use Rattle.common_outcomes.specs.Phases.{Summary, setup, summaries, effects_at, after_from}
use Rattle.common_outcomes.specs.Answer.{shown_or, end_alone, has_ended_well}
use Rattle.common_outcomes.specs.Agreeing.{Side, side_effects, AreSides}
use Rattle.common_outcomes.proofs.Opening.{map-over}
use Rattle.common_outcomes.proofs.Phase.{still, ended-still, more-steps}

-- ---- a task that has ended is as it is alone

pub alone-ended : (S : Setup) (k : ℕ) (one two : End) → (alone S).state.end ≡ Some two → (alone_steps S k (start_alone S)).state.end ≡ Some one → alone_steps S k (start_alone S) ≡ alone S
unfolding alone
alone-ended S k one two e over = ⊎_elim (λ (l : k < whole). before (whole - k) (omega arith)) (λ (l : whole ≤ k). after (k - whole) (omega arith)) (cases_lt k whole)
  where
    whole : ℕ
    whole = suc S.fuel

    before : (n : ℕ) → k + n ≡ whole → alone_steps S k (start_alone S) ≡ alone_steps S whole (start_alone S)
    before n split =
        let stays = still S n (alone_steps S k (start_alone S)) (ended-still S (alone_steps S k (start_alone S)) one over) in
        sym stays ∙ sym (more-steps S k n (start_alone S)) ∙ ap (λ (j : ℕ). alone_steps S j (start_alone S)) split

    after : (n : ℕ) → whole + n ≡ k → alone_steps S k (start_alone S) ≡ alone_steps S whole (start_alone S)
    after n split =
        let stays = still S n (alone_steps S whole (start_alone S)) (ended-still S (alone_steps S whole (start_alone S)) two e) in
        ap (λ (j : ℕ). alone_steps S j (start_alone S)) (sym split) ∙ more-steps S whole n (start_alone S) ∙ stays

-- ---- the summaries of the sides

abbrev pub summary_of : Setup → Summary
summary_of S = record { decl = S.decl; alone = alone S }

abbrev pub sums : List Side → List Summary
sums sides = map (λ (s : Side). summary_of s.setup) sides

pub are-sums : (P : ProgramParts) (fuel : ℕ) (p : Phase) (first : List Value) (sides : List Side) → AreSides P fuel p first sides → summaries P fuel p first ≡ sums sides
are-sums P fuel p first sides are =
    sym (map-over summary_of (setup P fuel p first) p.tasks) ∙ ap (map summary_of) (sym are) ∙ map-over summary_of (λ (s : Side). s.setup) sides

-- each side has ended, as the task alone
pub record HasEnded (s : Side) : Type 0 where
  pub by : End
  pub ends : s.alone.state.end ≡ Some by
  pub run : s.run.state.end ≡ Some by
  pub is : s.alone ≡ alone s.setup
  pub decl : s.run.decl ≡ s.setup.decl
  pub retired : s.run.state.retired ≡ s.alone.state.retired

abbrev pub AllEnded : List Side → Type 0
AllEnded sides = (i : ℕ) (s : Side) → slice_get sides i ≡ Some s → HasEnded s

pub sums-effects : (sides : List Side) (w : ℕ) → AllEnded sides → effects_at (sums sides) w ≡ side_effects sides w
sums-effects [] w h = refl
sums-effects (s ∷ sides) w h =
    let rest = sums-effects sides w (λ i q at'. h (suc i) q at') in
    ap (λ (a : Alone). joined_effect (cell_at a.cells w).effect (effects_at (sums sides) w)) (sym (h zero s refl).is) ∙ ap (joined_effect (cell_at s.alone.cells w).effect) rest

pub sums-finished : (sides : List Side) → AllEnded sides → list_all has_ended_well (sums sides) ≡ list_all has_finished (map (λ (s : Side). s.run) sides)
sums-finished [] h = refl
sums-finished (s ∷ sides) h =
    let here = h zero s refl in
    let rest = sums-finished sides (λ i q at'. h (suc i) q at') in
    let same : (alone s.setup).state.end ≡ s.run.state.end = ap (λ (a : Alone). a.state.end) (sym here.is) ∙ here.ends ∙ sym here.run in
    ap (λ (o : Option End). finished_by o && list_all has_ended_well (sums sides)) same ∙ ap (λ (b : Bool). finished_by s.run.state.end && b) rest

pub sums-ends : (P : ProgramParts) (fuel place : ℕ) (sides : List Side) → AllEnded sides → ((i : ℕ) (s : Side) → slice_get sides i ≡ Some s → s.run.phase ≡ record { 0 = place })
    → map (end_alone place) (sums sides) ≡ map (task_end P fuel) (map (λ (s : Side). s.run) sides)
sums-ends P fuel place [] h numbers = refl
sums-ends P fuel place (s ∷ sides) h numbers =
    let here = h zero s refl in
    let rest = sums-ends P fuel place sides (λ i q at'. h (suc i) q at') (λ i q at'. numbers (suc i) q at') in
    let one : end_alone place (summary_of s.setup) ≡ task_end P fuel s.run = same s here (numbers zero s refl) in
    ap (λ (e : TaskEnd). e ∷ map (end_alone place) (sums sides)) one ∙ ap (λ (l : List TaskEnd). task_end P fuel s.run ∷ l) rest
  where
    same : (s : Side) → HasEnded s → s.run.phase ≡ record { 0 = place } → end_alone place (summary_of s.setup) ≡ task_end P fuel s.run
    same s k number =
        let form : _ → _ → _ → _ → TaskEnd = λ a b c d. record { phase = a; core = b; end = c; retired = d } in
        let alone' : (alone s.setup).state.end ≡ Some k.by = ap (λ (a : Alone). a.state.end) (sym k.is) ∙ k.ends in
        ap (λ o. form (record { 0 = place }) s.setup.decl.core (shown_or o) (alone s.setup).state.retired) alone'
        ∙ ap (λ n. form (record { 0 = place }) s.setup.decl.core (shown_or (Some k.by)) n) (ap (λ (a : Alone). a.state.retired) (sym k.is) ∙ sym k.retired)
        ∙ ap (λ c. form (record { 0 = place }) c (shown_or (Some k.by)) s.run.state.retired) (ap (λ (d : TaskDecl). d.core) (sym k.decl))
        ∙ ap (λ n. form n s.run.decl.core (shown_or (Some k.by)) s.run.state.retired) (sym number)
        ∙ ap (λ o. record { phase = s.run.phase; core = s.run.decl.core; end = shown_of P fuel s.run o; retired = s.run.state.retired }) (sym k.run)

-- ---- memory after the phase

pub after-at : (rs : List Summary) (vs : List Value) (k w : ℕ) → w < length vs → slice_index_or (after_from k rs vs) w (known 0) ≡ applied (effects_at rs (k + w)) (slice_index_or vs w (known 0))
after-at rs [] k w low = absurd (omega arith)
after-at rs (v ∷ vs) k zero low = let e : k + 0 ≡ k = omega arith in ap (λ (n : ℕ). applied (effects_at rs n) v) (sym e)
after-at rs (v ∷ vs) k (suc w) low =
    let e : k + 1 + w ≡ k + suc w = omega arith in
    after-at rs vs (k + 1) w (omega arith) ∙ ap (λ (n : ℕ). applied (effects_at rs n) (slice_index_or vs w (known 0))) e

pub after-here : (rs : List Summary) (vs : List Value) (w : ℕ) → w < length vs → slice_index_or (after_from 0 rs vs) w (known 0) ≡ applied (effects_at rs w) (slice_index_or vs w (known 0))
after-here rs vs w low = let e : 0 + w ≡ w = omega arith in after-at rs vs 0 w low ∙ ap (λ (n : ℕ). applied (effects_at rs n) (slice_index_or vs w (known 0))) e

pub after-past : (rs : List Summary) (vs : List Value) (k w : ℕ) → length vs ≤ w → slice_index_or (after_from k rs vs) w (known 0) ≡ known 0
after-past rs [] k w high = refl
after-past rs (v ∷ vs) k zero high = absurd (omega arith)
after-past rs (v ∷ vs) k (suc w) high = after-past rs vs (k + 1) w (omega arith)

pub after-length : (rs : List Summary) (vs : List Value) (k : ℕ) → length (after_from k rs vs) ≡ length vs
after-length rs [] k = refl
after-length rs (v ∷ vs) k = ap suc (after-length rs vs (k + 1))
