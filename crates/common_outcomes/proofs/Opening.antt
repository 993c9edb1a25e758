-- A phase begins: its tasks stand at their starts, and then run their first segments, one after the other.
use Rattle.std.proofs.Common.{◌≡◌, ℕ, ◌^◌, true, List, [], ◌∷◌, ◌++◌, length, map, slice_index, slice_index_or, slice_get, slice_set, Some, None, refl, sym, ap, ◌∙◌, subst}
use Rattle.region_table.specs.Program.{ProgramParts}
use Rattle.region_table.specs.Numbers.{HasWords}
use Rattle.region_table.specs.declared.declared.TaskDecl.{TaskDecl}
use Rattle.region_table.specs.declared.declared.Phase.{Phase}
use Rattle.rv_core.specs.Access.{is_held, may_store}
use Rattle.rv_core.proofs.HeldLemmas.{holds-none}
use Rattle.flat_machine.specs.Step.{Started, At, fresh, segment}
use Rattle.flat_machine.specs.Phases.{Ran, run_all}
use Rattle.flat_machine.specs.Laws.{at_memory, HoldApart}
use Rattle.flat_machine.proofs.Rights.{both-ways}
use Rattle.run_agreement.proofs.Places.{map-place}
use Rattle.effect_prover.proofs.FollowWords.{AreBelow}
use Rattle.common_outcomes.specs.declared.value.Value.{Value}
use Rattle.common_outcomes.specs.declared.value.Cell.{Cell}
use Rattle.common_outcomes.specs.declared.value.Effect.{Effect}
use Rattle.common_outcomes.specs.declared.value.Effect.TheVariants.{Kept}
use Rattle.common_outcomes.specs.Values.{known, applied, joined_effect}
use Rattle.common_outcomes.specs.Alone.{untouched, is_shared, alone_steps, start_alone}
use Rattle.common_outcomes.specs.Phases.{setup}
use Rattle.common_outcomes.specs.Agreeing.{Denotes, Side, FitsAlone, side_effects, IsSettledPhase}
use Rattle.common_outcomes.proofs.Segments.{Stand, segment-moves}
use Rattle.common_outcomes.proofs.Sides.{map-set, among-at}
use Rattle.common_outcomes.proofs.Small.{IsSmall, arg-small}
use Rattle.common_outcomes.proofs.Starting.{all-same, start-registers, start-fits}

-- ---- at their starts

abbrev pub start_side : ProgramParts → ℕ → Phase → List Value → ℕ → List ℕ → TaskDecl → Side
start_side P fuel p first k m d =
    record { setup = setup P fuel p first d; steps = 0; alone = start_alone (setup P fuel p first d); run = fresh k d; base = slice_index m }

-- lists that are mapped twice
pub map-over : {X Y Z : Type 0} (g : Y → Z) (f : X → Y) (xs : List X) → map g (map f xs) ≡ map (λ x. g (f x)) xs
map-over g f [] = refl
map-over {X} {Y} {Z} g f (x ∷ xs) = ap (λ (zs : List Z). g (f x) ∷ zs) (map-over g f xs)

no-effects : (P : ProgramParts) (fuel : ℕ) (p : Phase) (first : List Value) (k : ℕ) (m : List ℕ) (w : ℕ) (ds : List TaskDecl) → side_effects (map (start_side P fuel p first k m) ds) w ≡ Kept
no-effects P fuel p first k m w [] = refl
no-effects P fuel p first k m w (d ∷ ds) =
    ap (λ (c : Cell). joined_effect c.effect (side_effects (map (start_side P fuel p first k m) ds) w)) (all-same (length P.memory) w untouched) ∙ no-effects P fuel p first k m w ds

pub phase-starts : (P : ProgramParts) (fuel : ℕ) (p : Phase) (first : List Value) (k : ℕ) (m : List ℕ) → HasWords P → slice_get P.phases k ≡ Some p → length m ≡ length P.memory → AreBelow (2 ^ 32) m
    → ((w : ℕ) → Denotes (slice_index_or first w (known 0)) (slice_index m) (slice_index m w)) → Stand P fuel p first (map (start_side P fuel p first k m) p.tasks) m
phase-starts P fuel p first k m numbers there words below stands =
    record {
      are = map-over (λ (s : Side). s.setup) (start_side P fuel p first k m) p.tasks;
      words = words;
      below = below;
      small = λ i s at'. each i s at' (λ (q : Side). IsSmall q.run.state)
          (λ d among. record { kinds = _; registers = start-registers d (λ (w : ℕ). 0) (arg-small P k p d numbers there (among-at p.tasks i d among)) });
      agrees = record {
        ended = slice_index m;
        all = record {
          each = λ i s at'. each i s at' (λ (q : Side). FitsAlone q.setup q.base q.alone q.run m)
              (λ d among. start-fits (setup P fuel p first d) (slice_index m) k m (arg-small P k p d numbers there (among-at p.tasks i d among)) words below stands);
          reached = λ i s at'. each i s at' (λ (q : Side). q.alone ≡ alone_steps q.setup q.steps (start_alone q.setup)) (λ d among. refl);
          settled = λ w. subst (λ (e : Effect). Denotes (applied e (slice_index_or first w (known 0))) (slice_index m) (slice_index m w)) (sym (no-effects P fuel p first k m w p.tasks)) (stands w);
          resting = λ w none. refl;
          taken = λ w i s at'. each i s at' (λ (q : Side). may_store q.setup.decl q.alone.state.held w ≡ true → is_shared q.setup.phase q.setup.decl w ≡ true → q.alone.state.end ≡ None → q.base w ≡ slice_index m w) (λ d among may shared runs. refl);
          apart = λ i j a b away at' at''. each i a at' (λ (q : Side). HoldApart q.alone.state.held b.alone.state.held) (λ d among lock e g. both-ways (is_held 0 lock) (holds-none lock) e);
        };
      };
    }
  where
    each : (i : ℕ) (s : Side) → slice_get (map (start_side P fuel p first k m) p.tasks) i ≡ Some s → (Q : Side → Type 0)
        → ((d : TaskDecl) → slice_get p.tasks i ≡ Some d → Q (start_side P fuel p first k m d)) → Q s
    each i s at' Q h =
        let found = map-place (start_side P fuel p first k m) p.tasks i s at' in subst Q found.2 (h found.0 found.1)

-- ---- their first segments

at-length : {X : Type 0} (xs ys : List X) (y : X) → slice_get (xs ++ y ∷ ys) (length xs) ≡ Some y
at-length [] ys y = refl
at-length (x ∷ xs) ys y = at-length xs ys y

set-at_length : {X : Type 0} (xs ys : List X) (y z : X) → slice_set (xs ++ y ∷ ys) (length xs) z ≡ (xs ++ z ∷ []) ++ ys
set-at_length [] ys y z = refl
set-at_length {X} (x ∷ xs) ys y z = ap (λ (l : List X). x ∷ l) (set-at_length xs ys y z)

behind-one : {X : Type 0} (xs ys : List X) (z : X) → (xs ++ z ∷ []) ++ ys ≡ xs ++ z ∷ ys
behind-one [] ys z = refl
behind-one {X} (x ∷ xs) ys z = ap (λ (l : List X). x ∷ l) (behind-one xs ys z)

-- some tasks have run their first segments, behind those that had before
pub record HasRun (P : ProgramParts) (fuel : ℕ) (p : Phase) (first : List Value) (done : List Started) (ran : Ran) : Type 0 where
  pub sides : List Side
  pub stand : Stand P fuel p first sides ran.memory
  pub runs : map (λ (s : Side). s.run) sides ≡ done ++ ran.tasks

pub all-run : (P : ProgramParts) (fuel : ℕ) (p : Phase) (first : List Value) (k : ℕ) → HasWords P → IsSettledPhase P fuel p first → (ds : List TaskDecl) (done : List Started) (sides : List Side) (m : List ℕ)
    → Stand P fuel p first sides m → map (λ (s : Side). s.run) sides ≡ done ++ map (fresh k) ds → HasRun P fuel p first done (run_all P fuel k ds m)
all-run P fuel p first k numbers h [] done sides m stand runs = record { sides = sides; stand = stand; runs = runs }
all-run P fuel p first k numbers h (d ∷ ds) done sides m stand runs =
    let rest : List Started = map (fresh k) ds in
    let at' : slice_get (map (λ (s : Side). s.run) sides) (length done) ≡ Some (fresh k d) = ap (λ (l : List Started). slice_get l (length done)) runs ∙ at-length done rest (fresh k d) in
    let found = map-place (λ (s : Side). s.run) sides (length done) (fresh k d) at' in
    let moved = segment-moves P fuel p first numbers h sides m (length done) found.0 stand found.1 in
    let to : At = segment P fuel (at_memory (fresh k d) m) in
    let is : segment P fuel (at_memory found.0.run m) ≡ to = ap (λ (r : Started). segment P fuel (at_memory r m)) found.2 in
    let next : List Side = slice_set sides (length done) moved.side in
    let run : moved.side.run ≡ to.task = moved.run ∙ ap (λ (x : At). x.task) is in
    let runs' : map (λ (s : Side). s.run) next ≡ (done ++ to.task ∷ []) ++ rest =
    map-set (λ (s : Side). s.run) sides (length done) moved.side ∙ ap (λ (l : List Started). slice_set l (length done) moved.side.run) runs ∙ set-at_length done rest (fresh k d) moved.side.run
    ∙ ap (λ (r : Started). (done ++ r ∷ []) ++ rest) run in
    let last = all-run P fuel p first k numbers h ds (done ++ to.task ∷ []) next to.memory (subst (λ (x : At). Stand P fuel p first next x.memory) is moved.stand) runs' in
    record {
      sides = last.sides;
      stand = last.stand;
      runs = last.runs ∙ behind-one done (run_all P fuel k ds to.memory).tasks to.task;
    }
