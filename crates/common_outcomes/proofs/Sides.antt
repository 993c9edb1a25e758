-- The tasks of a phase, each alone and in a run, side by side.
use Rattle.std.proofs.Common.{◌≡◌, ◌≢◌, ℕ, zero, suc, ◌<◌, ◌≤◌, List, [], ◌∷◌, length, map, get_or, slice_get, slice_set, Some, refl, sym, ap, ◌∙◌, subst, arith, ⊎_elim}
use Rattle.std.specs.List.{IsAmong}
use Rattle.std.proofs.lemmas.Bool.{cases_lt}
use Rattle.std.proofs.lemmas.Option.{same_Some, slice_get_within, get_or_from_slice_get}
use Rattle.region_table.specs.Program.{ProgramParts, IsPhase}
use Rattle.region_table.specs.declared.declared.TaskDecl.{TaskDecl}
use Rattle.region_table.specs.declared.declared.Phase.{Phase}
use Rattle.effect_checker.specs.Checked.{IsCheckedPhase}
use Rattle.effect_checker.proofs.SeparationLemmas.{phase-checked}
use Rattle.flat_machine.specs.Laws.{HoldApart}
use Rattle.run_agreement.proofs.Places.{map-place, place-map}
use Rattle.common_outcomes.specs.declared.value.Value.{Value}
use Rattle.common_outcomes.specs.Alone.{Setup}
use Rattle.common_outcomes.specs.Phases.{setup}
use Rattle.common_outcomes.specs.Agreeing.{Side, PhaseAgrees, IsPhaseTask, IsSettledPhase, AreSides}
use Rattle.common_outcomes.proofs.Taking.{AreBeside}
use Rattle.common_outcomes.proofs.Moving.{IsPhaseRun}

-- ---- lists

pub set-itself : {X : Type 0} (xs : List X) (i : ℕ) (x : X) → slice_get xs i ≡ Some x → slice_set xs i x ≡ xs
set-itself [] i x there = refl
set-itself {X} (z ∷ zs) zero x there = ap (λ (y : X). y ∷ zs) (sym (same_Some z x there))
set-itself {X} (z ∷ zs) (suc i) x there = ap (λ (ys : List X). z ∷ ys) (set-itself zs i x there)

pub set-again : {X : Type 0} (xs : List X) (i : ℕ) (x y : X) → slice_set (slice_set xs i x) i y ≡ slice_set xs i y
set-again [] i x y = refl
set-again (z ∷ zs) zero x y = refl
set-again {X} (z ∷ zs) (suc i) x y = ap (λ (ys : List X). z ∷ ys) (set-again zs i x y)

pub map-set : {X Y : Type 0} (f : X → Y) (xs : List X) (i : ℕ) (x : X) → map f (slice_set xs i x) ≡ slice_set (map f xs) i (f x)
map-set f [] i x = refl
map-set f (z ∷ zs) zero x = refl
map-set {X} {Y} f (z ∷ zs) (suc i) x = ap (λ (ys : List Y). f z ∷ ys) (map-set f zs i x)

-- an element is replaced by one that f can't tell from it
pub map-kept : {X Y : Type 0} (f : X → Y) (xs : List X) (i : ℕ) (x y : X) → slice_get xs i ≡ Some x → f y ≡ f x → map f (slice_set xs i y) ≡ map f xs
map-kept {X} {Y} f xs i x y there e =
    map-set f xs i y ∙ ap (slice_set (map f xs) i) e ∙ set-itself (map f xs) i (f x) (place-map f xs i x there)

pub among-at : {X : Type 0} (xs : List X) (i : ℕ) (x : X) → slice_get xs i ≡ Some x → IsAmong xs x
among-at xs i x there = (i, (slice_get_within xs i x there, sym (get_or_from_slice_get xs i x x there)))

-- ---- a side is a task of the phase

pub record IsSideOf (P : ProgramParts) (fuel : ℕ) (p : Phase) (first : List Value) (i : ℕ) (s : Side) : Type 0 where
  pub decl : TaskDecl
  pub there : slice_get p.tasks i ≡ Some decl
  pub setup : s.setup ≡ setup P fuel p first decl

pub side-at : (P : ProgramParts) (fuel : ℕ) (p : Phase) (first : List Value) (sides : List Side) → AreSides P fuel p first sides → (i : ℕ) (s : Side) → slice_get sides i ≡ Some s → IsSideOf P fuel p first i s
side-at P fuel p first sides are i s there =
    let at' : slice_get (map (setup P fuel p first) p.tasks) i ≡ Some s.setup = ap (λ (l : List Setup). slice_get l i) (sym are) ∙ place-map (λ (x : Side). x.setup) sides i s there in
    let found = map-place (setup P fuel p first) p.tasks i s.setup at' in
    record { decl = found.0; there = found.1; setup = sym found.2 }

pub placed : (P : ProgramParts) (fuel : ℕ) (p : Phase) (first : List Value) (i : ℕ) (s : Side) (m : List ℕ) → IsSettledPhase P fuel p first → IsSideOf P fuel p first i s → length m ≡ length P.memory
    → IsPhaseTask s.setup m
placed P fuel p first i s m h k words =
    subst (λ (S : Setup). IsPhaseTask S m) (sym k.setup)
    (record {
      checked = phase-checked P p h.checked h.among;
      among = among-at p.tasks i k.decl k.there;
      first = record { small = h.small; between = h.between };
      words = words;
    })

rising : (P : ProgramParts) (fuel : ℕ) (p : Phase) (first : List Value) (i j : ℕ) (a b : TaskDecl) → IsSettledPhase P fuel p first → i < j → slice_get p.tasks i ≡ Some a → slice_get p.tasks j ≡ Some b
    → a.core.0 < b.core.0
rising P fuel p first i j a b h before there at' =
    let well : IsPhase (length P.memory) (length P.locks) p = subst (IsPhase (length P.memory) (length P.locks)) (sym h.among.1.1) (h.program.each_phase h.among.0 p h.among.1.0) in
    let less = well.rising i j a before (slice_get_within p.tasks j b at') in
    let first' : (get_or p.tasks i a).core.0 ≡ a.core.0 = ap (λ (d : TaskDecl). d.core.0) (get_or_from_slice_get p.tasks i a a there) in
    let second : (get_or p.tasks j a).core.0 ≡ b.core.0 = ap (λ (d : TaskDecl). d.core.0) (get_or_from_slice_get p.tasks j b a at') in
    omega (arith, less, first', second)

pub cores-apart : (P : ProgramParts) (fuel : ℕ) (p : Phase) (first : List Value) (i j : ℕ) (a b : TaskDecl) → IsSettledPhase P fuel p first → i ≢ j → slice_get p.tasks i ≡ Some a
    → slice_get p.tasks j ≡ Some b → a.core.0 ≢ b.core.0
cores-apart P fuel p first i j a b h apart there at' same =
    ⊎_elim (λ (l : i < j). let r = rising P fuel p first i j a b h l there at' in omega (arith, r, same))
    (λ (l : j ≤ i). let r = rising P fuel p first j i b a h (omega (arith, l, apart)) at' there in omega (arith, r, same))
    (cases_lt i j)

pub beside : (P : ProgramParts) (fuel : ℕ) (p : Phase) (first : List Value) (i j : ℕ) (a b : Side) → IsSettledPhase P fuel p first → IsSideOf P fuel p first i a → IsSideOf P fuel p first j b → i ≢ j
    → HoldApart a.alone.state.held b.alone.state.held → AreBeside a b
beside P fuel p first i j a b h ka kb apart held =
    let mine : a.setup.phase ≡ p = ap (λ (S : Setup). S.phase) ka.setup in
    let other : b.setup.phase ≡ p = ap (λ (S : Setup). S.phase) kb.setup in
    let da : a.setup.decl ≡ ka.decl = ap (λ (S : Setup). S.decl) ka.setup in
    let db : b.setup.decl ≡ kb.decl = ap (λ (S : Setup). S.decl) kb.setup in
    record {
      checked = subst (λ (q : Phase). IsCheckedPhase q) (sym mine) (phase-checked P p h.checked h.among);
      phase = other ∙ sym mine;
      first = subst (λ (q : Phase). IsAmong q.tasks a.setup.decl) (sym mine) (subst (λ (d : TaskDecl). IsAmong p.tasks d) (sym da) (among-at p.tasks i ka.decl ka.there));
      second = subst (λ (q : Phase). IsAmong q.tasks b.setup.decl) (sym mine) (subst (λ (d : TaskDecl). IsAmong p.tasks d) (sym db) (among-at p.tasks j kb.decl kb.there));
      cores = λ e. cores-apart P fuel p first i j ka.decl kb.decl h apart ka.there kb.there (ap (λ (d : TaskDecl). d.core.0) (sym da) ∙ e ∙ ap (λ (d : TaskDecl). d.core.0) db);
      held = held;
    }

pub phase-run : (P : ProgramParts) (fuel : ℕ) (p : Phase) (first : List Value) (sides : List Side) (m : List ℕ) → IsSettledPhase P fuel p first → AreSides P fuel p first sides → length m ≡ length P.memory
    → PhaseAgrees first sides m → IsPhaseRun first sides m
phase-run P fuel p first sides m h are words agrees =
    record {
      between = h.between;
      placed = λ i s there. placed P fuel p first i s m h (side-at P fuel p first sides are i s there) words;
      beside = λ i j a b apart there at'. beside P fuel p first i j a b h (side-at P fuel p first sides are i a there) (side-at P fuel p first sides are j b at') apart
          (agrees.all.apart i j a b apart there at');
    }
