-- What a log has after some actions, and the actions of segments, phases and grants, one after the other.
use Rattle.std.proofs.Common.{◌≡◌, ◌≤◌, ℕ, zero, suc, ◌+◌, ◌-◌, ◌<◌, Bool, true, false, if◌then◌else◌, List, [], ◌∷◌, ◌++◌, length, drop, get_or, slice_get, Option, Some, None, refl, sym, ap, ◌∙◌, arith, append_assoc, length-drop}
use Rattle.std.specs.List.{list_all}
use Rattle.std.proofs.lemmas.List.{append-nil, at_drop_more}
use Rattle.dn_base.specs.declared.ids.Grant.{Grant}
use Rattle.region_table.specs.Program.{ProgramParts}
use Rattle.region_table.specs.declared.declared.TaskDecl.{TaskDecl}
use Rattle.region_table.specs.declared.declared.Phase.{Phase}
use Rattle.flat_machine.specs.declared.accesses.FlatAction.{FlatAction}
use Rattle.flat_machine.specs.Step.{At, flat_step, segment, IsUnmoved}
use Rattle.flat_machine.specs.Phases.{Flat, begin, has_finished, next_phase}
use Rattle.flat_machine.specs.Grants.{granted}
use Rattle.flat_machine.specs.Accesses.{with_actions, actions_at, actions_in, segment_actions, begun_at, run_actions, begin_actions, settle_actions, settled_actions, granted_actions, grants_actions}
use Rattle.flat_machine.proofs.PhaseLemmas.{cond-some, left-of, some_within}

pub with-none : (log : Option (List FlatAction)) → with_actions log [] ≡ log
with-none None = refl
with-none (Some done) = ap Some (append-nil done)

pub with-both : (log : Option (List FlatAction)) (first next : List FlatAction) → with_actions (with_actions log first) next ≡ with_actions log (first ++ next)
with-both None first next = refl
with-both (Some done) first next = ap Some (append_assoc done first next)

-- a log to which some actions are added, and then those that are left
pub with-more : (log new : Option (List FlatAction)) (first next all : List FlatAction) → new ≡ with_actions log first → all ≡ first ++ next → with_actions new next ≡ with_actions log all
with-more log new first next all is joined =
    ap (λ (o : Option (List FlatAction)). with_actions o next) is ∙ with-both log first next ∙ ap (with_actions log) (sym joined)

-- ---- a segment

pub actions-still : (P : ProgramParts) (fuel n : ℕ) (s : At) → IsUnmoved P fuel s → actions_at P fuel s ≡ [] → actions_in P fuel n s ≡ []
actions-still P fuel zero s still quiet = refl
actions-still P fuel (suc n) s still quiet =
    ap (λ (front : List FlatAction). front ++ actions_in P fuel n (flat_step P fuel s)) quiet
    ∙ ap (actions_in P fuel n) still
    ∙ actions-still P fuel n s still quiet

-- one of the steps that are left
pub actions-more : (P : ProgramParts) (fuel i : ℕ) (s : At) → i < fuel + 1
    → actions_in P fuel (suc fuel - i) s ≡ actions_at P fuel s ++ actions_in P fuel (suc fuel - (i + 1)) (flat_step P fuel s)
actions-more P fuel i s within =
    let e : suc fuel - i ≡ suc (suc fuel - (i + 1)) = omega arith in
    ap (λ (n : ℕ). actions_in P fuel n s) e

-- ---- a phase

-- one more task runs
pub run-actions-more : (P : ProgramParts) (fuel phase i : ℕ) (ds : List TaskDecl) (d : TaskDecl) (m : List ℕ) (s : At) → i < length ds
    → s ≡ segment P fuel (begun_at phase (get_or ds i d) m)
    → run_actions P fuel phase (drop i ds) m ≡ segment_actions P fuel (begun_at phase (get_or ds i d) m) ++ run_actions P fuel phase (drop (i + 1) ds) s.memory
run-actions-more P fuel phase i ds d m s within e =
    let all : List TaskDecl → List FlatAction = λ ts. run_actions P fuel phase ts m in
    let rest : At → List FlatAction = λ x. segment_actions P fuel (begun_at phase (get_or ds i d) m) ++ run_actions P fuel phase (drop (i + 1) ds) x.memory in
    at_drop_more all ds i d within ∙ ap rest (sym e)

-- ---- the next phase

pub settled-actions-more : (P : ProgramParts) (fuel : ℕ) (F : Flat) (phase : Phase) → next_phase P F ≡ Some phase
    → settled_actions P fuel F ≡ begin_actions P fuel phase F ++ settled_actions P fuel (begin P fuel phase F)
unfolding begin
settled-actions-more P fuel F phase e =
    let finished = (cond-some (list_all has_finished F.tasks) (slice_get P.phases F.begun) phase e).0 in
    let next = begin_actions P fuel phase F ++ settle_actions P fuel (drop (F.begun + 1) P.phases) (begin P fuel phase F) in
    let choice : Bool → List FlatAction = λ b. if b then next else [] in
    ap (λ (left : List Phase). settle_actions P fuel left F) (left-of P F phase e) ∙ ap choice finished

pub settled-actions-still : (P : ProgramParts) (fuel : ℕ) (F : Flat) → next_phase P F ≡ None → settled_actions P fuel F ≡ []
settled-actions-still P fuel F e = by_left (list_all has_finished F.tasks) (drop F.begun P.phases) refl refl e
  where
    by_left : (b : Bool) (left : List Phase) → list_all has_finished F.tasks ≡ b → drop F.begun P.phases ≡ left → (if b then slice_get P.phases F.begun else None) ≡ None → settle_actions P fuel left F ≡ []
    by_left b [] test is none = refl
    by_left false (p ∷ left) test is none =
        let choice : Bool → List FlatAction = λ b. if b then begin_actions P fuel p F ++ settle_actions P fuel left (begin P fuel p F) else [] in
        ap choice test
    by_left true (p ∷ left) test is none =
        let past : length P.phases ≤ F.begun = some_within P.phases F.begun none in
        let short = length-drop F.begun P.phases in
        let more = ap length is in
        absurd (omega arith)

-- ---- grants

pub actions-end : (P : ProgramParts) (fuel : ℕ) (gs : List Grant) → grants_actions P fuel None gs ≡ []
actions-end P fuel [] = refl
actions-end P fuel (g ∷ gs) = refl

-- one more grant of a list
pub grants-actions-more : (P : ProgramParts) (fuel i : ℕ) (F : Flat) (gs : List Grant) (d : Grant) → i < length gs
    → grants_actions P fuel (Some F) (drop i gs) ≡ granted_actions P fuel (get_or gs i d) F ++ grants_actions P fuel (granted P fuel (get_or gs i d) F) (drop (i + 1) gs)
grants-actions-more P fuel i F gs d within = at_drop_more (grants_actions P fuel (Some F)) gs i d within
