-- What the beginnings of phases leave of the machine.
use Rattle.std.proofs.Common.{◌≡◌, ◌<◌, ◌≤◌, ◌+◌, ℕ, Bool, true, false, if◌then◌else◌, List, [], ◌∷◌, ◌++◌, length, drop, get_or, slice_get, Option, Some, None, refl, sym, ap, ◌∙◌, append_assoc, length-drop, arith}
use Rattle.std.specs.List.{list_all}
use Rattle.std.proofs.lemmas.List.{append-nil, drop_more}
use Rattle.std.proofs.lemmas.List.Folds.{list_all_at}
use Rattle.std.proofs.lemmas.Option.{slice_get_past, slice_get-get_or, slice_get_within, get_or_from_slice_get}
use Rattle.region_table.specs.Program.{ProgramParts}
use Rattle.region_table.specs.declared.declared.Phase.{Phase}
use Rattle.flat_machine.specs.Step.{Started}
use Rattle.flat_machine.specs.Phases.{Flat, all_tasks, run_all, begin, finished_by, has_finished, next_phase, settle, settled}
use Rattle.flat_machine.proofs.PhaseLemmas.{settled-still, begin-begun}

-- while a task hasn't ended no phase begins
pub settled-waits : (P : ProgramParts) (fuel : ℕ) (F : Flat) (i : ℕ) (r : Started) → slice_get F.tasks i ≡ Some r → r.state.end ≡ None → settled P fuel F ≡ F
settled-waits P fuel F i r there on =
    let is : get_or F.tasks i r ≡ r = get_or_from_slice_get F.tasks i r r there in
    let fails : has_finished (get_or F.tasks i r) ≡ false = ap has_finished is ∙ ap finished_by on in
    let some : list_all has_finished F.tasks ≡ false = list_all_at has_finished F.tasks i r (slice_get_within F.tasks i r there) fails in
    let choice : Bool → Option Phase = λ b. if b then slice_get P.phases F.begun else None in
    settled-still P fuel F (ap choice some)

-- the phases that are left: the next of them, and those behind it
pub record IsNext (P : ProgramParts) (F : Flat) (p : Phase) (left : List Phase) : Type 0 where
  pub there : slice_get P.phases F.begun ≡ Some p
  pub behind : drop (F.begun + 1) P.phases ≡ left

pub next-left : (P : ProgramParts) (F : Flat) (p : Phase) (left : List Phase) → drop F.begun P.phases ≡ p ∷ left → IsNext P F p left
next-left P F p left e =
    let short = length-drop F.begun P.phases in
    let more = ap length e in
    let within : F.begun < length P.phases = omega arith in
    let cut : p ∷ left ≡ get_or P.phases F.begun p ∷ drop (F.begun + 1) P.phases = sym e ∙ drop_more P.phases F.begun p within in
    let first : List Phase → Phase = λ l. get_or l 0 p in
    record {
      there = slice_get-get_or P.phases F.begun p within ∙ ap Some (sym (ap first cut));
      behind = sym (ap (drop 1) cut);
    }

-- induction over the phases that begin: what holds of F, and is kept where a phase begins, holds of the settled machine
pub record BeginKeeps (P : ProgramParts) (fuel : ℕ) (K : Flat → Type 0) : Type 0 where
  pub keeps : (p : Phase) (F : Flat) → slice_get P.phases F.begun ≡ Some p → list_all has_finished F.tasks ≡ true → K F → K (begin P fuel p F)

settle-kept : (P : ProgramParts) (fuel : ℕ) (K : Flat → Type 0) (left : List Phase) (F : Flat) → BeginKeeps P fuel K → drop F.begun P.phases ≡ left → K F → K (settle P fuel left F)
settle-kept P fuel K [] F h e k = k
settle-kept P fuel K (p ∷ left) F h e k =
    let next = next-left P F p left e in
    let behind : drop (begin P fuel p F).begun P.phases ≡ left = ap (λ n. drop n P.phases) (begin-begun P fuel p F) ∙ next.behind in
    by_test (list_all has_finished F.tasks) refl (λ done. settle-kept P fuel K left (begin P fuel p F) h behind (h.keeps p F next.there done k))
  where
    by_test : (b : Bool) → list_all has_finished F.tasks ≡ b → (list_all has_finished F.tasks ≡ true → K (settle P fuel left (begin P fuel p F)))
        → K (if b then settle P fuel left (begin P fuel p F) else F)
    by_test true e later = later e
    by_test false e later = k

pub settled-kept : (P : ProgramParts) (fuel : ℕ) (K : Flat → Type 0) (F : Flat) → BeginKeeps P fuel K → K F → K (settled P fuel F)
settled-kept P fuel K F h k = settle-kept P fuel K (drop F.begun P.phases) F h refl k

-- ---- settled twice is settled

settle-last : (P : ProgramParts) (fuel : ℕ) (left : List Phase) (F : Flat) → drop F.begun P.phases ≡ left → next_phase P (settle P fuel left F) ≡ None
settle-last P fuel [] F e =
    let short = length-drop F.begun P.phases in
    let none = ap length e in
    let past : length P.phases ≤ F.begun = omega arith in
    by_test (list_all has_finished F.tasks) (slice_get_past P.phases F.begun past)
  where
    by_test : (b : Bool) → slice_get P.phases F.begun ≡ None → (if b then slice_get P.phases F.begun else None) ≡ None
    by_test true none = none
    by_test false none = refl
settle-last P fuel (p ∷ left) F e =
    let next = next-left P F p left e in
    let behind : drop (begin P fuel p F).begun P.phases ≡ left = ap (λ n. drop n P.phases) (begin-begun P fuel p F) ∙ next.behind in
    by_test (list_all has_finished F.tasks) refl (settle-last P fuel left (begin P fuel p F) behind)
  where
    by_test : (b : Bool) → list_all has_finished F.tasks ≡ b → next_phase P (settle P fuel left (begin P fuel p F)) ≡ None
        → next_phase P (if b then settle P fuel left (begin P fuel p F) else F) ≡ None
    by_test true e later = later
    by_test false e later =
        let choice : Bool → Option Phase = λ b. if b then slice_get P.phases F.begun else None in ap choice e

-- no phase can begin in a settled machine
pub settled-last : (P : ProgramParts) (fuel : ℕ) (F : Flat) → next_phase P (settled P fuel F) ≡ None
settled-last P fuel F = settle-last P fuel (drop F.begun P.phases) F refl

pub settled-again : (P : ProgramParts) (fuel : ℕ) (F : Flat) → settled P fuel (settled P fuel F) ≡ settled P fuel F
settled-again P fuel F = settled-still P fuel (settled P fuel F) (settled-last P fuel F)

-- ---- the tasks that have started stay

-- the first list, and then more tasks
pub record IsFront (front all : List Started) : Type 0 where
  pub more : List Started
  pub is : all ≡ front ++ more

pub front-itself : (all : List Started) → IsFront all all
front-itself all = record { more = []; is = sym (append-nil all) }

pub front-more : (a b c : List Started) → IsFront a b → IsFront b c → IsFront a c
front-more a b c h k =
    let first : b ++ k.more ≡ (a ++ h.more) ++ k.more = ap (λ (l : List Started). l ++ k.more) h.is in
    let joined : (a ++ h.more) ++ k.more ≡ a ++ (h.more ++ k.more) = rw append_assoc in
    record { more = h.more ++ k.more; is = k.is ∙ first ∙ joined }

begin-front : (P : ProgramParts) (fuel : ℕ) (p : Phase) (F : Flat) → IsFront (all_tasks F) (all_tasks (begin P fuel p F))
unfolding begin
begin-front P fuel p F = record { more = (run_all P fuel F.begun p.tasks F.memory).tasks; is = refl }

pub settle-front : (P : ProgramParts) (fuel : ℕ) (left : List Phase) (F : Flat) → IsFront (all_tasks F) (all_tasks (settle P fuel left F))
settle-front P fuel [] F = front-itself (all_tasks F)
settle-front P fuel (p ∷ left) F =
    by_test (list_all has_finished F.tasks) (front-more (all_tasks F) (all_tasks (begin P fuel p F)) (all_tasks (settle P fuel left (begin P fuel p F))) (begin-front P fuel p F) (settle-front P fuel left (begin P fuel p F)))
  where
    by_test : (b : Bool) → IsFront (all_tasks F) (all_tasks (settle P fuel left (begin P fuel p F)))
        → IsFront (all_tasks F) (all_tasks (if b then settle P fuel left (begin P fuel p F) else F))
    by_test true later = later
    by_test false later = front-itself (all_tasks F)

pub settled-front : (P : ProgramParts) (fuel : ℕ) (F : Flat) → IsFront (all_tasks F) (all_tasks (settled P fuel F))
settled-front P fuel F = settle-front P fuel (drop F.begun P.phases) F
