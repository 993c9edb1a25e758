-- A settled answer has as many words as the program, and at most its tasks.
use Rattle.std.proofs.Common.{◌≡◌, ℕ, ◌+◌, ◌≤◌, Bool, true, false, List, [], ◌∷◌, ◌++◌, length, map, Option, Some, None, Result, Ok, Err, IfOk, refl, sym, ◌∙◌, subst, arith, length-append}
use Rattle.std.specs.List.{list_all}
use Rattle.std.proofs.lemmas.List.{length-map}
use Rattle.region_table.specs.Program.{ProgramParts, IsProgram, tasks_of}
use Rattle.region_table.specs.declared.declared.Phase.{Phase}
use Rattle.rv_core.specs.declared.ending.TaskEnd.{TaskEnd}
use Rattle.common_outcomes.specs.declared.value.Value.{Value}
use Rattle.common_outcomes.specs.declared.answer.Open.{Open}
use Rattle.common_outcomes.specs.declared.answer.Outcomes.{Outcomes}
use Rattle.common_outcomes.specs.declared.answer.Outcomes.TheVariants.{Settled, Open as IsOpen}
use Rattle.common_outcomes.specs.Values.{known}
use Rattle.common_outcomes.specs.Phases.{summary, summaries, after_from}
use Rattle.common_outcomes.specs.Answer.{open_of, end_alone, settled_with, has_ended_well, answer_by, answer_from, outcomes}
use Rattle.outcomes_top.proofs.PhaseLemmas.{after-length}
use Rattle.outcomes_top.specs.Answers.{IsOutcomesPrintable}

-- a settled answer has so many words, and at most so many tasks
abbrev pub IsBounded : ℕ → ℕ → Outcomes → Type 0
IsBounded words tasks (Settled common) = (length common.memory ≡ words) × (length common.tasks ≤ tasks)
IsBounded words tasks (IsOpen why) = Unit {0}

by-answer : (words tasks : ℕ) (why : Option Open) (well : Bool) (here later : Outcomes) → IsBounded words tasks here → IsBounded words tasks later → IsBounded words tasks (answer_by why well here later)
by-answer words tasks (Some why) well here later h l = tt
by-answer words tasks None false here later h l = h
by-answer words tasks None true here later h l = l

more-tasks : (words few tasks : ℕ) (o : Outcomes) → few ≤ tasks → IsBounded words few o → IsBounded words tasks o
more-tasks words few tasks (Settled common) l h = (h.0, omega (arith, l, h.1))
more-tasks words few tasks (IsOpen why) l h = tt

bounded : (P : ProgramParts) (fuel n : ℕ) (phases : List Phase) (ends : List TaskEnd) (memory : List Value)
    → IsBounded (length memory) (length ends + length (tasks_of phases)) (answer_from P fuel n phases ends memory)
bounded P fuel n [] ends memory = (refl, omega arith)
bounded P fuel n (p ∷ phases) ends memory =
    let rs = summaries P fuel p memory in
    let now = ends ++ map (end_alone n) rs in
    let after = after_from 0 rs memory in
    let words : length after ≡ length memory = after-length 0 rs memory in
    let tasks : length (map (end_alone n) rs) ≡ length p.tasks = length-map rs (end_alone n) ∙ length-map p.tasks (summary P fuel p memory) in
    let all : length (tasks_of (p ∷ phases)) ≡ length p.tasks + length (tasks_of phases) = length-append p.tasks (tasks_of phases) in
    let count : length now ≡ length ends + length (map (end_alone n) rs) = length-append ends (map (end_alone n) rs) in
    let most = length ends + length (tasks_of (p ∷ phases)) in
    let later = subst (λ (k : ℕ). IsBounded k (length now + length (tasks_of phases)) (answer_from P fuel (n + 1) phases now after)) words (bounded P fuel (n + 1) phases now after) in
    let below : length now + length (tasks_of phases) ≤ most = omega (arith, tasks, all, count) in
    by-answer (length memory) most (open_of n rs) (list_all has_ended_well rs) (settled_with now after) (answer_from P fuel (n + 1) phases now after)
    (words, omega (arith, tasks, all, count))
    (more-tasks (length memory) (length now + length (tasks_of phases)) most (answer_from P fuel (n + 1) phases now after) below later)

printed : (words tasks : ℕ) (o : Outcomes) → words ≤ 65536 → tasks ≤ 64 → IsBounded words tasks o → IsOutcomesPrintable o
printed words tasks (Settled common) w t h = (omega (arith, w, h.0), omega (arith, t, h.1))
printed words tasks (IsOpen why) w t h = tt

pub printable : (P : ProgramParts) (fuel : ℕ) → IsProgram P → IsOutcomesPrintable (outcomes P fuel)
unfolding outcomes
printable P fuel h =
    let count : length (map known P.memory) ≡ length P.memory = length-map P.memory known in
    let none : 0 + length (tasks_of P.phases) ≤ 64 = omega (arith, h.tasks) in
    printed (length (map known P.memory)) (0 + length (tasks_of P.phases)) (outcomes P fuel) (omega (arith, count, h.memory)) none (bounded P fuel 0 P.phases [] (map known P.memory))

pub printable-ok : {E : Type 0} (r : Result Outcomes E) (o : Outcomes) → IfOk r (λ (a : Outcomes). a ≡ o) → IsOutcomesPrintable o → IfOk r IsOutcomesPrintable
printable-ok (Ok a) o is h = subst IsOutcomesPrintable (sym is) h
printable-ok (Err e) o is h = tt
