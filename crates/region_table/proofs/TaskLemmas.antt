-- The task of a core in a phase is one of the phase's, and the only one of its core.
use Rattle.std.proofs.Common.{◌≡◌, ℕ, zero, suc, ◌<◌, ◌==◌, Bool, true, false, cond, List, [], ◌∷◌, length, get_or, Option, Some, None, slice_get, refl, sym, ap, subst, ◌∙◌, arith}
use Rattle.std.specs.List.{AllPairs, IsAmong, find}
use Rattle.std.specs.Option.{option_and_then}
use Rattle.std.proofs.lemmas.Bool.Decides.{nat_tests}
use Rattle.std.proofs.lemmas.Option.{none-some, same_Some, slice_get_within, get_or_from_slice_get}
use Rattle.region_table.specs.declared.declared.TaskDecl.{TaskDecl}
use Rattle.region_table.specs.declared.declared.Phase.{Phase}
use Rattle.region_table.specs.Program.{ProgramParts, IsTask, IsPhase, IsProgram}
use Rattle.region_table.specs.Tasks.{is_for, declared, IsDeclaration}

-- the tasks stand in rising order of their cores
abbrev pub AreRising : List TaskDecl → Type 0
AreRising ts = AllPairs (λ (a b : TaskDecl). a.core.0 < b.core.0) ts

rising-tail : (t : TaskDecl) (ts : List TaskDecl) → AreRising (t ∷ ts) → AreRising ts
rising-tail t ts h = λ i j d l m. h (suc i) (suc j) d (omega arith) (omega arith)

-- an element that a look-up finds stands in the list
pub among-got : {X : Type 0} (xs : List X) (k : ℕ) (x : X) → slice_get xs k ≡ Some x → IsAmong xs x
among-got xs k x e = (k, (slice_get_within xs k x e, sym (get_or_from_slice_get xs k x x e)))

among-later : {X : Type 0} (y : X) (xs : List X) (x : X) → IsAmong xs x → IsAmong (y ∷ xs) x
among-later y xs x a = (suc a.0, (let l = a.1.0 in omega arith, a.1.1))

-- the first task of a core is one of the tasks, and of the core
found-task : (core : ℕ) (ts : List TaskDecl) (d : TaskDecl) → find (is_for core) ts ≡ Some d → IsAmong ts d × (d.core.0 ≡ core)
found-task core [] d e = absurd cc
found-task core (t ∷ ts) d e = by_test (t.core.0 == core) refl (found-task core ts d) e
  where
    by_test : (b : Bool) → (t.core.0 == core) ≡ b → (find (is_for core) ts ≡ Some d → IsAmong ts d × (d.core.0 ≡ core)) → cond b (Some t) (find (is_for core) ts) ≡ Some d
        → IsAmong (t ∷ ts) d × (d.core.0 ≡ core)
    by_test true test rest e =
        let same : t ≡ d = same_Some t d e in
        let here : t.core.0 ≡ core = grind (arith, nat_tests) in
        ((0, (omega arith, sym same)), ap (λ (x : TaskDecl). x.core.0) (sym same) ∙ here)
    by_test false test rest e = (among-later t ts d (rest e).0, (rest e).1)

-- the task at a place is the first of its core
found-at : (ts : List TaskDecl) (k : ℕ) (d : TaskDecl) → AreRising ts → k < length ts → find (is_for (get_or ts k d).core.0) ts ≡ Some (get_or ts k d)
found-at [] k d h l = absurd (omega arith)
found-at (t ∷ ts) zero d h l = by_test (t.core.0 == t.core.0) refl
  where
    by_test : (b : Bool) → (t.core.0 == t.core.0) ≡ b → cond b (Some t) (find (is_for t.core.0) ts) ≡ Some t
    by_test true test = refl
    by_test false test = absurd (grind (arith, nat_tests))
found-at (t ∷ ts) (suc k) d h l =
    by_test (t.core.0 == (get_or ts k d).core.0) refl (found-at ts k d (rising-tail t ts h) (omega arith))
  where
    by_test : (b : Bool) → (t.core.0 == (get_or ts k d).core.0) ≡ b → find (is_for (get_or ts k d).core.0) ts ≡ Some (get_or ts k d)
        → cond b (Some t) (find (is_for (get_or ts k d).core.0) ts) ≡ Some (get_or ts k d)
    by_test true test rest =
        let below : t.core.0 < (get_or ts k d).core.0 = h 0 (suc k) d (omega arith) l in
        absurd (grind (arith, nat_tests))
    by_test false test rest = rest

found-among : (ts : List TaskDecl) (d : TaskDecl) → AreRising ts → IsAmong ts d → find (is_for d.core.0) ts ≡ Some d
found-among ts d h a =
    subst (λ (x : TaskDecl). find (is_for x.core.0) ts ≡ Some x) (sym a.1.1) (found-at ts a.0 d h a.1.0)

-- tasks of one core are one task
pub one-of_core : (ts : List TaskDecl) (a b : TaskDecl) → AreRising ts → IsAmong ts a → IsAmong ts b → a.core.0 ≡ b.core.0 → a ≡ b
one-of_core ts a b h one other same =
    same_Some a b (sym (found-among ts a h one) ∙ (ap (λ core. find (is_for core) ts) same ∙ found-among ts b h other))

-- a phase of a program is well formed, and so is a task of it
pub phase-among : (P : ProgramParts) (p : Phase) → IsProgram P → IsAmong P.phases p → IsPhase (length P.memory) (length P.locks) p
phase-among P p h a =
    subst (IsPhase (length P.memory) (length P.locks)) (sym a.1.1) (h.each_phase a.0 p a.1.0)

pub task-among : (P : ProgramParts) (p : Phase) (d : TaskDecl) → IsProgram P → IsAmong P.phases p → IsAmong p.tasks d → IsTask (length P.memory) (length P.locks) d
task-among P p d h k a =
    subst (IsTask (length P.memory) (length P.locks)) (sym a.1.1) ((phase-among P p h k).tasks a.0 d a.1.0)

-- what a program declares for a core in a phase
pub declared-tells : (P : ProgramParts) (number core : ℕ) (d : TaskDecl) → declared P number core ≡ Some d → IsDeclaration P number core d
declared-tells P number core d e = by_phase (slice_get P.phases number) refl e
  where
    by_phase : (o : Option Phase) → slice_get P.phases number ≡ o → option_and_then (λ (p : Phase). find (is_for core) p.tasks) o ≡ Some d → IsDeclaration P number core d
    by_phase None there e = absurd (none-some d e)
    by_phase (Some p) there e =
        let found = found-task core p.tasks d e in
        record {
          phase = p;
          there = there;
          within = slice_get_within P.phases number p there;
          known = among-got P.phases number p there;
          among = found.0;
          own = found.1;
        }

-- each task of a phase is what the program declares for its core
pub declared-only : (P : ProgramParts) (number : ℕ) (p : Phase) (d : TaskDecl) → IsProgram P → slice_get P.phases number ≡ Some p → IsAmong p.tasks d
    → declared P number d.core.0 ≡ Some d
declared-only P number p d h there a =
    let well = phase-among P p h (among-got P.phases number p there) in
    ap (option_and_then (λ (q : Phase). find (is_for d.core.0) q.tasks)) there ∙ found-among p.tasks d well.rising a
