-- How many cores tasks need, and what a well-formed program says of each task.
use Rattle.std.proofs.Common.{◌≡◌, ℕ, ◌+◌, ◌<◌, ◌≤◌, max, List, [], ◌∷◌, ◌++◌, length, get_or, drop, sym, arith}
use Rattle.std.specs.List.{All}
use Rattle.std.proofs.lemmas.List.{drop_more}
use Rattle.std.proofs.lemmas.List.Elements.{All-head, All-tail}
use Rattle.region_table.specs.declared.declared.TaskDecl.{TaskDecl}
use Rattle.region_table.specs.declared.declared.Phase.{Phase}
use Rattle.region_table.specs.Program.{ProgramParts, cores_in, tasks_of, IsTask, IsPhase, IsProgram}

-- tasks need at least one core
pub cores-some : (tasks : List TaskDecl) → 1 ≤ cores_in tasks
cores-some [] = omega arith
cores-some (t ∷ ts) = let e = cores-some ts in omega arith

-- the cores of two lists of tasks
pub cores-append : (some more : List TaskDecl) → cores_in (some ++ more) ≡ max (cores_in some) (cores_in more)
cores-append [] more = let e = cores-some more in omega arith
cores-append (t ∷ ts) more = let e = cores-append ts more in omega arith

-- tasks of cores below 16 need at most 16
pub cores-within : (tasks : List TaskDecl) → All (λ (t : TaskDecl). t.core.0 < 16) tasks → cores_in tasks ≤ 16
cores-within [] a = omega arith
cores-within (t ∷ ts) a =
    let e = cores-within ts (All-tail (λ (t : TaskDecl). t.core.0 < 16) t ts a) in
    let h : t.core.0 < 16 = All-head (λ (t : TaskDecl). t.core.0 < 16) t ts a in
    omega arith

-- the cores of the phases that are left are those of the next phase and those of the phases behind it
pub cores_more : (phases : List Phase) (k : ℕ) (p : Phase) → k < length phases → p ≡ get_or phases k p → cores_in (tasks_of (drop k phases)) ≡ max (cores_in p.tasks) (cores_in (tasks_of (drop (k + 1) phases)))
cores_more phases k p l e =
    rw (drop_more phases k p l) (rw (sym e) (cores-append p.tasks (tasks_of (drop (k + 1) phases))))

-- the tasks of a well-formed phase are on cores below 16
pub cores-below : (words locks : ℕ) (p : Phase) → IsPhase words locks p → All (λ (t : TaskDecl). t.core.0 < 16) p.tasks
cores-below words locks p h = λ k d l. (h.tasks k d l).core

-- phase number `k` of a program is well formed
pub phase-at : (program : ProgramParts) (k : ℕ) (p : Phase) → IsProgram program → k < length program.phases → p ≡ get_or program.phases k p → IsPhase (length program.memory) (length program.locks) p
phase-at program k p h l e =
    let found : IsPhase (length program.memory) (length program.locks) (get_or program.phases k p) = h.each_phase k p l in rw (sym e) at found

-- task number `k` of a well-formed phase is well formed
pub task-at : (words locks : ℕ) (p : Phase) (k : ℕ) (t : TaskDecl) → IsPhase words locks p → k < length p.tasks → t ≡ get_or p.tasks k t → IsTask words locks t
task-at words locks p k t h l e =
    let found : IsTask words locks (get_or p.tasks k t) = h.tasks k t l in rw (sym e) at found
