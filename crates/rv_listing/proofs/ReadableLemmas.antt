-- A well-formed program whose names may be declared has what its listing needs to be read back.
use Rattle.std.proofs.Common.{ℕ, zero, suc, ◌+◌, ◌<◌, ◌≤◌, IsTrue, List, [], ◌∷◌, ◌++◌, length, get_or, arith}
use Rattle.std.specs.List.{All, AllPairs}
use Rattle.std.proofs.lemmas.List.Elements.{All-head, All-tail}
use Rattle.region_table.specs.declared.declared.Region.{Region}
use Rattle.region_table.specs.declared.declared.TaskDecl.{TaskDecl}
use Rattle.region_table.specs.declared.declared.Phase.{Phase}
use Rattle.region_table.specs.Program.{ProgramParts, tasks_of, names_of, IsTask, IsPhase, IsProgram}
use Rattle.rv_listing.specs.Law.{is_declared_name, AreDeclaredNames, IsOfWords, HasWords}
use Rattle.rv_listing.proofs.DeclarationLemmas.{region_names}
use Rattle.rv_listing.proofs.SetLines.{AreNamed}
use Rattle.rv_listing.proofs.GuardedLines.{LocksDeclared}
use Rattle.rv_listing.proofs.PhaseLines.{AreTaskNumbers}
use Rattle.rv_listing.proofs.AllPhaseLines.{ArePhases}
use Rattle.rv_listing.proofs.PhaseEquality.{RiseFrom}
use Rattle.rv_listing.proofs.ClaimLemmas.{AreTasks, ArePhasesOf}
use Rattle.rv_listing.proofs.DraftLemmas.{tasks-counted}
use Rattle.rv_listing.proofs.NameLemmas.{distinct}
use Rattle.rv_listing.proofs.BodySection.{IsReadable}

module _ {X : Type 0} (P : X → Type 0) where
  all-front : (a b : List X) → All P (a ++ b) → All P a
  all-front [] b h k d l = absurd (omega arith)
  all-front (x ∷ a) b h zero d l = All-head P x (a ++ b) h
  all-front (x ∷ a) b h (suc k) d l = all-front a b (All-tail P x (a ++ b) h) k d (omega arith)

  all-back : (a b : List X) → All P (a ++ b) → All P b
  all-back [] b h = h
  all-back (x ∷ a) b h = all-back a b (All-tail P x (a ++ b) h)

regions-named : (rs : List Region) (ls : List (List ℕ)) → AreDeclaredNames (region_names rs ++ ls) → AreNamed rs
regions-named [] ls h = tt
regions-named (r ∷ rs) ls h =
    (All-head (λ (n : List ℕ). IsTrue (is_declared_name n)) r.name (region_names rs ++ ls) h, regions-named rs ls (All-tail (λ (n : List ℕ). IsTrue (is_declared_name n)) r.name (region_names rs ++ ls) h))

locks-declared : (ls : List (List ℕ)) → AreDeclaredNames ls → LocksDeclared ls
locks-declared [] h = tt
locks-declared (l ∷ ls) h = (All-head (λ (n : List ℕ). IsTrue (is_declared_name n)) l ls h, locks-declared ls (All-tail (λ (n : List ℕ). IsTrue (is_declared_name n)) l ls h))

rising : (words locks a : ℕ) (ts : List TaskDecl) → All (IsTask words locks) ts → AllPairs (λ (x y : TaskDecl). x.core.0 < y.core.0) ts → All (λ (t : TaskDecl). a ≤ t.core.0) ts → RiseFrom a 16 ts
rising words locks a [] h r m = tt
rising words locks a (t ∷ ts) h r m =
    let task : IsTask words locks t = All-head (IsTask words locks) t ts h in (
      All-head (λ (x : TaskDecl). a ≤ x.core.0) t ts m,
      task.core,
      rising words locks (t.core.0 + 1) ts (All-tail (IsTask words locks) t ts h) (λ i j d l w. r (suc i) (suc j) d (omega arith) (omega arith))
          (λ k d l. let less : t.core.0 < (get_or ts k d).core.0 = r 0 (suc k) d (omega arith) (omega arith) in omega arith),
    )

task-numbers : (words locks : ℕ) (ts : List TaskDecl) → All (IsTask words locks) ts → All IsOfWords ts → AreTaskNumbers ts
task-numbers words locks [] h k = tt
task-numbers words locks (t ∷ ts) h k =
    let task : IsTask words locks t = All-head (IsTask words locks) t ts h in
    let own : IsOfWords t = All-head IsOfWords t ts k in
    (task.entry, own.entry, own.arg, task-numbers words locks ts (All-tail (IsTask words locks) t ts h) (All-tail IsOfWords t ts k))

tasks-of : (words locks : ℕ) (ts : List TaskDecl) → All (IsTask words locks) ts → All IsOfWords ts → AreTasks words locks ts
tasks-of words locks [] h k = tt
tasks-of words locks (t ∷ ts) h k =
    let own : IsOfWords t = All-head IsOfWords t ts k in
    (All-head (IsTask words locks) t ts h, own.effects, tasks-of words locks ts (All-tail (IsTask words locks) t ts h) (All-tail IsOfWords t ts k))

phases-of : (words locks : ℕ) (phs : List Phase) → All (IsPhase words locks) phs → All IsOfWords (tasks_of phs) → ArePhases phs × ArePhasesOf words locks phs
phases-of words locks [] h k = (tt, tt)
phases-of words locks (ph ∷ phs) h k =
    let phase : IsPhase words locks ph = All-head (IsPhase words locks) ph phs h in
    let own = all-front IsOfWords ph.tasks (tasks_of phs) k in
    let rise : RiseFrom 0 16 ph.tasks = rising words locks 0 ph.tasks phase.tasks phase.rising (λ i d l. omega arith) in
    let next = phases-of words locks phs (All-tail (IsPhase words locks) ph phs h) (all-back IsOfWords ph.tasks (tasks_of phs) k) in
    ((rise, task-numbers words locks ph.tasks phase.tasks own, next.0), (rise, tasks-of words locks ph.tasks phase.tasks own, next.1))

pub readable : (p : ProgramParts) → IsProgram p → HasWords p → AreDeclaredNames (names_of p) → IsReadable p
readable p h w n =
    let parts = phases-of (length p.memory) (length p.locks) p.phases h.each_phase w.tasks in
    let few = h.tasks in
    let count = tasks-counted p.phases in
    record {
      tiled = h.tiled;
      most = h.memory;
      regions = h.regions;
      locks = h.locks;
      phases = h.phases;
      tasks = omega arith;
      code = h.code;
      words = w.memory;
      code_words = w.code;
      named = regions-named p.regions p.locks n;
      declared = locks-declared p.locks (all-back (λ (x : List ℕ). IsTrue (is_declared_name x)) (region_names p.regions) p.locks n);
      distinct = distinct (region_names p.regions ++ p.locks) h.names;
      numbers = parts.0;
      effects = parts.1;
    }
