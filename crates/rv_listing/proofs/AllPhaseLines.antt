-- The lines of all phases.
use Rattle.std.proofs.Common.{◌≡◌, ℕ, suc, ◌+◌, ◌<◌, ◌≤◌, Bool, false, eqb, ◌&&◌, List, [], ◌∷◌, ◌++◌, length, Option, refl, length-append, codes, arith}
use Rattle.std.specs.List.{flat_map}
use Rattle.std.proofs.lemmas.Bool.Decides.{nat_tests}
use Rattle.region_table.specs.declared.declared.Region.{Region}
use Rattle.region_table.specs.declared.declared.TaskDecl.{TaskDecl}
use Rattle.region_table.specs.declared.declared.Phase.{Phase}
use Rattle.region_table.specs.Program.{AreTiled}
use Rattle.rv_assembler.specs.declared.names.Meaning.{Meaning}
use Rattle.rv_assembler.specs.declared.draft.Draft.{Draft}
use Rattle.rv_assembler.specs.declared.statement.Statement as in_statement
use Rattle.rv_listing.specs.Statement.{statement}
use Rattle.rv_listing.specs.Listing.{text_of, task_lines, phase_lines}
use Rattle.rv_listing.proofs.TokenLemmas.{statement-good}
use Rattle.rv_listing.proofs.KindLemmas.{phase-kind}
use Rattle.rv_listing.proofs.CodeSection.{AreShort}
use Rattle.rv_listing.proofs.DirectiveLemmas.{nm, phase-said}
use Rattle.rv_listing.proofs.DeclarationLemmas.{KnowRegions, KnowLocks}
use Rattle.rv_listing.proofs.RegionSection.{IsWithin}
use Rattle.rv_listing.proofs.TaskSection.{has_task, start_in}
use Rattle.rv_listing.proofs.UseSection.{add_phase, total-phase}
use Rattle.rv_listing.proofs.SetLines.{AreNamed}
use Rattle.rv_listing.proofs.ValueLines.{behind-line, behind-lines, behind-size}
use Rattle.rv_listing.proofs.EffectLines.{short-left, short-right, front-text, back-text, back-place}
use Rattle.rv_listing.proofs.GuardedLines.{LocksDeclared}
use Rattle.rv_listing.proofs.TaskLines.{add_task_of}
use Rattle.rv_listing.proofs.PhaseLines.{AreTaskNumbers, IsReady, any-push, add_tasks_of, tasks-add}
use Rattle.rv_listing.proofs.PhaseEquality.{RiseFrom}
use Rattle.rv_listing.proofs.AddsLemmas.{Adds, size, adds-none, adds-join, adds-as, adds-one}

-- so many phases stand, none later has a task, and there is room for so many tasks
pub record IsAt (v : Bool) (d : Draft) (q m : ℕ) : Type 0 where
  pub within : IsWithin v d
  pub at : d.phases ≡ q
  pub fresh : (p c : ℕ) → q < p → has_task p c d.tasks ≡ false
  pub few : length d.tasks + m ≤ 64

other-phase : (a p x y : ℕ) → a < p → (eqb a p && eqb x y) ≡ false
other-phase a p x y l = grind (arith, nat_tests)

at-task : (v : Bool) (rs : List Region) (locks : ℕ) (d : Draft) (t : TaskDecl) (q m : ℕ) → IsAt v d q (suc m) → IsAt v (add_task_of rs locks d t) q m
at-task v rs locks d t q m h =
    let w = h.within in
    let f = h.few in
    let e = h.at in
    let s = start_in d t.core.0 t.entry t.arg in
    let long : length (d.tasks ++ s ∷ []) ≡ length d.tasks + 1 = length-append d.tasks (s ∷ []) in
    record {
      within = record { code = w.code; words = w.words; regions = w.regions; locks = w.locks; phases = w.phases; tasks = omega arith };
      at = h.at;
      fresh = λ p c l. any-push p c d.tasks s (h.fresh p c l) (other-phase d.phases p t.core.0 c (omega arith));
      few = omega arith;
    }

pub at-tasks : (v : Bool) (rs : List Region) (locks : ℕ) (d : Draft) (ts : List TaskDecl) (q m k : ℕ) → k ≡ length ts + m → IsAt v d q k → IsAt v (add_tasks_of rs locks d ts) q m
at-tasks v rs locks d [] q m k e h =
    let f = h.few in record { within = h.within; at = h.at; fresh = h.fresh; few = omega arith }
at-tasks v rs locks d (t ∷ ts) q m k e h =
    let f = h.few in
    at-tasks v rs locks (add_task_of rs locks d t) ts q m (length ts + m) refl
    (at-task v rs locks d t q (length ts + m) (record { within = h.within; at = h.at; fresh = h.fresh; few = omega arith }))

-- the draft at a new phase
pub at-phase : (v : Bool) (d : Draft) (q m : ℕ) → q < 64 → IsAt v d q m → IsAt v (add_phase d) (q + 1) m
at-phase v d q m l h =
    let w = h.within in
    let e = h.at in
    record {
      within = record { code = w.code; words = w.words; regions = w.regions; locks = w.locks; phases = omega arith; tasks = w.tasks };
      at = omega arith;
      fresh = λ p c k. h.fresh p c (omega arith);
      few = h.few;
    }

not-none : (n : ℕ) → eqb (n + 1) 0 ≡ false
not-none n = grind (arith, nat_tests)

ready-phase : (v : Bool) (d : Draft) (q m k n : ℕ) → k ≡ n + m → q < 64 → IsAt v d q k → IsReady v (add_phase d) 0 n
ready-phase v d q m k n e l h =
    let a = at-phase v d q k l h in
    let f = h.few in
    let g = h.at in
    record { within = a.within; phase = not-none d.phases; free = λ c s. h.fresh (d.phases + 1) c (omega arith); few = omega arith }

abbrev pub add_phases_of : List Region → ℕ → Draft → List Phase → Draft
add_phases_of rs locks d [] = d
add_phases_of rs locks d (ph ∷ phs) = add_phases_of rs locks (add_tasks_of rs locks (add_phase d) ph.tasks) phs

abbrev pub task_count : List Phase → ℕ
task_count [] = 0
task_count (ph ∷ phs) = length ph.tasks + task_count phs

abbrev pub ArePhases : List Phase → Type 0
ArePhases [] = Unit {0}
ArePhases (ph ∷ phs) = RiseFrom 0 16 ph.tasks × AreTaskNumbers ph.tasks × ArePhases phs

module _ (v : Bool) (text : List ℕ) (names : List ℕ → Option Meaning) (rs : List Region) (end : ℕ) (tiled : AreTiled 0 rs end) (most : end ≤ 65536) (named : AreNamed rs) (known : KnowRegions names 0 rs) (ls : List (List ℕ)) (declared : LocksDeclared ls) (locks : KnowLocks names 0 ls) where
  -- the lines of a phase
  phase-adds : (ph : Phase) (q m : ℕ) (before rest : List ℕ) (place : ℕ) → q < 64 → RiseFrom 0 16 ph.tasks → AreTaskNumbers ph.tasks → place ≡ length before → text ≡ before ++ (text_of (phase_lines rs ls ph) ++ rest) → AreShort (phase_lines rs ls ph)
      → Adds v text names place (phase_lines rs ls ph) (λ d. IsAt v d q (length ph.tasks + m)) (λ d. add_tasks_of rs (length ls) (add_phase d) ph.tasks)
  phase-adds ph q m before rest place l r n s e short =
      let line = statement (codes ".phase") [] in
      let lines = flat_map (task_lines rs ls) ph.tasks in
      let k = length ph.tasks + m in
      let x = adds-one v text names place line in_statement.TheVariants.Phase (λ d. IsAt v d q k) add_phase (statement-good (nm (codes ".phase")) [] phase-kind.op tt) short.0 (phase-said text before (10 ∷ (text_of lines ++ rest)) place s (behind-line text before line lines rest e))
      (λ d c left h. let w = h.within in let p = w.phases in total-phase v text names d c left p (at-phase v d q k l h).within) (λ c y z left. refl) in
      let y = tasks-add v text names rs end tiled most named known ls declared locks ph.tasks 0 (before ++ (line ++ 10 ∷ [])) rest (place + size (line ∷ [])) r n (behind-size before line place s) (behind-lines text before line lines rest e) short.1 in
      adds-as v text names place (line ∷ lines) (λ d. IsAt v d q k × IsReady v (add_phase d) 0 (length ph.tasks)) (λ d. IsAt v d q k) (λ d. add_tasks_of rs (length ls) (add_phase d) ph.tasks) (λ d. add_tasks_of rs (length ls) (add_phase d) ph.tasks)
      (adds-join v text names place (line ∷ []) lines (λ d. IsAt v d q k) (λ d. IsReady v d 0 (length ph.tasks)) add_phase (λ d. add_tasks_of rs (length ls) d ph.tasks) x y)
      (λ d h. (h, ready-phase v d q m k (length ph.tasks) refl l h)) (λ d. refl)

  -- the lines of all phases
  pub phases-add : (phs : List Phase) (q : ℕ) (before rest : List ℕ) (place : ℕ) → q + length phs ≤ 64 → ArePhases phs → place ≡ length before → text ≡ before ++ (text_of (flat_map (phase_lines rs ls) phs) ++ rest) → AreShort (flat_map (phase_lines rs ls) phs)
      → Adds v text names place (flat_map (phase_lines rs ls) phs) (λ d. IsAt v d q (task_count phs)) (λ d. add_phases_of rs (length ls) d phs)
  phases-add [] q before rest place l a s e short = adds-none v text names place (λ d. IsAt v d q 0)
  phases-add (ph ∷ phs) q before rest place l a s e short =
      let f = phase_lines rs ls ph in
      let b = flat_map (phase_lines rs ls) phs in
      let m = task_count phs in
      let x = phase-adds ph q m before (text_of b ++ rest) place (omega arith) a.0 a.1 s (front-text text before f b rest e) (short-left f b short) in
      let y = phases-add phs (q + 1) (before ++ text_of f) rest (place + size f) (omega arith) a.2 (back-place before f place s) (back-text text before f b rest e) (short-right f b short) in
      adds-as v text names place (f ++ b) (λ d. IsAt v d q (length ph.tasks + m) × IsAt v (add_tasks_of rs (length ls) (add_phase d) ph.tasks) (q + 1) m) (λ d. IsAt v d q (task_count (ph ∷ phs)))
      (λ d. add_phases_of rs (length ls) (add_tasks_of rs (length ls) (add_phase d) ph.tasks) phs) (λ d. add_phases_of rs (length ls) d (ph ∷ phs))
      (adds-join v text names place f b (λ d. IsAt v d q (length ph.tasks + m)) (λ d. IsAt v d (q + 1) m) (λ d. add_tasks_of rs (length ls) (add_phase d) ph.tasks) (λ d. add_phases_of rs (length ls) d phs) x y)
      (λ d h. (h, at-tasks v rs (length ls) (add_phase d) ph.tasks (q + 1) m (length ph.tasks + m) refl (at-phase v d q (length ph.tasks + m) (omega arith) h))) (λ d. refl)
