-- The lines of the tasks of a phase.
use Rattle.std.proofs.Common.{◌≡◌, ℕ, suc, ◌+◌, ◌%◌, ◌^◌, ◌<◌, ◌≤◌, Bool, true, false, eqb, ◌&&◌, ◌||◌, List, [], ◌∷◌, ◌++◌, length, Option, refl, ap, length-append, arith}
use Rattle.std.specs.List.{flat_map}
use Rattle.std.proofs.lemmas.Bool.Decides.{nat_tests}
use Rattle.region_table.specs.declared.declared.Region.{Region}
use Rattle.region_table.specs.declared.declared.TaskDecl.{TaskDecl}
use Rattle.region_table.specs.Program.{AreTiled}
use Rattle.rv_assembler.specs.declared.names.Meaning.{Meaning}
use Rattle.rv_assembler.specs.declared.draft.Draft.{Draft}
use Rattle.rv_assembler.specs.declared.draft.Start.{Start}
use Rattle.rv_assembler.specs.Program.{is_task}
use Rattle.rv_listing.specs.Listing.{text_of, task_lines}
use Rattle.rv_listing.proofs.CodeSection.{AreShort}
use Rattle.rv_listing.proofs.DeclarationLemmas.{KnowRegions, KnowLocks}
use Rattle.rv_listing.proofs.RegionSection.{IsWithin}
use Rattle.rv_listing.proofs.TaskSection.{has_task, start_in}
use Rattle.rv_listing.proofs.SetLines.{AreNamed}
use Rattle.rv_listing.proofs.EffectLines.{short-left, short-right, front-text, back-text, back-place}
use Rattle.rv_listing.proofs.GuardedLines.{LocksDeclared}
use Rattle.rv_listing.proofs.TaskLines.{IsFree, add_task_of, task-adds}
use Rattle.rv_listing.proofs.PhaseEquality.{RiseFrom}
use Rattle.rv_listing.proofs.AddsLemmas.{Adds, size, adds-none, adds-join, adds-as}

-- the numbers of a task are those of a program
abbrev pub AreTaskNumbers : List TaskDecl → Type 0
AreTaskNumbers [] = Unit {0}
AreTaskNumbers (t ∷ ts) = (t.entry % 4 ≡ 0) × (t.entry < 2 ^ 32) × (t.arg < 2 ^ 32) × AreTaskNumbers ts

-- the phase at hand has room for so many tasks on cores from one on
pub record IsReady (v : Bool) (d : Draft) (from count : ℕ) : Type 0 where
  pub within : IsWithin v d
  pub phase : eqb d.phases 0 ≡ false
  pub free : (c : ℕ) → from ≤ c → has_task d.phases c d.tasks ≡ false
  pub few : length d.tasks + count ≤ 64

or-rest : (a b b' : Bool) → (a || b) ≡ false → (b ≡ false → b' ≡ false) → (a || b') ≡ false
or-rest true b b' e f = e
or-rest false b b' e f = f e

pub any-push : (p c : ℕ) (ss : List Start) (s : Start) → has_task p c ss ≡ false → is_task p c s ≡ false → has_task p c (ss ++ s ∷ []) ≡ false
any-push p c [] s h k = ap (λ (b : Bool). b || false) k
any-push p c (x ∷ ss) s h k = or-rest (is_task p c x) (has_task p c ss) (has_task p c (ss ++ s ∷ [])) h (λ e. any-push p c ss s e k)

other-core : (p c d : ℕ) → d < c → (eqb p p && eqb d c) ≡ false
other-core p c d l = grind (arith, nat_tests)

abbrev pub add_tasks_of : List Region → ℕ → Draft → List TaskDecl → Draft
add_tasks_of rs locks d [] = d
add_tasks_of rs locks d (t ∷ ts) = add_tasks_of rs locks (add_task_of rs locks d t) ts

ready-free : (v : Bool) (d : Draft) (from n : ℕ) (core : ℕ) → from ≤ core → IsReady v d from (suc n) → IsFree v d core
ready-free v d from n core l h = let f = h.few in record { within = h.within; phase = h.phase; free = h.free core l; few = omega arith }

ready-next : (v : Bool) (rs : List Region) (locks : ℕ) (d : Draft) (from n : ℕ) (t : TaskDecl) → from ≤ t.core.0 → IsReady v d from (suc n) → IsReady v (add_task_of rs locks d t) (t.core.0 + 1) n
ready-next v rs locks d from n t l h =
    let w = h.within in
    let f = h.few in
    let s = start_in d t.core.0 t.entry t.arg in
    let long : length (d.tasks ++ s ∷ []) ≡ length d.tasks + 1 = length-append d.tasks (s ∷ []) in
    record {
      within = record { code = w.code; words = w.words; regions = w.regions; locks = w.locks; phases = w.phases; tasks = omega arith };
      phase = h.phase;
      free = λ c m. any-push d.phases c d.tasks s (h.free c (omega arith)) (other-core d.phases c t.core.0 (omega arith));
      few = omega arith;
    }

module _ (v : Bool) (text : List ℕ) (names : List ℕ → Option Meaning) (rs : List Region) (end : ℕ) (tiled : AreTiled 0 rs end) (most : end ≤ 65536) (named : AreNamed rs) (known : KnowRegions names 0 rs) (ls : List (List ℕ)) (declared : LocksDeclared ls) (locks : KnowLocks names 0 ls) where
  -- the lines of the tasks of a phase
  pub tasks-add : (ts : List TaskDecl) (from : ℕ) (before rest : List ℕ) (place : ℕ) → RiseFrom from 16 ts → AreTaskNumbers ts → place ≡ length before → text ≡ before ++ (text_of (flat_map (task_lines rs ls) ts) ++ rest) → AreShort (flat_map (task_lines rs ls) ts)
      → Adds v text names place (flat_map (task_lines rs ls) ts) (λ d. IsReady v d from (length ts)) (λ d. add_tasks_of rs (length ls) d ts)
  tasks-add [] from before rest place r n s e short = adds-none v text names place (λ d. IsReady v d from 0)
  tasks-add (t ∷ ts) from before rest place r n s e short =
      let a = task_lines rs ls t in
      let b = flat_map (task_lines rs ls) ts in
      let x = task-adds v text names rs end tiled most named known ls declared locks t before (text_of b ++ rest) place r.1 n.0 n.1 n.2 s (front-text text before a b rest e) (short-left a b short) in
      let y = tasks-add ts (t.core.0 + 1) (before ++ text_of a) rest (place + size a) r.2 n.3 (back-place before a place s) (back-text text before a b rest e) (short-right a b short) in
      adds-as v text names place (a ++ b) (λ d. IsFree v d t.core.0 × IsReady v (add_task_of rs (length ls) d t) (t.core.0 + 1) (length ts)) (λ d. IsReady v d from (length (t ∷ ts))) (λ d. add_tasks_of rs (length ls) (add_task_of rs (length ls) d t) ts) (λ d. add_tasks_of rs (length ls) d (t ∷ ts))
      (adds-join v text names place a b (λ d. IsFree v d t.core.0) (λ d. IsReady v d (t.core.0 + 1) (length ts)) (λ d. add_task_of rs (length ls) d t) (λ d. add_tasks_of rs (length ls) d ts) x y)
      (λ d h. (ready-free v d from (length ts) t.core.0 r.0 h, ready-next v rs (length ls) d from (length ts) t r.0 h)) (λ d. refl)
