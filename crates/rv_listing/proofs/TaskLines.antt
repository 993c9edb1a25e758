-- The lines of tasks and phases.
use Rattle.std.proofs.Common.{◌≡◌, ℕ, ◌+◌, ◌%◌, ◌^◌, ◌<◌, ◌≤◌, Bool, false, eqb, List, [], ◌∷◌, ◌++◌, length, Option, refl, length-append, codes, arith}
use Rattle.std.specs.Prelude.{pos}
use Rattle.std.specs.Fmt.{decimal}
use Rattle.region_table.specs.declared.declared.Region.{Region}
use Rattle.region_table.specs.declared.declared.TaskDecl.{TaskDecl}
use Rattle.region_table.specs.Program.{AreTiled}
use Rattle.rv_assembler.specs.declared.names.Meaning.{Meaning}
use Rattle.rv_assembler.specs.declared.draft.Draft.{Draft}
use Rattle.rv_assembler.specs.declared.statement.Statement as in_statement
use Rattle.rv_listing.specs.Statement.{hexadecimal, statement}
use Rattle.rv_listing.specs.Listing.{text_of, task_line, task_lines, effect_lines}
use Rattle.rv_listing.proofs.TokenLemmas.{IsGoodLine, statement-good}
use Rattle.rv_listing.proofs.KindLemmas.{task-kind}
use Rattle.rv_listing.proofs.CodeLemmas.{num, hex, num-op, hex-op}
use Rattle.rv_listing.proofs.CodeSection.{AreShort}
use Rattle.rv_listing.proofs.DirectiveLemmas.{nm, task-said}
use Rattle.rv_listing.proofs.DeclarationLemmas.{KnowRegions, KnowLocks}
use Rattle.rv_listing.proofs.RegionSection.{IsWithin}
use Rattle.rv_listing.proofs.TaskSection.{has_task, task_family, start_in, add_task, total-task}
use Rattle.rv_listing.proofs.TaskEffects.{task_claims}
use Rattle.rv_listing.proofs.SetLines.{IsUsing, AreNamed}
use Rattle.rv_listing.proofs.ValueLines.{behind-line, behind-lines, behind-size}
use Rattle.rv_listing.proofs.GuardedLines.{LocksDeclared, more_claims, effects-add}
use Rattle.rv_listing.proofs.AddsLemmas.{Adds, size, adds-join, adds-as, adds-one}

task-good : (t : TaskDecl) → t.core.0 < 2 ^ 32 → t.entry < 2 ^ 32 → t.arg < 2 ^ 32 → IsGoodLine (task_line t)
unfolding task_line
task-good t h l m = statement-good (nm (codes ".task")) (num (pos t.core.0) ∷ hex t.entry ∷ hex t.arg ∷ []) task-kind.op (num-op (pos t.core.0) h, (hex-op t.entry l, (hex-op t.arg m, tt)))

-- the task may be added: there is a phase, and the core has no task in it
pub record IsFree (v : Bool) (d : Draft) (core : ℕ) : Type 0 where
  pub within : IsWithin v d
  pub phase : eqb d.phases 0 ≡ false
  pub free : has_task d.phases core d.tasks ≡ false
  pub few : length d.tasks + 1 ≤ 64

using-task : (v : Bool) (d : Draft) (c e a : ℕ) → IsFree v d c → IsUsing v (add_task d c e a)
using-task v d c e a h =
    let w = h.within in
    let n : length (d.tasks ++ start_in d c e a ∷ []) ≡ length d.tasks + 1 = length-append d.tasks (start_in d c e a ∷ []) in
    let f = h.few in
    record { within = record { code = w.code; words = w.words; regions = w.regions; locks = w.locks; phases = w.phases; tasks = omega arith }; one = refl }

-- a draft with a task and what it claims
abbrev pub add_task_of : List Region → ℕ → Draft → TaskDecl → Draft
add_task_of rs locks d t = more_claims (add_task d t.core.0 t.entry t.arg) (λ p c. task_claims rs p c t.effects locks)

module _ (v : Bool) (text : List ℕ) (names : List ℕ → Option Meaning) (rs : List Region) (end : ℕ) (tiled : AreTiled 0 rs end) (most : end ≤ 65536) (named : AreNamed rs) (known : KnowRegions names 0 rs) (ls : List (List ℕ)) (declared : LocksDeclared ls) (locks : KnowLocks names 0 ls) where
  start-adds : (t : TaskDecl) (before rest : List ℕ) (place : ℕ) → t.core.0 < 16 → t.entry % 4 ≡ 0 → t.entry < 2 ^ 32 → t.arg < 2 ^ 32 → place ≡ length before → text ≡ before ++ (task_line t ++ rest) → length (task_line t) ≤ 1024
      → Adds v text names place (task_line t ∷ []) (λ d. IsFree v d t.core.0) (λ d. add_task d t.core.0 t.entry t.arg)
  unfolding task_line
  start-adds t before rest place c w en ar s e short =
      let said = task-said text before rest place s t.core.0 t.entry t.arg (omega arith) en ar e in
      adds-one v text names place (statement (codes ".task") (decimal t.core.0 ∷ hexadecimal t.entry ∷ hexadecimal t.arg ∷ [])) (in_statement.TheVariants.Tasks (task_family t.core.0 t.entry t.arg said.0)) (λ d. IsFree v d t.core.0) (λ d. add_task d t.core.0 t.entry t.arg)
      (task-good t (omega arith) en ar) short said.1
      (λ d n left h. total-task v text names d t.core.0 t.entry t.arg said.0 c w en ar h.phase h.free n left h.few h.within) (λ c' q n left. refl)

  -- the lines of a task
  pub task-adds : (t : TaskDecl) (before rest : List ℕ) (place : ℕ) → t.core.0 < 16 → t.entry % 4 ≡ 0 → t.entry < 2 ^ 32 → t.arg < 2 ^ 32 → place ≡ length before → text ≡ before ++ (text_of (task_lines rs ls t) ++ rest) → AreShort (task_lines rs ls t)
      → Adds v text names place (task_lines rs ls t) (λ d. IsFree v d t.core.0) (λ d. add_task_of rs (length ls) d t)
  task-adds t before rest place c w en ar s e short =
      let line = task_line t in
      let lines = effect_lines rs ls t.effects in
      let x = start-adds t before (10 ∷ (text_of lines ++ rest)) place c w en ar s (behind-line text before line lines rest e) short.0 in
      let y = effects-add v text names rs end tiled most named known t.effects ls (before ++ (line ++ 10 ∷ [])) rest (place + size (line ∷ [])) declared locks (behind-size before line place s) (behind-lines text before line lines rest e) short.1 in
      adds-as v text names place (line ∷ lines) (λ d. IsFree v d t.core.0 × IsUsing v (add_task d t.core.0 t.entry t.arg)) (λ d. IsFree v d t.core.0) (λ d. add_task_of rs (length ls) d t) (λ d. add_task_of rs (length ls) d t)
      (adds-join v text names place (line ∷ []) lines (λ d. IsFree v d t.core.0) (IsUsing v) (λ d. add_task d t.core.0 t.entry t.arg) (λ d. more_claims d (λ p o. task_claims rs p o t.effects (length ls))) x y)
      (λ d h. (h, using-task v d t.core.0 t.entry t.arg h)) (λ d. refl)
