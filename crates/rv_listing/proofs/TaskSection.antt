-- The line of a task gives the task.
use Rattle.std.proofs.Common.{◌≡◌, ℕ, ◌+◌, ◌%◌, ◌^◌, ◌<◌, ◌≤◌, Bool, true, false, not, cond, eqb, leb, ltb, lt-ltb, ◌&&◌, ◌||◌, List, [], ◌∷◌, ◌++◌, length, Option, Some, None, refl, ap, ◌∙◌, length-append, arith}
use Rattle.std.specs.Prelude.{ℤ, pos, ◌+ℤ◌, int_le}
use Rattle.std.specs.List.{list_any}
use Rattle.std.proofs.lemmas.Bool.Decides.{nat_tests}
use Rattle.std.proofs.lemmas.Bool.{le-leb}
use Rattle.src_text.specs.declared.token.TokenKind.TheVariants.{Number}
use Rattle.rv_assembler.specs.declared.fault.SourceFault as fault
use Rattle.rv_assembler.specs.declared.parsing.Reading.{Reading}
use Rattle.rv_assembler.specs.declared.names.Meaning.{Meaning}
use Rattle.rv_assembler.specs.declared.draft.Draft.{Draft}
use Rattle.rv_assembler.specs.declared.draft.Start.{Start}
use Rattle.rv_assembler.specs.declared.draft.Cores.{Cores}
use Rattle.rv_assembler.specs.declared.statement.Family.{Family}
use Rattle.rv_assembler.specs.declared.statement.Statement as in_statement
use Rattle.rv_assembler.specs.Number.{wrapped, is_within}
use Rattle.rv_assembler.specs.Drafting.{members}
use Rattle.rv_assembler.specs.Adding.{draft_after, total}
use Rattle.rv_assembler.specs.Fault.{entry_far, are_cores, is_on, core_in_use, over_limit}
use Rattle.rv_assembler.specs.Testing.{draft_fault}
use Rattle.rv_assembler.specs.Program.{is_task}
use Rattle.rv_listing.proofs.MoreLines.{total-more}
use Rattle.rv_listing.specs.Statement.{hexadecimal}
use Rattle.rv_listing.proofs.TokenLemmas.{token}
use Rattle.rv_listing.proofs.CodeLemmas.{wrapped-pos}
use Rattle.rv_listing.proofs.ReadLemmas.{sayings}
use Rattle.rv_listing.proofs.RegionSection.{IsWithin, within-limits}

abbrev pub task_family : ℕ → ℕ → ℕ → ℕ → Family
task_family c e a start = record { core = pos c; count = pos 1; entry = token (Number (pos e)) start (hexadecimal e); arg = wrapped (pos a); step = 0 }

-- whether a core has a task in a phase
abbrev pub has_task : ℕ → ℕ → List Start → Bool
has_task phase core tasks = list_any (is_task phase core) tasks

abbrev pub start_in : Draft → ℕ → ℕ → ℕ → Start
start_in d c e a = record { phase = d.phases; core = c; entry = e; arg = a }

abbrev pub cores_from : ℕ → ℕ → Cores
cores_from c n = record { first = c; count = n }

abbrev pub add_task : Draft → ℕ → ℕ → ℕ → Draft
add_task d c e a = record d { tasks = d.tasks ++ start_in d c e a ∷ []; family = cores_from c 1 }

all-true : (a b c : Bool) → a ≡ true → b ≡ true → c ≡ true → (a && b && c) ≡ true
all-true a b c d e f = rw (d, e, f) refl

one-is : wrapped (pos 1) ≡ 1
one-is = wrapped-pos 1 (omega arith)

cores-true : (c e a start : ℕ) → c < 16 → are_cores (task_family c e a start) ≡ true
cores-true c e a start l =
    all-true (int_le (pos 0) (pos c)) (int_le (pos 1) (pos 1)) (int_le (pos c +ℤ pos 1) (pos 16)) (le-leb 0 c (omega arith)) refl (le-leb (c + 1) 16 (omega arith))

entry-near : (e : ℕ) → e % 4 ≡ 0 → e < 2 ^ 32 → entry_far (Number (pos e)) ≡ false
entry-near e m l =
    let b : eqb (e % 4) 0 ≡ true = ap (λ (x : ℕ). eqb x 0) m in
    ap not (all-true (leb 0 e) (ltb e 0x1_0000_0000) (eqb (e % 4) 0) (le-leb 0 e (omega arith)) (lt-ltb e 0x1_0000_0000 (omega arith)) b)

-- a family of one has one core
one-core : (p c : ℕ) (f : Family) (s : Start) → f.core ≡ pos c → f.count ≡ pos 1 → is_on p f s ≡ is_task p c s
one-core p c f s d e = ap (λ (z : ℤ). eqb s.phase p && is_within z (z +ℤ f.count) (pos s.core)) d ∙ ap (λ (z : ℤ). eqb s.phase p && is_within (pos c) (pos c +ℤ z) (pos s.core)) e ∙ ap (λ (b : Bool). eqb s.phase p && b) (same (leb c s.core && ltb s.core (c + 1)) (eqb s.core c) refl refl)
  where
    same : (a b : Bool) → (leb c s.core && ltb s.core (c + 1)) ≡ a → eqb s.core c ≡ b → a ≡ b
    same a b g h = grind (arith, nat_tests)

one-taken : (p c : ℕ) (f : Family) (ss : List Start) → f.core ≡ pos c → f.count ≡ pos 1 → core_in_use ss p f ≡ has_task p c ss
one-taken p c f [] d e = refl
one-taken p c f (s ∷ ss) d e = ap (λ (b : Bool). b || core_in_use ss p f) (one-core p c f s d e) ∙ ap (λ (b : Bool). is_task p c s || b) (one-taken p c f ss d e)

module _ (v : Bool) (text : List ℕ) (names : List ℕ → Option Meaning) (d : Draft) (c e a start : ℕ) (core : c < 16) (whole : e % 4 ≡ 0) (entry : e < 2 ^ 32) (arg : a < 2 ^ 32) (phase : eqb d.phases 0 ≡ false) (free : has_task d.phases c d.tasks ≡ false) where
  not-taken : core_in_use d.tasks d.phases (task_family c e a start) ≡ false
  not-taken = one-taken d.phases c (task_family c e a start) d.tasks refl refl ∙ free

  task-fault : (n : ℕ) → draft_fault text names d (record { line = n; label = None; statement = in_statement.TheVariants.Tasks (task_family c e a start) }) ≡ None
  task-fault n =
      let rest = cond (eqb d.phases 0 || core_in_use d.tasks d.phases (task_family c e a start)) (Some (fault.TheVariants.Misplaced n)) None in
      ap (λ (b : Bool). cond (not b || entry_far (Number (pos e))) (Some (fault.TheVariants.OutOfRange n)) rest) (cores-true c e a start core)
      ∙ ap (λ (b : Bool). cond b (Some (fault.TheVariants.OutOfRange n)) rest) (entry-near e whole entry)
      ∙ ap (λ (b : Bool). cond (b || core_in_use d.tasks d.phases (task_family c e a start)) (Some (fault.TheVariants.Misplaced n)) None) phase
      ∙ ap (λ (b : Bool). cond b (Some (fault.TheVariants.Misplaced n)) None) not-taken

  after-task : draft_after text names d (in_statement.TheVariants.Tasks (task_family c e a start)) ≡ add_task d c e a
  after-task =
      let first : ℕ → ℕ → ℕ → Start = λ x y z. record { phase = d.phases; core = x; entry = y; arg = z } in
      let same : wrapped (pos a) % 2 ^ 32 ≡ a = omega arith in
      ap (λ (n : ℕ). record d { tasks = d.tasks ++ members (first (wrapped (pos c)) (wrapped (pos e)) (wrapped (pos a) % 2 ^ 32)) 0 n; family = cores_from (wrapped (pos c)) n }) one-is
      ∙ ap (λ (x : ℕ). record d { tasks = d.tasks ++ first x (wrapped (pos e)) (wrapped (pos a) % 2 ^ 32) ∷ []; family = cores_from x 1 }) (wrapped-pos c (omega arith))
      ∙ ap (λ (x : ℕ). record d { tasks = d.tasks ++ first c x (wrapped (pos a) % 2 ^ 32) ∷ []; family = cores_from c 1 }) (wrapped-pos e entry)
      ∙ ap (λ (x : ℕ). record d { tasks = d.tasks ++ first c e x ∷ []; family = cores_from c 1 }) same

  -- one task more
  pub total-task : (n : ℕ) (rs : List Reading) → length d.tasks + 1 ≤ 64 → IsWithin v d → total v text names d (sayings n (in_statement.TheVariants.Tasks (task_family c e a start) ∷ []) ++ rs) ≡ total v text names (add_task d c e a) rs
  total-task n rs few w =
      let more' : length (d.tasks ++ start_in d c e a ∷ []) ≡ length d.tasks + 1 = length-append d.tasks (start_in d c e a ∷ []) in
      let next : IsWithin v (add_task d c e a) = record { code = w.code; words = w.words; regions = w.regions; locks = w.locks; phases = w.phases; tasks = omega arith } in
      total-more v text names d (record { line = n; label = None; statement = in_statement.TheVariants.Tasks (task_family c e a start) }) rs (task-fault n) (ap (over_limit v) after-task ∙ within-limits v (add_task d c e a) next)
      ∙ ap (λ (y : Draft). total v text names y rs) after-task
