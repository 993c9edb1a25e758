-- Each task of a text's program has a place in the text, and its argument is a number of 32 bits.
use Rattle.std.proofs.Common.{◌≡◌, ◌⊎◌, inl, inr, ℕ, zero, suc, ◌+◌, ◌-◌, ◌*◌, ◌^◌, ◌<◌, ◌==◌, Bool, true, false, ◌||◌, cond, List, [], ◌∷◌, ◌++◌, map, filter_map, flat_map, find, get_or, slice_get, length, Option, Some, None, Ok, option_map, is_some, refl, sym, ap, subst, ◌∙◌, ⊎_elim, arith}
use Rattle.std.specs.List.{IsAmong, range_with_len, cons_option, list_any}
use Rattle.std.proofs.lemmas.Bool.{true≢false, and_parts, and_from, or_cases, or_left, or_right, eqb-true, eq-eqb}
use Rattle.std.proofs.lemmas.Nat.{mod_below}
use Rattle.std.proofs.lemmas.Option.{none-some, same_Some}
use Rattle.region_table.specs.declared.declared.TaskDecl.{TaskDecl}
use Rattle.region_table.specs.declared.declared.Phase.{Phase}
use Rattle.region_table.specs.Program.{ProgramParts}
use Rattle.rv_assembler.specs.declared.statement.Statement.{Statement}
use Rattle.rv_assembler.specs.declared.statement.Statement as statement
use Rattle.rv_assembler.specs.declared.parsing.Saying.{Saying}
use Rattle.rv_assembler.specs.declared.names.Meaning.{Meaning}
use Rattle.rv_assembler.specs.declared.draft.Start.{Start}
use Rattle.rv_assembler.specs.declared.draft.Draft.{Draft}
use Rattle.rv_assembler.specs.Number.{natural_of}
use Rattle.rv_assembler.specs.Named.{task_entry}
use Rattle.rv_assembler.specs.Rows.{start_at}
use Rattle.rv_assembler.specs.Placed.{Placed, placed}
use Rattle.rv_assembler.specs.Counts.{phases_in}
use Rattle.rv_assembler.specs.Declarations.{meaning_of}
use Rattle.rv_assembler.specs.Tables.{tasks_by, tasks_at, tables}
use Rattle.rv_assembler.specs.Program.{task_of, is_task, task_at, phase_of, program_of}
use Rattle.rv_assembler.specs.Source.{sayings, readings, source}
use Rattle.text_places.specs.Places.{each_part, places_at, task_place, text_places}
use Rattle.text_places.specs.Words.{is_task_of}
use Rattle.text_places.proofs.PlaceLemmas.{has-program}

-- ---- lists

range-item : {X : Type 0} (f : ℕ → X) (n first k : ℕ) (x : X) → slice_get (map f (range_with_len first n)) k ≡ Some x → x ≡ f (first + k)
range-item f zero first k x e = absurd (none-some x e)
range-item f (suc n) first zero x e = let same : first ≡ first + 0 = omega arith in sym (same_Some (f first) x e) ∙ ap f same
range-item f (suc n) first (suc k) x e =
    let same : first + 1 + k ≡ first + suc k = omega arith in range-item f n (first + 1) k x e ∙ ap f same

-- an item of what is mapped comes from one of the items
module _ {X Y : Type 0} (h : X → Option Y) (y : Y) where
  abbrev Comes : List X → Type 0
  Comes xs = (i : ℕ) → i < length (filter_map h xs) → y ≡ get_or (filter_map h xs) i y → (x : X) × (h x ≡ Some y)

  comes-from : (xs : List X) → Comes xs
  comes-from [] i within is = absurd (omega (arith, within))
  comes-from (x ∷ xs) i within is = by_first (h x) refl (comes-from xs) i within is where
    by_first : (o : Option Y) → h x ≡ o → Comes xs → (i : ℕ) → i < length (cons_option o (filter_map h xs)) → y ≡ get_or (cons_option o (filter_map h xs)) i y
        → (x : X) × (h x ≡ Some y)
    by_first None e later i within is = later i within is
    by_first (Some z) e later zero within is = (x, e ∙ ap Some (sym is))
    by_first (Some z) e later (suc i) within is = later i (omega (arith, within)) is

module _ {X : Type 0} (p : X → Bool) where
  any-left : (xs ys : List X) → list_any p xs ≡ true → list_any p (xs ++ ys) ≡ true
  any-left [] ys e = absurd (true≢false (sym e))
  any-left (x ∷ xs) ys e =
      ⊎_elim (λ here. or_left (p x) (list_any p (xs ++ ys)) here) (λ behind. or_right (p x) (list_any p (xs ++ ys)) (any-left xs ys behind))
      (or_cases (p x) (list_any p xs) e)

  any-right : (xs ys : List X) → list_any p ys ≡ true → list_any p (xs ++ ys) ≡ true
  any-right [] ys e = e
  any-right (x ∷ xs) ys e = or_right (p x) (list_any p (xs ++ ys)) (any-right xs ys e)

  any-cases : (xs ys : List X) → list_any p (xs ++ ys) ≡ true → (list_any p xs ≡ true) ⊎ (list_any p ys ≡ true)
  any-cases [] ys e = inr e
  any-cases (x ∷ xs) ys e =
      ⊎_elim (λ here. inl (or_left (p x) (list_any p xs) here))
      (λ behind. ⊎_elim (λ left. inl (or_right (p x) (list_any p xs) left)) (λ right. inr right) (any-cases xs ys behind))
      (or_cases (p x) (list_any p (xs ++ ys)) e)

  any-found : (xs : List X) → list_any p xs ≡ true → is_some (find p xs) ≡ true
  any-found [] e = e
  any-found (x ∷ xs) e = by_test (p x) e (any-found xs) where
    by_test : (b : Bool) → (b || list_any p xs) ≡ true → (list_any p xs ≡ true → is_some (find p xs) ≡ true) → is_some (cond b (Some x) (find p xs)) ≡ true
    by_test true e later = refl
    by_test false e later = later e

  found-any : (xs : List X) (x : X) → find p xs ≡ Some x → (p x ≡ true) × (list_any p xs ≡ true)
  found-any [] x e = absurd (none-some x e)
  found-any (y ∷ xs) x e = by_test (p y) refl e (found-any xs x) where
    by_test : (b : Bool) → p y ≡ b → cond b (Some y) (find p xs) ≡ Some x → (find p xs ≡ Some x → (p x ≡ true) × (list_any p xs ≡ true))
        → (p x ≡ true) × ((b || list_any p xs) ≡ true)
    by_test true is e later = (subst (λ (z : X). p z ≡ true) (same_Some y x e) is, refl)
    by_test false is e later = later e

-- ---- the places of tasks

-- tasks of a phase, which tables number from 1, and their places
module _ (k core : ℕ) where
  place-of : (line part : ℕ) (t : Start) → is_task (1 + k) core t ≡ true → is_task_of k core (task_place line part t) ≡ true
  place-of line part t e =
      let both = and_parts (t.phase == 1 + k) (t.core == core) e in
      let number = eqb-true t.phase (1 + k) both.0 in
      and_from (t.phase - 1 == k) (t.core == core) (eq-eqb (t.phase - 1) k (omega (arith, number))) both.1

  parts-of : (line part : ℕ) (ts : List Start) → list_any (is_task (1 + k) core) ts ≡ true → list_any (is_task_of k core) (each_part (task_place line) part ts) ≡ true
  parts-of line part [] e = absurd (true≢false (sym e))
  parts-of line part (t ∷ ts) e =
      let here = is_task_of k core (task_place line part t) in
      let behind = list_any (is_task_of k core) (each_part (task_place line) (part + 1) ts) in
      ⊎_elim (λ first. or_left here behind (place-of line part t first)) (λ later. or_right here behind (parts-of line (part + 1) ts later))
      (or_cases (is_task (1 + k) core t) (list_any (is_task (1 + k) core) ts) e)

  places-of : (rows : Placed Saying → List Start) (ps : List (Placed Saying)) → list_any (is_task (1 + k) core) (flat_map rows ps) ≡ true
      → list_any (is_task_of k core) (flat_map (places_at rows task_place) ps) ≡ true
  places-of rows [] e = absurd (true≢false (sym e))
  places-of rows (p ∷ ps) e =
      let here = places_at rows task_place p in
      let behind = flat_map (places_at rows task_place) ps in
      ⊎_elim (λ first. any-left (is_task_of k core) here behind (parts-of p.here.line 0 (rows p) first))
      (λ later. any-right (is_task_of k core) here behind (places-of rows ps later))
      (any-cases (is_task (1 + k) core) (rows p) (flat_map rows ps) e)

-- ---- the arguments of tasks

abbrev AreSmallStarts : List Start → Type 0
AreSmallStarts [] = Unit {0}
AreSmallStarts (t ∷ ts) = (t.arg < 2 ^ 32) × AreSmallStarts ts

starts-append : (xs ys : List Start) → AreSmallStarts xs → AreSmallStarts ys → AreSmallStarts (xs ++ ys)
starts-append [] ys h k = k
starts-append (x ∷ xs) ys h k = (h.0, starts-append xs ys h.1 k)

family-small : (first : Start) (step : ℕ) (is : List ℕ) → AreSmallStarts (map (start_at first step) is)
family-small first step [] = tt
family-small first step (i ∷ is) = (mod_below (first.arg + i * step) (2 ^ 32) (omega arith), family-small first step is)

module _ (text : List ℕ) (names : List ℕ → Option Meaning) where
  statement-small : (phase : ℕ) (st : Statement) → AreSmallStarts (tasks_by text names phase st)
  statement-small phase (statement.TheVariants.Tasks f) =
      family-small (record { phase = phase; core = natural_of f.core; entry = task_entry text names f.entry; arg = f.arg }) f.step (range_with_len 0 (natural_of f.count))
  statement-small phase statement.TheVariants.Nothing = tt
  statement-small phase (statement.TheVariants.Instruction c) = tt
  statement-small phase (statement.TheVariants.Region name len) = tt
  statement-small phase (statement.TheVariants.Word region index value) = tt
  statement-small phase (statement.TheVariants.Lock name) = tt
  statement-small phase statement.TheVariants.Phase = tt
  statement-small phase (statement.TheVariants.Uses e) = tt

  lines-small : (ps : List (Placed Saying)) → AreSmallStarts (flat_map (tasks_at text names) ps)
  lines-small [] = tt
  lines-small (p ∷ ps) = starts-append (tasks_at text names p) (flat_map (tasks_at text names) ps) (statement-small (phases_in p.before) p.here.statement) (lines-small ps)

found-small : (p : Start → Bool) (ts : List Start) (t : Start) → AreSmallStarts ts → find p ts ≡ Some t → t.arg < 2 ^ 32
found-small p [] t h e = absurd (none-some t e)
found-small p (s ∷ ts) t h e = by_test (p s) e (found-small p ts t h.1) where
  by_test : (b : Bool) → cond b (Some s) (find p ts) ≡ Some t → (find p ts ≡ Some t → t.arg < 2 ^ 32) → t.arg < 2 ^ 32
  by_test true e later = subst (λ (x : Start). x.arg < 2 ^ 32) (same_Some s t e) h.0
  by_test false e later = later e

-- ---- a task of a program

-- the row of the tables that a task of a phase comes from
record IsStarted (d : Draft) (k : ℕ) (t : TaskDecl) : Type 0 where
  start : Start
  found : find (is_task (1 + k) t.core.0) d.tasks ≡ Some start
  arg : t.arg ≡ start.arg

by-row : (d : Draft) (k core : ℕ) (t : TaskDecl) → task_at (length d.locks) d.claims d.tasks (1 + k) core ≡ Some t → IsStarted d k t
by-row d k core t e = by_found (find (is_task (1 + k) core) d.tasks) refl e where
  by_found : (o : Option Start) → find (is_task (1 + k) core) d.tasks ≡ o → option_map (task_of (length d.locks) d.claims) o ≡ Some t → IsStarted d k t
  by_found None is e = absurd (none-some t e)
  by_found (Some s) is e =
      let same = same_Some (task_of (length d.locks) d.claims s) t e in
      let test = and_parts (s.phase == 1 + k) (s.core == core) (found-any (is_task (1 + k) core) d.tasks s is).0 in
      let own : core ≡ t.core.0 = sym (eqb-true s.core core test.1) ∙ ap (λ (x : TaskDecl). x.core.0) same in
      record {
        start = s;
        found = subst (λ (c : ℕ). find (is_task (1 + k) c) d.tasks ≡ Some s) own is;
        arg = ap (λ (x : TaskDecl). x.arg) (sym same);
      }

task-started : (d : Draft) (k : ℕ) (p : Phase) (t : TaskDecl) → slice_get (program_of d).phases k ≡ Some p → IsAmong p.tasks t → IsStarted d k t
task-started d k p t there among =
    let phase : p ≡ phase_of (length d.locks) d.claims d.tasks (1 + k) = range-item (phase_of (length d.locks) d.claims d.tasks) d.phases 1 k p there in
    let tasks = subst (λ (q : Phase). IsAmong q.tasks t) phase among in
    let comes = comes-from (task_at (length d.locks) d.claims d.tasks (1 + k)) t (range_with_len 0 16) tasks.0 tasks.1.0 tasks.1.1 in
    by-row d k comes.0 t comes.1

module _ (text : List ℕ) (P : ProgramParts) (is : source text ≡ Ok P) (k : ℕ) (p : Phase) (t : TaskDecl) (there : slice_get P.phases k ≡ Some p) (among : IsAmong p.tasks t) where
  abbrev names : List ℕ → Option Meaning
  names = meaning_of text (sayings (readings text))

  abbrev draft : Draft
  draft = tables text names (sayings (readings text))

  started : IsStarted draft k t
  started = task-started draft k p t (subst (λ (Q : ProgramParts). slice_get Q.phases k ≡ Some p) (sym (has-program text P is).program) there) among

  pub has-place : is_some (find (is_task_of k t.core.0) (text_places text).tasks) ≡ true
  has-place =
      any-found (is_task_of k t.core.0) (text_places text).tasks
      (places-of k t.core.0 (tasks_at text names) (placed (sayings (readings text))) (found-any (is_task (1 + k) t.core.0) draft.tasks started.start started.found).1)

  pub small-argument : t.arg < 2 ^ 32
  small-argument =
      subst (λ (n : ℕ). n < 2 ^ 32) (sym started.arg)
      (found-small (is_task (1 + k) t.core.0) draft.tasks started.start (lines-small text names (placed (sayings (readings text)))) started.found)
