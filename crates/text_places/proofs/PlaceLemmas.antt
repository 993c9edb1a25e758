-- The code's way to the places of a text without a fault is the definition's.
use Rattle.std.proofs.Common.{◌≡◌, ℕ, zero, suc, ◌+◌, ◌-◌, ◌<◌, ◌≤◌, Bool, true, false, cond, nat_lt, List, [], ◌∷◌, ◌++◌, length, map, Option, Some, None, Result, Ok, Err, IfOk, refl, sym, ap, ◌∙◌, subst, append_assoc, append-nil, length-append, filter_map, flat_map, arith}
use Rattle.std.specs.List.{range_with_len, cons_option}
use Rattle.std.proofs.lemmas.List.Elements.{filter_map-append}
use Rattle.std.proofs.lemmas.Bool.Decides.{nat_tests}
use Rattle.std.proofs.lemmas.List.Sums.{sum_by-cons}
use Rattle.src_text.specs.declared.token.Token.{Token}
use Rattle.src_text.specs.Line.{lines_of}
use Rattle.region_table.specs.Program.{ProgramParts}
use Rattle.rv_assembler.specs.declared.fault.SourceFault.{SourceFault}
use Rattle.rv_assembler.specs.declared.fault.SourceFault as fault
use Rattle.rv_assembler.specs.declared.statement.Statement.{Statement}
use Rattle.rv_assembler.specs.declared.statement.Statement as statement
use Rattle.rv_assembler.specs.declared.parsing.Saying.{Saying}
use Rattle.rv_assembler.specs.declared.parsing.Reading.{Reading}
use Rattle.rv_assembler.specs.declared.parsing.Reading.TheVariants.{Bad, Good}
use Rattle.rv_assembler.specs.declared.names.Meaning.{Meaning}
use Rattle.rv_assembler.specs.declared.draft.Start.{Start}
use Rattle.rv_assembler.specs.Number.{natural_of, wrapped}
use Rattle.rv_assembler.specs.Size.{code_word_count}
use Rattle.rv_assembler.specs.Gathering.{more}
use Rattle.rv_assembler.specs.Emission.{emission, words_in}
use Rattle.rv_assembler.specs.Named.{task_entry}
use Rattle.rv_assembler.specs.Rows.{start_at, starts}
use Rattle.rv_assembler.specs.Placed.{placed_behind}
use Rattle.rv_assembler.specs.Counts.{code_words, is_phase, phases_in}
use Rattle.rv_assembler.specs.Declarations.{meaning_of}
use Rattle.rv_assembler.specs.Tables.{placed_code, region_at, lock_name_at, tasks_at, tables}
use Rattle.rv_assembler.specs.Reading.{version_line}
use Rattle.rv_assembler.specs.Fault.{out_of_range, doubled, unknown, misplaced, early_fault, limit_fault}
use Rattle.rv_assembler.specs.Program.{program_of}
use Rattle.rv_assembler.specs.Source.{good, sayings, readings, line_fault, fault_at, faults, without_faults, source}
use Rattle.rv_assembler.proofs.TableLemmas.{tally, place, table-more, table-same}
use Rattle.rv_assembler.proofs.RangeLemmas.{family-cores}
use Rattle.rv_assembler.proofs.UseLemmas.{both-none}
use Rattle.text_places.specs.declared.places.CodePlace.{CodePlace}
use Rattle.text_places.specs.declared.places.TaskPlace.{TaskPlace}
use Rattle.text_places.specs.declared.places.Places.{Places}
use Rattle.text_places.specs.Places.{each_part, places_at, places_of, code_place, own_line, task_place, phase_row, places_among, text_places}
use Rattle.text_places.specs.Walk.{no_places, code_parts, task_parts, with_statement, with_readings}
use Rattle.text_places.proofs.SizeLemmas.{code-size}

-- ---- the places of one line

parts-code : (line k : ℕ) (words : List ℕ) → each_part (code_place line) k words ≡ code_parts line k (length words)
parts-code line k [] = refl
parts-code line k (w ∷ ws) = ap (λ (ps : List CodePlace). code_place line k w ∷ ps) (parts-code line (k + 1) ws)

module _ (line : ℕ) (t : Start) (step : ℕ) (phase first : ℕ) (number : t.phase - 1 ≡ phase) (from : t.core ≡ first) where
  parts-tasks : (n k : ℕ) → first + k + n ≤ 16 → each_part (task_place line) k (map (start_at t step) (range_with_len k n)) ≡ task_parts phase line first k n
  parts-tasks zero k few = refl
  parts-tasks (suc n) k few =
      let core : t.core + k ≡ more first k = omega arith in
      let here : TaskPlace = record { phase = phase; core = more first k; line = line; part = k } in
      (λ i. record { phase = number i; core = core i; line = line; part = k } ∷ each_part (task_place line) (k + 1) (map (start_at t step) (range_with_len (k + 1) n)))
      ∙ ap (λ (ts : List TaskPlace). here ∷ ts) (parts-tasks n (k + 1) (omega arith))

-- one more of them
pub code_step : (line part : ℕ) (done : List CodePlace) (n k : ℕ) (all : List CodePlace) → n ≡ suc k → done ++ code_parts line part n ≡ all → (done ++ record { line = line; part = part } ∷ []) ++ code_parts line (part + 1) k ≡ all
code_step line part done n k all e h =
    let s : done ++ code_parts line part (suc k) ≡ all = rw e at h in append_assoc done (record { line = line; part = part } ∷ []) (code_parts line (part + 1) k) ∙ s

pub task_step : (phase line first part : ℕ) (done : List TaskPlace) (n k : ℕ) (all : List TaskPlace) → n ≡ suc k → done ++ task_parts phase line first part n ≡ all
    → (done ++ record { phase = phase; core = more first part; line = line; part = part } ∷ []) ++ task_parts phase line first (part + 1) k ≡ all
task_step phase line first part done n k all e h =
    let s : done ++ task_parts phase line first part (suc k) ≡ all = rw e at h in
    append_assoc done (record { phase = phase; core = more first part; line = line; part = part } ∷ []) (task_parts phase line first (part + 1) k) ∙ s

-- ---- the phases

phases-behind : (before ss : List Saying) → length (flat_map (places_at phase_row own_line) (placed_behind before ss)) ≡ phases_in ss
phases-behind before [] = refl
phases-behind before (s ∷ ss) =
    let rest = phases-behind (before ++ s ∷ []) ss in
    let one : length (places_at phase_row own_line (place before s)) ≡ tally (is_phase s.statement) = by_statement s.statement in
    let all = length-append (places_at phase_row own_line (place before s)) (flat_map (places_at phase_row own_line) (placed_behind (before ++ s ∷ []) ss)) in
    let count : phases_in (s ∷ ss) ≡ tally (is_phase s.statement) + phases_in ss = sum_by-cons (λ (s : Saying). tally (is_phase s.statement)) s ss in
    omega arith
  where
    by_statement : (st : Statement) → length (places_at phase_row own_line (place before (record s { statement = st }))) ≡ tally (is_phase st)
    by_statement statement.TheVariants.Phase = refl
    by_statement statement.TheVariants.Nothing = refl
    by_statement (statement.TheVariants.Instruction k) = refl
    by_statement (statement.TheVariants.Region name len) = refl
    by_statement (statement.TheVariants.Word region index value) = refl
    by_statement (statement.TheVariants.Lock name) = refl
    by_statement (statement.TheVariants.Tasks f) = refl
    by_statement (statement.TheVariants.Uses e) = refl

pub phase-count : (ss : List Saying) → length (places_of phase_row own_line ss) ≡ phases_in ss
phase-count ss = phases-behind [] ss

-- ---- one line more

first-none : {X : Type 0} (a b c e : Bool) (w x y z : X) → (cond a (Some w) (cond b (Some x) (cond c (Some y) (cond e (Some z) None)))) ≡ None → (a ≡ false) × (c ≡ false)
first-none true b c e w x y z h = absurd cc
first-none false true c e w x y z h = absurd cc
first-none false false true e w x y z h = absurd cc
first-none false false false e w x y z h = (refl, refl)

module _ (text : List ℕ) (names : List ℕ → Option Meaning) (ss : List Saying) (line : ℕ) (label : Option Token) where
  abbrev said : Statement → Saying
  said st = record { line = line; label = label; statement = st }

  abbrev fits : Statement → Type 0
  fits st = (out_of_range text names (tables text names ss) st ≡ false) × (unknown text names (code_words ss) st ≡ false)

  pub places-more : (st : Statement) → fits st → places_among text names (ss ++ said st ∷ []) ≡ with_statement (places_among text names ss) line st
  places-more statement.TheVariants.Nothing h =
      let s = said statement.TheVariants.Nothing in
      λ i. record {
        code = table-same (places_at (placed_code text names) code_place) ss s refl i;
        regions = table-same (places_at (region_at text) own_line) ss s refl i;
        locks = table-same (places_at (lock_name_at text) own_line) ss s refl i;
        phases = table-same (places_at phase_row own_line) ss s refl i;
        tasks = table-same (places_at (tasks_at text names) task_place) ss s refl i;
      }
  places-more (statement.TheVariants.Instruction k) h =
      let s = said (statement.TheVariants.Instruction k) in
      let words : List ℕ = words_in (emission text names (code_words ss) k) in
      let size : length words ≡ code_word_count k = code-size text names (code_words ss) k h.0 h.1 in
      let parts : each_part (code_place line) 0 words ≡ code_parts line 0 (code_word_count k) = parts-code line 0 words ∙ ap (code_parts line 0) size in
      let done : List CodePlace = places_of (placed_code text names) code_place ss in
      let longer : places_of (placed_code text names) code_place (ss ++ s ∷ []) ≡ done ++ code_parts line 0 (code_word_count k) =
      table-more (places_at (placed_code text names) code_place) ss s ∙ ap (λ (ps : List CodePlace). done ++ ps) parts in
      λ i. record {
        code = longer i;
        regions = table-same (places_at (region_at text) own_line) ss s refl i;
        locks = table-same (places_at (lock_name_at text) own_line) ss s refl i;
        phases = table-same (places_at phase_row own_line) ss s refl i;
        tasks = table-same (places_at (tasks_at text names) task_place) ss s refl i;
      }
  places-more (statement.TheVariants.Region name len) h =
      let s = said (statement.TheVariants.Region name len) in
      λ i. record {
        code = table-same (places_at (placed_code text names) code_place) ss s refl i;
        regions = table-more (places_at (region_at text) own_line) ss s i;
        locks = table-same (places_at (lock_name_at text) own_line) ss s refl i;
        phases = table-same (places_at phase_row own_line) ss s refl i;
        tasks = table-same (places_at (tasks_at text names) task_place) ss s refl i;
      }
  places-more (statement.TheVariants.Word region index value) h =
      let s = said (statement.TheVariants.Word region index value) in
      λ i. record {
        code = table-same (places_at (placed_code text names) code_place) ss s refl i;
        regions = table-same (places_at (region_at text) own_line) ss s refl i;
        locks = table-same (places_at (lock_name_at text) own_line) ss s refl i;
        phases = table-same (places_at phase_row own_line) ss s refl i;
        tasks = table-same (places_at (tasks_at text names) task_place) ss s refl i;
      }
  places-more (statement.TheVariants.Lock name) h =
      let s = said (statement.TheVariants.Lock name) in
      λ i. record {
        code = table-same (places_at (placed_code text names) code_place) ss s refl i;
        regions = table-same (places_at (region_at text) own_line) ss s refl i;
        locks = table-more (places_at (lock_name_at text) own_line) ss s i;
        phases = table-same (places_at phase_row own_line) ss s refl i;
        tasks = table-same (places_at (tasks_at text names) task_place) ss s refl i;
      }
  places-more statement.TheVariants.Phase h =
      let s = said statement.TheVariants.Phase in
      λ i. record {
        code = table-same (places_at (placed_code text names) code_place) ss s refl i;
        regions = table-same (places_at (region_at text) own_line) ss s refl i;
        locks = table-same (places_at (lock_name_at text) own_line) ss s refl i;
        phases = table-more (places_at phase_row own_line) ss s i;
        tasks = table-same (places_at (tasks_at text names) task_place) ss s refl i;
      }
  places-more (statement.TheVariants.Tasks f) h =
      let s = said (statement.TheVariants.Tasks f) in
      let few = family-cores f h.0 in
      let first : Start = record { phase = phases_in ss; core = natural_of f.core; entry = task_entry text names f.entry; arg = f.arg } in
      let number : phases_in ss - 1 ≡ length (places_of phase_row own_line ss) - 1 = ap (λ (n : ℕ). n - 1) (sym (phase-count ss)) in
      let phase : ℕ = length (places_of phase_row own_line ss) - 1 in
      let at_most = few.few in
      let parts : each_part (task_place line) 0 (starts first f.step (natural_of f.count)) ≡ task_parts phase line (wrapped f.core) 0 (wrapped f.count) =
      ap (λ (n : ℕ). each_part (task_place line) 0 (starts first f.step n)) few.count
      ∙ parts-tasks line first f.step phase (wrapped f.core) number few.core (wrapped f.count) 0 (omega arith) in
      let done : List TaskPlace = places_of (tasks_at text names) task_place ss in
      let longer : places_of (tasks_at text names) task_place (ss ++ s ∷ []) ≡ done ++ task_parts phase line (wrapped f.core) 0 (wrapped f.count) =
      table-more (places_at (tasks_at text names) task_place) ss s ∙ ap (λ (ps : List TaskPlace). done ++ ps) parts in
      λ i. record {
        code = table-same (places_at (placed_code text names) code_place) ss s refl i;
        regions = table-same (places_at (region_at text) own_line) ss s refl i;
        locks = table-same (places_at (lock_name_at text) own_line) ss s refl i;
        phases = table-same (places_at phase_row own_line) ss s refl i;
        tasks = longer i;
      }
  places-more (statement.TheVariants.Uses e) h =
      let s = said (statement.TheVariants.Uses e) in
      λ i. record {
        code = table-same (places_at (placed_code text names) code_place) ss s refl i;
        regions = table-same (places_at (region_at text) own_line) ss s refl i;
        locks = table-same (places_at (lock_name_at text) own_line) ss s refl i;
        phases = table-same (places_at phase_row own_line) ss s refl i;
        tasks = table-same (places_at (tasks_at text names) task_place) ss s refl i;
      }

-- ---- lines without a fault

abbrev AreFaultless : List ℕ → (List ℕ → Option Meaning) → List Saying → List Saying → Type 0
AreFaultless text names before [] = Unit {0}
AreFaultless text names before (s ∷ ss) = (early_fault text names before s ≡ None) × AreFaultless text names (before ++ s ∷ []) ss

-- what some lines of good form add
abbrev with_lines : Places → List Saying → Places
with_lines p [] = p
with_lines p (s ∷ ss) = with_lines (with_statement p s.line s.statement) ss

good-lines : (p : Places) (rs : List Reading) → with_readings p rs ≡ with_lines p (sayings rs)
good-lines p [] = refl
good-lines p (Bad f ∷ rs) = good-lines p rs
good-lines p (Good s ∷ rs) = good-lines (with_statement p s.line s.statement) rs

places-all : (text : List ℕ) (names : List ℕ → Option Meaning) (before ss : List Saying) → AreFaultless text names before ss → with_lines (places_among text names before) ss ≡ places_among text names (before ++ ss)
places-all text names before [] h = ap (places_among text names) (sym (append-nil before))
places-all text names before (s ∷ ss) h =
    let d = tables text names before in
    let none = first-none (out_of_range text names d s.statement) (doubled text before s) (unknown text names d.count.code s.statement) (misplaced d s.statement) _ _ _ _ h.0 in
    ap (λ (p : Places). with_lines p ss) (sym (places-more text names before s.line s.label s.statement none))
    ∙ places-all text names (before ++ s ∷ []) ss h.1
    ∙ ap (places_among text names) (append_assoc before (s ∷ []) ss)

none-of : (o : Option SourceFault) (fs : List SourceFault) → cons_option o fs ≡ [] → (o ≡ None) × (fs ≡ [])
none-of None fs e = (refl, e)
none-of (Some f) fs e = absurd cc

faultless-from : (v : Bool) (text : List ℕ) (names : List ℕ → Option Meaning) (rs done : List Reading) (before : List Saying) → sayings done ≡ before → filter_map (fault_at v text names) (placed_behind done rs) ≡ [] → AreFaultless text names before (sayings rs)
faultless-from v text names [] done before same e = tt
faultless-from v text names (Bad f ∷ rs) done before same e = absurd cc
faultless-from v text names (Good s ∷ rs) done before same e =
    let now : List Saying = before ++ s ∷ [] in
    let parts = none-of (line_fault v text names (sayings done) (Good s)) (filter_map (fault_at v text names) (placed_behind (done ++ Good s ∷ []) rs)) e in
    let here : line_fault v text names before (Good s) ≡ None = subst (λ (ss : List Saying). line_fault v text names ss (Good s) ≡ None) same parts.0 in
    let none = both-none (early_fault text names before s) (limit_fault v (tables text names now) s.line) here in
    let said : sayings (done ++ Good s ∷ []) ≡ now = filter_map-append good done (Good s ∷ []) ∙ ap (λ (ss : List Saying). ss ++ s ∷ []) same in
    (none.0, faultless-from v text names rs (done ++ Good s ∷ []) now said parts.1)

-- ---- a text without a fault

pub record HasProgram (text : List ℕ) (P : ProgramParts) : Type 0 where
  pub none : faults (nat_lt 0 (version_line text (lines_of text))) text (meaning_of text (sayings (readings text))) (readings text) ≡ []
  pub program : program_of (tables text (meaning_of text (sayings (readings text))) (sayings (readings text))) ≡ P

without-none : (fs : List SourceFault) (p P : ProgramParts) → without_faults fs p ≡ Ok P → (fs ≡ []) × (p ≡ P)
without-none [] p P e = (refl, cc)
without-none (f ∷ fs) p P e = absurd cc

pub has-program : (text : List ℕ) (P : ProgramParts) → source text ≡ Ok P → HasProgram text P
has-program text P is = by_size (nat_lt 1048576 (length text)) is
  where
    by_size : (c : Bool) → cond c (Err fault.TheVariants.TooLarge) (without_faults (faults (nat_lt 0 (version_line text (lines_of text))) text (meaning_of text (sayings (readings text))) (readings text)) (program_of (tables text (meaning_of text (sayings (readings text))) (sayings (readings text))))) ≡ Ok P → HasProgram text P
    by_size true e = absurd cc
    by_size false e = let both = without-none _ _ P e in record { none = both.0; program = both.1 }

pub places-found : (text : List ℕ) (P : ProgramParts) → source text ≡ Ok P → with_readings no_places (readings text) ≡ text_places text
places-found text P is =
    let names = meaning_of text (sayings (readings text)) in
    good-lines no_places (readings text)
    ∙ places-all text names [] (sayings (readings text)) (faultless-from (nat_lt 0 (version_line text (lines_of text))) text names (readings text) [] [] refl (has-program text P is).none)

pub places-in : {E : Type 0} (text : List ℕ) (P : ProgramParts) (r : Result Places E) → source text ≡ Ok P → IfOk r (λ places. places ≡ with_readings no_places (readings text))
    → IfOk r (λ places. places ≡ text_places text)
places-in text P (Err e) is places = tt
places-in text P (Ok x) is places = places ∙ places-found text P is

-- a text with a program isn't too large
source-large : (text : List ℕ) → 1048576 < length text → source text ≡ Err fault.TheVariants.TooLarge
source-large text more = let test : nat_lt 1048576 (length text) ≡ true = grind (arith, nat_tests) in rw test refl

pub few-bytes : (text : List ℕ) (P : ProgramParts) → source text ≡ Ok P → length text ≤ 1048576
few-bytes text P is = by_test (nat_lt 1048576 (length text)) refl where
  by_test : (b : Bool) → nat_lt 1048576 (length text) ≡ b → length text ≤ 1048576
  by_test true test = let more : 1048576 < length text = grind (arith, nat_tests) in let large = source-large text more in absurd (cc)
  by_test false test = grind (arith, nat_tests)
