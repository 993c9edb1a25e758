-- Adding up the lines one by one gives what the text means.
use Rattle.std.proofs.Common.{◌≡◌, ℕ, ◌+◌, ◌≤◌, Bool, cond, nat_lt, List, [], ◌∷◌, ◌++◌, map, length, Option, Some, None, Result, Ok, Err, refl, sym, ap, ◌∙◌, append_assoc, append-nil, length-append, arith}
use Rattle.std.specs.Option.{option_or}
use Rattle.std.specs.List.{filter_map, cons_option}
use Rattle.std.proofs.lemmas.List.Elements.{filter_map-append}
use Rattle.region_table.specs.Program.{ProgramParts}
use Rattle.src_text.specs.Line.{lines_of}
use Rattle.rv_assembler.specs.declared.fault.SourceFault.{SourceFault}
use Rattle.rv_assembler.specs.declared.fault.SourceFault as fault
use Rattle.rv_assembler.specs.declared.parsing.Saying.{Saying}
use Rattle.rv_assembler.specs.declared.parsing.Reading.{Reading}
use Rattle.rv_assembler.specs.declared.parsing.Reading.TheVariants.{Bad, Good}
use Rattle.rv_assembler.specs.declared.names.Meaning.{Meaning}
use Rattle.rv_assembler.specs.declared.draft.Draft.{Draft}
use Rattle.rv_assembler.specs.Reading.{version_line, reading_of}
use Rattle.rv_assembler.specs.Gathering.{no_count, meaning_in}
use Rattle.rv_assembler.specs.Adding.{no_draft, draft_after, unless_fault, total, program_in, added_program}
use Rattle.rv_assembler.specs.Fault.{doubled, first_fault, early_fault, limit_fault}
use Rattle.rv_assembler.specs.Testing.{draft_fault}
use Rattle.rv_assembler.specs.Finishing.{finished_program}
use Rattle.rv_assembler.specs.Placed.{placed_behind}
use Rattle.rv_assembler.specs.Counts.{data_words}
use Rattle.rv_assembler.specs.Declarations.{meaning_of}
use Rattle.rv_assembler.specs.Source.{good, sayings, line_fault, fault_at, without_faults, said_by, source}
use Rattle.rv_assembler.proofs.SoundLemmas.{within}
use Rattle.rv_assembler.proofs.WrappedTables.{wrapped_tables}
use Rattle.rv_assembler.proofs.UseLemmas.{within-limits, in-range, same-program}
use Rattle.rv_assembler.proofs.AddLemmas.{tables-more}
use Rattle.rv_assembler.proofs.DeclarationLemmas.{gathered}
use Rattle.rv_assembler.proofs.NearLemmas.{IsNear, near-all}
use Rattle.rv_assembler.proofs.CountLemmas.{few-lines}
use Rattle.rv_assembler.proofs.DoubledLemmas.{AreRising, AreTold, told-first, told-next, doubled-same}
use Rattle.rv_assembler.proofs.RisingLemmas.{lines-rise}

-- the first fault decides, or else the lines behind it
first-decides : (o : Option SourceFault) (r : Result Draft SourceFault) (fs : List SourceFault) (p : ProgramParts) → (o ≡ None → program_in r ≡ without_faults fs p) → program_in (unless_fault o r) ≡ without_faults (cons_option o fs) p
first-decides None r fs p h = h refl
first-decides (Some f) r fs p h = refl

-- the same where a line's last fault is looked for behind the others
then-decides : (a b c : Option SourceFault) (r : Result Draft SourceFault) (fs : List SourceFault) (p : ProgramParts) → (a ≡ None → b ≡ c) → (a ≡ None → c ≡ None → program_in r ≡ without_faults fs p)
    → program_in (unless_fault (option_or a b) r) ≡ without_faults (cons_option (option_or a c) fs) p
then-decides None b c r fs p same h = ap (λ (o : Option SourceFault). program_in (unless_fault o r)) (same refl) ∙ first-decides c r fs p (h refl)
then-decides (Some f) b c r fs p same h = refl

agree-from : (v : Bool) (text : List ℕ) (names : List ℕ → Option Meaning) → ((q : List ℕ) → IsNear (names q)) → (rs done : List Reading) (before : List Saying) (lo : ℕ) → AreTold text names before (sayings rs) lo → sayings done ≡ before
    → length before + length (sayings rs) ≤ 65536 → data_words before ≤ 65536
    → program_in (total v text names (wrapped_tables text names before) rs)
    ≡ without_faults (filter_map (fault_at v text names) (placed_behind done rs)) (finished_program (wrapped_tables text names (before ++ sayings rs)))
agree-from v text names near [] done before lo told same few small = ap (λ (ss : List Saying). Ok (finished_program (wrapped_tables text names ss))) (sym (append-nil before))
agree-from v text names near (Bad f ∷ rs) done before lo told same few small = refl
agree-from v text names near (Good s ∷ rs) done before lo told same few small =
    let now : List Saying = before ++ s ∷ [] in
    let d : Draft = wrapped_tables text names before in
    let early : Option SourceFault = early_fault text names before s in
    let tested : draft_fault text names d s ≡ early = ap (λ (again : Bool). first_fault again text names d s) (doubled-same text names before (sayings rs) s lo told) in
    let adds : Draft = draft_after text names d s.statement in
    let more : early ≡ None → adds ≡ wrapped_tables text names now = λ none. sym (tables-more text names near before s.line s.label s.statement (omega arith) small (in-range (doubled text before s) text names d s none)) in
    let later = placed_behind (done ++ Good s ∷ []) rs in
    let whole : List Saying = before ++ s ∷ sayings rs in
    let longer : length now ≡ length before + 1 = length-append before (s ∷ []) in
    ap (λ (o : Option SourceFault). program_in (unless_fault (option_or o (limit_fault v adds s.line)) (total v text names adds rs))) tested
    ∙ then-decides early (limit_fault v adds s.line) (limit_fault v (wrapped_tables text names now) s.line) (total v text names adds rs) (filter_map (fault_at v text names) later) (finished_program (wrapped_tables text names whole))
    (λ none. ap (λ (d : Draft). limit_fault v d s.line) (more none))
    (λ none limit.
    let words : data_words now ≤ 65536 = (within v (wrapped_tables text names now) (within-limits v (wrapped_tables text names now) s.line limit)).words in
    let said : sayings (done ++ Good s ∷ []) ≡ now = filter_map-append good done (Good s ∷ []) ∙ ap (λ (ss : List Saying). ss ++ s ∷ []) same in
    ap (λ (d : Draft). program_in (total v text names d rs)) (more none)
    ∙ agree-from v text names near rs (done ++ Good s ∷ []) now (s.line + 1) (told-next text names before (sayings rs) s lo told) said (omega (arith, longer)) words
    ∙ ap (λ (ss : List Saying). without_faults (filter_map (fault_at v text names) later) (finished_program (wrapped_tables text names ss))) (append_assoc before (s ∷ []) (sayings rs)))
    ∙ ap (λ (ss : List Saying). without_faults (cons_option (line_fault v text names ss (Good s)) (filter_map (fault_at v text names) later)) (finished_program (wrapped_tables text names whole))) (sym same)

agree : (v : Bool) (text : List ℕ) (rs : List Reading) → length (sayings rs) ≤ 65536 → AreRising 1 (sayings rs) → program_in (total v text (meaning_in text no_count rs) no_draft rs) ≡ said_by v text rs
agree v text rs few rise =
    let same : meaning_in text no_count rs ≡ meaning_of text (sayings rs) = λ i q. gathered text rs q few i in
    ap (λ (names : List ℕ → Option Meaning). program_in (total v text names no_draft rs)) same
    ∙ agree-from v text (meaning_of text (sayings rs)) (λ q. near-all text (sayings rs) q few) rs [] [] 1 (told-first text (sayings rs) 1 rise) refl (omega arith) (omega arith)
    ∙ same-program v text rs

-- a text means what its lines add up to
pub source-added : (text : List ℕ) → source text ≡ added_program text
source-added text =
    let ls = lines_of text in
    let version = version_line text ls in
    ap (λ (r : Result ProgramParts SourceFault). cond (nat_lt 1048576 (length text)) (Err fault.TheVariants.TooLarge) r)
    (sym (agree (nat_lt 0 version) text (map (reading_of version text) ls) (few-lines text) (lines-rise text)))
