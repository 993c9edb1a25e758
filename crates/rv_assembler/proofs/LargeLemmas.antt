-- No line makes a text too large.
use Rattle.std.proofs.Common.{◌≡◌, ◌<◌, ◌≤◌, ℕ, Bool, true, false, not, ◌&&◌, List, [], ◌∷◌, map, length, Option, Some, None, Result, Ok, Err, refl, sym, ◌∙◌, ap, nat_lt, nat_eq, ⊎_elim}
use Rattle.std.specs.Option.{option_or}
use Rattle.std.proofs.lemmas.Bool.{cond_both, cases_lt, le-ltb}
use Rattle.src_text.specs.declared.line.Line.{Line}
use Rattle.src_text.specs.declared.line.LineFault.{LineFault}
use Rattle.src_text.specs.declared.line.LineFault as line_fault
use Rattle.src_text.specs.declared.token.Token.{Token}
use Rattle.rv_assembler.specs.declared.fault.SourceFault.{SourceFault}
use Rattle.rv_assembler.specs.declared.fault.SourceFault as fault
use Rattle.rv_assembler.specs.declared.kind.Kind.{Kind}
use Rattle.rv_assembler.specs.declared.statement.Statement.{Statement}
use Rattle.rv_assembler.specs.declared.parsing.Saying.{Saying}
use Rattle.rv_assembler.specs.declared.parsing.Reading.{Reading}
use Rattle.rv_assembler.specs.declared.parsing.Reading.TheVariants.{Bad, Good}
use Rattle.rv_assembler.specs.declared.names.Meaning.{Meaning}
use Rattle.rv_assembler.specs.declared.draft.Draft.{Draft}
use Rattle.rv_assembler.specs.Operand.{bytes_of}
use Rattle.rv_assembler.specs.Shape.{is_name, is_colon, is_plain, knows_word, kind_for}
use Rattle.rv_assembler.specs.Reading.{statement_of, statement_in, said, labelled, read_tokens, read_line, reading_of, version_line}
use Rattle.src_text.specs.Line.{lines_of}
use Rattle.rv_assembler.specs.Adding.{no_draft, draft_after, fault_on_line, unless_fault, total, total_of, program_in, gathered_names, draft_of, added_program}
use Rattle.rv_assembler.specs.Fault.{out_of_range, unknown, misplaced, over_limit, limit_fault}
use Rattle.rv_assembler.specs.Testing.{doubled_by_meaning, draft_fault}
use Rattle.rv_assembler.specs.Source.{source}
use Rattle.region_table.specs.Program.{ProgramParts}
use Rattle.rv_assembler.proofs.AgreeLemmas.{source-added}

abbrev is_large : SourceFault → Bool
is_large fault.TheVariants.TooLarge = true
is_large _ = false

abbrev error_large : {X : Type 0} → Result X SourceFault → Bool
error_large (Ok x) = false
error_large (Err f) = is_large f

abbrev reading_large : Reading → Bool
reading_large (Bad f) = is_large f
reading_large (Good s) = false

abbrev some_large : Option SourceFault → Bool
some_large None = false
some_large (Some f) = is_large f

statement_of-small : (text : List ℕ) (line : ℕ) (ts : List Token) (k : Option Kind) → error_large (statement_of text line ts k) ≡ false
statement_of-small text line ts None = refl
statement_of-small text line ts (Some k) = refl

statement-small : (v : Bool) (text : List ℕ) (line : ℕ) (ts : List Token) → error_large (statement_in v text line ts) ≡ false
statement-small v text line [] = refl
statement-small v text line (t ∷ ts) =
    let P : Result Statement SourceFault → Type 0 = λ r. error_large r ≡ false in
    cond_both (not (is_name t.kind)) (Err (fault.TheVariants.BadOperand line)) _ P (λ e. refl)
    (λ e. cond_both (not (knows_word v (bytes_of text t))) (Err (fault.TheVariants.UnknownWord line)) _ P (λ f. refl)
    (λ f. statement_of-small text line ts (kind_for v text (bytes_of text t) ts)))

said-small : (line : ℕ) (r : Result Statement SourceFault) → error_large r ≡ false → reading_large (said line r) ≡ false
said-small line (Ok s) e = refl
said-small line (Err f) e = e

labelled-small : (text : List ℕ) (line : ℕ) (t : Token) (r : Result Statement SourceFault) → error_large r ≡ false → reading_large (labelled text line t r) ≡ false
labelled-small text line t (Ok s) e =
    cond_both (is_plain text t) (Good (record { line = line; label = Some t; statement = s })) (Bad (fault.TheVariants.BadOperand line)) (λ (r : Reading). reading_large r ≡ false) (λ e. refl) (λ e. refl)
labelled-small text line t (Err f) e = e

tokens-small : (v : Bool) (text : List ℕ) (line : ℕ) (ts : List Token) → reading_large (read_tokens v text line ts) ≡ false
tokens-small v text line [] = refl
tokens-small v text line (t ∷ []) = said-small line (statement_in v text line (t ∷ [])) (statement-small v text line (t ∷ []))
tokens-small v text line (t ∷ u ∷ ts) =
    cond_both (is_name t.kind && is_colon u.kind) (labelled text line t (statement_in v text line ts)) (said line (statement_in v text line (t ∷ u ∷ ts))) (λ (r : Reading). reading_large r ≡ false)
    (λ e. labelled-small text line t (statement_in v text line ts) (statement-small v text line ts))
    (λ e. said-small line (statement_in v text line (t ∷ u ∷ ts)) (statement-small v text line (t ∷ u ∷ ts)))

line-small : (v : Bool) (text : List ℕ) (line : ℕ) (ts : List Token) (f : Option LineFault) → reading_large (read_line v text line ts f) ≡ false
line-small v text line ts (Some line_fault.TheVariants.BadByte) = refl
line-small v text line ts (Some line_fault.TheVariants.BadNumber) = refl
line-small v text line ts (Some line_fault.TheVariants.LineLimit) = refl
line-small v text line ts None = tokens-small v text line ts

reading-small : (version : ℕ) (text : List ℕ) (l : Line) → reading_large (reading_of version text l) ≡ false
reading-small version text l =
    cond_both (nat_eq l.number version) _ (read_line (nat_lt 0 version) text l.number l.tokens l.fault) (λ (r : Reading). reading_large r ≡ false) (λ e. refl)
    (λ e. line-small (nat_lt 0 version) text l.number l.tokens l.fault)

early-small : (text : List ℕ) (names : List ℕ → Option Meaning) (d : Draft) (s : Saying) → some_large (draft_fault text names d s) ≡ false
early-small text names d s =
    let P : Option SourceFault → Type 0 = λ o. some_large o ≡ false in
    cond_both (out_of_range text names d s.statement) _ _ P (λ e. refl) (λ e.
    cond_both (doubled_by_meaning text names d.count s) _ _ P (λ e. refl) (λ e.
    cond_both (unknown text names d.count.code s.statement) _ _ P (λ e. refl) (λ e.
    cond_both (misplaced d s.statement) _ _ P (λ e. refl) (λ e. refl))))

limit-small : (v : Bool) (d : Draft) (line : ℕ) → some_large (limit_fault v d line) ≡ false
limit-small v d line = cond_both (over_limit v d) _ _ (λ (o : Option SourceFault). some_large o ≡ false) (λ e. refl) (λ e. refl)

first-small : (a b : Option SourceFault) → some_large a ≡ false → some_large b ≡ false → some_large (option_or a b) ≡ false
first-small None b e f = f
first-small (Some x) b e f = e

unless-small : (o : Option SourceFault) (r : Result Draft SourceFault) → some_large o ≡ false → error_large r ≡ false → error_large (unless_fault o r) ≡ false
unless-small None r e f = f
unless-small (Some x) r e f = e

step-small : (v : Bool) (text : List ℕ) (names : List ℕ → Option Meaning) (d : Draft) (r : Reading) (rs : List Reading) → reading_large r ≡ false → ((d : Draft) → error_large (total v text names d rs) ≡ false) → error_large (total v text names d (r ∷ rs)) ≡ false
step-small v text names d (Bad f) rs e h = e
step-small v text names d (Good s) rs e h =
    unless-small (fault_on_line v text names d s) (total v text names (draft_after text names d s.statement) rs)
    (first-small (draft_fault text names d s) (limit_fault v (draft_after text names d s.statement) s.line) (early-small text names d s) (limit-small v (draft_after text names d s.statement) s.line))
    (h (draft_after text names d s.statement))

total-small : (version : ℕ) (text : List ℕ) (names : List ℕ → Option Meaning) (ls : List Line) (d : Draft) → error_large (total_of version text names d ls) ≡ false
total-small version text names [] d = refl
total-small version text names (l ∷ ls) d =
    step-small (nat_lt 0 version) text names d (reading_of version text l) (map (reading_of version text) ls) (reading-small version text l) (total-small version text names ls)

program-small : (r : Result Draft SourceFault) → error_large r ≡ false → error_large (program_in r) ≡ false
program-small (Ok d) e = refl
program-small (Err f) e = e

added-large : (text : List ℕ) → added_program text ≡ Err fault.TheVariants.TooLarge → 1048576 < length text
added-large text e =
    ⊎_elim
    (λ (l : 1048576 < length text). l)
    (λ (l : length text ≤ 1048576).
    let small : added_program text ≡ program_in (draft_of text) = rw (le-ltb 1048576 (length text) l) refl in
    let not_large : error_large (added_program text) ≡ false = ap (λ (r : Result ProgramParts SourceFault). error_large r) small ∙ program-small (draft_of text) (total-small (version_line text (lines_of text)) text (gathered_names text) (lines_of text) no_draft) in
    let large : error_large (added_program text) ≡ true = ap (λ (r : Result ProgramParts SourceFault). error_large r) e in
    let no : true ≡ false = sym large ∙ not_large in
    absurd cc)
    (cases_lt 1048576 (length text))

pub too-large : (text : List ℕ) → source text ≡ Err fault.TheVariants.TooLarge → 1048576 < length text
too-large text e = added-large text (sym (source-added text) ∙ e)
