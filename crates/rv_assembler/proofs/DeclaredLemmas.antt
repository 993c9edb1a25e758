-- The names of an assembled program are names that a text may declare.
use Rattle.std.proofs.Common.{◌≡◌, ℕ, Bool, true, false, not, ◌&&◌, ◌||◌, cond, eqb, nat_lt, nat_eq, List, [], ◌∷◌, map, length, get_or, Option, Some, None, Result, Ok, Err, refl, sym, ◌∙◌, ap, subst}
use Rattle.std.specs.List.{All, list_all, slice_range, find}
use Rattle.std.specs.Option.{option_map, option_or}
use Rattle.std.proofs.lemmas.Bool.{cond_both, and_parts, le-leb}
use Rattle.std.proofs.lemmas.List.Elements.{All-nil, All-cons, All-head, All-tail, All-append, All-map, All-weaker}
use Rattle.src_text.specs.Byte.{is_letter, is_word}
use Rattle.src_text.specs.Laws.{are_name_bytes, IsPlaced}
use Rattle.src_text.specs.Line.{lines_of}
use Rattle.src_text.specs.declared.line.Line.{Line}
use Rattle.src_text.specs.declared.line.LineFault.{LineFault}
use Rattle.src_text.specs.declared.token.Token.{Token}
use Rattle.src_text.specs.declared.token.TokenKind.{TokenKind}
use Rattle.src_text.specs.declared.token.TokenKind as token
use Rattle.src_text.proofs.PartLemmas.{IsPart, AreParts-lines_of}
use Rattle.region_table.specs.declared.declared.Region.{Region}
use Rattle.region_table.specs.Program.{ProgramParts, names_of}
use Rattle.rv_assembler.specs.declared.fault.SourceFault.{SourceFault}
use Rattle.rv_assembler.specs.declared.fault.SourceFault as fault
use Rattle.rv_assembler.specs.declared.kind.Piece.{Piece}
use Rattle.rv_assembler.specs.declared.kind.Piece as piece
use Rattle.rv_assembler.specs.declared.kind.Kind.{Kind}
use Rattle.rv_assembler.specs.declared.kind.Kind as kind
use Rattle.rv_assembler.specs.declared.kind.Directive as directive
use Rattle.rv_assembler.specs.declared.statement.Statement.{Statement}
use Rattle.rv_assembler.specs.declared.statement.Statement as statement
use Rattle.rv_assembler.specs.declared.parsing.Reading.{Reading}
use Rattle.rv_assembler.specs.declared.parsing.Reading.TheVariants.{Bad, Good}
use Rattle.rv_assembler.specs.declared.names.Meaning.{Meaning}
use Rattle.rv_assembler.specs.declared.draft.Draft.{Draft}
use Rattle.rv_assembler.specs.Names.{is_declared_name, AreDeclaredNames}
use Rattle.rv_assembler.specs.Operand.{bytes_of, token_at}
use Rattle.rv_assembler.specs.Shape as shape
use Rattle.rv_assembler.specs.Shape.{Shape, memory_rows, operation_rows, short_rows, directive_rows, later_rows, is_colon, is_plain, fits, shape_has_word, is_row, kind_in_rows, knows_word, kind_for}
use Rattle.rv_assembler.specs.Reading.{statement_for, statement_of, statement_in, said, labelled, read_tokens, read_line, reading_of, version_line}
use Rattle.rv_assembler.specs.Adding.{no_draft, draft_after, fault_on_line, unless_fault, total, program_in, draft_of}
use Rattle.rv_assembler.specs.Finishing.{finished_program}
use Rattle.rv_assembler.specs.Adding as adding
use Rattle.rv_assembler.specs.Source.{source}
use Rattle.rv_assembler.proofs.AgreeLemmas.{source-added}

-- ---- a token

abbrev IsDeclared : List ℕ → Type 0
IsDeclared n = is_declared_name n ≡ true

kind-name : (k : TokenKind) → shape.is_name k ≡ true → k ≡ token.TheVariants.Name
kind-name token.TheVariants.Name e = refl
kind-name (token.TheVariants.Number n) e = absurd cc
kind-name token.TheVariants.Comma e = absurd cc
kind-name token.TheVariants.Colon e = absurd cc
kind-name token.TheVariants.Left e = absurd cc
kind-name token.TheVariants.Right e = absurd cc

without-dot : (l u p a : Bool) → ((l || u || p) && a) ≡ true → not p ≡ true → ((l || u) && a) ≡ true
without-dot true u p a e f = e
without-dot false true p a e f = e
without-dot false false true a e f = absurd cc
without-dot false false false a e f = e

name-declared : (bs : List ℕ) → are_name_bytes bs ≡ true → not (eqb (get_or bs 0 0) 46) ≡ true → is_declared_name bs ≡ true
name-declared [] e f = e
name-declared (b ∷ bs) e f = without-dot (is_letter b) (eqb b 95) (eqb b 46) (list_all is_word bs) e f

-- a token whose place is one of the text has the bytes that stand there
token-bytes : (text : List ℕ) (t : Token) → IsPlaced text t → bytes_of text t ≡ slice_range text t.start t.end
token-bytes text t placed = rw (le-leb t.start t.end placed.0, le-leb t.end (length text) placed.1) refl

plain-declared : (text : List ℕ) (t : Token) → IsPart text t → is_plain text t ≡ true → IsDeclared (bytes_of text t)
plain-declared text t part plain =
    let bytes = token-bytes text t part.placed in
    let parts = and_parts (shape.is_name t.kind) (not (eqb (get_or (bytes_of text t) 0 0) 46)) plain in
    let dot : not (eqb (get_or (slice_range text t.start t.end) 0 0) 46) ≡ true = ap (λ (bs : List ℕ). not (eqb (get_or bs 0 0) 46)) (sym bytes) ∙ parts.1 in
    ap is_declared_name bytes ∙ name-declared (slice_range text t.start t.end) (part.named (kind-name t.kind parts.0)) dot

-- ---- a statement

-- the name that a statement declares, but for a label, is one that may be declared
abbrev DeclaresGood : List ℕ → Statement → Type 0
DeclaresGood text statement.TheVariants.Nothing = Unit {0}
DeclaresGood text (statement.TheVariants.Instruction c) = Unit {0}
DeclaresGood text (statement.TheVariants.Region name len) = IsDeclared (bytes_of text name)
DeclaresGood text (statement.TheVariants.Word region index value) = Unit {0}
DeclaresGood text (statement.TheVariants.Lock name) = IsDeclared (bytes_of text name)
DeclaresGood text statement.TheVariants.Phase = Unit {0}
DeclaresGood text (statement.TheVariants.Tasks f) = Unit {0}
DeclaresGood text (statement.TheVariants.Uses e) = Unit {0}

-- a row that declares a region or a lock has its name first
abbrev begins_with_name : List Piece → Bool
begins_with_name (piece.TheVariants.Name ∷ ps) = true
begins_with_name _ = false

abbrev named_first : Kind → List Piece → Bool
named_first (kind.TheVariants.Table directive.TheVariants.Region) ps = begins_with_name ps
named_first (kind.TheVariants.Table directive.TheVariants.Lock) ps = begins_with_name ps
named_first _ ps = true

abbrev row_named : Shape → Bool
row_named s = named_first s.kind s.operands

first-good : (text : List ℕ) (ps : List Piece) (ts : List Token) → All (IsPart text) ts → begins_with_name ps ≡ true → fits text ps ts ≡ true → IsDeclared (bytes_of text (token_at ts 0))
first-good text [] ts all e f = absurd cc
first-good text (piece.TheVariants.Register ∷ ps) ts all e f = absurd cc
first-good text (piece.TheVariants.Number ∷ ps) ts all e f = absurd cc
first-good text (piece.TheVariants.Name ∷ ps) [] all e f = absurd cc
first-good text (piece.TheVariants.Name ∷ ps) (t ∷ ts) all e f =
    plain-declared text t (All-head (IsPart text) t ts all) (and_parts (is_plain text t) (fits text ps ts) f).0
first-good text (piece.TheVariants.Target ∷ ps) ts all e f = absurd cc
first-good text (piece.TheVariants.Comma ∷ ps) ts all e f = absurd cc
first-good text (piece.TheVariants.Left ∷ ps) ts all e f = absurd cc
first-good text (piece.TheVariants.Right ∷ ps) ts all e f = absurd cc

-- the statement of a row that fits declares a good name
kind-good : (text : List ℕ) (k : Kind) (ps : List Piece) (ts : List Token) → All (IsPart text) ts → named_first k ps ≡ true → fits text ps ts ≡ true → DeclaresGood text (statement_for text ts k)
kind-good text (kind.TheVariants.Code m) ps ts all e f = tt
kind-good text (kind.TheVariants.Table directive.TheVariants.Region) ps ts all e f = first-good text ps ts all e f
kind-good text (kind.TheVariants.Table directive.TheVariants.Word) ps ts all e f = tt
kind-good text (kind.TheVariants.Table directive.TheVariants.Lock) ps ts all e f = first-good text ps ts all e f
kind-good text (kind.TheVariants.Table directive.TheVariants.Phase) ps ts all e f = tt
kind-good text (kind.TheVariants.Table directive.TheVariants.Task) ps ts all e f = tt
kind-good text (kind.TheVariants.Table directive.TheVariants.Forall) ps ts all e f = tt
kind-good text (kind.TheVariants.Table (directive.TheVariants.Uses w g)) ps ts all e f = tt
kind-good text (kind.TheVariants.Table (directive.TheVariants.Guarded w g)) ps ts all e f = tt

abbrev FoundGood : List ℕ → List Token → Option Kind → Type 0
FoundGood text ts None = Unit {0}
FoundGood text ts (Some k) = DeclaresGood text (statement_for text ts k)

found-good : (v : Bool) (text w : List ℕ) (ts : List Token) → All (IsPart text) ts → (shapes : List Shape) → list_all row_named shapes ≡ true → FoundGood text ts (kind_in_rows v text w ts shapes)
found-good v text w ts all [] e = tt
found-good v text w ts all (s ∷ ss) e = by_row (is_row v text w ts s) refl (found-good v text w ts all ss named.1)
  where
    named : (row_named s ≡ true) × (list_all row_named ss ≡ true)
    named = and_parts (row_named s) (list_all row_named ss) e

    by_row : (c : Bool) → is_row v text w ts s ≡ c → FoundGood text ts (kind_in_rows v text w ts ss) → FoundGood text ts (option_map (λ (s : Shape). s.kind) (cond c (Some s) (find (is_row v text w ts) ss)))
    by_row true e rest = kind-good text s.kind s.operands ts all named.0 (and_parts (shape_has_word v w s) (fits text s.operands ts) e).1
    by_row false e rest = rest

else-good : (text : List ℕ) (ts : List Token) (a b : Option Kind) → FoundGood text ts a → FoundGood text ts b → FoundGood text ts (option_or a b)
else-good text ts None b f g = g
else-good text ts (Some k) b f g = f

memory-named : list_all row_named memory_rows ≡ true
unfolding memory_rows
memory-named = refl

operation-named : list_all row_named operation_rows ≡ true
unfolding operation_rows
operation-named = refl

short-named : list_all row_named short_rows ≡ true
unfolding short_rows
short-named = refl

directive-named : list_all row_named directive_rows ≡ true
unfolding directive_rows
directive-named = refl

later-named : list_all row_named later_rows ≡ true
unfolding later_rows
later-named = refl

for-good : (v : Bool) (text w : List ℕ) (ts : List Token) → All (IsPart text) ts → FoundGood text ts (kind_for v text w ts)
for-good v text w ts all =
    let rows = found-good v text w ts all in
    else-good text ts _ _ (rows memory_rows memory-named) (else-good text ts _ _ (rows operation_rows operation-named)
    (else-good text ts _ _ (rows short_rows short-named) (else-good text ts _ _ (rows directive_rows directive-named) (rows later_rows later-named))))

-- ---- a line

abbrev ResultGood : List ℕ → Result Statement SourceFault → Type 0
ResultGood text (Ok s) = DeclaresGood text s
ResultGood text (Err f) = Unit {0}

abbrev ReadingGood : List ℕ → Reading → Type 0
ReadingGood text (Good s) = DeclaresGood text s.statement
ReadingGood text (Bad f) = Unit {0}

statement_of-good : (text : List ℕ) (line : ℕ) (ts : List Token) (k : Option Kind) → FoundGood text ts k → ResultGood text (statement_of text line ts k)
statement_of-good text line ts None h = tt
statement_of-good text line ts (Some k) h = h

statement-named : (v : Bool) (text : List ℕ) (line : ℕ) (ts : List Token) → All (IsPart text) ts → ResultGood text (statement_in v text line ts)
statement-named v text line [] all = tt
statement-named v text line (t ∷ ts) all =
    cond_both (not (shape.is_name t.kind)) (Err (fault.TheVariants.BadOperand line)) _ (ResultGood text) (λ e. tt)
    (λ e. cond_both (not (knows_word v (bytes_of text t))) (Err (fault.TheVariants.UnknownWord line)) _ (ResultGood text) (λ f. tt)
    (λ f. statement_of-good text line ts (kind_for v text (bytes_of text t) ts) (for-good v text (bytes_of text t) ts (All-tail (IsPart text) t ts all))))

said-named : (text : List ℕ) (line : ℕ) (r : Result Statement SourceFault) → ResultGood text r → ReadingGood text (said line r)
said-named text line (Ok s) h = h
said-named text line (Err f) h = tt

labelled-named : (text : List ℕ) (line : ℕ) (t : Token) (r : Result Statement SourceFault) → ResultGood text r → ReadingGood text (labelled text line t r)
labelled-named text line t (Ok s) h = cond_both (is_plain text t) (Good (record { line = line; label = Some t; statement = s })) (Bad (fault.TheVariants.BadOperand line)) (ReadingGood text) (λ e. h) (λ e. tt)
labelled-named text line t (Err f) h = tt

tokens-named : (v : Bool) (text : List ℕ) (line : ℕ) (ts : List Token) → All (IsPart text) ts → ReadingGood text (read_tokens v text line ts)
tokens-named v text line [] all = tt
tokens-named v text line (t ∷ []) all = said-named text line (statement_in v text line (t ∷ [])) (statement-named v text line (t ∷ []) all)
tokens-named v text line (t ∷ u ∷ ts) all =
    cond_both (shape.is_name t.kind && is_colon u.kind) (labelled text line t (statement_in v text line ts)) (said line (statement_in v text line (t ∷ u ∷ ts))) (ReadingGood text)
    (λ e. labelled-named text line t (statement_in v text line ts) (statement-named v text line ts (All-tail (IsPart text) u ts (All-tail (IsPart text) t (u ∷ ts) all))))
    (λ e. said-named text line (statement_in v text line (t ∷ u ∷ ts)) (statement-named v text line (t ∷ u ∷ ts) all))

line-named : (v : Bool) (text : List ℕ) (line : ℕ) (ts : List Token) (f : Option LineFault) → All (IsPart text) ts → ReadingGood text (read_line v text line ts f)
line-named v text line ts (Some f) all = tt
line-named v text line ts None all = tokens-named v text line ts all

reading-named : (version : ℕ) (text : List ℕ) (l : Line) → All (IsPart text) l.tokens → ReadingGood text (reading_of version text l)
reading-named version text l all =
    cond_both (nat_eq l.number version) _ (read_line (nat_lt 0 version) text l.number l.tokens l.fault) (ReadingGood text) (λ e. tt)
    (λ e. line-named (nat_lt 0 version) text l.number l.tokens l.fault all)

-- ---- a draft

record HasGoodNames (d : Draft) : Type 0 where
  regions : All (λ (r : Region). IsDeclared r.name) d.regions
  locks : All IsDeclared d.locks

after-named : (text : List ℕ) (names : List ℕ → Option Meaning) (d : Draft) (s : Statement) → HasGoodNames d → DeclaresGood text s → HasGoodNames (draft_after text names d s)
after-named text names d statement.TheVariants.Nothing h g = record { regions = h.regions; locks = h.locks }
after-named text names d (statement.TheVariants.Instruction c) h g = record { regions = h.regions; locks = h.locks }
after-named text names d (statement.TheVariants.Region name len) h g =
    record {
      regions = All-append (λ (r : Region). IsDeclared r.name) d.regions _ h.regions (All-cons (λ (r : Region). IsDeclared r.name) _ [] g (All-nil (λ (r : Region). IsDeclared r.name)));
      locks = h.locks;
    }
after-named text names d (statement.TheVariants.Word region index value) h g = record { regions = h.regions; locks = h.locks }
after-named text names d (statement.TheVariants.Lock name) h g =
    record { regions = h.regions; locks = All-append IsDeclared d.locks _ h.locks (All-cons IsDeclared (bytes_of text name) [] g (All-nil IsDeclared)) }
after-named text names d statement.TheVariants.Phase h g = record { regions = h.regions; locks = h.locks }
after-named text names d (statement.TheVariants.Tasks f) h g = record { regions = h.regions; locks = h.locks }
after-named text names d (statement.TheVariants.Uses e) h g = record { regions = h.regions; locks = h.locks }

total-named : (v : Bool) (text : List ℕ) (names : List ℕ → Option Meaning) (d e : Draft) (rs : List Reading) → All (ReadingGood text) rs → HasGoodNames d → total v text names d rs ≡ Ok e → HasGoodNames e
total-named v text names d e [] all h is = let same : d ≡ e = cc in subst HasGoodNames same h
total-named v text names d e (Bad f ∷ rs) all h is = absurd cc
total-named v text names d e (Good s ∷ rs) all h is =
    let rest = All-tail (ReadingGood text) (Good s) rs all in
    let good : HasGoodNames (draft_after text names d s.statement) = after-named text names d s.statement h (All-head (ReadingGood text) (Good s) rs all) in
    total-named v text names (draft_after text names d s.statement) e rs rest good (no_fault (fault_on_line v text names d s) (total v text names (draft_after text names d s.statement) rs) is)
  where
    no_fault : (o : Option SourceFault) (r : Result Draft SourceFault) → unless_fault o r ≡ Ok e → r ≡ Ok e
    no_fault None r is = is
    no_fault (Some f) r is = absurd cc

draft-named : (text : List ℕ) (d : Draft) → draft_of text ≡ Ok d → HasGoodNames d
draft-named text d is =
    let ls = lines_of text in
    let version = version_line text ls in
    let all : All (ReadingGood text) (map (reading_of version text) ls) =
    All-map (ReadingGood text) (reading_of version text) ls
    (All-weaker (λ (l : Line). All (IsPart text) l.tokens) (λ (l : Line). ReadingGood text (reading_of version text l)) (reading-named version text) ls (AreParts-lines_of text)) in
    total-named (nat_lt 0 version) text (adding.gathered_names text) no_draft d (map (reading_of version text) ls) all
    (record { regions = All-nil (λ (r : Region). IsDeclared r.name); locks = All-nil IsDeclared }) is

program-named : (d : Draft) → HasGoodNames d → AreDeclaredNames (names_of (finished_program d))
program-named d h = All-append IsDeclared (map (λ (r : Region). r.name) d.regions) d.locks (All-map IsDeclared (λ (r : Region). r.name) d.regions h.regions) h.locks

-- the names of a text's program are names that a text may declare
pub source-declared : (text : List ℕ) (P : ProgramParts) → source text ≡ Ok P → AreDeclaredNames (names_of P)
source-declared text P is = by_size (nat_lt 1048576 (length text)) (sym (source-added text) ∙ is)
  where
    by_draft : (r : Result Draft SourceFault) → draft_of text ≡ r → program_in r ≡ Ok P → AreDeclaredNames (names_of P)
    by_draft (Ok d) e f = let same : finished_program d ≡ P = cc in subst (λ (p : ProgramParts). AreDeclaredNames (names_of p)) same (program-named d (draft-named text d e))
    by_draft (Err g) e f = absurd cc

    by_size : (c : Bool) → cond c (Err fault.TheVariants.TooLarge) (program_in (draft_of text)) ≡ Ok P → AreDeclaredNames (names_of P)
    by_size true e = absurd cc
    by_size false e = by_draft (draft_of text) refl e
