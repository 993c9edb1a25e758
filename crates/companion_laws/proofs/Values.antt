-- The first values of a text's data words are numbers of 32 bits.
use Rattle.std.proofs.Common.{◌≡◌, ℕ, zero, suc, ◌^◌, ◌<◌, ◌==◌, ℤ, pos, negsuc, Bool, true, false, ◌&&◌, not, nat_lt, if◌then◌else◌, List, [], ◌∷◌, ◌++◌, map, filter_map, flat_map, Option, Some, None, Result, Ok, Err, subst, arith}
use Rattle.std.specs.Prelude.{unwrap_or}
use Rattle.std.specs.List.{range_with_len, last_or, cons_option}
use Rattle.std.proofs.lemmas.Nat.{mod_below}
use Rattle.src_text.specs.declared.line.Line.{Line}
use Rattle.src_text.specs.declared.line.LineFault.{LineFault}
use Rattle.src_text.specs.declared.token.Token.{Token}
use Rattle.src_text.specs.Line.{lines_of}
use Rattle.region_table.specs.Program.{ProgramParts}
use Rattle.rv_assembler.specs.declared.fault.SourceFault.{SourceFault}
use Rattle.rv_assembler.specs.declared.fault.SourceFault as fault
use Rattle.rv_assembler.specs.declared.kind.Directive.{Directive}
use Rattle.rv_assembler.specs.declared.kind.Directive as directive
use Rattle.rv_assembler.specs.declared.kind.Kind.{Kind}
use Rattle.rv_assembler.specs.declared.kind.Kind as kind
use Rattle.rv_assembler.specs.declared.statement.Statement.{Statement}
use Rattle.rv_assembler.specs.declared.statement.Statement as statement
use Rattle.rv_assembler.specs.declared.parsing.Saying.{Saying}
use Rattle.rv_assembler.specs.declared.parsing.Reading.{Reading}
use Rattle.rv_assembler.specs.declared.parsing.Reading.TheVariants.{Bad, Good}
use Rattle.rv_assembler.specs.declared.names.Meaning.{Meaning}
use Rattle.rv_assembler.specs.declared.draft.FirstValue.{FirstValue}
use Rattle.rv_assembler.specs.declared.draft.Span.{Span}
use Rattle.rv_assembler.specs.Number.{wrapped}
use Rattle.rv_assembler.specs.Operand.{bytes_of, number_at}
use Rattle.rv_assembler.specs.Shape.{knows_word, kind_for, is_name, is_colon, is_plain}
use Rattle.rv_assembler.specs.Reading.{directive_for, statement_for, statement_of, statement_in, said, labelled, read_tokens, read_line, reading_of, version_line}
use Rattle.rv_assembler.specs.Named.{region_span}
use Rattle.rv_assembler.specs.Rows.{first_values}
use Rattle.rv_assembler.specs.Placed.{placed_behind}
use Rattle.rv_assembler.specs.Declarations.{meaning_of}
use Rattle.rv_assembler.specs.Tables.{value_by, value_at, tables}
use Rattle.rv_assembler.specs.Program.{value_for, first_value}
use Rattle.rv_assembler.specs.Source.{good, sayings, readings, source}
use Rattle.text_places.proofs.PlaceLemmas.{has-program}
use Rattle.effect_prover.proofs.FollowWords.{AreBelow}

-- ---- the value of a statement

wrapped-small : (z : ℤ) → wrapped z < 2 ^ 32
wrapped-small (pos n) = mod_below n (2 ^ 32) (omega arith)
wrapped-small (negsuc n) = omega arith

-- the value that a statement gives a word has 32 bits
abbrev IsSmall : Statement → Type 0
IsSmall (statement.TheVariants.Word region index value) = value < 2 ^ 32
IsSmall _ = Unit {0}

directive-small : (ts : List Token) (d : Directive) → IsSmall (directive_for ts d)
directive-small ts directive.TheVariants.Region = tt
directive-small ts directive.TheVariants.Word = wrapped-small (number_at ts 4)
directive-small ts directive.TheVariants.Lock = tt
directive-small ts directive.TheVariants.Phase = tt
directive-small ts directive.TheVariants.Task = tt
directive-small ts directive.TheVariants.Forall = tt
directive-small ts (directive.TheVariants.Uses writes f) = tt
directive-small ts (directive.TheVariants.Guarded writes f) = tt

statement-small : (text : List ℕ) (ts : List Token) (k : Kind) → IsSmall (statement_for text ts k)
statement-small text ts (kind.TheVariants.Code m) = tt
statement-small text ts (kind.TheVariants.Table d) = directive-small ts d

-- ---- a line

abbrev IsSmallResult : Result Statement SourceFault → Type 0
IsSmallResult (Ok s) = IsSmall s
IsSmallResult (Err f) = Unit {0}

abbrev IsSmallReading : Reading → Type 0
IsSmallReading (Bad f) = Unit {0}
IsSmallReading (Good s) = IsSmall s.statement

row-small : (text : List ℕ) (line : ℕ) (ts : List Token) (o : Option Kind) → IsSmallResult (statement_of text line ts o)
row-small text line ts None = tt
row-small text line ts (Some k) = statement-small text ts k

tokens-small : (version_2 : Bool) (text : List ℕ) (line : ℕ) (ts : List Token) → IsSmallResult (statement_in version_2 text line ts)
tokens-small version_2 text line [] = tt
tokens-small version_2 text line (t ∷ ts) = by_tests (not (is_name t.kind)) (not (knows_word version_2 (bytes_of text t))) where
  by_tests : (x y : Bool) → IsSmallResult (if x then Err (fault.TheVariants.BadOperand line)
      else (if y then Err (fault.TheVariants.UnknownWord line) else statement_of text line ts (kind_for version_2 text (bytes_of text t) ts)))
  by_tests true y = tt
  by_tests false true = tt
  by_tests false false = row-small text line ts (kind_for version_2 text (bytes_of text t) ts)

said-small : (line : ℕ) (r : Result Statement SourceFault) → IsSmallResult r → IsSmallReading (said line r)
said-small line (Ok s) h = h
said-small line (Err f) h = tt

labelled-small : (text : List ℕ) (line : ℕ) (t : Token) (r : Result Statement SourceFault) → IsSmallResult r → IsSmallReading (labelled text line t r)
labelled-small text line t (Ok s) h = by_test (is_plain text t) where
  by_test : (b : Bool) → IsSmallReading (if b then Good (record { line = line; label = Some t; statement = s }) else Bad (fault.TheVariants.BadOperand line))
  by_test true = h
  by_test false = tt
labelled-small text line t (Err f) h = tt

read-small : (version_2 : Bool) (text : List ℕ) (line : ℕ) (ts : List Token) → IsSmallReading (read_tokens version_2 text line ts)
read-small version_2 text line [] = said-small line (statement_in version_2 text line []) (tokens-small version_2 text line [])
read-small version_2 text line (t ∷ []) = said-small line (statement_in version_2 text line (t ∷ [])) (tokens-small version_2 text line (t ∷ []))
read-small version_2 text line (t ∷ u ∷ ts) = by_test (is_name t.kind && is_colon u.kind) where
  by_test : (b : Bool) → IsSmallReading (if b then labelled text line t (statement_in version_2 text line ts) else said line (statement_in version_2 text line (t ∷ u ∷ ts)))
  by_test true = labelled-small text line t (statement_in version_2 text line ts) (tokens-small version_2 text line ts)
  by_test false = said-small line (statement_in version_2 text line (t ∷ u ∷ ts)) (tokens-small version_2 text line (t ∷ u ∷ ts))

line-small : (version_2 : Bool) (text : List ℕ) (line : ℕ) (ts : List Token) (o : Option LineFault) → IsSmallReading (read_line version_2 text line ts o)
line-small version_2 text line ts (Some f) = tt
line-small version_2 text line ts None = read-small version_2 text line ts

reading-small : (version : ℕ) (text : List ℕ) (l : Line) → IsSmallReading (reading_of version text l)
reading-small version text l = by_test (l.number == version) where
  by_test : (b : Bool) → IsSmallReading (if b then Good (record { line = l.number; label = None; statement = statement.TheVariants.Nothing })
      else read_line (nat_lt 0 version) text l.number l.tokens l.fault)
  by_test true = tt
  by_test false = line-small (nat_lt 0 version) text l.number l.tokens l.fault

-- ---- the lines of good form

abbrev AreSmall : List Saying → Type 0
AreSmall [] = Unit {0}
AreSmall (s ∷ ss) = IsSmall s.statement × AreSmall ss

with-reading : (r : Reading) (ss : List Saying) → IsSmallReading r → AreSmall ss → AreSmall (cons_option (good r) ss)
with-reading (Bad f) ss h k = k
with-reading (Good s) ss h k = (h, k)

sayings-small : (version : ℕ) (text : List ℕ) (ls : List Line) → AreSmall (sayings (map (reading_of version text) ls))
sayings-small version text [] = tt
sayings-small version text (l ∷ ls) =
    with-reading (reading_of version text l) (sayings (map (reading_of version text) ls)) (reading-small version text l) (sayings-small version text ls)

-- ---- the first values

abbrev AreSmallValues : List FirstValue → Type 0
AreSmallValues [] = Unit {0}
AreSmallValues (v ∷ vs) = (v.value < 2 ^ 32) × AreSmallValues vs

values-append : (xs ys : List FirstValue) → AreSmallValues xs → AreSmallValues ys → AreSmallValues (xs ++ ys)
values-append [] ys h k = k
values-append (x ∷ xs) ys h k = (h.0, values-append xs ys h.1 k)

span-small : (o : Option Span) (index : ℤ) (value : ℕ) → value < 2 ^ 32 → AreSmallValues (first_values o index value)
span-small None index value h = tt
span-small (Some p) index value h = (h, tt)

module _ (text : List ℕ) (names : List ℕ → Option Meaning) where
  value-small : (st : Statement) → IsSmall st → AreSmallValues (value_by text names st)
  value-small (statement.TheVariants.Word region index value) h = span-small (region_span (names (bytes_of text region))) index value h
  value-small statement.TheVariants.Nothing h = tt
  value-small (statement.TheVariants.Instruction k) h = tt
  value-small (statement.TheVariants.Region name len) h = tt
  value-small (statement.TheVariants.Lock name) h = tt
  value-small statement.TheVariants.Phase h = tt
  value-small (statement.TheVariants.Tasks f) h = tt
  value-small (statement.TheVariants.Uses e) h = tt

  values-small : (before ss : List Saying) → AreSmall ss → AreSmallValues (flat_map (value_at text names) (placed_behind before ss))
  values-small before [] h = tt
  values-small before (s ∷ ss) h =
      values-append (value_by text names s.statement) (flat_map (value_at text names) (placed_behind (before ++ s ∷ []) ss)) (value-small s.statement h.0)
      (values-small (before ++ s ∷ []) ss h.1)

-- ---- the memory

abbrev IsSmallOption : Option ℕ → Type 0
IsSmallOption None = Unit {0}
IsSmallOption (Some n) = n < 2 ^ 32

last-small : (word : ℕ) (vs : List FirstValue) (o : Option ℕ) → IsSmallOption o → AreSmallValues vs → IsSmallOption (last_or o (filter_map (value_for word) vs))
last-small word [] o h k = h
last-small word (v ∷ vs) o h k = by_test (v.word == word) (last-small word vs) where
  by_test : (b : Bool) → ((p : Option ℕ) → IsSmallOption p → AreSmallValues vs → IsSmallOption (last_or p (filter_map (value_for word) vs)))
      → IsSmallOption (last_or o (cons_option (if b then Some v.value else None) (filter_map (value_for word) vs)))
  by_test true later = later (Some v.value) k.0 k.1
  by_test false later = later o h k.1

or-zero : (o : Option ℕ) → IsSmallOption o → unwrap_or o 0 < 2 ^ 32
or-zero None h = omega arith
or-zero (Some n) h = h

first-small : (vs : List FirstValue) → AreSmallValues vs → (word : ℕ) → first_value vs word < 2 ^ 32
first-small vs h word = or-zero (last_or None (filter_map (value_for word) vs)) (last-small word vs None tt h)

map-below : (f : ℕ → ℕ) → ((w : ℕ) → f w < 2 ^ 32) → (xs : List ℕ) → AreBelow (2 ^ 32) (map f xs)
map-below f small [] i = omega arith
map-below f small (x ∷ xs) zero = small x
map-below f small (x ∷ xs) (suc i) = map-below f small xs i

pub memory-small : (text : List ℕ) (P : ProgramParts) → source text ≡ Ok P → AreBelow (2 ^ 32) P.memory
memory-small text P is =
    let names = meaning_of text (sayings (readings text)) in
    let ss = sayings (readings text) in
    let small = sayings-small (version_line text (lines_of text)) text (lines_of text) in
    let values = (tables text names ss).values in
    let memory = map-below (first_value values) (first-small values (values-small text names [] ss small)) (range_with_len 0 (tables text names ss).count.words) in
    subst (λ (Q : ProgramParts). AreBelow (2 ^ 32) Q.memory) (has-program text P is).program memory
