-- The part of a line that is marked lies in the line.
use Rattle.std.proofs.Common.{◌≡◌, ◌<◌, ◌≤◌, ℕ, suc, ◌+◌, Bool, true, false, not, ◌&&◌, cond, nat_lt, nat_le, nat_eq, List, [], ◌∷◌, length, take, drop, get_or, find, Option, Some, None, option_map, is_some, slice_get, Result, Ok, Err, refl, sym, ap, ◌∙◌, subst, arith}
use Rattle.std.specs.List.{All, AllZip, list_all, filter_map, prefix_len, position_or_len}
use Rattle.std.specs.Option.{option_or}
use Rattle.std.proofs.lemmas.Bool.{false≢true, cond_both, and_parts}
use Rattle.std.proofs.lemmas.Bool.Decides.{nat_tests}
use Rattle.std.proofs.lemmas.List.{length-drop, length-take}
use Rattle.std.proofs.lemmas.List.Folds.{length-prefix_len}
use Rattle.std.proofs.lemmas.List.Elements.{All-nil, All-cons, All-head, All-tail, All-weaker}
use Rattle.std.proofs.lemmas.Option.{same_Some, slice_get_within, get_or_from_slice_get}
use Rattle.src_text.specs.Byte.{is_bad, is_hash}
use Rattle.src_text.specs.Lexeme.{Lexeme, front, before_comment, lexemes_of, token_of, is_bad_number, span_of}
use Rattle.src_text.specs.Line.{cut, line_of, line_with, lines_of, fault_of}
use Rattle.src_text.specs.Laws.{StandsAt, IsTokenOf, AreInOrder, IsPlaced, line_start}
use Rattle.src_text.specs.declared.token.Span.{Span}
use Rattle.src_text.specs.declared.token.Token.{Token}
use Rattle.src_text.specs.declared.line.Line.{Line}
use Rattle.src_text.specs.declared.line.LineFault.{LineFault}
use Rattle.src_text.proofs.LawLemmas.{AreLexemesOf-lexemes_of, AreTokensOf-line_of, AreInOrder-line_of, IsLongest-front}
use Rattle.src_text.proofs.SliceLemmas.{within_code, same_tokens}
use Rattle.src_text.proofs.CutLemmas.{AreNumbered-lines_of}
use Rattle.src_text.proofs.PartLemmas.{ArePlaced-lines_of}
use Rattle.rv_assembler.specs.declared.fault.SourceFault.{SourceFault}
use Rattle.rv_assembler.specs.declared.fault.SourceFault as fault
use Rattle.rv_assembler.specs.declared.kind.Mnemonic.{Mnemonic}
use Rattle.rv_assembler.specs.declared.kind.Mnemonic as mnemonic
use Rattle.rv_assembler.specs.declared.kind.Directive as directive
use Rattle.rv_assembler.specs.declared.kind.Kind.{Kind}
use Rattle.rv_assembler.specs.declared.kind.Kind as kind
use Rattle.rv_assembler.specs.declared.kind.Piece.{Piece}
use Rattle.rv_assembler.specs.declared.statement.Code.{Code}
use Rattle.rv_assembler.specs.declared.statement.Code as code
use Rattle.rv_assembler.specs.declared.statement.Statement.{Statement}
use Rattle.rv_assembler.specs.declared.statement.Statement as statement
use Rattle.rv_assembler.specs.declared.parsing.Reading.{Reading}
use Rattle.rv_assembler.specs.declared.parsing.Reading.TheVariants.{Bad, Good}
use Rattle.rv_assembler.specs.declared.parsing.Saying.{Saying}
use Rattle.rv_assembler.specs.Fault.{are_cores}
use Rattle.rv_assembler.specs.Operand.{bytes_of, token_at}
use Rattle.rv_assembler.specs.Shape as shape
use Rattle.rv_assembler.specs.Shape.{Shape, memory_rows, operation_rows, short_rows, directive_rows, later_rows, is_colon, is_comma, is_plain, piece_fits, fits, shape_has_word, is_row, kind_in_rows, knows_word, kind_for}
use Rattle.rv_assembler.specs.Reading.{code_for, statement_for, statement_of, statement_in, said, labelled, read_tokens, read_line, reading_of}
use Rattle.rv_isa.specs.Table.{is_shift}
use Rattle.sentences.specs.declared.examples.Form.{Form}
use Rattle.sentences.specs.declared.findings.Cause.{Cause}
use Rattle.sentences.specs.declared.findings.Cause as cause
use Rattle.sentences.specs.declared.findings.Finding.{Finding}
use Rattle.sentences.specs.declared.findings.Want.{Want}
use Rattle.sentences.specs.declared.findings.Wanted as wanted
use Rattle.sentences.specs.declared.known.Known.{Known}
use Rattle.sentences.specs.declared.standing.Standing.{Standing}
use Rattle.sentences.specs.declared.standing.Standing as standing
use Rattle.sentences.specs.declared.wrong_operands.OperandSort.{OperandSort}
use Rattle.sentences.specs.declared.wrong_operands.WrongOperand.{WrongOperand}
use Rattle.sentences.specs.Examples.{line_alone, form_for}
use Rattle.sentences.specs.Known.{known_in}
use Rattle.sentences.specs.Marks.{part_by, bad_place_from, is_high, IsPartOf}
use Rattle.sentences.specs.Operands.{before_comma, behind_comma, part_over, is_mended_by, wrong_part, wrong_operand, wrong_among, found_sort, sorts_of}
use Rattle.sentences.specs.Standing.{standing_in}
use Rattle.sentences.specs.Findings.{version_for_line, said_alone, finding_at, behind_label, at_word, is_number_token, at_number, is_number_behind, interval_part, interval_from, at_interval, at_byte, at_part, code_out_of_range, out_of_range_at, declared_finding, is_before, declared_token, doubled_token, known_token, declared_at_token, doubled_at, is_known_region, want_of_code, want_of_effect, want_of, unknown_finding, unknown_if_any, unknown_at, standing_finding, misplaced_at, excess, at_word_if, limit_at, operand_or_word, operands_finding, at_first, dotted_label, label_or_statement, operand_at, unknown_word, finding_by, finding_on, finding_in, finding_of}

some-is : {X : Type 0} (a b : X) → Some a ≡ Some b → a ≡ b
some-is a b e = same_Some a b e

-- ---- what is found among others

found-has : {X : Type 0} (p : X → Bool) (Q : X → Type 0) (xs : List X) (x : X) → All Q xs → find p xs ≡ Some x → Q x × (p x ≡ true)
found-has p Q [] x all e = absurd (false≢true (ap is_some e))
found-has {X} p Q (y ∷ ys) x all e = by (p y) refl e (λ h. found-has p Q ys x (All-tail Q y ys all) h)
  where
    by : (b : Bool) → p y ≡ b → cond b (Some y) (find p ys) ≡ Some x → (find p ys ≡ Some x → Q x × (p x ≡ true)) → Q x × (p x ≡ true)
    by true is h rest = let same : y ≡ x = some-is y x h in (subst Q same (All-head Q y ys all), ap p (sym same) ∙ is)
    by false is h rest = rest h

-- ---- the tokens of a line, in their order

abbrev Ordered : ℕ → ℕ → List Token → Type 0
Ordered n from [] = Unit {0}
Ordered n from (t ∷ ts) = (from ≤ t.start) × (t.start < t.end) × (t.end ≤ n) × Ordered n t.end ts

sooner : (n from later : ℕ) (ts : List Token) → from ≤ later → Ordered n later ts → Ordered n from ts
sooner n from later [] low h = tt
sooner n from later (t ∷ ts) low h = (omega (arith, h.0), h.1, h.2, h.3)

behind-comma : (n from : ℕ) (ts : List Token) → Ordered n from ts → Ordered n from (behind_comma ts)
behind-comma n from [] h = tt
behind-comma n from (t ∷ ts) h =
    let rest : Ordered n from ts = sooner n from t.end ts (omega (arith, h.0, h.1)) h.3 in
    cond_both (is_comma t.kind) ts (behind_comma ts) (Ordered n from) (λ e. rest) (λ e. behind-comma n from ts rest)

before-comma : (n from : ℕ) (ts : List Token) → Ordered n from ts → Ordered n from (before_comma ts)
before-comma n from [] h = tt
before-comma n from (t ∷ ts) h =
    cond_both (is_comma t.kind) [] (t ∷ before_comma ts) (Ordered n from) (λ e. tt) (λ e. (h.0, h.1, h.2, before-comma n t.end ts h.3))

behind-label : (n from : ℕ) (ts : List Token) → Ordered n from ts → Ordered n from (behind_label ts)
behind-label n from [] h = tt
behind-label n from (t ∷ []) h = h
behind-label n from (t ∷ u ∷ ts) h =
    let rest = h.3 in
    cond_both (shape.is_name t.kind && is_colon u.kind) ts (t ∷ u ∷ ts) (Ordered n from)
    (λ e. sooner n from u.end ts (omega (arith, h.0, h.1, rest.0, rest.1)) rest.3) (λ e. h)

-- the last token ends behind the beginning of the first
last-behind : (n from : ℕ) (t d : Token) (ts : List Token) → Ordered n from (t ∷ ts) → (t.start < (get_or (t ∷ ts) (length ts) d).end) × ((get_or (t ∷ ts) (length ts) d).end ≤ n)
last-behind n from t d [] h = (h.1, h.2)
last-behind n from t d (u ∷ us) h =
    let rest = h.3 in
    let last = last-behind n t.end u d us rest in
    (omega (arith, h.1, rest.0, rest.1, last.0), last.1)

ordered : (n from : ℕ) (ts : List Token) → AreInOrder from ts → All (λ (t : Token). t.start < t.end) ts → All (λ (t : Token). t.end ≤ n) ts → Ordered n from ts
ordered n from [] o some ends = tt
ordered n from (t ∷ ts) o some ends = (
  o.0,
  All-head (λ (t : Token). t.start < t.end) t ts some,
  All-head (λ (t : Token). t.end ≤ n) t ts ends,
  ordered n t.end ts o.1 (All-tail (λ (t : Token). t.start < t.end) t ts some) (All-tail (λ (t : Token). t.end ≤ n) t ts ends),
)

-- ---- a lexeme has a byte

front-some : (bs : List ℕ) → 0 < length bs → (0 < length (front bs)) × (length (front bs) ≤ length bs)
front-some [] some = absurd (omega arith)
front-some (b ∷ bs) some =
    let longest = IsLongest-front b bs in
    let count : length (take (length (front (b ∷ bs))) (b ∷ bs)) ≡ length (front (b ∷ bs)) = ap length longest.first in
    (longest.some, omega (arith, count, length-take (length (front (b ∷ bs))) (b ∷ bs)))

lexeme-lies : (place p : ℕ) (line : List ℕ) (l : Lexeme) → StandsAt place p line l → (0 < length l.bytes) × (p + length l.bytes ≤ length line)
lexeme-lies place p line l s =
    let within = within_code p line s.begun in
    let long = length-drop p line in
    let own = front-some (drop p line) (omega arith) in
    let count : length l.bytes ≡ length (front (drop p line)) = ap length s.bytes in
    (omega (arith, own.0), omega (arith, own.1))

-- ---- the tokens of a line

tokens-strict : (place : ℕ) (line : List ℕ) (ls : List Lexeme) (ts : List Token) → All (λ (l : Lexeme). (p : ℕ) × StandsAt place p line l) ls → AllZip IsTokenOf ls ts
    → All (λ (t : Token). t.start < t.end) ts
tokens-strict place line [] [] all zip = All-nil (λ (t : Token). t.start < t.end)
tokens-strict place line [] (t ∷ ts) all zip = absurd zip
tokens-strict place line (l ∷ ls) [] all zip = absurd zip
tokens-strict place line (l ∷ ls) (t ∷ ts) all zip =
    let first = All-head (λ (l : Lexeme). (p : ℕ) × StandsAt place p line l) l ls all in
    let some = (lexeme-lies place first.0 line l first.1).0 in
    All-cons (λ (t : Token). t.start < t.end) t ts (omega (arith, some, zip.0.start, zip.0.end))
    (tokens-strict place line ls ts (All-tail (λ (l : Lexeme). (p : ℕ) × StandsAt place p line l) l ls all) zip.1)

strict-by : (number : ℕ) (ts : List Token) (f : Option LineFault) → (f ≡ None → All (λ (t : Token). t.start < t.end) ts) → All (λ (t : Token). t.start < t.end) (line_with number ts f).tokens
strict-by number ts None good = good refl
strict-by number ts (Some f) good = All-nil (λ (t : Token). t.start < t.end)

line-strict : (number place : ℕ) (line : List ℕ) → All (λ (t : Token). t.start < t.end) (line_of number place line).tokens
line-strict number place line =
    let ls = lexemes_of place line in
    strict-by number (filter_map token_of ls) (fault_of number line)
    (λ none. tokens-strict place (before_comment line) ls (filter_map token_of ls) (AreLexemesOf-lexemes_of place line).stand
    (subst (AllZip IsTokenOf ls) (sym (same_tokens number (filter_map token_of ls) (fault_of number line) none)) (AreTokensOf-line_of number place line none)))

line-ordered : (bytes : List ℕ) (l : Line) → line_alone bytes ≡ Some l → Ordered (length bytes) 0 l.tokens
line-ordered bytes l e =
    let numbered = AreNumbered-lines_of bytes in
    let within : 0 < length (lines_of bytes) = slice_get_within (lines_of bytes) 0 l e in
    let line = get_or (cut bytes) 0 [] in
    let place = line_start 0 (cut bytes) in
    let is : l ≡ line_of (0 + 1) place line = some-is _ _ (sym e ∙ numbered.each 0 (omega (arith, within, numbered.count))) in
    let placed : All (IsPlaced bytes) l.tokens =
    subst (λ (m : Line). All (IsPlaced bytes) m.tokens) (get_or_from_slice_get (lines_of bytes) 0 l l e) (ArePlaced-lines_of bytes 0 l within) in
    ordered (length bytes) 0 l.tokens
    (sooner-order 0 place l.tokens (omega arith) (subst (λ (m : Line). AreInOrder place m.tokens) (sym is) (AreInOrder-line_of (0 + 1) place line)))
    (subst (λ (m : Line). All (λ (t : Token). t.start < t.end) m.tokens) (sym is) (line-strict (0 + 1) place line))
    (All-weaker (IsPlaced bytes) (λ (t : Token). t.end ≤ length bytes) (λ t h. h.1) l.tokens placed)
  where
    sooner-order : (from later : ℕ) (ts : List Token) → from ≤ later → AreInOrder later ts → AreInOrder from ts
    sooner-order from later [] low h = tt
    sooner-order from later (t ∷ ts) low h = (omega (arith, h.0), h.1)

-- ---- a byte that may not stand there, and a bad number

bad-within : (place : ℕ) (bytes : List ℕ) (i : ℕ) → bad_place_from place bytes ≡ Some i → (place ≤ i) × (i < place + length bytes)
bad-within place [] i e = absurd (false≢true (ap is_some e))
bad-within place (b ∷ bs) i e = by (is_hash b) (is_bad b) e (λ h. bad-within (place + 1) bs i h)
  where
    by : (hash bad : Bool) → cond hash None (cond bad (Some place) (bad_place_from (place + 1) bs)) ≡ Some i
        → (bad_place_from (place + 1) bs ≡ Some i → (place + 1 ≤ i) × (i < place + 1 + length bs)) → (place ≤ i) × (i < place + suc (length bs))
    by true bad h rest = absurd (false≢true (ap is_some h))
    by false true h rest = let same : place ≡ i = some-is place i h in (omega (arith, same), omega (arith, same))
    by false false h rest = let r = rest h in (omega (arith, r.0), omega (arith, r.1))

module _ (bytes : List ℕ) where
  abbrev Lies : Option Finding → Type 0
  Lies None = Unit {0}
  Lies (Some x) = IsPartOf bytes x.part

  abbrev In : Token → Type 0
  In t = IsPartOf bytes (part_by t)

  byte-lies : (o : Option ℕ) → bad_place_from 0 bytes ≡ o → Lies (at_byte bytes o)
  byte-lies None e = tt
  byte-lies (Some i) e =
      let within = bad-within 0 bytes i e in
      let more = length-prefix_len is_high (drop (i + 1) bytes) in
      let cut = length-take (prefix_len is_high (drop (i + 1) bytes)) (drop (i + 1) bytes) in
      let left = length-drop (i + 1) bytes in
      (omega arith, omega (arith, within.1, more, cut, left))

  number-part : (o : Option Lexeme) → find is_bad_number (lexemes_of 0 bytes) ≡ o → Lies (at_part (option_map span_of o))
  number-part None e = tt
  number-part (Some l) e =
      let found = (found-has is_bad_number (λ (l : Lexeme). (p : ℕ) × StandsAt 0 p (before_comment bytes) l) (lexemes_of 0 bytes) l (AreLexemesOf-lexemes_of 0 bytes).stand e).0 in
      let lies = lexeme-lies 0 found.0 (before_comment bytes) l found.1 in
      let short = length-take (position_or_len is_hash bytes) bytes in
      (omega (arith, lies.0), omega (arith, lies.1, found.1.start, short))

  -- ---- what the statement of a line names

  abbrev InIf : Option Token → Type 0
  InIf None = Unit {0}
  InIf (Some t) = In t

  abbrev InCode : Code → Type 0
  InCode (code.TheVariants.Jump rd t) = In t
  InCode (code.TheVariants.Branch c a b t) = In t
  InCode (code.TheVariants.LoadAddress rd t) = In t
  InCode _ = Unit {0}

  abbrev InStatement : Statement → Type 0
  InStatement (statement.TheVariants.Instruction c) = InCode c
  InStatement (statement.TheVariants.Region name len) = In name
  InStatement (statement.TheVariants.Word region index value) = In region
  InStatement (statement.TheVariants.Lock name) = In name
  InStatement (statement.TheVariants.Tasks f) = In f.entry
  InStatement (statement.TheVariants.Uses e) = In e.region × InIf e.lock
  InStatement _ = Unit {0}

  -- how many tokens of the operands a statement of this kind names at most
  abbrev named_in_code : Mnemonic → ℕ
  named_in_code mnemonic.TheVariants.Jal = 3
  named_in_code (mnemonic.TheVariants.Branch c) = 5
  named_in_code (mnemonic.TheVariants.BranchZero c) = 3
  named_in_code mnemonic.TheVariants.J = 1
  named_in_code mnemonic.TheVariants.La = 3
  named_in_code _ = 0

  abbrev named_in : Kind → ℕ
  named_in (kind.TheVariants.Code m) = named_in_code m
  named_in (kind.TheVariants.Table directive.TheVariants.Region) = 1
  named_in (kind.TheVariants.Table directive.TheVariants.Word) = 1
  named_in (kind.TheVariants.Table directive.TheVariants.Lock) = 1
  named_in (kind.TheVariants.Table directive.TheVariants.Phase) = 0
  named_in (kind.TheVariants.Table directive.TheVariants.Task) = 3
  named_in (kind.TheVariants.Table directive.TheVariants.Forall) = 5
  named_in (kind.TheVariants.Table (directive.TheVariants.Uses w g)) = 1
  named_in (kind.TheVariants.Table (directive.TheVariants.Guarded w g)) = 3

  abbrev row_long : Shape → Bool
  row_long s = nat_le (named_in s.kind) (length s.operands)

  at : (ts : List Token) (i n : ℕ) → All In ts → n ≤ length ts → i < n → In (token_at ts i)
  at ts i n all long low = all i _ (omega arith)

  code-named : (ts : List Token) (m : Mnemonic) → All In ts → named_in_code m ≤ length ts → InCode (code_for bytes ts m)
  code-named ts mnemonic.TheVariants.Lui all long = tt
  code-named ts mnemonic.TheVariants.Auipc all long = tt
  code-named ts mnemonic.TheVariants.Jal all long = at ts 2 3 all long (omega arith)
  code-named ts mnemonic.TheVariants.Jalr all long = tt
  code-named ts (mnemonic.TheVariants.Branch c) all long = at ts 4 5 all long (omega arith)
  code-named ts (mnemonic.TheVariants.Load w) all long = tt
  code-named ts (mnemonic.TheVariants.Store w) all long = tt
  code-named ts (mnemonic.TheVariants.OpImm o) all long = tt
  code-named ts (mnemonic.TheVariants.Op o) all long = tt
  code-named ts mnemonic.TheVariants.Fence all long = tt
  code-named ts mnemonic.TheVariants.Ecall all long = tt
  code-named ts mnemonic.TheVariants.Ebreak all long = tt
  code-named ts mnemonic.TheVariants.Nop all long = tt
  code-named ts mnemonic.TheVariants.Mv all long = tt
  code-named ts mnemonic.TheVariants.Not all long = tt
  code-named ts mnemonic.TheVariants.Neg all long = tt
  code-named ts mnemonic.TheVariants.Seqz all long = tt
  code-named ts mnemonic.TheVariants.Snez all long = tt
  code-named ts (mnemonic.TheVariants.BranchZero c) all long = at ts 2 3 all long (omega arith)
  code-named ts mnemonic.TheVariants.J all long = at ts 0 1 all long (omega arith)
  code-named ts mnemonic.TheVariants.Jr all long = tt
  code-named ts mnemonic.TheVariants.Ret all long = tt
  code-named ts mnemonic.TheVariants.Li all long = tt
  code-named ts mnemonic.TheVariants.La all long = at ts 2 3 all long (omega arith)
  code-named ts mnemonic.TheVariants.Raw all long = tt

  kind-named : (ts : List Token) (k : Kind) → All In ts → named_in k ≤ length ts → InStatement (statement_for bytes ts k)
  kind-named ts (kind.TheVariants.Code m) all long = code-named ts m all long
  kind-named ts (kind.TheVariants.Table directive.TheVariants.Region) all long = at ts 0 1 all long (omega arith)
  kind-named ts (kind.TheVariants.Table directive.TheVariants.Word) all long = at ts 0 1 all long (omega arith)
  kind-named ts (kind.TheVariants.Table directive.TheVariants.Lock) all long = at ts 0 1 all long (omega arith)
  kind-named ts (kind.TheVariants.Table directive.TheVariants.Phase) all long = tt
  kind-named ts (kind.TheVariants.Table directive.TheVariants.Task) all long = at ts 2 3 all long (omega arith)
  kind-named ts (kind.TheVariants.Table directive.TheVariants.Forall) all long = at ts 4 5 all long (omega arith)
  kind-named ts (kind.TheVariants.Table (directive.TheVariants.Uses w g)) all long = (at ts 0 1 all long (omega arith), tt)
  kind-named ts (kind.TheVariants.Table (directive.TheVariants.Guarded w g)) all long = (at ts 2 3 all long (omega arith), at ts 0 3 all long (omega arith))

  abbrev Found : List Token → Option Kind → Type 0
  Found ts None = Unit {0}
  Found ts (Some k) = InStatement (statement_for bytes ts k)

  fits-long : (ps : List Piece) (ts : List Token) → fits bytes ps ts ≡ true → length ts ≡ length ps
  fits-long [] [] e = refl
  fits-long [] (t ∷ ts) e = absurd (false≢true e)
  fits-long (p ∷ ps) [] e = absurd (false≢true e)
  fits-long (p ∷ ps) (t ∷ ts) e = ap suc (fits-long ps ts (and_parts (piece_fits bytes p t) (fits bytes ps ts) e).1)

  row-found : (v : Bool) (w : List ℕ) (ts : List Token) → All In ts → (shapes : List Shape) → list_all row_long shapes ≡ true → Found ts (kind_in_rows v bytes w ts shapes)
  row-found v w ts all [] e = tt
  row-found v w ts all (s ∷ ss) e = by (is_row v bytes w ts s) refl (row-found v w ts all ss long.1)
    where
      long : (row_long s ≡ true) × (list_all row_long ss ≡ true)
      long = and_parts (row_long s) (list_all row_long ss) e

      by : (c : Bool) → is_row v bytes w ts s ≡ c → Found ts (kind_in_rows v bytes w ts ss) → Found ts (option_map (λ (s : Shape). s.kind) (cond c (Some s) (find (is_row v bytes w ts) ss)))
      by true is rest =
          let same = fits-long s.operands ts (and_parts (shape_has_word v w s) (fits bytes s.operands ts) is).1 in
          kind-named ts s.kind all (enough (named_in s.kind) (length s.operands) (length ts) long.0 same)
        where
          enough : (n k m : ℕ) → nat_le n k ≡ true → m ≡ k → n ≤ m
          enough n k m low same = grind (arith, nat_tests)
      by false is rest = rest

  else-found : (ts : List Token) (a b : Option Kind) → Found ts a → Found ts b → Found ts (option_or a b)
  else-found ts None b f g = g
  else-found ts (Some k) b f g = f

  memory-long : list_all row_long memory_rows ≡ true
  unfolding memory_rows
  memory-long = refl

  operation-long : list_all row_long operation_rows ≡ true
  unfolding operation_rows
  operation-long = refl

  short-long : list_all row_long short_rows ≡ true
  unfolding short_rows
  short-long = refl

  directive-long : list_all row_long directive_rows ≡ true
  unfolding directive_rows
  directive-long = refl

  later-long : list_all row_long later_rows ≡ true
  unfolding later_rows
  later-long = refl

  kind-found : (v : Bool) (w : List ℕ) (ts : List Token) → All In ts → Found ts (kind_for v bytes w ts)
  kind-found v w ts all =
      let rows = row-found v w ts all in
      else-found ts _ _ (rows memory_rows memory-long) (else-found ts _ _ (rows operation_rows operation-long)
      (else-found ts _ _ (rows short_rows short-long) (else-found ts _ _ (rows directive_rows directive-long) (rows later_rows later-long))))

  abbrev InResult : Result Statement SourceFault → Type 0
  InResult (Ok s) = InStatement s
  InResult (Err f) = Unit {0}

  abbrev InReading : Reading → Type 0
  InReading (Good s) = InStatement s.statement × InIf s.label
  InReading (Bad f) = Unit {0}

  statement-of : (line : ℕ) (ts : List Token) (k : Option Kind) → Found ts k → InResult (statement_of bytes line ts k)
  statement-of line ts None h = tt
  statement-of line ts (Some k) h = h

  statement-lies : (v : Bool) (line : ℕ) (ts : List Token) → All In ts → InResult (statement_in v bytes line ts)
  statement-lies v line [] all = tt
  statement-lies v line (t ∷ ts) all =
      cond_both (not (shape.is_name t.kind)) (Err (fault.TheVariants.BadOperand line)) _ InResult (λ e. tt)
      (λ e. cond_both (not (knows_word v (bytes_of bytes t))) (Err (fault.TheVariants.UnknownWord line)) _ InResult (λ f. tt)
      (λ f. statement-of line ts (kind_for v bytes (bytes_of bytes t) ts) (kind-found v (bytes_of bytes t) ts (All-tail In t ts all))))

  said-lies : (line : ℕ) (r : Result Statement SourceFault) → InResult r → InReading (said line r)
  said-lies line (Ok s) h = (h, tt)
  said-lies line (Err f) h = tt

  labelled-lies : (line : ℕ) (t : Token) (r : Result Statement SourceFault) → In t → InResult r → InReading (labelled bytes line t r)
  labelled-lies line t (Ok s) own h =
      cond_both (is_plain bytes t) (Good (record { line = line; label = Some t; statement = s })) (Bad (fault.TheVariants.BadOperand line)) InReading (λ e. (h, own)) (λ e. tt)
  labelled-lies line t (Err f) own h = tt

  tokens-lie : (v : Bool) (line : ℕ) (ts : List Token) → All In ts → InReading (read_tokens v bytes line ts)
  tokens-lie v line [] all = (tt, tt)
  tokens-lie v line (t ∷ []) all = said-lies line (statement_in v bytes line (t ∷ [])) (statement-lies v line (t ∷ []) all)
  tokens-lie v line (t ∷ u ∷ ts) all =
      cond_both (shape.is_name t.kind && is_colon u.kind) (labelled bytes line t (statement_in v bytes line ts)) (said line (statement_in v bytes line (t ∷ u ∷ ts))) InReading
      (λ e. labelled-lies line t (statement_in v bytes line ts) (All-head In t (u ∷ ts) all) (statement-lies v line ts (All-tail In u ts (All-tail In t (u ∷ ts) all))))
      (λ e. said-lies line (statement_in v bytes line (t ∷ u ∷ ts)) (statement-lies v line (t ∷ u ∷ ts) all))

  line-lies : (v : Bool) (line : ℕ) (ts : List Token) (f : Option LineFault) → All In ts → InReading (read_line v bytes line ts f)
  line-lies v line ts (Some f) all = tt
  line-lies v line ts None all = tokens-lie v line ts all

  reading-lies : (version : ℕ) (l : Line) → All In l.tokens → InReading (reading_of version bytes l)
  reading-lies version l all =
      cond_both (nat_eq l.number version) _ (read_line (nat_lt 0 version) bytes l.number l.tokens l.fault) InReading (λ e. (tt, tt))
      (λ e. line-lies (nat_lt 0 version) l.number l.tokens l.fault all)

  -- ---- the findings

  each-lies : (from : ℕ) (ts : List Token) → Ordered (length bytes) from ts → All In ts
  each-lies from [] h = All-nil In
  each-lies from (t ∷ ts) h = All-cons In t ts (h.1, h.2) (each-lies t.end ts h.3)

  first-lies : (c : Cause) (ts : List Token) → All In ts → Lies (option_map (finding_at c) (slice_get ts 0))
  first-lies c [] all = tt
  first-lies c (t ∷ ts) all = All-head In t ts all

  found-lies : (c : Cause) (o : Option Token) → ((t : Token) → o ≡ Some t → In t) → Lies (option_map (finding_at c) o)
  found-lies c None h = tt
  found-lies c (Some t) h = h t refl

  number-lies : (c : Cause) (ts : List Token) → All In ts → Lies (at_number c ts)
  number-lies c ts all = found-lies c (find is_number_token ts) (λ t e. (found-has is_number_token In ts t all e).0)

  interval-lies : (c : Cause) (ts : List Token) → All In ts → Lies (at_interval c ts)
  interval-lies c ts all = by (find is_number_token ts) refl
    where
      whole : (t : Token) (o : Option Token) → In t → ((u : Token) → o ≡ Some u → In u × (is_number_behind t.start u ≡ true)) → IsPartOf bytes (interval_part t o)
      whole t None own h = own
      whole t (Some u) own h =
          let other = h u refl in
          let behind : nat_lt t.start u.start ≡ true = (and_parts (is_number_token u) (nat_lt t.start u.start) other.1).1 in
          (joined t.start u.start u.end behind other.0.0, other.0.1)
        where
          joined : (a b d : ℕ) → nat_lt a b ≡ true → b < d → a < d
          joined a b d low more = grind (arith, nat_tests)

      by : (o : Option Token) → find is_number_token ts ≡ o → Lies (interval_from c ts o)
      by None e = tt
      by (Some t) e =
          whole t (find (is_number_behind t.start) ts) (found-has is_number_token In ts t all e).0
          (λ u f. found-has (is_number_behind t.start) In ts u all f)

  code-lies : (ts : List Token) (k : Code) → All In ts → InCode k → Lies (code_out_of_range ts k)
  unfolding code_out_of_range
  code-lies ts (code.TheVariants.Upper adds_pc rd n) all h = number-lies _ ts all
  code-lies ts (code.TheVariants.Jump rd t) all h = h
  code-lies ts (code.TheVariants.JumpRegister rd base n) all h = number-lies _ ts all
  code-lies ts (code.TheVariants.Branch c a b t) all h = h
  code-lies ts (code.TheVariants.Load w rd base n) all h = number-lies _ ts all
  code-lies ts (code.TheVariants.Store w src base n) all h = number-lies _ ts all
  code-lies ts (code.TheVariants.OpImm o rd a n) all h =
      cond_both (is_shift o) _ _ Lies (λ e. number-lies _ ts all) (λ e. number-lies _ ts all)
  code-lies ts (code.TheVariants.Op o rd a b) all h = tt
  code-lies ts code.TheVariants.Fence all h = tt
  code-lies ts code.TheVariants.Ecall all h = tt
  code-lies ts code.TheVariants.Ebreak all h = tt
  code-lies ts (code.TheVariants.LoadNumber rd z) all h = tt
  code-lies ts (code.TheVariants.LoadAddress rd t) all h = tt
  code-lies ts (code.TheVariants.Raw z) all h = tt

  range-lies : (text : List ℕ) (ts : List Token) (s : Statement) → All In ts → InStatement s → Lies (out_of_range_at text bytes ts s)
  unfolding out_of_range_at
  range-lies text ts statement.TheVariants.Nothing all h = tt
  range-lies text ts (statement.TheVariants.Instruction k) all h = code-lies ts k all h
  range-lies text ts (statement.TheVariants.Region name len) all h = number-lies _ ts all
  range-lies text ts (statement.TheVariants.Word region index value) all h = number-lies _ ts all
  range-lies text ts (statement.TheVariants.Lock name) all h = tt
  range-lies text ts statement.TheVariants.Phase all h = tt
  range-lies text ts (statement.TheVariants.Tasks f) all h =
      cond_both (are_cores f) (Some (finding_at cause.TheVariants.Address f.entry)) (at_number cause.TheVariants.Cores ts) Lies (λ e. h) (λ e. number-lies _ ts all)
  range-lies text ts (statement.TheVariants.Uses e) all h = interval-lies _ ts all

  declared-lies : (t : Token) (o : Option Known) → In t → Lies (declared_finding t o)
  declared-lies t None h = tt
  declared-lies t (Some k) h = h

  named-token : (s : Statement) → InStatement s → InIf (declared_token s)
  named-token statement.TheVariants.Nothing h = tt
  named-token (statement.TheVariants.Instruction k) h = tt
  named-token (statement.TheVariants.Region name len) h = h
  named-token (statement.TheVariants.Word region index value) h = tt
  named-token (statement.TheVariants.Lock name) h = h
  named-token statement.TheVariants.Phase h = tt
  named-token (statement.TheVariants.Tasks f) h = tt
  named-token (statement.TheVariants.Uses e) h = tt

  doubled-token : (s : Statement) (label : Option Token) (b : Bool) → InStatement s → InIf label → InIf (doubled_token s label b)
  doubled-token s label true h own = own
  doubled-token s label false h own = named-token s h

  token-lies : (text : List ℕ) (o : Option Token) → InIf o → Lies (declared_at_token text bytes o)
  token-lies text None h = tt
  token-lies text (Some t) h = declared-lies t (known_in text (bytes_of bytes t)) h

  doubled-lies : (text : List ℕ) (line : ℕ) (s : Saying) → InStatement s.statement → InIf s.label → Lies (doubled_at text bytes line s)
  unfolding doubled_at
  doubled-lies text line s h own =
      let b = is_before line (known_token text bytes s.label) in
      token-lies text (doubled_token s.statement s.label b) (doubled-token s.statement s.label b h own)

  abbrev InWant : Option Want → Type 0
  InWant None = Unit {0}
  InWant (Some w) = In w.token

  unknown-lies : (w : Want) (o : Option Known) → In w.token → IsPartOf bytes (unknown_finding w o).part
  unknown-lies w None h = h
  unknown-lies w (Some k) h = h

  want-lies : (text : List ℕ) (o : Option Want) → InWant o → Lies (unknown_if_any text bytes o)
  want-lies text None h = tt
  want-lies text (Some w) h = unknown-lies w (known_in text (bytes_of bytes w.token)) h

  code-want : (k : Code) → InCode k → InWant (want_of_code k)
  code-want (code.TheVariants.Upper adds_pc rd n) h = tt
  code-want (code.TheVariants.Jump rd t) h = h
  code-want (code.TheVariants.JumpRegister rd base n) h = tt
  code-want (code.TheVariants.Branch c a b t) h = h
  code-want (code.TheVariants.Load w rd base n) h = tt
  code-want (code.TheVariants.Store w src base n) h = tt
  code-want (code.TheVariants.OpImm o rd a n) h = tt
  code-want (code.TheVariants.Op o rd a b) h = tt
  code-want code.TheVariants.Fence h = tt
  code-want code.TheVariants.Ecall h = tt
  code-want code.TheVariants.Ebreak h = tt
  code-want (code.TheVariants.LoadNumber rd z) h = tt
  code-want (code.TheVariants.LoadAddress rd t) h = h
  code-want (code.TheVariants.Raw z) h = tt

  lock-want : (o : Option Token) → InIf o → InWant (option_map (λ (t : Token). record { token = t; as_what = wanted.TheVariants.Lock }) o)
  lock-want None h = tt
  lock-want (Some t) h = h

  statement-want : (text : List ℕ) (s : Statement) → InStatement s → InWant (want_of text bytes s)
  statement-want text statement.TheVariants.Nothing h = tt
  statement-want text (statement.TheVariants.Instruction k) h = code-want k h
  statement-want text (statement.TheVariants.Region name len) h = tt
  statement-want text (statement.TheVariants.Word region index value) h = h
  statement-want text (statement.TheVariants.Lock name) h = tt
  statement-want text statement.TheVariants.Phase h = tt
  statement-want text (statement.TheVariants.Tasks f) h = h
  statement-want text (statement.TheVariants.Uses e) h = by (is_known_region (known_in text (bytes_of bytes e.region)))
    where
      by : (b : Bool) → InWant (want_of_effect e b)
      by true = lock-want e.lock h.1
      by false = h.0

  name-lies : (text : List ℕ) (s : Statement) → InStatement s → Lies (unknown_at text bytes s)
  unfolding unknown_at
  name-lies text s h = want-lies text (want_of text bytes s) (statement-want text s h)

  module _ (ts : List Token) (o : Ordered (length bytes) 0 ts) where
    all-lie : All In ts
    all-lie = each-lies 0 ts o

    word-lies : (c : Cause) → Lies (at_word c ts)
    word-lies c = first-lies c (behind_label ts) (each-lies 0 (behind_label ts) (behind-label (length bytes) 0 ts o))

    standing-lies : (s : Standing) → Lies (standing_finding ts s)
    standing-lies standing.TheVariants.NoPhase = word-lies cause.TheVariants.NoPhase
    standing-lies standing.TheVariants.Free = tt
    standing-lies (standing.TheVariants.Taken line) = word-lies (cause.TheVariants.CoreInUse line)

    place-lies : (text : List ℕ) (line : ℕ) (s : Statement) → Lies (misplaced_at text line ts s)
    unfolding misplaced_at
    place-lies text line statement.TheVariants.Nothing = tt
    place-lies text line (statement.TheVariants.Instruction k) = tt
    place-lies text line (statement.TheVariants.Region name len) = tt
    place-lies text line (statement.TheVariants.Word region index value) = tt
    place-lies text line (statement.TheVariants.Lock name) = tt
    place-lies text line statement.TheVariants.Phase = tt
    place-lies text line (statement.TheVariants.Tasks f) = standing-lies (standing_in text line f)
    place-lies text line (statement.TheVariants.Uses e) = word-lies cause.TheVariants.NoTask

    cause-lies : (c : Option Cause) → Lies (at_word_if ts c)
    cause-lies None = tt
    cause-lies (Some c) = word-lies c

    limit-lies : (s : Statement) → Lies (limit_at ts s)
    unfolding limit_at
    limit-lies s = cause-lies (excess s)

    -- ---- an operand

    part-lies : (n from : ℕ) (us : List Token) → n ≡ length bytes → Ordered n from us → (p : Span) → part_over us ≡ Some p → IsPartOf bytes p
    part-lies n from [] same h p e = absurd (false≢true (ap is_some e))
    part-lies n from (t ∷ us) same h p e =
        let last = last-behind n from t t us h in
        subst (IsPartOf bytes) (some-is _ p e) (last.0, omega (arith, last.1, same))

    abbrev WrongLies : Option WrongOperand → Type 0
    WrongLies None = Unit {0}
    WrongLies (Some w) = IsPartOf bytes w.part

    wrong-lies : (version number : ℕ) (ss : List OperandSort) (from : ℕ) (us : List Token) → Ordered (length bytes) from us → WrongLies (wrong_among version bytes number ss us)
    wrong-lies version number [] from us h = tt
    wrong-lies version number (s ∷ ss) from us h =
        either (wrong_operand version bytes number s here) (wrong_among version bytes (number + 1) ss (behind_comma us))
        (own (part_over here) refl) (wrong-lies version (number + 1) ss from (behind_comma us) (behind-comma (length bytes) from us h))
      where
        here : List Token
        here = before_comma us

        made : Span → WrongOperand
        made p = record { part = p; number = number; found = found_sort bytes here; wanted = s }

        own : (q : Option Span) → part_over here ≡ q → WrongLies (wrong_part version bytes number s here q)
        own None e = tt
        own (Some p) e =
            cond_both (is_mended_by version bytes s p) (Some (made p)) None WrongLies
            (λ is. part-lies (length bytes) from here refl (before-comma (length bytes) from us h) p e) (λ isnt. tt)

        either : (a b : Option WrongOperand) → WrongLies a → WrongLies b → WrongLies (option_or a b)
        either None b f g = g
        either (Some w) b f g = f

    wrong-finding : (t : Token) (f : Form) (w : Option WrongOperand) → In t → WrongLies w → IsPartOf bytes (operand_or_word t f w).part
    wrong-finding t f None own h = own
    wrong-finding t f (Some w) own h = h

    form-lies : (version : ℕ) (t : Token) (us : List Token) (f : Option Form) → In t → Ordered (length bytes) t.end us → IsPartOf bytes (operands_finding version bytes t us f).part
    form-lies version t us None own h = own
    form-lies version t us (Some f) own h =
        wrong-finding t f (wrong_among version bytes 1 (sorts_of f) us) own (wrong-lies version 1 (sorts_of f) t.end us h)

    statement-finding : (version : ℕ) (us : List Token) → Ordered (length bytes) 0 us → Lies (at_first version bytes us)
    statement-finding version [] h = tt
    statement-finding version (t ∷ us) h =
        cond_both (shape.is_name t.kind) (operands_finding version bytes t us (form_for version (bytes_of bytes t))) (finding_at cause.TheVariants.NoWord t) (λ (x : Finding). IsPartOf bytes x.part)
        (λ e. form-lies version t us (form_for version (bytes_of bytes t)) (h.1, h.2) h.3) (λ e. (h.1, h.2))

    label-lies : (us : List Token) → All In us → InIf (dotted_label bytes us)
    label-lies [] all = tt
    label-lies (t ∷ []) all = tt
    label-lies (t ∷ u ∷ us) all =
        cond_both (shape.is_name t.kind && is_colon u.kind && not (is_plain bytes t)) (Some t) None InIf (λ e. All-head In t (u ∷ us) all) (λ e. tt)

    operand-lies : (version : ℕ) → Lies (operand_at version bytes ts)
    unfolding operand_at
    operand-lies version = by (dotted_label bytes ts) (label-lies ts all-lie)
      where
        by : (d : Option Token) → InIf d → Lies (label_or_statement version bytes ts d)
        by None h = statement-finding version (behind_label ts) (behind-label (length bytes) 0 ts o)
        by (Some t) h = h

    reading-finding : (text : List ℕ) (r : Reading) (f : SourceFault) → InReading r → Lies (finding_by text bytes ts r f)
    reading-finding text (Bad g) f h = tt
    reading-finding text (Good s) fault.TheVariants.TooLarge h = tt
    reading-finding text (Good s) (fault.TheVariants.BadByte line) h = tt
    reading-finding text (Good s) (fault.TheVariants.BadNumber line) h = tt
    reading-finding text (Good s) (fault.TheVariants.LineLimit line) h = tt
    reading-finding text (Good s) (fault.TheVariants.UnknownWord line) h = tt
    reading-finding text (Good s) (fault.TheVariants.BadOperand line) h = tt
    reading-finding text (Good s) (fault.TheVariants.OutOfRange line) h = range-lies text ts s.statement all-lie h.0
    reading-finding text (Good s) (fault.TheVariants.DoubleName line) h = doubled-lies text line s h.0 h.1
    reading-finding text (Good s) (fault.TheVariants.UnknownName line) h = name-lies text s.statement h.0
    reading-finding text (Good s) (fault.TheVariants.Misplaced line) h = place-lies text line s.statement
    reading-finding text (Good s) (fault.TheVariants.Limit line) h = limit-lies s.statement
    reading-finding text (Good s) fault.TheVariants.Memory h = tt

  by-reading : (text : List ℕ) (l : Line) (f : SourceFault) → Ordered (length bytes) 0 l.tokens → Lies (finding_by text bytes l.tokens (said_alone text bytes l) f)
  unfolding said_alone
  by-reading text l f o = reading-finding l.tokens o text (reading_of (version_for_line text) bytes l) f (reading-lies (version_for_line text) l (each-lies 0 l.tokens o))

  line-finding : (text : List ℕ) (l : Line) (f : SourceFault) → Ordered (length bytes) 0 l.tokens → Lies (finding_on text bytes l f)
  unfolding finding_on
  line-finding text l fault.TheVariants.TooLarge o = by-reading text l fault.TheVariants.TooLarge o
  line-finding text l (fault.TheVariants.BadByte line) o = by-reading text l (fault.TheVariants.BadByte line) o
  line-finding text l (fault.TheVariants.BadNumber line) o = by-reading text l (fault.TheVariants.BadNumber line) o
  line-finding text l (fault.TheVariants.LineLimit line) o = by-reading text l (fault.TheVariants.LineLimit line) o
  line-finding text l (fault.TheVariants.UnknownWord line) o = word-lies l.tokens o (unknown_word l.tokens)
  line-finding text l (fault.TheVariants.BadOperand line) o = operand-lies l.tokens o (version_for_line text)
  line-finding text l (fault.TheVariants.OutOfRange line) o = by-reading text l (fault.TheVariants.OutOfRange line) o
  line-finding text l (fault.TheVariants.DoubleName line) o = by-reading text l (fault.TheVariants.DoubleName line) o
  line-finding text l (fault.TheVariants.UnknownName line) o = by-reading text l (fault.TheVariants.UnknownName line) o
  line-finding text l (fault.TheVariants.Misplaced line) o = by-reading text l (fault.TheVariants.Misplaced line) o
  line-finding text l (fault.TheVariants.Limit line) o = by-reading text l (fault.TheVariants.Limit line) o
  line-finding text l fault.TheVariants.Memory o = by-reading text l fault.TheVariants.Memory o

  alone-finding : (text : List ℕ) (f : SourceFault) (o : Option Line) → line_alone bytes ≡ o → Lies (finding_in text bytes o f)
  alone-finding text f None e = tt
  alone-finding text f (Some l) e = line-finding text l f (line-ordered bytes l e)

  all-findings : (text : List ℕ) (f : SourceFault) → Lies (finding_of text bytes f)
  all-findings text (fault.TheVariants.BadByte line) = byte-lies (bad_place_from 0 bytes) refl
  all-findings text (fault.TheVariants.BadNumber line) = number-part (find is_bad_number (lexemes_of 0 bytes)) refl
  all-findings text fault.TheVariants.TooLarge = alone-finding text fault.TheVariants.TooLarge (line_alone bytes) refl
  all-findings text (fault.TheVariants.LineLimit line) = alone-finding text (fault.TheVariants.LineLimit line) (line_alone bytes) refl
  all-findings text (fault.TheVariants.UnknownWord line) = alone-finding text (fault.TheVariants.UnknownWord line) (line_alone bytes) refl
  all-findings text (fault.TheVariants.BadOperand line) = alone-finding text (fault.TheVariants.BadOperand line) (line_alone bytes) refl
  all-findings text (fault.TheVariants.OutOfRange line) = alone-finding text (fault.TheVariants.OutOfRange line) (line_alone bytes) refl
  all-findings text (fault.TheVariants.DoubleName line) = alone-finding text (fault.TheVariants.DoubleName line) (line_alone bytes) refl
  all-findings text (fault.TheVariants.UnknownName line) = alone-finding text (fault.TheVariants.UnknownName line) (line_alone bytes) refl
  all-findings text (fault.TheVariants.Misplaced line) = alone-finding text (fault.TheVariants.Misplaced line) (line_alone bytes) refl
  all-findings text (fault.TheVariants.Limit line) = alone-finding text (fault.TheVariants.Limit line) (line_alone bytes) refl
  all-findings text fault.TheVariants.Memory = alone-finding text fault.TheVariants.Memory (line_alone bytes) refl

pub marked-lies : (text bytes : List ℕ) (f : SourceFault) (x : Finding) → finding_of text bytes f ≡ Some x → IsPartOf bytes x.part
marked-lies text bytes f x e = subst (Lies bytes) e (all-findings bytes text f)
