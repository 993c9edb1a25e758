-- What the lines of code words are read as.
use Rattle.std.proofs.Common.{◌≡◌, ℕ, ◌+◌, ◌^◌, ◌<◌, ◌≤◌, Bool, true, false, cond, eqb, ◌&&◌, List, [], ◌∷◌, ◌++◌, length, Option, Some, None, codes, refl, sym, ap, ◌∙◌, subst, append_assoc, length-append, arith}
use Rattle.std.specs.Prelude.{ℤ, pos, negsuc, neg_ℤ, ◌≤ℤ◌, ◌<ℤ◌, int_le, int_lt}
use Rattle.std.specs.Fmt.{decimal, signed_decimal}
use Rattle.std.specs.List.{filter_map}
use Rattle.std.specs.Option.{is_some}
use Rattle.std.proofs.lemmas.Int.{ints}
use Rattle.rv_isa.specs.Word.{bits, pattern}
use Rattle.rv_isa.specs.Range.{IsSigned, IsOffset, IsOperand, IsEncodable, HasRegisters}
use Rattle.rv_isa.specs.Table.{is_shift, has_immediate, is_stored}
use Rattle.rv_isa.specs.Encoding.{encoded, decoded}
use Rattle.rv_isa.proofs.RowLemmas.{decoded-row}
use Rattle.rv_isa.proofs.EncodingLemmas.{HasRegisters-row, Fits-row}
use Rattle.rv_isa.specs.declared.instr.AluOp.{AluOp}
use Rattle.rv_isa.specs.declared.instr.Cond.{Cond}
use Rattle.rv_isa.specs.declared.instr.Width.{Width}
use Rattle.rv_isa.specs.declared.instr.Instr.{Instr}
use Rattle.rv_isa.specs.declared.instr.Instr as instr
use Rattle.src_text.specs.Lexeme.{lexemes_after, token_of}
use Rattle.src_text.specs.Register.{register_of}
use Rattle.src_text.specs.declared.token.Token.{Token}
use Rattle.src_text.specs.declared.token.TokenKind.TheVariants.{Name, Number, Comma, Left, Right}
use Rattle.rv_assembler.specs.declared.statement.Code.{Code}
use Rattle.rv_assembler.specs.declared.kind.Kind.{Kind}
use Rattle.rv_assembler.specs.declared.names.Meaning.{Meaning}
use Rattle.rv_assembler.specs.declared.kind.Piece.{Piece}
use Rattle.rv_assembler.specs.declared.emission.Emission as in_emission
use Rattle.rv_assembler.specs.declared.kind.Kind as in_kind
use Rattle.rv_assembler.specs.declared.kind.Mnemonic as in_mnemonic
use Rattle.rv_assembler.specs.declared.statement.Statement as in_statement
use Rattle.rv_assembler.specs.Number.{wrapped, is_within, is_even, is_upper, is_immediate, is_jump, is_branch, is_operand}
use Rattle.rv_assembler.specs.Operand.{bytes_of, register_number}
use Rattle.rv_assembler.specs.Shape.{is_colon, fits, none, n, r_n, r_t, r_r_t, r_r_n, r_r_r, r_at}
use Rattle.rv_assembler.specs.Reading.{code_for, statement_for}
use Rattle.rv_assembler.specs.Size.{code_word_count}
use Rattle.rv_assembler.specs.Emission.{one_if, emission}
use borrow.Author.Tests.{eqb-true}
use Rattle.rv_listing.specs.Statement.{hexadecimal, register, address, statement}
use Rattle.rv_listing.specs.Instruction.{branch_word, load_word, store_word, immediate_word, operation_word, instruction_line, raw_line, line_by, code_line}
use Rattle.rv_listing.proofs.NumeralLemmas.{IsHeld, signed-token, signed-kind, hexadecimal-token, hexadecimal-kind, register-found, register-token, register-kind}
use Rattle.rv_listing.proofs.TokenLemmas.{token, Op, IsOp, AreOps, texts, op_tokens, statement-lexed, statement-read, access, access-lexed, slice, IsGoodLine, statement-good, access-good}
use Rattle.rv_listing.proofs.KindLemmas.{HasKind, NoColon, IsSaid, reads, lui-kind, auipc-kind, jal-kind, jalr-kind, branch-kind, load-kind, store-kind, immediate-kind, operation-kind, fence-kind, ecall-kind, ebreak-kind, raw-kind}

-- ---- numbers in their ranges

pub held-within : (z : ℤ) (b : ℕ) → neg_ℤ (pos b) ≤ℤ z → z <ℤ pos b → b ≤ 2147483648 → IsHeld z
held-within (pos n) b low high l = omega (arith, ints)
held-within (negsuc n) b low high l = omega (arith, ints)

within-true : (z low below : ℤ) → low ≤ℤ z → z <ℤ below → is_within low below z ≡ true
within-true z low below l h =
    let a : int_le low z ≡ true = grind (arith, ints) in
    let b : int_lt z below ≡ true = grind (arith, ints) in
    rw (a, b) refl

pub wrapped-pos : (n : ℕ) → n < 2 ^ 32 → wrapped (pos n) ≡ n
wrapped-pos n l = omega (arith, ints)

upper-true : (n : ℕ) → n < 2 ^ 20 → is_upper (pos n) ≡ true
upper-true n l = within-true (pos n) (pos 0) (pos 0x100000) (omega (arith, ints)) (omega (arith, ints))

and-both : (a b : Bool) → a ≡ true → b ≡ true → (a && b) ≡ true
and-both a b e f = rw (e, f) refl

even-true : (z : ℤ) → bits (pattern z) 0 1 ≡ 0 → is_even z ≡ true
even-true z e = rw e refl

immediate-true : (z : ℤ) → IsSigned 12 z → is_immediate z ≡ true
immediate-true z f = within-true z (neg_ℤ (pos 2048)) (pos 2048) f.low f.high

jump-true : (z : ℤ) → IsOffset 21 z → is_jump z ≡ true
jump-true z f = and-both (is_within (neg_ℤ (pos 0x100000)) (pos 0x100000) z) (is_even z) (within-true z (neg_ℤ (pos 0x100000)) (pos 0x100000) f.within.low f.within.high) (even-true z f.even)

branch-true : (z : ℤ) → IsOffset 13 z → is_branch z ≡ true
branch-true z f = and-both (is_within (neg_ℤ (pos 4096)) (pos 4096) z) (is_even z) (within-true z (neg_ℤ (pos 4096)) (pos 4096) f.within.low f.within.high) (even-true z f.even)

operand-by : (b : Bool) (z : ℤ) → IsOperand b z → cond b (is_within (pos 0) (pos 32) z) (is_immediate z) ≡ true
operand-by true z f = within-true z (pos 0) (pos 32) f.low f.high
operand-by false z f = immediate-true z f

operand-true : (o : AluOp) (z : ℤ) → has_immediate o ≡ true → IsOperand (is_shift o) z → is_operand o z ≡ true
operand-true o z h f = and-both (has_immediate o) (cond (is_shift o) (is_within (pos 0) (pos 32) z) (is_immediate z)) h (operand-by (is_shift o) z f)

held-immediate : (z : ℤ) → IsSigned 12 z → IsHeld z
held-immediate z f = held-within z 2048 f.low f.high (omega arith)

held-operand : (b : Bool) (z : ℤ) → IsOperand b z → IsHeld z
held-operand true (pos n) f = let h : pos n <ℤ pos 32 = f.high in omega (arith, ints)
held-operand true (negsuc n) f = let h : pos 0 ≤ℤ negsuc n = f.low in absurd (omega (arith, ints))
held-operand false z f = held-immediate z f

-- ---- operands

abbrev pub reg : ℕ → Op
reg d = record { kind = Name; bytes = register d }

abbrev pub num : ℤ → Op
num z = record { kind = Number z; bytes = signed_decimal z }

abbrev pub hex : ℕ → Op
hex n = record { kind = Number (pos n); bytes = hexadecimal n }

pub reg-op : (d : ℕ) → d < 32 → IsOp (reg d)
reg-op d l = record { word = register-token d l; kind = register-kind d }

pub num-op : (z : ℤ) → IsHeld z → IsOp (num z)
num-op z h = record { word = signed-token z h; kind = signed-kind z h }

pub hex-op : (n : ℕ) → n < 2 ^ 32 → IsOp (hex n)
hex-op n l = record { word = hexadecimal-token n l; kind = hexadecimal-kind n l }

reg-found : (bs : List ℕ) (d : ℕ) → d < 32 → bs ≡ register d → register_of bs ≡ Some d
reg-found bs d l e = ap register_of e ∙ register-found d l

reg-some : (bs : List ℕ) (d : ℕ) → d < 32 → bs ≡ register d → is_some (register_of bs) ≡ true
reg-some bs d l e = ap is_some (reg-found bs d l e)

reg-number : (bs : List ℕ) (d : ℕ) → d < 32 → bs ≡ register d → register_number (register_of bs) ≡ d
reg-number bs d l e = ap register_number (reg-found bs d l e)

-- ---- a line of a statement whose operands have one token each

pub simple : (text before rest : List ℕ) (place : ℕ) (w : List ℕ) (ps : List Piece) (k : Kind) (os : List Op) → HasKind w ps k → AreOps os → text ≡ before ++ (statement w (texts os) ++ rest) → place ≡ length before
    → NoColon (op_tokens (place + length w) os) → fits text ps (op_tokens (place + length w) os) ≡ true
    → IsSaid text (filter_map token_of (lexemes_after 32 place (statement w (texts os)))) (statement_for text (op_tokens (place + length w) os) k)
simple text before rest place w ps k os h ops e s nc fit =
    subst (λ (ts : List Token). IsSaid text ts (statement_for text (op_tokens (place + length w) os) k)) (sym (statement-lexed place (record { kind = Name; bytes = w }) os h.op ops))
    (reads text place w (op_tokens (place + length w) os) k (statement-read text before (record { kind = Name; bytes = w }) os rest place e s).0 h.other h.known (λ v. h.found v text (op_tokens (place + length w) os) fit) nc)

-- the line gives this code word, whatever the names are and wherever it stands
pub record GivesWord (text : List ℕ) (ts : List Token) (w : ℕ) : Type 0 where
  pub code : Code
  pub said : IsSaid text ts (in_statement.TheVariants.Instruction code)
  pub emits : (names : List ℕ → Option Meaning) (here : ℕ) → emission text names here code ≡ in_emission.TheVariants.One w
  pub size : code_word_count code ≡ 1

some-1 : (x : Bool) → x ≡ true → (x && true) ≡ true
some-1 x e = rw e refl

some-2 : (x y : Bool) → x ≡ true → y ≡ true → (x && (y && true)) ≡ true
some-2 x y e f = rw (e, f) refl

some-2n : (x y : Bool) → x ≡ true → y ≡ true → (x && y) ≡ true
some-2n x y e f = rw (e, f) refl

some-3 : (x y z : Bool) → x ≡ true → y ≡ true → z ≡ true → (x && (y && (z && true))) ≡ true
some-3 x y z e f g = rw (e, f, g) refl

-- an instruction's word, by its parts
one-true : (b : Bool) (i : Instr) (w : ℕ) → b ≡ true → encoded i ≡ w → one_if b i ≡ in_emission.TheVariants.One w
one-true b i w e f = ap (λ (t : Bool). one_if t i) e ∙ ap (λ (x : ℕ). in_emission.TheVariants.One x) f

lui-same : (x d n m : ℕ) → x ≡ d → n ≡ m → encoded (instr.TheVariants.Lui x n) ≡ encoded (instr.TheVariants.Lui d m)
lui-same x d n m e f = ap (λ (y : ℕ). encoded (instr.TheVariants.Lui y n)) e ∙ ap (λ (y : ℕ). encoded (instr.TheVariants.Lui d y)) f

auipc-same : (x d n m : ℕ) → x ≡ d → n ≡ m → encoded (instr.TheVariants.Auipc x n) ≡ encoded (instr.TheVariants.Auipc d m)
auipc-same x d n m e f = ap (λ (y : ℕ). encoded (instr.TheVariants.Auipc y n)) e ∙ ap (λ (y : ℕ). encoded (instr.TheVariants.Auipc d y)) f

jal-same : (x d : ℕ) (z : ℤ) → x ≡ d → encoded (instr.TheVariants.Jal x z) ≡ encoded (instr.TheVariants.Jal d z)
jal-same x d z e = ap (λ (y : ℕ). encoded (instr.TheVariants.Jal y z)) e

branch-same : (k : Cond) (x d y a : ℕ) (z : ℤ) → x ≡ d → y ≡ a → encoded (instr.TheVariants.Branch k x y z) ≡ encoded (instr.TheVariants.Branch k d a z)
branch-same k x d y a z e f = ap (λ (t : ℕ). encoded (instr.TheVariants.Branch k t y z)) e ∙ ap (λ (t : ℕ). encoded (instr.TheVariants.Branch k d t z)) f

jalr-same : (x d y a : ℕ) (z : ℤ) → x ≡ d → y ≡ a → encoded (instr.TheVariants.Jalr x y z) ≡ encoded (instr.TheVariants.Jalr d a z)
jalr-same x d y a z e f = ap (λ (t : ℕ). encoded (instr.TheVariants.Jalr t y z)) e ∙ ap (λ (t : ℕ). encoded (instr.TheVariants.Jalr d t z)) f

load-same : (k : Width) (x d y a : ℕ) (z : ℤ) → x ≡ d → y ≡ a → encoded (instr.TheVariants.Load k x y z) ≡ encoded (instr.TheVariants.Load k d a z)
load-same k x d y a z e f = ap (λ (t : ℕ). encoded (instr.TheVariants.Load k t y z)) e ∙ ap (λ (t : ℕ). encoded (instr.TheVariants.Load k d t z)) f

store-same : (k : Width) (x d y a : ℕ) (z : ℤ) → x ≡ d → y ≡ a → encoded (instr.TheVariants.Store k x y z) ≡ encoded (instr.TheVariants.Store k d a z)
store-same k x d y a z e f = ap (λ (t : ℕ). encoded (instr.TheVariants.Store k t y z)) e ∙ ap (λ (t : ℕ). encoded (instr.TheVariants.Store k d t z)) f

immediate-same : (k : AluOp) (x d y a : ℕ) (z : ℤ) → x ≡ d → y ≡ a → encoded (instr.TheVariants.OpImm k x y z) ≡ encoded (instr.TheVariants.OpImm k d a z)
immediate-same k x d y a z e f = ap (λ (t : ℕ). encoded (instr.TheVariants.OpImm k t y z)) e ∙ ap (λ (t : ℕ). encoded (instr.TheVariants.OpImm k d t z)) f

operation-same : (k : AluOp) (x d y a z b : ℕ) → x ≡ d → y ≡ a → z ≡ b → encoded (instr.TheVariants.Op k x y z) ≡ encoded (instr.TheVariants.Op k d a b)
operation-same k x d y a z b e f g =
    ap (λ (t : ℕ). encoded (instr.TheVariants.Op k t y z)) e ∙ ap (λ (t : ℕ). encoded (instr.TheVariants.Op k d t z)) f ∙ ap (λ (t : ℕ). encoded (instr.TheVariants.Op k d a t)) g

-- the tokens behind the word of a statement with a register and an address
abbrev pub access_rest : ℕ → Op → Op → Op → List Token
access_rest p first offset base =
    let q = p + 1 + length first.bytes in
    token first.kind (p + 1) first.bytes ∷ token Comma q (44 ∷ []) ∷ token offset.kind (q + 1 + 1) offset.bytes ∷ token Left (q + 1 + 1 + length offset.bytes) (40 ∷ [])
    ∷ token base.kind (q + 1 + 1 + length offset.bytes + 1) base.bytes ∷ token Right (q + 1 + 1 + length offset.bytes + 1 + length base.bytes) (41 ∷ []) ∷ []

-- the word, the register and the base stand in the text
pub record AccessRead (text : List ℕ) (place : ℕ) (w : List ℕ) (f o b : Op) : Type 0 where
  pub word : bytes_of text (token Name place w) ≡ w
  pub first : bytes_of text (token f.kind (place + length w + 1) f.bytes) ≡ f.bytes
  pub base : bytes_of text (token b.kind (place + length w + 1 + length f.bytes + 1 + 1 + length o.bytes + 1) b.bytes) ≡ b.bytes

access-read : (text before rest : List ℕ) (place : ℕ) (w : List ℕ) (first offset base : Op) → text ≡ before ++ (access w first.bytes offset base ++ rest) → place ≡ length before → AccessRead text place w first offset base
access-read text before rest place w first offset base e s =
    let f = first.bytes in
    let o = offset.bytes in
    let b = base.bytes in
    let x : access w f offset base ++ rest ≡ w ++ (32 ∷ (f ++ (44 ∷ 32 ∷ (o ++ (40 ∷ (b ++ (41 ∷ rest))))))) = simp append_assoc in
    let t0 : text ≡ before ++ (w ++ (32 ∷ (f ++ (44 ∷ 32 ∷ (o ++ (40 ∷ (b ++ (41 ∷ rest)))))))) = e ∙ ap (λ (y : List ℕ). before ++ y) x in
    let p1 = before ++ (w ++ 32 ∷ []) in
    let t1 : text ≡ p1 ++ (f ++ (44 ∷ 32 ∷ (o ++ (40 ∷ (b ++ (41 ∷ rest)))))) =
    t0 ∙ ap (λ (y : List ℕ). before ++ y) (sym (append_assoc w (32 ∷ []) (f ++ (44 ∷ 32 ∷ (o ++ (40 ∷ (b ++ (41 ∷ rest)))))))) ∙ sym (append_assoc before (w ++ 32 ∷ []) (f ++ (44 ∷ 32 ∷ (o ++ (40 ∷ (b ++ (41 ∷ rest))))))) in
    let n1 : length p1 ≡ length before + (length w + 1) = length-append before (w ++ 32 ∷ []) ∙ ap (λ (n : ℕ). length before + n) (length-append w (32 ∷ [])) in
    let p2 = p1 ++ (f ++ (44 ∷ 32 ∷ [])) in
    let t2 : text ≡ p2 ++ (o ++ (40 ∷ (b ++ (41 ∷ rest)))) =
    t1 ∙ ap (λ (y : List ℕ). p1 ++ y) (sym (append_assoc f (44 ∷ 32 ∷ []) (o ++ (40 ∷ (b ++ (41 ∷ rest)))))) ∙ sym (append_assoc p1 (f ++ (44 ∷ 32 ∷ [])) (o ++ (40 ∷ (b ++ (41 ∷ rest))))) in
    let n2 : length p2 ≡ length p1 + (length f + 2) = length-append p1 (f ++ (44 ∷ 32 ∷ [])) ∙ ap (λ (n : ℕ). length p1 + n) (length-append f (44 ∷ 32 ∷ [])) in
    let p3 = p2 ++ (o ++ 40 ∷ []) in
    let t3 : text ≡ p3 ++ (b ++ (41 ∷ rest)) =
    t2 ∙ ap (λ (y : List ℕ). p2 ++ y) (sym (append_assoc o (40 ∷ []) (b ++ (41 ∷ rest)))) ∙ sym (append_assoc p2 (o ++ 40 ∷ []) (b ++ (41 ∷ rest))) in
    let n3 : length p3 ≡ length p2 + (length o + 1) = length-append p2 (o ++ 40 ∷ []) ∙ ap (λ (n : ℕ). length p2 + n) (length-append o (40 ∷ [])) in
    record {
      word = slice Name text before w (32 ∷ (f ++ (44 ∷ 32 ∷ (o ++ (40 ∷ (b ++ (41 ∷ rest))))))) place t0 s;
      first = slice first.kind text p1 f (44 ∷ 32 ∷ (o ++ (40 ∷ (b ++ (41 ∷ rest))))) (place + length w + 1) t1 (omega arith);
      base = slice base.kind text p3 b (41 ∷ rest) (place + length w + 1 + length f + 1 + 1 + length o + 1) t3 (omega arith);
    }

-- a line of a statement with a register and an address
pub at-address : (text before rest : List ℕ) (place : ℕ) (w : List ℕ) (k : Kind) (first offset base : Op) → HasKind w r_at k → IsOp first → IsOp offset → IsOp base
    → AccessRead text place w first offset base → is_colon first.kind ≡ false → fits text r_at (access_rest (place + length w) first offset base) ≡ true → IsSaid text (filter_map token_of (lexemes_after 32 place (access w first.bytes offset base))) (statement_for text (access_rest (place + length w) first offset base) k)
at-address text before rest place w k first offset base h f o b read nc fit =
    subst (λ (ts : List Token). IsSaid text ts (statement_for text (access_rest (place + length w) first offset base) k)) (sym (access-lexed place (record { kind = Name; bytes = w }) first offset base h.op f o b))
    (reads text place w (access_rest (place + length w) first offset base) k read.word h.other h.known (λ v. h.found v text (access_rest (place + length w) first offset base) fit) nc)

module _ (text before rest : List ℕ) (place : ℕ) (s : place ≡ length before) where
  abbrev Line : List ℕ → ℕ → Type 0
  Line line w = text ≡ before ++ (line ++ rest) → GivesWord text (filter_map token_of (lexemes_after 32 place line)) w

  lui-line : (d imm : ℕ) → d < 32 → imm < 2 ^ 20 → Line (statement (codes "lui") (register d ∷ decimal imm ∷ [])) (encoded (instr.TheVariants.Lui d imm))
  lui-line d imm l m e =
      let os : List Op = reg d ∷ num (pos imm) ∷ [] in
      let read = statement-read text before (record { kind = Name; bytes = codes "lui" }) os rest place e s in
      let ts = op_tokens (place + length (codes "lui")) os in
      record {
        code = code_for text ts (in_mnemonic.TheVariants.Lui);
        said = simple text before rest place (codes "lui") r_n (in_kind.TheVariants.Code (in_mnemonic.TheVariants.Lui)) os lui-kind (reg-op d l, (num-op (pos imm) (omega arith), tt)) e s refl (some-1 _ (reg-some _ d l read.1.0));
        emits = λ names here. one-true _ _ _ (upper-true imm m) (lui-same _ d _ imm (reg-number _ d l read.1.0) refl);
        size = refl;
      }

  auipc-line : (d imm : ℕ) → d < 32 → imm < 2 ^ 20 → Line (statement (codes "auipc") (register d ∷ decimal imm ∷ [])) (encoded (instr.TheVariants.Auipc d imm))
  auipc-line d imm l m e =
      let os : List Op = reg d ∷ num (pos imm) ∷ [] in
      let read = statement-read text before (record { kind = Name; bytes = codes "auipc" }) os rest place e s in
      let ts = op_tokens (place + length (codes "auipc")) os in
      record {
        code = code_for text ts (in_mnemonic.TheVariants.Auipc);
        said = simple text before rest place (codes "auipc") r_n (in_kind.TheVariants.Code (in_mnemonic.TheVariants.Auipc)) os auipc-kind (reg-op d l, (num-op (pos imm) (omega arith), tt)) e s refl (some-1 _ (reg-some _ d l read.1.0));
        emits = λ names here. one-true _ _ _ (upper-true imm m) (auipc-same _ d _ imm (reg-number _ d l read.1.0) refl);
        size = refl;
      }

  jal-line : (d : ℕ) (z : ℤ) → d < 32 → IsOffset 21 z → Line (statement (codes "jal") (register d ∷ signed_decimal z ∷ [])) (encoded (instr.TheVariants.Jal d z))
  jal-line d z l m e =
      let os : List Op = reg d ∷ num z ∷ [] in
      let read = statement-read text before (record { kind = Name; bytes = codes "jal" }) os rest place e s in
      let ts = op_tokens (place + length (codes "jal")) os in
      record {
        code = code_for text ts (in_mnemonic.TheVariants.Jal);
        said = simple text before rest place (codes "jal") r_t (in_kind.TheVariants.Code (in_mnemonic.TheVariants.Jal)) os jal-kind (reg-op d l, (num-op z (held-within z 0x100000 m.within.low m.within.high (omega arith)), tt)) e s refl (some-1 _ (reg-some _ d l read.1.0));
        emits = λ names here. one-true _ _ _ (jump-true z m) (jal-same _ d z (reg-number _ d l read.1.0));
        size = refl;
      }

  branch-line : (c : Cond) (a b : ℕ) (z : ℤ) → a < 32 → b < 32 → IsOffset 13 z → Line (statement (branch_word c) (register a ∷ register b ∷ signed_decimal z ∷ [])) (encoded (instr.TheVariants.Branch c a b z))
  branch-line c a b z l k m e =
      let os : List Op = reg a ∷ reg b ∷ num z ∷ [] in
      let read = statement-read text before (record { kind = Name; bytes = branch_word c }) os rest place e s in
      let ts = op_tokens (place + length (branch_word c)) os in
      record {
        code = code_for text ts (in_mnemonic.TheVariants.Branch c);
        said = simple text before rest place (branch_word c) r_r_t (in_kind.TheVariants.Code (in_mnemonic.TheVariants.Branch c)) os (branch-kind c) (reg-op a l, (reg-op b k, (num-op z (held-within z 4096 m.within.low m.within.high (omega arith)), tt))) e s refl (some-2 _ _ (reg-some _ a l read.1.0) (reg-some _ b k read.1.1.0));
        emits = λ names here. one-true _ _ _ (branch-true z m) (branch-same c _ a _ b z (reg-number _ a l read.1.0) (reg-number _ b k read.1.1.0));
        size = refl;
      }

  immediate-line : (o : AluOp) (d a : ℕ) (z : ℤ) → has_immediate o ≡ true → d < 32 → a < 32 → IsOperand (is_shift o) z → Line (statement (immediate_word o) (register d ∷ register a ∷ signed_decimal z ∷ [])) (encoded (instr.TheVariants.OpImm o d a z))
  immediate-line o d a z h l k m e =
      let os : List Op = reg d ∷ reg a ∷ num z ∷ [] in
      let read = statement-read text before (record { kind = Name; bytes = immediate_word o }) os rest place e s in
      let ts = op_tokens (place + length (immediate_word o)) os in
      record {
        code = code_for text ts (in_mnemonic.TheVariants.OpImm o);
        said = simple text before rest place (immediate_word o) r_r_n (in_kind.TheVariants.Code (in_mnemonic.TheVariants.OpImm o)) os (immediate-kind o h) (reg-op d l, (reg-op a k, (num-op z (held-operand (is_shift o) z m), tt))) e s refl (some-2 _ _ (reg-some _ d l read.1.0) (reg-some _ a k read.1.1.0));
        emits = λ names here. one-true _ _ _ (operand-true o z h m) (immediate-same o _ d _ a z (reg-number _ d l read.1.0) (reg-number _ a k read.1.1.0));
        size = refl;
      }

  operation-line : (o : AluOp) (d a b : ℕ) → d < 32 → a < 32 → b < 32 → Line (statement (operation_word o) (register d ∷ register a ∷ register b ∷ [])) (encoded (instr.TheVariants.Op o d a b))
  operation-line o d a b l k m e =
      let os : List Op = reg d ∷ reg a ∷ reg b ∷ [] in
      let read = statement-read text before (record { kind = Name; bytes = operation_word o }) os rest place e s in
      let ts = op_tokens (place + length (operation_word o)) os in
      record {
        code = code_for text ts (in_mnemonic.TheVariants.Op o);
        said = simple text before rest place (operation_word o) r_r_r (in_kind.TheVariants.Code (in_mnemonic.TheVariants.Op o)) os (operation-kind o) (reg-op d l, (reg-op a k, (reg-op b m, tt))) e s refl (some-3 _ _ _ (reg-some _ d l read.1.0) (reg-some _ a k read.1.1.0) (reg-some _ b m read.1.1.1.0));
        emits = λ names here. ap (λ (x : ℕ). in_emission.TheVariants.One x) (operation-same o _ d _ a _ b (reg-number _ d l read.1.0) (reg-number _ a k read.1.1.0) (reg-number _ b m read.1.1.1.0));
        size = refl;
      }

  fence-line : Line (statement (codes "fence") []) (encoded instr.TheVariants.Fence)
  fence-line e =
      let os : List Op = [] in
      let read = statement-read text before (record { kind = Name; bytes = codes "fence" }) os rest place e s in
      let ts = op_tokens (place + length (codes "fence")) os in
      record {
        code = code_for text ts (in_mnemonic.TheVariants.Fence);
        said = simple text before rest place (codes "fence") none (in_kind.TheVariants.Code (in_mnemonic.TheVariants.Fence)) os fence-kind tt e s tt (refl);
        emits = λ names here. refl;
        size = refl;
      }

  ecall-line : Line (statement (codes "ecall") []) (encoded instr.TheVariants.Ecall)
  ecall-line e =
      let os : List Op = [] in
      let read = statement-read text before (record { kind = Name; bytes = codes "ecall" }) os rest place e s in
      let ts = op_tokens (place + length (codes "ecall")) os in
      record {
        code = code_for text ts (in_mnemonic.TheVariants.Ecall);
        said = simple text before rest place (codes "ecall") none (in_kind.TheVariants.Code (in_mnemonic.TheVariants.Ecall)) os ecall-kind tt e s tt (refl);
        emits = λ names here. refl;
        size = refl;
      }

  ebreak-line : Line (statement (codes "ebreak") []) (encoded instr.TheVariants.Ebreak)
  ebreak-line e =
      let os : List Op = [] in
      let read = statement-read text before (record { kind = Name; bytes = codes "ebreak" }) os rest place e s in
      let ts = op_tokens (place + length (codes "ebreak")) os in
      record {
        code = code_for text ts (in_mnemonic.TheVariants.Ebreak);
        said = simple text before rest place (codes "ebreak") none (in_kind.TheVariants.Code (in_mnemonic.TheVariants.Ebreak)) os ebreak-kind tt e s tt (refl);
        emits = λ names here. refl;
        size = refl;
      }

  raw-line : (w : ℕ) → w < 2 ^ 32 → Line (raw_line w) w
  raw-line w l e =
      let os : List Op = hex w ∷ [] in
      let ts = op_tokens (place + length (codes ".raw")) os in
      record {
        code = code_for text ts in_mnemonic.TheVariants.Raw;
        said = simple text before rest place (codes ".raw") n (in_kind.TheVariants.Code in_mnemonic.TheVariants.Raw) os raw-kind (hex-op w l, tt) e s refl refl;
        emits = λ names here. ap (λ (x : ℕ). in_emission.TheVariants.One x) (wrapped-pos w l);
        size = refl;
      }

  jalr-line : (d b : ℕ) (z : ℤ) → d < 32 → b < 32 → IsSigned 12 z → Line (statement (codes "jalr") (register d ∷ address z b ∷ [])) (encoded (instr.TheVariants.Jalr d b z))
  jalr-line d b z l k m e =
      let read = access-read text before rest place (codes "jalr") (reg d) (num z) (reg b) e s in
      let ts = access_rest (place + length (codes "jalr")) (reg d) (num z) (reg b) in
      record {
        code = code_for text ts (in_mnemonic.TheVariants.Jalr);
        said = at-address text before rest place (codes "jalr") (in_kind.TheVariants.Code (in_mnemonic.TheVariants.Jalr)) (reg d) (num z) (reg b) jalr-kind (reg-op d l) (num-op z (held-immediate z m)) (reg-op b k) read refl (some-2 _ _ (reg-some _ d l read.first) (reg-some _ b k read.base));
        emits = λ names here. one-true _ _ _ (immediate-true z m) (jalr-same _ d _ b z (reg-number _ d l read.first) (reg-number _ b k read.base));
        size = refl;
      }

  load-line : (w : Width) (d b : ℕ) (z : ℤ) → d < 32 → b < 32 → IsSigned 12 z → Line (statement (load_word w) (register d ∷ address z b ∷ [])) (encoded (instr.TheVariants.Load w d b z))
  load-line w d b z l k m e =
      let read = access-read text before rest place (load_word w) (reg d) (num z) (reg b) e s in
      let ts = access_rest (place + length (load_word w)) (reg d) (num z) (reg b) in
      record {
        code = code_for text ts (in_mnemonic.TheVariants.Load w);
        said = at-address text before rest place (load_word w) (in_kind.TheVariants.Code (in_mnemonic.TheVariants.Load w)) (reg d) (num z) (reg b) (load-kind w) (reg-op d l) (num-op z (held-immediate z m)) (reg-op b k) read refl (some-2 _ _ (reg-some _ d l read.first) (reg-some _ b k read.base));
        emits = λ names here. one-true _ _ _ (immediate-true z m) (load-same w _ d _ b z (reg-number _ d l read.first) (reg-number _ b k read.base));
        size = refl;
      }

  store-line : (w : Width) (a b : ℕ) (z : ℤ) → is_stored w ≡ true → a < 32 → b < 32 → IsSigned 12 z → Line (statement (store_word w) (register a ∷ address z b ∷ [])) (encoded (instr.TheVariants.Store w a b z))
  store-line w a b z h l k m e =
      let read = access-read text before rest place (store_word w) (reg a) (num z) (reg b) e s in
      let ts = access_rest (place + length (store_word w)) (reg a) (num z) (reg b) in
      record {
        code = code_for text ts (in_mnemonic.TheVariants.Store w);
        said = at-address text before rest place (store_word w) (in_kind.TheVariants.Code (in_mnemonic.TheVariants.Store w)) (reg a) (num z) (reg b) (store-kind w h) (reg-op a l) (num-op z (held-immediate z m)) (reg-op b k) read refl (some-2 _ _ (reg-some _ a l read.first) (reg-some _ b k read.base));
        emits = λ names here. one-true _ _ _ (and-both (is_stored w) (is_immediate z) h (immediate-true z m)) (store-same w _ a _ b z (reg-number _ a l read.first) (reg-number _ b k read.base));
        size = refl;
      }

  -- the line of an instruction gives its word
  pub instruction-gives : (i : Instr) → HasRegisters i → IsEncodable i → Line (instruction_line i) (encoded i)
  unfolding instruction_line
  instruction-gives (instr.TheVariants.Lui d imm) r f e = lui-line d imm r f e
  instruction-gives (instr.TheVariants.Auipc d imm) r f e = auipc-line d imm r f e
  instruction-gives (instr.TheVariants.Jal d z) r f e = jal-line d z r f e
  instruction-gives (instr.TheVariants.Jalr d b z) r f e = jalr-line d b z r.0 r.1 f e
  instruction-gives (instr.TheVariants.Branch c a b z) r f e = branch-line c a b z r.0 r.1 f e
  instruction-gives (instr.TheVariants.Load w d b z) r f e = load-line w d b z r.0 r.1 f e
  instruction-gives (instr.TheVariants.Store w a b z) r f e = store-line w a b z f.0 r.0 r.1 f.1 e
  instruction-gives (instr.TheVariants.OpImm o d a z) r f e = immediate-line o d a z f.0 r.0 r.1 f.1 e
  instruction-gives (instr.TheVariants.Op o d a b) r f e = operation-line o d a b r.0 r.1 r.2 e
  instruction-gives instr.TheVariants.Fence r f e = fence-line e
  instruction-gives instr.TheVariants.Ecall r f e = ecall-line e
  instruction-gives instr.TheVariants.Ebreak r f e = ebreak-line e

  by-test : (w : ℕ) (i : Instr) (b : Bool) → eqb (encoded i) w ≡ b → HasRegisters i → IsEncodable i → w < 2 ^ 32 → Line (cond b (instruction_line i) (raw_line w)) w
  by-test w i true t r f l e = subst (GivesWord text (filter_map token_of (lexemes_after 32 place (instruction_line i)))) (eqb-true (encoded i) w t) (instruction-gives i r f e)
  by-test w i false t r f l e = raw-line w l e

  by-decoded : (w : ℕ) (o : Option Instr) → decoded w ≡ o → w < 2 ^ 32 → Line (line_by w o) w
  by-decoded w None d l e = raw-line w l e
  by-decoded w (Some i) d l e =
      let row = decoded-row w i d in
      by-test w i (eqb (encoded i) w) refl (HasRegisters-row i w row) (Fits-row i w row) l e

  -- the line of a code word gives the word
  pub code-gives : (w : ℕ) → w < 2 ^ 32 → Line (code_line w) w
  unfolding code_line
  code-gives w l e = by-decoded w (decoded w) refl l e

-- the lines of code words are good
abbrev word_op : List ℕ → Op
word_op w = record { kind = Name; bytes = w }

instruction-good : (i : Instr) → HasRegisters i → IsEncodable i → IsGoodLine (instruction_line i)
unfolding instruction_line
instruction-good (instr.TheVariants.Lui d imm) r f = statement-good (word_op (codes "lui")) (reg d ∷ num (pos imm) ∷ []) lui-kind.op (reg-op d r, (num-op (pos imm) (omega arith), tt))
instruction-good (instr.TheVariants.Auipc d imm) r f = statement-good (word_op (codes "auipc")) (reg d ∷ num (pos imm) ∷ []) auipc-kind.op (reg-op d r, (num-op (pos imm) (omega arith), tt))
instruction-good (instr.TheVariants.Jal d z) r f = statement-good (word_op (codes "jal")) (reg d ∷ num z ∷ []) jal-kind.op (reg-op d r, (num-op z (held-within z 0x100000 f.within.low f.within.high (omega arith)), tt))
instruction-good (instr.TheVariants.Jalr d b z) r f = access-good (word_op (codes "jalr")) (reg d) (num z) (reg b) jalr-kind.op (reg-op d r.0) (num-op z (held-immediate z f)) (reg-op b r.1)
instruction-good (instr.TheVariants.Branch c a b z) r f = statement-good (word_op (branch_word c)) (reg a ∷ reg b ∷ num z ∷ []) (branch-kind c).op (reg-op a r.0, (reg-op b r.1, (num-op z (held-within z 4096 f.within.low f.within.high (omega arith)), tt)))
instruction-good (instr.TheVariants.Load w d b z) r f = access-good (word_op (load_word w)) (reg d) (num z) (reg b) (load-kind w).op (reg-op d r.0) (num-op z (held-immediate z f)) (reg-op b r.1)
instruction-good (instr.TheVariants.Store w a b z) r f = access-good (word_op (store_word w)) (reg a) (num z) (reg b) (store-kind w f.0).op (reg-op a r.0) (num-op z (held-immediate z f.1)) (reg-op b r.1)
instruction-good (instr.TheVariants.OpImm o d a z) r f = statement-good (word_op (immediate_word o)) (reg d ∷ reg a ∷ num z ∷ []) (immediate-kind o f.0).op (reg-op d r.0, (reg-op a r.1, (num-op z (held-operand (is_shift o) z f.1), tt)))
instruction-good (instr.TheVariants.Op o d a b) r f = statement-good (word_op (operation_word o)) (reg d ∷ reg a ∷ reg b ∷ []) (operation-kind o).op (reg-op d r.0, (reg-op a r.1, (reg-op b r.2, tt)))
instruction-good instr.TheVariants.Fence r f = statement-good (word_op (codes "fence")) [] fence-kind.op tt
instruction-good instr.TheVariants.Ecall r f = statement-good (word_op (codes "ecall")) [] ecall-kind.op tt
instruction-good instr.TheVariants.Ebreak r f = statement-good (word_op (codes "ebreak")) [] ebreak-kind.op tt

raw-good : (w : ℕ) → w < 2 ^ 32 → IsGoodLine (raw_line w)
raw-good w l = statement-good (word_op (codes ".raw")) (hex w ∷ []) raw-kind.op (hex-op w l, tt)

good-by-test : (w : ℕ) (i : Instr) (b : Bool) → HasRegisters i → IsEncodable i → w < 2 ^ 32 → IsGoodLine (cond b (instruction_line i) (raw_line w))
good-by-test w i true r f l = instruction-good i r f
good-by-test w i false r f l = raw-good w l

good-by-decoded : (w : ℕ) (o : Option Instr) → decoded w ≡ o → w < 2 ^ 32 → IsGoodLine (line_by w o)
good-by-decoded w None d l = raw-good w l
good-by-decoded w (Some i) d l =
    let row = decoded-row w i d in good-by-test w i (eqb (encoded i) w) (HasRegisters-row i w row) (Fits-row i w row) l

pub code-good : (w : ℕ) → w < 2 ^ 32 → IsGoodLine (code_line w)
unfolding code_line
code-good w l = good-by-decoded w (decoded w) refl l
