-- Which statements the words of a listing begin.
use Rattle.std.proofs.Common.{◌≡◌, ℕ, suc, Bool, true, false, not, cond, eqb, ◌&&◌, List, [], ◌∷◌, length, Some, None, codes, bytes_eq, refl, ap, ◌∙◌, arith}
use Rattle.std.specs.Prelude.{Ok, Err}
use Rattle.std.specs.List.{list_all}
use Rattle.std.proofs.lemmas.Bool.{and_parts}
use Rattle.std.proofs.lemmas.Bool.Decides.{nat_tests}
use Rattle.rv_isa.specs.Table.{has_immediate, is_stored}
use Rattle.rv_isa.specs.declared.instr.AluOp.{AluOp}
use Rattle.rv_isa.specs.declared.instr.AluOp as op
use Rattle.rv_isa.specs.declared.instr.Cond.{Cond}
use Rattle.rv_isa.specs.declared.instr.Cond as cond
use Rattle.rv_isa.specs.declared.instr.Width.{Width}
use Rattle.rv_isa.specs.declared.instr.Width as width
use Rattle.src_text.specs.Byte.{is_word}
use Rattle.src_text.specs.Lexeme.{continues_token}
use Rattle.src_text.specs.declared.token.Token.{Token}
use Rattle.src_text.specs.declared.token.TokenKind.TheVariants.{Name}
use Rattle.rv_assembler.specs.declared.fault.SourceFault as fault
use Rattle.rv_assembler.specs.declared.kind.Kind.{Kind}
use Rattle.rv_assembler.specs.declared.kind.Piece.{Piece}
use Rattle.rv_assembler.specs.declared.statement.Statement.{Statement}
use Rattle.rv_assembler.specs.declared.kind.Directive as in_directive
use Rattle.rv_assembler.specs.declared.kind.Form as in_form
use Rattle.rv_assembler.specs.declared.kind.Kind as in_kind
use Rattle.rv_assembler.specs.declared.kind.Mnemonic as in_mnemonic
use Rattle.rv_assembler.specs.declared.parsing.Reading as in_reading
use Rattle.rv_assembler.specs.Operand.{bytes_of}
use Rattle.rv_assembler.specs.Shape.{memory_rows, operation_rows, short_rows, directive_rows, later_rows, is_colon, fits, knows_word, kind_for, none, name, n, r_n, r_t, r_r_t, r_r_n, r_r_r, r_at, name_n, name_n_n, name_name, name_name_n_n, n_t_n}
use Rattle.rv_assembler.specs.Reading.{statement_for, statement_of, statement_in, said, read_tokens, is_version_of}
use Rattle.rv_listing.specs.Instruction.{branch_word, load_word, store_word, immediate_word, operation_word}
use Rattle.rv_listing.proofs.LexLemmas.{AreWords, IsWordToken}
use Rattle.rv_listing.proofs.TokenLemmas.{token, IsOp}

abbrev pub is_word_token : List ℕ → Bool
is_word_token [] = false
is_word_token (b ∷ bs) = continues_token b && list_all is_word bs

words-tested : (bs : List ℕ) → list_all is_word bs ≡ true → AreWords bs
words-tested [] h = tt
words-tested (b ∷ bs) h = let p = and_parts (is_word b) (list_all is_word bs) h in (p.0, words-tested bs p.1)

pub token-tested : (bs : List ℕ) → is_word_token bs ≡ true → IsWordToken bs
token-tested [] h = absurd cc
token-tested (b ∷ bs) h = let p = and_parts (continues_token b) (list_all is_word bs) h in (p.0, words-tested bs p.1)

-- the word begins a statement of this kind, in both versions, where the operands have this shape
pub record HasKind (w : List ℕ) (ps : List Piece) (k : Kind) : Type 0 where
  pub op : IsOp (record { kind = Name; bytes = w })
  pub other : bytes_eq w (codes ".version") ≡ false
  pub known : (v : Bool) → knows_word v w ≡ true
  pub found : (v : Bool) (text : List ℕ) (ts : List Token) → fits text ps ts ≡ true → kind_for v text w ts ≡ Some k

-- the same, where they have not another shape that the word has too
pub record HasKindBut (w : List ℕ) (unlike ps : List Piece) (k : Kind) : Type 0 where
  pub op : IsOp (record { kind = Name; bytes = w })
  pub other : bytes_eq w (codes ".version") ≡ false
  pub known : (v : Bool) → knows_word v w ≡ true
  pub found : (v : Bool) (text : List ℕ) (ts : List Token) → fits text unlike ts ≡ false → fits text ps ts ≡ true → kind_for v text w ts ≡ Some k

known-by : (w : List ℕ) → knows_word true w ≡ true → knows_word false w ≡ true → (v : Bool) → knows_word v w ≡ true
known-by w a b true = a
known-by w a b false = b

found-by : (w : List ℕ) (ps : List Piece) (k : Kind) → ((text : List ℕ) (ts : List Token) → fits text ps ts ≡ true → kind_for true text w ts ≡ Some k)
    → ((text : List ℕ) (ts : List Token) → fits text ps ts ≡ true → kind_for false text w ts ≡ Some k) → (v : Bool) (text : List ℕ) (ts : List Token) → fits text ps ts ≡ true → kind_for v text w ts ≡ Some k
found-by w ps k a b true = a
found-by w ps k a b false = b

found-but : (w : List ℕ) (other ps : List Piece) (k : Kind) → ((text : List ℕ) (ts : List Token) → fits text other ts ≡ false → fits text ps ts ≡ true → kind_for true text w ts ≡ Some k)
    → ((text : List ℕ) (ts : List Token) → fits text other ts ≡ false → fits text ps ts ≡ true → kind_for false text w ts ≡ Some k) → (v : Bool) (text : List ℕ) (ts : List Token) → fits text other ts ≡ false → fits text ps ts ≡ true → kind_for v text w ts ≡ Some k
found-but w other ps k a b true = a
found-but w other ps k a b false = b

-- ---- a line that begins with such a word

abbrev pub NoColon : List Token → Type 0
NoColon [] = Unit {0}
NoColon (t ∷ ts) = is_colon t.kind ≡ false

no-label : (v : Bool) (text : List ℕ) (line place : ℕ) (w : List ℕ) (ts : List Token) → NoColon ts → read_tokens v text line (token Name place w ∷ ts) ≡ said line (statement_in v text line (token Name place w ∷ ts))
no-label v text line place w [] h = refl
no-label v text line place w (u ∷ us) h = rw h refl

stated : (v : Bool) (text : List ℕ) (line place : ℕ) (w : List ℕ) (ts : List Token) (k : Kind) → bytes_of text (token Name place w) ≡ w → knows_word v w ≡ true → kind_for v text w ts ≡ Some k
    → statement_in v text line (token Name place w ∷ ts) ≡ Ok (statement_for text ts k)
stated v text line place w ts k e known found =
    ap (λ (x : List ℕ). cond (not (knows_word v x)) (Err (fault.TheVariants.UnknownWord line)) (statement_of text line ts (kind_for v text x ts))) e
    ∙ ap (λ (b : Bool). cond (not b) (Err (fault.TheVariants.UnknownWord line)) (statement_of text line ts (kind_for v text w ts))) known
    ∙ ap (statement_of text line ts) found

-- the tokens of a line say a statement, in both versions, and aren't a version line
pub record IsSaid (text : List ℕ) (ts : List Token) (s : Statement) : Type 0 where
  pub read : (v : Bool) (line : ℕ) → read_tokens v text line ts ≡ in_reading.TheVariants.Good (record { line = line; label = None; statement = s })
  pub version : is_version_of text ts ≡ false
  pub some : eqb (length ts) 0 ≡ false

no-version : (text : List ℕ) (t : Token) (ts : List Token) → bytes_eq (bytes_of text t) (codes ".version") ≡ false → is_version_of text (t ∷ ts) ≡ false
no-version text t [] h = refl
no-version text t (u ∷ []) h = ap (λ (b : Bool). b && bytes_eq (bytes_of text u) (codes "2")) h
no-version text t (u ∷ x ∷ ts) h = refl

some-tokens : (n : ℕ) → eqb (suc n) 0 ≡ false
some-tokens n = grind (arith, nat_tests)

pub reads : (text : List ℕ) (place : ℕ) (w : List ℕ) (ts : List Token) (k : Kind) → bytes_of text (token Name place w) ≡ w → bytes_eq w (codes ".version") ≡ false → ((v : Bool) → knows_word v w ≡ true) → ((v : Bool) → kind_for v text w ts ≡ Some k) → NoColon ts
    → IsSaid text (token Name place w ∷ ts) (statement_for text ts k)
reads text place w ts k e other known found nc = record {
  read = λ v line. no-label v text line place w ts nc ∙ ap (said line) (stated v text line place w ts k e (known v) (found v));
  version = no-version text (token Name place w) ts (ap (λ (x : List ℕ). bytes_eq x (codes ".version")) e ∙ other);
  some = some-tokens (length ts);
}

pub lui-kind : HasKind (codes "lui") r_n (in_kind.TheVariants.Code in_mnemonic.TheVariants.Lui)
unfolding memory_rows operation_rows short_rows directive_rows later_rows
lui-kind =
    record { op = record { word = token-tested (codes "lui") refl; kind = refl }; other = refl; known = known-by (codes "lui") refl refl; found = found-by (codes "lui") r_n (in_kind.TheVariants.Code in_mnemonic.TheVariants.Lui) (λ text ts f. rw f refl) (λ text ts f. rw f refl) }

pub auipc-kind : HasKind (codes "auipc") r_n (in_kind.TheVariants.Code in_mnemonic.TheVariants.Auipc)
unfolding memory_rows operation_rows short_rows directive_rows later_rows
auipc-kind =
    record { op = record { word = token-tested (codes "auipc") refl; kind = refl }; other = refl; known = known-by (codes "auipc") refl refl; found = found-by (codes "auipc") r_n (in_kind.TheVariants.Code in_mnemonic.TheVariants.Auipc) (λ text ts f. rw f refl) (λ text ts f. rw f refl) }

pub jal-kind : HasKind (codes "jal") r_t (in_kind.TheVariants.Code in_mnemonic.TheVariants.Jal)
unfolding memory_rows operation_rows short_rows directive_rows later_rows
jal-kind =
    record { op = record { word = token-tested (codes "jal") refl; kind = refl }; other = refl; known = known-by (codes "jal") refl refl; found = found-by (codes "jal") r_t (in_kind.TheVariants.Code in_mnemonic.TheVariants.Jal) (λ text ts f. rw f refl) (λ text ts f. rw f refl) }

pub jalr-kind : HasKind (codes "jalr") r_at (in_kind.TheVariants.Code in_mnemonic.TheVariants.Jalr)
unfolding memory_rows operation_rows short_rows directive_rows later_rows
jalr-kind =
    record { op = record { word = token-tested (codes "jalr") refl; kind = refl }; other = refl; known = known-by (codes "jalr") refl refl; found = found-by (codes "jalr") r_at (in_kind.TheVariants.Code in_mnemonic.TheVariants.Jalr) (λ text ts f. rw f refl) (λ text ts f. rw f refl) }

pub branch-kind : (c : Cond) → HasKind (branch_word c) r_r_t (in_kind.TheVariants.Code (in_mnemonic.TheVariants.Branch c))
unfolding memory_rows operation_rows short_rows directive_rows later_rows
branch-kind cond.TheVariants.Eq = record { op = record { word = token-tested (codes "beq") refl; kind = refl }; other = refl; known = known-by (codes "beq") refl refl; found = found-by (codes "beq") r_r_t (in_kind.TheVariants.Code (in_mnemonic.TheVariants.Branch cond.TheVariants.Eq)) (λ text ts f. rw f refl) (λ text ts f. rw f refl) }
branch-kind cond.TheVariants.Ne = record { op = record { word = token-tested (codes "bne") refl; kind = refl }; other = refl; known = known-by (codes "bne") refl refl; found = found-by (codes "bne") r_r_t (in_kind.TheVariants.Code (in_mnemonic.TheVariants.Branch cond.TheVariants.Ne)) (λ text ts f. rw f refl) (λ text ts f. rw f refl) }
branch-kind cond.TheVariants.Lt = record { op = record { word = token-tested (codes "blt") refl; kind = refl }; other = refl; known = known-by (codes "blt") refl refl; found = found-by (codes "blt") r_r_t (in_kind.TheVariants.Code (in_mnemonic.TheVariants.Branch cond.TheVariants.Lt)) (λ text ts f. rw f refl) (λ text ts f. rw f refl) }
branch-kind cond.TheVariants.Ge = record { op = record { word = token-tested (codes "bge") refl; kind = refl }; other = refl; known = known-by (codes "bge") refl refl; found = found-by (codes "bge") r_r_t (in_kind.TheVariants.Code (in_mnemonic.TheVariants.Branch cond.TheVariants.Ge)) (λ text ts f. rw f refl) (λ text ts f. rw f refl) }
branch-kind cond.TheVariants.Ltu = record { op = record { word = token-tested (codes "bltu") refl; kind = refl }; other = refl; known = known-by (codes "bltu") refl refl; found = found-by (codes "bltu") r_r_t (in_kind.TheVariants.Code (in_mnemonic.TheVariants.Branch cond.TheVariants.Ltu)) (λ text ts f. rw f refl) (λ text ts f. rw f refl) }
branch-kind cond.TheVariants.Geu = record { op = record { word = token-tested (codes "bgeu") refl; kind = refl }; other = refl; known = known-by (codes "bgeu") refl refl; found = found-by (codes "bgeu") r_r_t (in_kind.TheVariants.Code (in_mnemonic.TheVariants.Branch cond.TheVariants.Geu)) (λ text ts f. rw f refl) (λ text ts f. rw f refl) }

pub load-kind : (w : Width) → HasKind (load_word w) r_at (in_kind.TheVariants.Code (in_mnemonic.TheVariants.Load w))
unfolding memory_rows operation_rows short_rows directive_rows later_rows
load-kind width.TheVariants.B = record { op = record { word = token-tested (codes "lb") refl; kind = refl }; other = refl; known = known-by (codes "lb") refl refl; found = found-by (codes "lb") r_at (in_kind.TheVariants.Code (in_mnemonic.TheVariants.Load width.TheVariants.B)) (λ text ts f. rw f refl) (λ text ts f. rw f refl) }
load-kind width.TheVariants.H = record { op = record { word = token-tested (codes "lh") refl; kind = refl }; other = refl; known = known-by (codes "lh") refl refl; found = found-by (codes "lh") r_at (in_kind.TheVariants.Code (in_mnemonic.TheVariants.Load width.TheVariants.H)) (λ text ts f. rw f refl) (λ text ts f. rw f refl) }
load-kind width.TheVariants.W = record { op = record { word = token-tested (codes "lw") refl; kind = refl }; other = refl; known = known-by (codes "lw") refl refl; found = found-by (codes "lw") r_at (in_kind.TheVariants.Code (in_mnemonic.TheVariants.Load width.TheVariants.W)) (λ text ts f. rw f refl) (λ text ts f. rw f refl) }
load-kind width.TheVariants.Bu = record { op = record { word = token-tested (codes "lbu") refl; kind = refl }; other = refl; known = known-by (codes "lbu") refl refl; found = found-by (codes "lbu") r_at (in_kind.TheVariants.Code (in_mnemonic.TheVariants.Load width.TheVariants.Bu)) (λ text ts f. rw f refl) (λ text ts f. rw f refl) }
load-kind width.TheVariants.Hu = record { op = record { word = token-tested (codes "lhu") refl; kind = refl }; other = refl; known = known-by (codes "lhu") refl refl; found = found-by (codes "lhu") r_at (in_kind.TheVariants.Code (in_mnemonic.TheVariants.Load width.TheVariants.Hu)) (λ text ts f. rw f refl) (λ text ts f. rw f refl) }

pub store-kind : (w : Width) → is_stored w ≡ true → HasKind (store_word w) r_at (in_kind.TheVariants.Code (in_mnemonic.TheVariants.Store w))
unfolding memory_rows operation_rows short_rows directive_rows later_rows
store-kind width.TheVariants.B h = record { op = record { word = token-tested (codes "sb") refl; kind = refl }; other = refl; known = known-by (codes "sb") refl refl; found = found-by (codes "sb") r_at (in_kind.TheVariants.Code (in_mnemonic.TheVariants.Store width.TheVariants.B)) (λ text ts f. rw f refl) (λ text ts f. rw f refl) }
store-kind width.TheVariants.H h = record { op = record { word = token-tested (codes "sh") refl; kind = refl }; other = refl; known = known-by (codes "sh") refl refl; found = found-by (codes "sh") r_at (in_kind.TheVariants.Code (in_mnemonic.TheVariants.Store width.TheVariants.H)) (λ text ts f. rw f refl) (λ text ts f. rw f refl) }
store-kind width.TheVariants.W h = record { op = record { word = token-tested (codes "sw") refl; kind = refl }; other = refl; known = known-by (codes "sw") refl refl; found = found-by (codes "sw") r_at (in_kind.TheVariants.Code (in_mnemonic.TheVariants.Store width.TheVariants.W)) (λ text ts f. rw f refl) (λ text ts f. rw f refl) }
store-kind width.TheVariants.Bu h = absurd cc
store-kind width.TheVariants.Hu h = absurd cc

pub immediate-kind : (a : AluOp) → has_immediate a ≡ true → HasKind (immediate_word a) r_r_n (in_kind.TheVariants.Code (in_mnemonic.TheVariants.OpImm a))
unfolding memory_rows operation_rows short_rows directive_rows later_rows
immediate-kind op.TheVariants.Add h = record { op = record { word = token-tested (codes "addi") refl; kind = refl }; other = refl; known = known-by (codes "addi") refl refl; found = found-by (codes "addi") r_r_n (in_kind.TheVariants.Code (in_mnemonic.TheVariants.OpImm op.TheVariants.Add)) (λ text ts f. rw f refl) (λ text ts f. rw f refl) }
immediate-kind op.TheVariants.Sub h = absurd cc
immediate-kind op.TheVariants.Sll h = record { op = record { word = token-tested (codes "slli") refl; kind = refl }; other = refl; known = known-by (codes "slli") refl refl; found = found-by (codes "slli") r_r_n (in_kind.TheVariants.Code (in_mnemonic.TheVariants.OpImm op.TheVariants.Sll)) (λ text ts f. rw f refl) (λ text ts f. rw f refl) }
immediate-kind op.TheVariants.Slt h = record { op = record { word = token-tested (codes "slti") refl; kind = refl }; other = refl; known = known-by (codes "slti") refl refl; found = found-by (codes "slti") r_r_n (in_kind.TheVariants.Code (in_mnemonic.TheVariants.OpImm op.TheVariants.Slt)) (λ text ts f. rw f refl) (λ text ts f. rw f refl) }
immediate-kind op.TheVariants.Sltu h = record { op = record { word = token-tested (codes "sltiu") refl; kind = refl }; other = refl; known = known-by (codes "sltiu") refl refl; found = found-by (codes "sltiu") r_r_n (in_kind.TheVariants.Code (in_mnemonic.TheVariants.OpImm op.TheVariants.Sltu)) (λ text ts f. rw f refl) (λ text ts f. rw f refl) }
immediate-kind op.TheVariants.Xor h = record { op = record { word = token-tested (codes "xori") refl; kind = refl }; other = refl; known = known-by (codes "xori") refl refl; found = found-by (codes "xori") r_r_n (in_kind.TheVariants.Code (in_mnemonic.TheVariants.OpImm op.TheVariants.Xor)) (λ text ts f. rw f refl) (λ text ts f. rw f refl) }
immediate-kind op.TheVariants.Srl h = record { op = record { word = token-tested (codes "srli") refl; kind = refl }; other = refl; known = known-by (codes "srli") refl refl; found = found-by (codes "srli") r_r_n (in_kind.TheVariants.Code (in_mnemonic.TheVariants.OpImm op.TheVariants.Srl)) (λ text ts f. rw f refl) (λ text ts f. rw f refl) }
immediate-kind op.TheVariants.Sra h = record { op = record { word = token-tested (codes "srai") refl; kind = refl }; other = refl; known = known-by (codes "srai") refl refl; found = found-by (codes "srai") r_r_n (in_kind.TheVariants.Code (in_mnemonic.TheVariants.OpImm op.TheVariants.Sra)) (λ text ts f. rw f refl) (λ text ts f. rw f refl) }
immediate-kind op.TheVariants.Or h = record { op = record { word = token-tested (codes "ori") refl; kind = refl }; other = refl; known = known-by (codes "ori") refl refl; found = found-by (codes "ori") r_r_n (in_kind.TheVariants.Code (in_mnemonic.TheVariants.OpImm op.TheVariants.Or)) (λ text ts f. rw f refl) (λ text ts f. rw f refl) }
immediate-kind op.TheVariants.And h = record { op = record { word = token-tested (codes "andi") refl; kind = refl }; other = refl; known = known-by (codes "andi") refl refl; found = found-by (codes "andi") r_r_n (in_kind.TheVariants.Code (in_mnemonic.TheVariants.OpImm op.TheVariants.And)) (λ text ts f. rw f refl) (λ text ts f. rw f refl) }

pub operation-kind : (a : AluOp) → HasKind (operation_word a) r_r_r (in_kind.TheVariants.Code (in_mnemonic.TheVariants.Op a))
unfolding memory_rows operation_rows short_rows directive_rows later_rows
operation-kind op.TheVariants.Add = record { op = record { word = token-tested (codes "add") refl; kind = refl }; other = refl; known = known-by (codes "add") refl refl; found = found-by (codes "add") r_r_r (in_kind.TheVariants.Code (in_mnemonic.TheVariants.Op op.TheVariants.Add)) (λ text ts f. rw f refl) (λ text ts f. rw f refl) }
operation-kind op.TheVariants.Sub = record { op = record { word = token-tested (codes "sub") refl; kind = refl }; other = refl; known = known-by (codes "sub") refl refl; found = found-by (codes "sub") r_r_r (in_kind.TheVariants.Code (in_mnemonic.TheVariants.Op op.TheVariants.Sub)) (λ text ts f. rw f refl) (λ text ts f. rw f refl) }
operation-kind op.TheVariants.Sll = record { op = record { word = token-tested (codes "sll") refl; kind = refl }; other = refl; known = known-by (codes "sll") refl refl; found = found-by (codes "sll") r_r_r (in_kind.TheVariants.Code (in_mnemonic.TheVariants.Op op.TheVariants.Sll)) (λ text ts f. rw f refl) (λ text ts f. rw f refl) }
operation-kind op.TheVariants.Slt = record { op = record { word = token-tested (codes "slt") refl; kind = refl }; other = refl; known = known-by (codes "slt") refl refl; found = found-by (codes "slt") r_r_r (in_kind.TheVariants.Code (in_mnemonic.TheVariants.Op op.TheVariants.Slt)) (λ text ts f. rw f refl) (λ text ts f. rw f refl) }
operation-kind op.TheVariants.Sltu = record { op = record { word = token-tested (codes "sltu") refl; kind = refl }; other = refl; known = known-by (codes "sltu") refl refl; found = found-by (codes "sltu") r_r_r (in_kind.TheVariants.Code (in_mnemonic.TheVariants.Op op.TheVariants.Sltu)) (λ text ts f. rw f refl) (λ text ts f. rw f refl) }
operation-kind op.TheVariants.Xor = record { op = record { word = token-tested (codes "xor") refl; kind = refl }; other = refl; known = known-by (codes "xor") refl refl; found = found-by (codes "xor") r_r_r (in_kind.TheVariants.Code (in_mnemonic.TheVariants.Op op.TheVariants.Xor)) (λ text ts f. rw f refl) (λ text ts f. rw f refl) }
operation-kind op.TheVariants.Srl = record { op = record { word = token-tested (codes "srl") refl; kind = refl }; other = refl; known = known-by (codes "srl") refl refl; found = found-by (codes "srl") r_r_r (in_kind.TheVariants.Code (in_mnemonic.TheVariants.Op op.TheVariants.Srl)) (λ text ts f. rw f refl) (λ text ts f. rw f refl) }
operation-kind op.TheVariants.Sra = record { op = record { word = token-tested (codes "sra") refl; kind = refl }; other = refl; known = known-by (codes "sra") refl refl; found = found-by (codes "sra") r_r_r (in_kind.TheVariants.Code (in_mnemonic.TheVariants.Op op.TheVariants.Sra)) (λ text ts f. rw f refl) (λ text ts f. rw f refl) }
operation-kind op.TheVariants.Or = record { op = record { word = token-tested (codes "or") refl; kind = refl }; other = refl; known = known-by (codes "or") refl refl; found = found-by (codes "or") r_r_r (in_kind.TheVariants.Code (in_mnemonic.TheVariants.Op op.TheVariants.Or)) (λ text ts f. rw f refl) (λ text ts f. rw f refl) }
operation-kind op.TheVariants.And = record { op = record { word = token-tested (codes "and") refl; kind = refl }; other = refl; known = known-by (codes "and") refl refl; found = found-by (codes "and") r_r_r (in_kind.TheVariants.Code (in_mnemonic.TheVariants.Op op.TheVariants.And)) (λ text ts f. rw f refl) (λ text ts f. rw f refl) }

pub fence-kind : HasKind (codes "fence") none (in_kind.TheVariants.Code in_mnemonic.TheVariants.Fence)
unfolding memory_rows operation_rows short_rows directive_rows later_rows
fence-kind =
    record { op = record { word = token-tested (codes "fence") refl; kind = refl }; other = refl; known = known-by (codes "fence") refl refl; found = found-by (codes "fence") none (in_kind.TheVariants.Code in_mnemonic.TheVariants.Fence) (λ text ts f. rw f refl) (λ text ts f. rw f refl) }

pub ecall-kind : HasKind (codes "ecall") none (in_kind.TheVariants.Code in_mnemonic.TheVariants.Ecall)
unfolding memory_rows operation_rows short_rows directive_rows later_rows
ecall-kind =
    record { op = record { word = token-tested (codes "ecall") refl; kind = refl }; other = refl; known = known-by (codes "ecall") refl refl; found = found-by (codes "ecall") none (in_kind.TheVariants.Code in_mnemonic.TheVariants.Ecall) (λ text ts f. rw f refl) (λ text ts f. rw f refl) }

pub ebreak-kind : HasKind (codes "ebreak") none (in_kind.TheVariants.Code in_mnemonic.TheVariants.Ebreak)
unfolding memory_rows operation_rows short_rows directive_rows later_rows
ebreak-kind =
    record { op = record { word = token-tested (codes "ebreak") refl; kind = refl }; other = refl; known = known-by (codes "ebreak") refl refl; found = found-by (codes "ebreak") none (in_kind.TheVariants.Code in_mnemonic.TheVariants.Ebreak) (λ text ts f. rw f refl) (λ text ts f. rw f refl) }

pub raw-kind : HasKind (codes ".raw") n (in_kind.TheVariants.Code in_mnemonic.TheVariants.Raw)
unfolding memory_rows operation_rows short_rows directive_rows later_rows
raw-kind =
    record { op = record { word = token-tested (codes ".raw") refl; kind = refl }; other = refl; known = known-by (codes ".raw") refl refl; found = found-by (codes ".raw") n (in_kind.TheVariants.Code in_mnemonic.TheVariants.Raw) (λ text ts f. rw f refl) (λ text ts f. rw f refl) }

pub region-kind : HasKind (codes ".region") name_n (in_kind.TheVariants.Table in_directive.TheVariants.Region)
unfolding memory_rows operation_rows short_rows directive_rows later_rows
region-kind =
    record { op = record { word = token-tested (codes ".region") refl; kind = refl }; other = refl; known = known-by (codes ".region") refl refl; found = found-by (codes ".region") name_n (in_kind.TheVariants.Table in_directive.TheVariants.Region) (λ text ts f. rw f refl) (λ text ts f. rw f refl) }

pub word-kind : HasKind (codes ".word") name_n_n (in_kind.TheVariants.Table in_directive.TheVariants.Word)
unfolding memory_rows operation_rows short_rows directive_rows later_rows
word-kind =
    record { op = record { word = token-tested (codes ".word") refl; kind = refl }; other = refl; known = known-by (codes ".word") refl refl; found = found-by (codes ".word") name_n_n (in_kind.TheVariants.Table in_directive.TheVariants.Word) (λ text ts f. rw f refl) (λ text ts f. rw f refl) }

pub lock-kind : HasKind (codes ".lock") name (in_kind.TheVariants.Table in_directive.TheVariants.Lock)
unfolding memory_rows operation_rows short_rows directive_rows later_rows
lock-kind =
    record { op = record { word = token-tested (codes ".lock") refl; kind = refl }; other = refl; known = known-by (codes ".lock") refl refl; found = found-by (codes ".lock") name (in_kind.TheVariants.Table in_directive.TheVariants.Lock) (λ text ts f. rw f refl) (λ text ts f. rw f refl) }

pub phase-kind : HasKind (codes ".phase") none (in_kind.TheVariants.Table in_directive.TheVariants.Phase)
unfolding memory_rows operation_rows short_rows directive_rows later_rows
phase-kind =
    record { op = record { word = token-tested (codes ".phase") refl; kind = refl }; other = refl; known = known-by (codes ".phase") refl refl; found = found-by (codes ".phase") none (in_kind.TheVariants.Table in_directive.TheVariants.Phase) (λ text ts f. rw f refl) (λ text ts f. rw f refl) }

pub task-kind : HasKind (codes ".task") n_t_n (in_kind.TheVariants.Table in_directive.TheVariants.Task)
unfolding memory_rows operation_rows short_rows directive_rows later_rows
task-kind =
    record { op = record { word = token-tested (codes ".task") refl; kind = refl }; other = refl; known = known-by (codes ".task") refl refl; found = found-by (codes ".task") n_t_n (in_kind.TheVariants.Table in_directive.TheVariants.Task) (λ text ts f. rw f refl) (λ text ts f. rw f refl) }

pub reads-kind : HasKindBut (codes ".reads") name name_n_n (in_kind.TheVariants.Table (in_directive.TheVariants.Uses false in_form.TheVariants.Part))
unfolding memory_rows operation_rows short_rows directive_rows later_rows
reads-kind =
    record { op = record { word = token-tested (codes ".reads") refl; kind = refl }; other = refl; known = known-by (codes ".reads") refl refl; found = found-but (codes ".reads") name name_n_n (in_kind.TheVariants.Table (in_directive.TheVariants.Uses false in_form.TheVariants.Part)) (λ text ts o f. rw (o, f) refl) (λ text ts o f. rw (o, f) refl) }

pub guarded_reads-kind : HasKindBut (codes ".greads") name_name name_name_n_n (in_kind.TheVariants.Table (in_directive.TheVariants.Guarded false in_form.TheVariants.Part))
unfolding memory_rows operation_rows short_rows directive_rows later_rows
guarded_reads-kind =
    record { op = record { word = token-tested (codes ".greads") refl; kind = refl }; other = refl; known = known-by (codes ".greads") refl refl; found = found-but (codes ".greads") name_name name_name_n_n (in_kind.TheVariants.Table (in_directive.TheVariants.Guarded false in_form.TheVariants.Part)) (λ text ts o f. rw (o, f) refl) (λ text ts o f. rw (o, f) refl) }

pub writes-kind : HasKindBut (codes ".writes") name name_n_n (in_kind.TheVariants.Table (in_directive.TheVariants.Uses true in_form.TheVariants.Part))
unfolding memory_rows operation_rows short_rows directive_rows later_rows
writes-kind =
    record { op = record { word = token-tested (codes ".writes") refl; kind = refl }; other = refl; known = known-by (codes ".writes") refl refl; found = found-but (codes ".writes") name name_n_n (in_kind.TheVariants.Table (in_directive.TheVariants.Uses true in_form.TheVariants.Part)) (λ text ts o f. rw (o, f) refl) (λ text ts o f. rw (o, f) refl) }

pub guarded_writes-kind : HasKindBut (codes ".gwrites") name_name name_name_n_n (in_kind.TheVariants.Table (in_directive.TheVariants.Guarded true in_form.TheVariants.Part))
unfolding memory_rows operation_rows short_rows directive_rows later_rows
guarded_writes-kind =
    record { op = record { word = token-tested (codes ".gwrites") refl; kind = refl }; other = refl; known = known-by (codes ".gwrites") refl refl; found = found-but (codes ".gwrites") name_name name_name_n_n (in_kind.TheVariants.Table (in_directive.TheVariants.Guarded true in_form.TheVariants.Part)) (λ text ts o f. rw (o, f) refl) (λ text ts o f. rw (o, f) refl) }
