-- The statements of the source language: their words, and the shapes of their operands.
use Rattle.std.specs.Prelude.{ℕ, Bool, true, false, not, ◌&&◌, ◌||◌, ◌==◌, List, [], ◌∷◌, Option, option_map, find, codes, bytes_eq, is_some, slice_index}
use Rattle.std.specs.Option.{option_or}
use Rattle.std.specs.List.{list_any}
use Rattle.rv_isa.specs.declared.instr.AluOp as op
use Rattle.rv_isa.specs.declared.instr.Cond as cond
use Rattle.rv_isa.specs.declared.instr.Width as width
use Rattle.src_text.specs.Register.{register_of}
use Rattle.src_text.specs.declared.token.Token.{Token}
use Rattle.src_text.specs.declared.token.TokenKind as token
use Rattle.src_text.specs.declared.token.TokenKind.{TokenKind}
use Rattle.rv_assembler.specs.declared.kind.Piece.{Piece}
use Rattle.rv_assembler.specs.declared.kind.Piece.TheVariants.{Register, Number, Name, Target, Comma, Left, Right}
use Rattle.rv_assembler.specs.declared.kind.Mnemonic as mnemonic
use Rattle.rv_assembler.specs.declared.kind.Form as form
use Rattle.rv_assembler.specs.declared.kind.Directive as directive
use Rattle.rv_assembler.specs.declared.kind.Kind.{Kind}
use Rattle.rv_assembler.specs.declared.kind.Kind.TheVariants.{Code, Table}
use Rattle.rv_assembler.specs.Operand.{bytes_of}

-- a row of the table: the word that begins the statement, its operands as pieces, one token for each piece, and whether only
-- version 2 has it
pub record Shape : Type 0 where
  pub word : List ℕ
  pub operands : List Piece
  pub kind : Kind
  pub later : Bool

abbrev pub row : List ℕ → List Piece → Kind → Shape
row w ps k = record { word = w; operands = ps; kind = k; later = false }

abbrev pub row_2 : List ℕ → List Piece → Kind → Shape
row_2 w ps k = record { word = w; operands = ps; kind = k; later = true }

-- r is the name of a register, n a number, N a name that doesn't begin with `.`, and t is n or N
abbrev pub none : List Piece
none = []

abbrev pub r : List Piece
r = Register ∷ []

abbrev pub t : List Piece
t = Target ∷ []

abbrev pub n : List Piece
n = Number ∷ []

abbrev pub name : List Piece
name = Name ∷ []

abbrev pub r_n : List Piece
r_n = Register ∷ Comma ∷ Number ∷ []

abbrev pub r_t : List Piece
r_t = Register ∷ Comma ∷ Target ∷ []

abbrev pub r_r : List Piece
r_r = Register ∷ Comma ∷ Register ∷ []

abbrev pub r_name : List Piece
r_name = Register ∷ Comma ∷ Name ∷ []

abbrev pub r_r_t : List Piece
r_r_t = Register ∷ Comma ∷ Register ∷ Comma ∷ Target ∷ []

abbrev pub r_r_n : List Piece
r_r_n = Register ∷ Comma ∷ Register ∷ Comma ∷ Number ∷ []

abbrev pub r_r_r : List Piece
r_r_r = Register ∷ Comma ∷ Register ∷ Comma ∷ Register ∷ []

abbrev pub r_at : List Piece
r_at = Register ∷ Comma ∷ Number ∷ Left ∷ Register ∷ Right ∷ []

abbrev pub name_n : List Piece
name_n = Name ∷ Comma ∷ Number ∷ []

abbrev pub name_n_n : List Piece
name_n_n = Name ∷ Comma ∷ Number ∷ Comma ∷ Number ∷ []

abbrev pub name_n_n_n : List Piece
name_n_n_n = Name ∷ Comma ∷ Number ∷ Comma ∷ Number ∷ Comma ∷ Number ∷ []

abbrev pub name_name : List Piece
name_name = Name ∷ Comma ∷ Name ∷ []

abbrev pub name_name_n_n : List Piece
name_name_n_n = Name ∷ Comma ∷ Name ∷ Comma ∷ Number ∷ Comma ∷ Number ∷ []

abbrev pub name_name_n_n_n : List Piece
name_name_n_n_n = Name ∷ Comma ∷ Name ∷ Comma ∷ Number ∷ Comma ∷ Number ∷ Comma ∷ Number ∷ []

abbrev pub n_t_n : List Piece
n_t_n = Number ∷ Comma ∷ Target ∷ Comma ∷ Number ∷ []

abbrev pub n_n_t_n_n : List Piece
n_n_t_n_n = Number ∷ Comma ∷ Number ∷ Comma ∷ Target ∷ Comma ∷ Number ∷ Comma ∷ Number ∷ []

-- upper immediates, jumps, branches, loads and stores
unfoldable pub memory_rows : List Shape
memory_rows =
    row (codes "lui") r_n (Code mnemonic.TheVariants.Lui)
    ∷ row (codes "auipc") r_n (Code mnemonic.TheVariants.Auipc)
    ∷ row (codes "jal") r_t (Code mnemonic.TheVariants.Jal)
    ∷ row (codes "jalr") r_at (Code mnemonic.TheVariants.Jalr)
    ∷ row (codes "beq") r_r_t (Code (mnemonic.TheVariants.Branch cond.TheVariants.Eq))
    ∷ row (codes "bne") r_r_t (Code (mnemonic.TheVariants.Branch cond.TheVariants.Ne))
    ∷ row (codes "blt") r_r_t (Code (mnemonic.TheVariants.Branch cond.TheVariants.Lt))
    ∷ row (codes "bge") r_r_t (Code (mnemonic.TheVariants.Branch cond.TheVariants.Ge))
    ∷ row (codes "bltu") r_r_t (Code (mnemonic.TheVariants.Branch cond.TheVariants.Ltu))
    ∷ row (codes "bgeu") r_r_t (Code (mnemonic.TheVariants.Branch cond.TheVariants.Geu))
    ∷ row (codes "lb") r_at (Code (mnemonic.TheVariants.Load width.TheVariants.B))
    ∷ row (codes "lh") r_at (Code (mnemonic.TheVariants.Load width.TheVariants.H))
    ∷ row (codes "lw") r_at (Code (mnemonic.TheVariants.Load width.TheVariants.W))
    ∷ row (codes "lbu") r_at (Code (mnemonic.TheVariants.Load width.TheVariants.Bu))
    ∷ row (codes "lhu") r_at (Code (mnemonic.TheVariants.Load width.TheVariants.Hu))
    ∷ row (codes "sb") r_at (Code (mnemonic.TheVariants.Store width.TheVariants.B))
    ∷ row (codes "sh") r_at (Code (mnemonic.TheVariants.Store width.TheVariants.H))
    ∷ row (codes "sw") r_at (Code (mnemonic.TheVariants.Store width.TheVariants.W))
    ∷ []

-- operations on numbers and registers
unfoldable pub operation_rows : List Shape
operation_rows =
    row (codes "addi") r_r_n (Code (mnemonic.TheVariants.OpImm op.TheVariants.Add))
    ∷ row (codes "slti") r_r_n (Code (mnemonic.TheVariants.OpImm op.TheVariants.Slt))
    ∷ row (codes "sltiu") r_r_n (Code (mnemonic.TheVariants.OpImm op.TheVariants.Sltu))
    ∷ row (codes "xori") r_r_n (Code (mnemonic.TheVariants.OpImm op.TheVariants.Xor))
    ∷ row (codes "ori") r_r_n (Code (mnemonic.TheVariants.OpImm op.TheVariants.Or))
    ∷ row (codes "andi") r_r_n (Code (mnemonic.TheVariants.OpImm op.TheVariants.And))
    ∷ row (codes "slli") r_r_n (Code (mnemonic.TheVariants.OpImm op.TheVariants.Sll))
    ∷ row (codes "srli") r_r_n (Code (mnemonic.TheVariants.OpImm op.TheVariants.Srl))
    ∷ row (codes "srai") r_r_n (Code (mnemonic.TheVariants.OpImm op.TheVariants.Sra))
    ∷ row (codes "add") r_r_r (Code (mnemonic.TheVariants.Op op.TheVariants.Add))
    ∷ row (codes "sub") r_r_r (Code (mnemonic.TheVariants.Op op.TheVariants.Sub))
    ∷ row (codes "sll") r_r_r (Code (mnemonic.TheVariants.Op op.TheVariants.Sll))
    ∷ row (codes "slt") r_r_r (Code (mnemonic.TheVariants.Op op.TheVariants.Slt))
    ∷ row (codes "sltu") r_r_r (Code (mnemonic.TheVariants.Op op.TheVariants.Sltu))
    ∷ row (codes "xor") r_r_r (Code (mnemonic.TheVariants.Op op.TheVariants.Xor))
    ∷ row (codes "srl") r_r_r (Code (mnemonic.TheVariants.Op op.TheVariants.Srl))
    ∷ row (codes "sra") r_r_r (Code (mnemonic.TheVariants.Op op.TheVariants.Sra))
    ∷ row (codes "or") r_r_r (Code (mnemonic.TheVariants.Op op.TheVariants.Or))
    ∷ row (codes "and") r_r_r (Code (mnemonic.TheVariants.Op op.TheVariants.And))
    ∷ []

-- instructions without operands, and those that stand for others
unfoldable pub short_rows : List Shape
short_rows =
    row (codes "fence") none (Code mnemonic.TheVariants.Fence)
    ∷ row (codes "ecall") none (Code mnemonic.TheVariants.Ecall)
    ∷ row (codes "ebreak") none (Code mnemonic.TheVariants.Ebreak)
    ∷ row (codes "nop") none (Code mnemonic.TheVariants.Nop)
    ∷ row (codes "mv") r_r (Code mnemonic.TheVariants.Mv)
    ∷ row (codes "not") r_r (Code mnemonic.TheVariants.Not)
    ∷ row (codes "neg") r_r (Code mnemonic.TheVariants.Neg)
    ∷ row (codes "seqz") r_r (Code mnemonic.TheVariants.Seqz)
    ∷ row (codes "snez") r_r (Code mnemonic.TheVariants.Snez)
    ∷ row (codes "beqz") r_t (Code (mnemonic.TheVariants.BranchZero cond.TheVariants.Eq))
    ∷ row (codes "bnez") r_t (Code (mnemonic.TheVariants.BranchZero cond.TheVariants.Ne))
    ∷ row (codes "j") t (Code mnemonic.TheVariants.J)
    ∷ row (codes "jr") r (Code mnemonic.TheVariants.Jr)
    ∷ row (codes "ret") none (Code mnemonic.TheVariants.Ret)
    ∷ row (codes "li") r_n (Code mnemonic.TheVariants.Li)
    ∷ row (codes "la") r_name (Code mnemonic.TheVariants.La)
    ∷ row (codes ".raw") n (Code mnemonic.TheVariants.Raw)
    ∷ []

-- directives
unfoldable pub directive_rows : List Shape
directive_rows =
    row (codes ".region") name_n (Table directive.TheVariants.Region)
    ∷ row (codes ".word") name_n_n (Table directive.TheVariants.Word)
    ∷ row (codes ".lock") name (Table directive.TheVariants.Lock)
    ∷ row (codes ".phase") none (Table directive.TheVariants.Phase)
    ∷ row (codes ".task") n_t_n (Table directive.TheVariants.Task)
    ∷ row (codes ".reads") name (Table (directive.TheVariants.Uses false form.TheVariants.Whole))
    ∷ row (codes ".reads") name_n_n (Table (directive.TheVariants.Uses false form.TheVariants.Part))
    ∷ row (codes ".writes") name (Table (directive.TheVariants.Uses true form.TheVariants.Whole))
    ∷ row (codes ".writes") name_n_n (Table (directive.TheVariants.Uses true form.TheVariants.Part))
    ∷ row (codes ".greads") name_name (Table (directive.TheVariants.Guarded false form.TheVariants.Whole))
    ∷ row (codes ".greads") name_name_n_n (Table (directive.TheVariants.Guarded false form.TheVariants.Part))
    ∷ row (codes ".gwrites") name_name (Table (directive.TheVariants.Guarded true form.TheVariants.Whole))
    ∷ row (codes ".gwrites") name_name_n_n (Table (directive.TheVariants.Guarded true form.TheVariants.Part))
    ∷ []

-- what only version 2 has
unfoldable pub later_rows : List Shape
later_rows =
    row_2 (codes ".forall") n_n_t_n_n (Table directive.TheVariants.Forall)
    ∷ row_2 (codes ".reads") name_n_n_n (Table (directive.TheVariants.Uses false form.TheVariants.Stepped))
    ∷ row_2 (codes ".writes") name_n_n_n (Table (directive.TheVariants.Uses true form.TheVariants.Stepped))
    ∷ row_2 (codes ".greads") name_name_n_n_n (Table (directive.TheVariants.Guarded false form.TheVariants.Stepped))
    ∷ row_2 (codes ".gwrites") name_name_n_n_n (Table (directive.TheVariants.Guarded true form.TheVariants.Stepped))
    ∷ []

abbrev pub is_name : TokenKind → Bool
is_name token.TheVariants.Name = true
is_name _ = false

abbrev pub is_number : TokenKind → Bool
is_number (token.TheVariants.Number n) = true
is_number _ = false

abbrev pub is_comma : TokenKind → Bool
is_comma token.TheVariants.Comma = true
is_comma _ = false

abbrev pub is_colon : TokenKind → Bool
is_colon token.TheVariants.Colon = true
is_colon _ = false

abbrev pub is_left : TokenKind → Bool
is_left token.TheVariants.Left = true
is_left _ = false

abbrev pub is_right : TokenKind → Bool
is_right token.TheVariants.Right = true
is_right _ = false

-- a name that may be declared doesn't begin with `.`
abbrev pub is_plain : List ℕ → Token → Bool
is_plain text t = is_name t.kind && not (slice_index (bytes_of text t) 0 == 46)

abbrev pub piece_fits : List ℕ → Piece → Token → Bool
piece_fits text Register t = is_name t.kind && is_some (register_of (bytes_of text t))
piece_fits text Number t = is_number t.kind
piece_fits text Name t = is_plain text t
piece_fits text Target t = is_number t.kind || is_plain text t
piece_fits text Comma t = is_comma t.kind
piece_fits text Left t = is_left t.kind
piece_fits text Right t = is_right t.kind

-- one token for each piece
abbrev pub fits : List ℕ → List Piece → List Token → Bool
fits text [] [] = true
fits text [] (t ∷ ts) = false
fits text (p ∷ ps) [] = false
fits text (p ∷ ps) (t ∷ ts) = piece_fits text p t && fits text ps ts

-- the row is one of this version, and has this word
abbrev pub shape_has_word : Bool → List ℕ → Shape → Bool
shape_has_word version_2 w s = bytes_eq s.word w && (version_2 || not s.later)

abbrev pub knows : Bool → List ℕ → List Shape → Bool
knows version_2 w shapes = list_any (shape_has_word version_2 w) shapes

-- the kind of the first row of the word whose operands fit
abbrev pub is_row : Bool → List ℕ → List ℕ → List Token → Shape → Bool
is_row version_2 text w ts s = shape_has_word version_2 w s && fits text s.operands ts

abbrev pub kind_in_rows : Bool → List ℕ → List ℕ → List Token → List Shape → Option Kind
kind_in_rows version_2 text w ts shapes = option_map (λ s. s.kind) (find (is_row version_2 text w ts) shapes)

-- whether some row of the table has the word
abbrev pub knows_word : Bool → List ℕ → Bool
knows_word version_2 w =
    knows version_2 w memory_rows || (knows version_2 w operation_rows || (knows version_2 w short_rows
    || (knows version_2 w directive_rows || knows version_2 w later_rows)))

-- the kind of the first row of the table that fits
abbrev pub kind_for : Bool → List ℕ → List ℕ → List Token → Option Kind
kind_for version_2 text w ts =
    option_or (kind_in_rows version_2 text w ts memory_rows) (option_or (kind_in_rows version_2 text w ts operation_rows) (option_or (kind_in_rows version_2 text w ts short_rows)
    (option_or (kind_in_rows version_2 text w ts directive_rows) (kind_in_rows version_2 text w ts later_rows))))
