-- What a line says: its label and its statement.
use Rattle.std.specs.Prelude.{ℕ, ◌+◌, pos, neg_ℤ, Bool, true, false, not, ◌&&◌, nat_lt, ◌==◌, List, [], ◌∷◌, length, Option, Some, None, is_none, Result, Ok, Err, if◌then◌else◌, codes, bytes_eq}
use Rattle.rv_isa.specs.declared.instr.AluOp as op
use Rattle.src_text.specs.declared.line.Line.{Line}
use Rattle.src_text.specs.declared.line.LineFault as line_fault
use Rattle.src_text.specs.declared.line.LineFault.{LineFault}
use Rattle.src_text.specs.declared.token.Token.{Token}
use Rattle.rv_assembler.specs.declared.fault.SourceFault as fault
use Rattle.rv_assembler.specs.declared.fault.SourceFault.{SourceFault}
use Rattle.rv_assembler.specs.declared.kind.Mnemonic.{Mnemonic}
use Rattle.rv_assembler.specs.declared.kind.Mnemonic as mnemonic
use Rattle.rv_assembler.specs.declared.kind.Form.{Form}
use Rattle.rv_assembler.specs.declared.kind.Form as form
use Rattle.rv_assembler.specs.declared.kind.Directive.{Directive}
use Rattle.rv_assembler.specs.declared.kind.Directive as directive
use Rattle.rv_assembler.specs.declared.kind.Kind.{Kind}
use Rattle.rv_assembler.specs.declared.kind.Kind as kind
use Rattle.rv_assembler.specs.declared.statement.Code.{Code}
use Rattle.rv_assembler.specs.declared.statement.Code.TheVariants.{Upper, Jump, JumpRegister, Branch, Load, Store, OpImm, Op, Fence, Ecall, Ebreak, LoadNumber, LoadAddress, Raw}
use Rattle.rv_assembler.specs.declared.statement.Extent.{Extent}
use Rattle.rv_assembler.specs.declared.statement.Extent as extent
use Rattle.rv_assembler.specs.declared.statement.Statement.{Statement}
use Rattle.rv_assembler.specs.declared.statement.Statement as statement
use Rattle.rv_assembler.specs.declared.parsing.Reading.{Reading}
use Rattle.rv_assembler.specs.declared.parsing.Reading.TheVariants.{Bad, Good}
use Rattle.rv_assembler.specs.Number.{wrapped}
use Rattle.rv_assembler.specs.Operand.{bytes_of, token_at, number_at, register_at}
use Rattle.rv_assembler.specs.Shape.{knows_word, kind_for, is_name, is_colon, is_plain}

-- the code of a mnemonic; operands are at the indices of their tokens, with a comma or a parenthesis between them
abbrev pub code_for : List ℕ → List Token → Mnemonic → Code
code_for text ts mnemonic.TheVariants.Lui = Upper false (register_at text ts 0) (number_at ts 2)
code_for text ts mnemonic.TheVariants.Auipc = Upper true (register_at text ts 0) (number_at ts 2)
code_for text ts mnemonic.TheVariants.Jal = Jump (register_at text ts 0) (token_at ts 2)
code_for text ts mnemonic.TheVariants.Jalr = JumpRegister (register_at text ts 0) (register_at text ts 4) (number_at ts 2)
code_for text ts (mnemonic.TheVariants.Branch c) = Branch c (register_at text ts 0) (register_at text ts 2) (token_at ts 4)
code_for text ts (mnemonic.TheVariants.Load w) = Load w (register_at text ts 0) (register_at text ts 4) (number_at ts 2)
code_for text ts (mnemonic.TheVariants.Store w) = Store w (register_at text ts 0) (register_at text ts 4) (number_at ts 2)
code_for text ts (mnemonic.TheVariants.OpImm o) = OpImm o (register_at text ts 0) (register_at text ts 2) (number_at ts 4)
code_for text ts (mnemonic.TheVariants.Op o) = Op o (register_at text ts 0) (register_at text ts 2) (register_at text ts 4)
code_for text ts mnemonic.TheVariants.Fence = Fence
code_for text ts mnemonic.TheVariants.Ecall = Ecall
code_for text ts mnemonic.TheVariants.Ebreak = Ebreak
code_for text ts mnemonic.TheVariants.Nop = OpImm op.TheVariants.Add 0 0 (pos 0)
code_for text ts mnemonic.TheVariants.Mv = OpImm op.TheVariants.Add (register_at text ts 0) (register_at text ts 2) (pos 0)
code_for text ts mnemonic.TheVariants.Not = OpImm op.TheVariants.Xor (register_at text ts 0) (register_at text ts 2) (neg_ℤ (pos 1))
code_for text ts mnemonic.TheVariants.Neg = Op op.TheVariants.Sub (register_at text ts 0) 0 (register_at text ts 2)
code_for text ts mnemonic.TheVariants.Seqz = OpImm op.TheVariants.Sltu (register_at text ts 0) (register_at text ts 2) (pos 1)
code_for text ts mnemonic.TheVariants.Snez = Op op.TheVariants.Sltu (register_at text ts 0) 0 (register_at text ts 2)
code_for text ts (mnemonic.TheVariants.BranchZero c) = Branch c (register_at text ts 0) 0 (token_at ts 2)
code_for text ts mnemonic.TheVariants.J = Jump 0 (token_at ts 0)
code_for text ts mnemonic.TheVariants.Jr = JumpRegister 0 (register_at text ts 0) (pos 0)
code_for text ts mnemonic.TheVariants.Ret = JumpRegister 0 1 (pos 0)
code_for text ts mnemonic.TheVariants.Li = LoadNumber (register_at text ts 0) (number_at ts 2)
code_for text ts mnemonic.TheVariants.La = LoadAddress (register_at text ts 0) (token_at ts 2)
code_for text ts mnemonic.TheVariants.Raw = Raw (number_at ts 0)

-- the words of an effect whose region is at an index of the operands
abbrev pub extent_for : List Token → Form → ℕ → Extent
extent_for ts form.TheVariants.Whole i = extent.TheVariants.Whole
extent_for ts form.TheVariants.Part i = extent.TheVariants.Part (number_at ts (i + 2)) (number_at ts (i + 4))
extent_for ts form.TheVariants.Stepped i = extent.TheVariants.Stepped (number_at ts (i + 2)) (number_at ts (i + 4)) (number_at ts (i + 6))

-- the statement of a directive; a task is a family of one
abbrev pub directive_for : List Token → Directive → Statement
directive_for ts directive.TheVariants.Region = statement.TheVariants.Region (token_at ts 0) (number_at ts 2)
directive_for ts directive.TheVariants.Word = statement.TheVariants.Word (token_at ts 0) (number_at ts 2) (wrapped (number_at ts 4))
directive_for ts directive.TheVariants.Lock = statement.TheVariants.Lock (token_at ts 0)
directive_for ts directive.TheVariants.Phase = statement.TheVariants.Phase
directive_for ts directive.TheVariants.Task = statement.TheVariants.Tasks (record { core = number_at ts 0; count = pos 1; entry = token_at ts 2; arg = wrapped (number_at ts 4); step = 0 })
directive_for ts directive.TheVariants.Forall = statement.TheVariants.Tasks (record { core = number_at ts 0; count = number_at ts 2; entry = token_at ts 4; arg = wrapped (number_at ts 6); step = wrapped (number_at ts 8) })
directive_for ts (directive.TheVariants.Uses writes f) = statement.TheVariants.Uses (record { writes = writes; lock = None; region = token_at ts 0; extent = extent_for ts f 0 })
directive_for ts (directive.TheVariants.Guarded writes f) = statement.TheVariants.Uses (record { writes = writes; lock = Some (token_at ts 0); region = token_at ts 2; extent = extent_for ts f 2 })

abbrev pub statement_for : List ℕ → List Token → Kind → Statement
statement_for text ts (kind.TheVariants.Code m) = statement.TheVariants.Instruction (code_for text ts m)
statement_for text ts (kind.TheVariants.Table d) = directive_for ts d

-- the statement of a row, if some row fits; otherwise the fault
abbrev pub statement_of : List ℕ → ℕ → List Token → Option Kind → Result Statement SourceFault
statement_of text line ts None = Err (fault.TheVariants.BadOperand line)
statement_of text line ts (Some k) = Ok (statement_for text ts k)

-- the statement of these tokens: its word and its operands
abbrev pub statement_in : Bool → List ℕ → ℕ → List Token → Result Statement SourceFault
statement_in version_2 text line [] = Ok statement.TheVariants.Nothing
statement_in version_2 text line (t ∷ ts) =
    if not (is_name t.kind) then Err (fault.TheVariants.BadOperand line)
    else (if not (knows_word version_2 (bytes_of text t)) then Err (fault.TheVariants.UnknownWord line)
    else statement_of text line ts (kind_for version_2 text (bytes_of text t) ts))

-- a line without a label
abbrev pub said : ℕ → Result Statement SourceFault → Reading
said line (Err f) = Bad f
said line (Ok s) = Good (record { line = line; label = None; statement = s })

-- a line with a label, whose name may be declared
abbrev pub labelled : List ℕ → ℕ → Token → Result Statement SourceFault → Reading
labelled text line t (Err f) = Bad f
labelled text line t (Ok s) =
    if is_plain text t then Good (record { line = line; label = Some t; statement = s }) else Bad (fault.TheVariants.BadOperand line)

-- what tokens say: a label, which is a name and a colon, and a statement; each may be missing
abbrev pub read_tokens : Bool → List ℕ → ℕ → List Token → Reading
read_tokens version_2 text line [] = said line (statement_in version_2 text line [])
read_tokens version_2 text line (t ∷ []) = said line (statement_in version_2 text line (t ∷ []))
read_tokens version_2 text line (t ∷ u ∷ ts) =
    if is_name t.kind && is_colon u.kind then labelled text line t (statement_in version_2 text line ts)
    else said line (statement_in version_2 text line (t ∷ u ∷ ts))

abbrev pub fault_of_line : ℕ → LineFault → SourceFault
fault_of_line line line_fault.TheVariants.BadByte = fault.TheVariants.BadByte line
fault_of_line line line_fault.TheVariants.BadNumber = fault.TheVariants.BadNumber line
fault_of_line line line_fault.TheVariants.LineLimit = fault.TheVariants.LineLimit line

-- what a line says by its tokens, or else its fault
abbrev pub read_line : Bool → List ℕ → ℕ → List Token → Option LineFault → Reading
read_line version_2 text line ts (Some f) = Bad (fault_of_line line f)
read_line version_2 text line ts None = read_tokens version_2 text line ts

-- what a line says; the version line says nothing, and its number is 0 for a text of version 1
abbrev pub reading_of : ℕ → List ℕ → Line → Reading
reading_of version text l =
    if l.number == version then Good (record { line = l.number; label = None; statement = statement.TheVariants.Nothing })
    else read_line (nat_lt 0 version) text l.number l.tokens l.fault

-- whether a line consists of the word `.version` and the number `2`, spelled so
abbrev pub is_version_of : List ℕ → List Token → Bool
is_version_of text [] = false
is_version_of text (t ∷ []) = false
is_version_of text (t ∷ u ∷ []) = bytes_eq (bytes_of text t) (codes ".version") && bytes_eq (bytes_of text u) (codes "2")
is_version_of text (t ∷ u ∷ v ∷ ts) = false

abbrev pub is_version : List ℕ → Line → Bool
is_version text l = is_version_of text l.tokens

-- whether a line has only blanks and a comment, and no fault
abbrev pub is_blank_line : Line → Bool
is_blank_line l = is_none l.fault && length l.tokens == 0

-- the number of the version line, which is the first line that isn't blank if it says version 2; otherwise 0, which is no
-- line's number
abbrev pub version_line : List ℕ → List Line → ℕ
version_line text [] = 0
version_line text (l ∷ ls) = if is_blank_line l then version_line text ls else (if is_version text l then l.number else 0)
