-- How a code word is written in a listing.
use Rattle.std.specs.Prelude.{ℕ, ◌==◌, List, [], ◌∷◌, ◌++◌, Option, Some, None, codes, if◌then◌else◌}
use Rattle.std.specs.Fmt.{decimal, signed_decimal}
use Rattle.rv_isa.specs.Encoding.{decoded, encoded}
use Rattle.rv_isa.specs.declared.instr.AluOp.{AluOp}
use Rattle.rv_isa.specs.declared.instr.AluOp as op
use Rattle.rv_isa.specs.declared.instr.Cond.{Cond}
use Rattle.rv_isa.specs.declared.instr.Cond as cond
use Rattle.rv_isa.specs.declared.instr.Width.{Width}
use Rattle.rv_isa.specs.declared.instr.Width as width
use Rattle.rv_isa.specs.declared.instr.Instr.{Instr}
use Rattle.rv_isa.specs.declared.instr.Instr.TheVariants.{Lui, Auipc, Jal, Jalr, Branch, Load, Store, OpImm, Op, Fence, Ecall, Ebreak}
use Rattle.rv_listing.specs.Statement.{hexadecimal, register, address, statement}

abbrev pub branch_word : Cond → List ℕ
branch_word cond.TheVariants.Eq = codes "beq"
branch_word cond.TheVariants.Ne = codes "bne"
branch_word cond.TheVariants.Lt = codes "blt"
branch_word cond.TheVariants.Ge = codes "bge"
branch_word cond.TheVariants.Ltu = codes "bltu"
branch_word cond.TheVariants.Geu = codes "bgeu"

abbrev pub load_word : Width → List ℕ
load_word width.TheVariants.B = codes "lb"
load_word width.TheVariants.H = codes "lh"
load_word width.TheVariants.W = codes "lw"
load_word width.TheVariants.Bu = codes "lbu"
load_word width.TheVariants.Hu = codes "lhu"

-- no code word is a store of the last two widths
abbrev pub store_word : Width → List ℕ
store_word width.TheVariants.B = codes "sb"
store_word width.TheVariants.H = codes "sh"
store_word width.TheVariants.W = codes "sw"
store_word width.TheVariants.Bu = codes "sbu"
store_word width.TheVariants.Hu = codes "shu"

-- no code word subtracts an immediate
abbrev pub immediate_word : AluOp → List ℕ
immediate_word op.TheVariants.Add = codes "addi"
immediate_word op.TheVariants.Sub = codes "subi"
immediate_word op.TheVariants.Sll = codes "slli"
immediate_word op.TheVariants.Slt = codes "slti"
immediate_word op.TheVariants.Sltu = codes "sltiu"
immediate_word op.TheVariants.Xor = codes "xori"
immediate_word op.TheVariants.Srl = codes "srli"
immediate_word op.TheVariants.Sra = codes "srai"
immediate_word op.TheVariants.Or = codes "ori"
immediate_word op.TheVariants.And = codes "andi"

abbrev pub operation_word : AluOp → List ℕ
operation_word op.TheVariants.Add = codes "add"
operation_word op.TheVariants.Sub = codes "sub"
operation_word op.TheVariants.Sll = codes "sll"
operation_word op.TheVariants.Slt = codes "slt"
operation_word op.TheVariants.Sltu = codes "sltu"
operation_word op.TheVariants.Xor = codes "xor"
operation_word op.TheVariants.Srl = codes "srl"
operation_word op.TheVariants.Sra = codes "sra"
operation_word op.TheVariants.Or = codes "or"
operation_word op.TheVariants.And = codes "and"

-- an instruction by its base mnemonic; the targets of branches and jumps are offsets in bytes
unfoldable pub instruction_line : Instr → List ℕ
instruction_line (Lui d imm) = statement (codes "lui") (register d ∷ decimal imm ∷ [])
instruction_line (Auipc d imm) = statement (codes "auipc") (register d ∷ decimal imm ∷ [])
instruction_line (Jal d offset) = statement (codes "jal") (register d ∷ signed_decimal offset ∷ [])
instruction_line (Jalr d base offset) = statement (codes "jalr") (register d ∷ address offset base ∷ [])
instruction_line (Branch c a b offset) = statement (branch_word c) (register a ∷ register b ∷ signed_decimal offset ∷ [])
instruction_line (Load w d base offset) = statement (load_word w) (register d ∷ address offset base ∷ [])
instruction_line (Store w src base offset) = statement (store_word w) (register src ∷ address offset base ∷ [])
instruction_line (OpImm o d a imm) = statement (immediate_word o) (register d ∷ register a ∷ signed_decimal imm ∷ [])
instruction_line (Op o d a b) = statement (operation_word o) (register d ∷ register a ∷ register b ∷ [])
instruction_line Fence = statement (codes "fence") []
instruction_line Ecall = statement (codes "ecall") []
instruction_line Ebreak = statement (codes "ebreak") []

abbrev pub raw_line : ℕ → List ℕ
raw_line w = statement (codes ".raw") (hexadecimal w ∷ [])

-- a code word is written as its instruction if that instruction is encoded as this word, otherwise as a number
abbrev pub line_by : ℕ → Option Instr → List ℕ
line_by w None = raw_line w
line_by w (Some i) = if encoded i == w then instruction_line i else raw_line w

unfoldable pub code_line : ℕ → List ℕ
code_line w = line_by w (decoded w)

-- the line of a code word, and behind it the address of the word, as a comment
unfoldable pub addressed_line : ℕ → ℕ → List ℕ
addressed_line address w = code_line w ++ (codes "  # " ++ hexadecimal address)
