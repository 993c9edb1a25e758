-- The columns funct3 and funct7 of the RV32I listing, and the mnemonics that share an opcode.
use Rattle.std.specs.Prelude.{ℕ, Bool, true, false, List, [], ◌∷◌, Option, find, ◌==◌, ◌&&◌, ◌||◌, not}
use Rattle.rv_isa.specs.declared.instr.AluOp.{AluOp}
use Rattle.rv_isa.specs.declared.instr.AluOp.TheVariants.{Add, Sub, Sll, Slt, Sltu, Xor, Srl, Sra, Or, And}
use Rattle.rv_isa.specs.declared.instr.Cond.{Cond}
use Rattle.rv_isa.specs.declared.instr.Cond.TheVariants.{Eq, Ne, Lt, Ge, Ltu, Geu}
use Rattle.rv_isa.specs.declared.instr.Width.{Width}
use Rattle.rv_isa.specs.declared.instr.Width.TheVariants.{B, H, W, Bu, Hu}

-- BEQ, BNE, BLT, BGE, BLTU, BGEU
abbrev pub branch_funct3 : Cond → ℕ
branch_funct3 Eq = 0b000
branch_funct3 Ne = 0b001
branch_funct3 Lt = 0b100
branch_funct3 Ge = 0b101
branch_funct3 Ltu = 0b110
branch_funct3 Geu = 0b111

-- LB, LH, LW, LBU, LHU; and SB, SH, SW
abbrev pub width_funct3 : Width → ℕ
width_funct3 B = 0b000
width_funct3 H = 0b001
width_funct3 W = 0b010
width_funct3 Bu = 0b100
width_funct3 Hu = 0b101

-- ADD, SUB, SLL, SLT, SLTU, XOR, SRL, SRA, OR, AND; and the same with an immediate
abbrev pub alu_funct3 : AluOp → ℕ
alu_funct3 Add = 0b000
alu_funct3 Sub = 0b000
alu_funct3 Sll = 0b001
alu_funct3 Slt = 0b010
alu_funct3 Sltu = 0b011
alu_funct3 Xor = 0b100
alu_funct3 Srl = 0b101
alu_funct3 Sra = 0b101
alu_funct3 Or = 0b110
alu_funct3 And = 0b111

-- SUB and SRA have bit 30 set, and the others no bit of funct7
abbrev pub alu_funct7 : AluOp → ℕ
alu_funct7 Add = 0b0000000
alu_funct7 Sub = 0b0100000
alu_funct7 Sll = 0b0000000
alu_funct7 Slt = 0b0000000
alu_funct7 Sltu = 0b0000000
alu_funct7 Xor = 0b0000000
alu_funct7 Srl = 0b0000000
alu_funct7 Sra = 0b0100000
alu_funct7 Or = 0b0000000
alu_funct7 And = 0b0000000

-- SLLI, SRLI and SRAI have funct7 and a shift amount of five bits in place of the immediate
abbrev pub is_shift : AluOp → Bool
is_shift Add = false
is_shift Sub = false
is_shift Sll = true
is_shift Slt = false
is_shift Sltu = false
is_shift Xor = false
is_shift Srl = true
is_shift Sra = true
is_shift Or = false
is_shift And = false

-- there is no SUBI
abbrev pub has_immediate : AluOp → Bool
has_immediate Add = true
has_immediate Sub = false
has_immediate Sll = true
has_immediate Slt = true
has_immediate Sltu = true
has_immediate Xor = true
has_immediate Srl = true
has_immediate Sra = true
has_immediate Or = true
has_immediate And = true

-- a store has no sign to extend
abbrev pub is_stored : Width → Bool
is_stored B = true
is_stored H = true
is_stored W = true
is_stored Bu = false
is_stored Hu = false

abbrev pub conds : List Cond
conds =
    Eq ∷ Ne ∷ Lt ∷ Ge ∷ Ltu ∷ Geu ∷ []

abbrev pub widths : List Width
widths =
    B ∷ H ∷ W ∷ Bu ∷ Hu ∷ []

abbrev pub alu_ops : List AluOp
alu_ops =
    Add ∷ Sub ∷ Sll ∷ Slt ∷ Sltu ∷ Xor ∷ Srl ∷ Sra ∷ Or ∷ And ∷ []

-- the branch, load, store and operation of these bits, if there is one
abbrev pub cond_of : ℕ → Option Cond
cond_of funct3 = find (λ c. branch_funct3 c == funct3) conds

abbrev pub load_width : ℕ → Option Width
load_width funct3 = find (λ width. width_funct3 width == funct3) widths

abbrev pub store_width : ℕ → Option Width
store_width funct3 = find (λ width. is_stored width && width_funct3 width == funct3) widths

abbrev pub op_of : ℕ → ℕ → Option AluOp
op_of funct3 funct7 = find (λ op. alu_funct3 op == funct3 && alu_funct7 op == funct7) alu_ops

abbrev pub op_imm_of : ℕ → ℕ → Option AluOp
op_imm_of funct3 funct7 =
    find (λ op. has_immediate op && alu_funct3 op == funct3 && (not (is_shift op) || alu_funct7 op == funct7)) alu_ops
