-- The forty rows of RV32I ("RV32I Base Instruction Set" in the listings of the RISC-V unprivileged manual): which words an instruction has.
use Rattle.std.specs.Prelude.{◌≡◌, ℕ, ℤ, pos, Bool, true, false, IsTrue}
use Rattle.rv_isa.specs.Word.{bits, imm_i, imm_s, imm_b, imm_u, imm_j}
use Rattle.rv_isa.specs.Table.{branch_funct3, width_funct3, alu_funct3, alu_funct7, is_shift, has_immediate, is_stored}
use Rattle.rv_isa.specs.declared.instr.AluOp.{AluOp}
use Rattle.rv_isa.specs.declared.instr.Instr.{Instr}
use Rattle.rv_isa.specs.declared.instr.Instr.TheVariants.{Lui, Auipc, Jal, Jalr, Branch, Load, Store, OpImm, Op, Fence, Ecall, Ebreak}

abbrev pub opcode : ℕ → ℕ
opcode w = bits w 0 7

abbrev pub rd : ℕ → ℕ
rd w = bits w 7 5

abbrev pub funct3 : ℕ → ℕ
funct3 w = bits w 12 3

abbrev pub rs1 : ℕ → ℕ
rs1 w = bits w 15 5

abbrev pub rs2 : ℕ → ℕ
rs2 w = bits w 20 5

abbrev pub funct7 : ℕ → ℕ
funct7 w = bits w 25 7

-- the formats: which bits of w are fixed, and which hold the operands
pub record IsR (code f3 f7 d a b w : ℕ) : Type 0 where
  pub has_opcode : opcode w ≡ code
  pub has_funct3 : funct3 w ≡ f3
  pub has_funct7 : funct7 w ≡ f7
  pub has_rd : d ≡ rd w
  pub has_rs1 : a ≡ rs1 w
  pub has_rs2 : b ≡ rs2 w

pub record IsI (code f3 d a : ℕ) (imm : ℤ) (w : ℕ) : Type 0 where
  pub has_opcode : opcode w ≡ code
  pub has_funct3 : funct3 w ≡ f3
  pub has_rd : d ≡ rd w
  pub has_rs1 : a ≡ rs1 w
  pub has_imm : imm ≡ imm_i w

-- a shift by an immediate: an I format whose bits 31 to 25 are fixed
pub record IsShift (code f3 f7 d a : ℕ) (amount : ℤ) (w : ℕ) : Type 0 where
  pub has_opcode : opcode w ≡ code
  pub has_funct3 : funct3 w ≡ f3
  pub has_funct7 : funct7 w ≡ f7
  pub has_rd : d ≡ rd w
  pub has_rs1 : a ≡ rs1 w
  pub has_amount : amount ≡ pos (rs2 w)

pub record IsS (code f3 a b : ℕ) (imm : ℤ) (w : ℕ) : Type 0 where
  pub has_opcode : opcode w ≡ code
  pub has_funct3 : funct3 w ≡ f3
  pub has_rs1 : a ≡ rs1 w
  pub has_rs2 : b ≡ rs2 w
  pub has_imm : imm ≡ imm_s w

pub record IsB (code f3 a b : ℕ) (imm : ℤ) (w : ℕ) : Type 0 where
  pub has_opcode : opcode w ≡ code
  pub has_funct3 : funct3 w ≡ f3
  pub has_rs1 : a ≡ rs1 w
  pub has_rs2 : b ≡ rs2 w
  pub has_imm : imm ≡ imm_b w

pub record IsU (code d imm w : ℕ) : Type 0 where
  pub has_opcode : opcode w ≡ code
  pub has_rd : d ≡ rd w
  pub has_imm : imm ≡ imm_u w

pub record IsJ (code d : ℕ) (imm : ℤ) (w : ℕ) : Type 0 where
  pub has_opcode : opcode w ≡ code
  pub has_rd : d ≡ rd w
  pub has_imm : imm ≡ imm_j w

-- an operation with an immediate is a shift or not
abbrev pub IsImmediate : Bool → AluOp → ℕ → ℕ → ℤ → ℕ → Type 0
IsImmediate true op d a imm w = IsShift 0b0010011 (alu_funct3 op) (alu_funct7 op) d a imm w
IsImmediate false op d a imm w = IsI 0b0010011 (alu_funct3 op) d a imm w

-- w is a word of the instruction
abbrev pub IsWordOf : Instr → ℕ → Type 0
IsWordOf (Lui d imm) w = IsU 0b0110111 d imm w
IsWordOf (Auipc d imm) w = IsU 0b0010111 d imm w
IsWordOf (Jal d offset) w = IsJ 0b1101111 d offset w
IsWordOf (Jalr d base offset) w = IsI 0b1100111 0b000 d base offset w
IsWordOf (Branch c a b offset) w = IsB 0b1100011 (branch_funct3 c) a b offset w
IsWordOf (Load width d base offset) w = IsI 0b0000011 (width_funct3 width) d base offset w
IsWordOf (Store width src base offset) w = IsTrue (is_stored width) × IsS 0b0100011 (width_funct3 width) base src offset w
IsWordOf (OpImm op d a imm) w = IsTrue (has_immediate op) × IsImmediate (is_shift op) op d a imm w
IsWordOf (Op op d a b) w = IsR 0b0110011 (alu_funct3 op) (alu_funct7 op) d a b w
IsWordOf Fence w = (opcode w ≡ 0b0001111) × (funct3 w ≡ 0b000)
IsWordOf Ecall w = w ≡ 0x00000073
IsWordOf Ebreak w = w ≡ 0x00100073
