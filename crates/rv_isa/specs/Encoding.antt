-- The word of an instruction, and the instruction of a word, as functions.
use Rattle.std.specs.Prelude.{ℕ, ◌+◌, ◌*◌, ◌^◌, ℤ, pos, Option, Some, None, option_map, ◌==◌, if◌then◌else◌}
use Rattle.rv_isa.specs.Word.{bits, pattern, imm_i, imm_s, imm_b, imm_u, imm_j}
use Rattle.rv_isa.specs.Table.{branch_funct3, width_funct3, alu_funct3, alu_funct7, is_shift, cond_of, load_width, store_width, op_of, op_imm_of}
use Rattle.rv_isa.specs.Row.{opcode, rd, funct3, rs1, rs2, funct7}
use Rattle.rv_isa.specs.declared.instr.AluOp.{AluOp}
use Rattle.rv_isa.specs.declared.instr.Instr.{Instr}
use Rattle.rv_isa.specs.declared.instr.Instr.TheVariants.{Lui, Auipc, Jal, Jalr, Branch, Load, Store, OpImm, Op, Fence, Ecall, Ebreak}

-- the word of these six fields, as the R format has them
unfoldable pub word : ℕ → ℕ → ℕ → ℕ → ℕ → ℕ → ℕ
word code d f3 a b f7 = code + d * 2 ^ 7 + f3 * 2 ^ 12 + a * 2 ^ 15 + b * 2 ^ 20 + f7 * 2 ^ 25

-- the other formats put the bits of the immediate in the places of fields that they lack
abbrev pub word_i : ℕ → ℕ → ℕ → ℕ → ℕ → ℕ
word_i code d f3 a imm = word code d f3 a (bits imm 0 5) (bits imm 5 7)

abbrev pub word_s : ℕ → ℕ → ℕ → ℕ → ℕ → ℕ
word_s code f3 a b imm = word code (bits imm 0 5) f3 a b (bits imm 5 7)

abbrev pub word_b : ℕ → ℕ → ℕ → ℕ → ℕ → ℕ
word_b code f3 a b imm = word code (bits imm 1 4 * 2 + bits imm 11 1) f3 a b (bits imm 12 1 * 2 ^ 6 + bits imm 5 6)

abbrev pub word_u : ℕ → ℕ → ℕ → ℕ
word_u code d imm = word code d (bits imm 0 3) (bits imm 3 5) (bits imm 8 5) (bits imm 13 7)

abbrev pub word_j : ℕ → ℕ → ℕ → ℕ
word_j code d imm =
    word code d (bits imm 12 3) (bits imm 15 5) (bits imm 1 4 * 2 + bits imm 11 1) (bits imm 20 1 * 2 ^ 6 + bits imm 5 6)

-- the word that an instruction is encoded to
unfoldable pub encoded : Instr → ℕ
encoded (Lui d imm) = word_u 0b0110111 d imm
encoded (Auipc d imm) = word_u 0b0010111 d imm
encoded (Jal d offset) = word_j 0b1101111 d (pattern offset)
encoded (Jalr d base offset) = word_i 0b1100111 d 0b000 base (pattern offset)
encoded (Branch c a b offset) = word_b 0b1100011 (branch_funct3 c) a b (pattern offset)
encoded (Load width d base offset) = word_i 0b0000011 d (width_funct3 width) base (pattern offset)
encoded (Store width src base offset) = word_s 0b0100011 (width_funct3 width) base src (pattern offset)
encoded (OpImm op d a imm) =
    if is_shift op then word 0b0010011 d (alu_funct3 op) a (bits (pattern imm) 0 5) (alu_funct7 op)
    else word_i 0b0010011 d (alu_funct3 op) a (pattern imm)
encoded (Op op d a b) = word 0b0110011 d (alu_funct3 op) a b (alu_funct7 op)
encoded Fence = 0x0FF0000F
encoded Ecall = 0x00000073
encoded Ebreak = 0x00100073

-- the immediate of an operation: a shift has five bits of amount
abbrev pub operation_imm : AluOp → ℕ → ℤ
operation_imm op w = if is_shift op then pos (rs2 w) else imm_i w

-- the instruction of a word, if it has one
unfoldable pub decoded : ℕ → Option Instr
decoded w =
    if opcode w == 0b0110111 then Some (Lui (rd w) (imm_u w))
    else if opcode w == 0b0010111 then Some (Auipc (rd w) (imm_u w))
    else if opcode w == 0b1101111 then Some (Jal (rd w) (imm_j w))
    else if opcode w == 0b1100111 then (if funct3 w == 0b000 then Some (Jalr (rd w) (rs1 w) (imm_i w)) else None)
    else if opcode w == 0b1100011 then option_map (λ c. Branch c (rs1 w) (rs2 w) (imm_b w)) (cond_of (funct3 w))
    else if opcode w == 0b0000011 then option_map (λ width. Load width (rd w) (rs1 w) (imm_i w)) (load_width (funct3 w))
    else if opcode w == 0b0100011 then option_map (λ width. Store width (rs2 w) (rs1 w) (imm_s w)) (store_width (funct3 w))
    else if opcode w == 0b0010011 then option_map (λ op. OpImm op (rd w) (rs1 w) (operation_imm op w)) (op_imm_of (funct3 w) (funct7 w))
    else if opcode w == 0b0110011 then option_map (λ op. Op op (rd w) (rs1 w) (rs2 w)) (op_of (funct3 w) (funct7 w))
    else if opcode w == 0b0001111 then (if funct3 w == 0b000 then Some Fence else None)
    else if w == 0x00000073 then Some Ecall
    else if w == 0x00100073 then Some Ebreak
    else None
