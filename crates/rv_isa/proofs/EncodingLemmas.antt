-- The word of an instruction is in its row, and a row has one word for each instruction.
use Rattle.std.proofs.Common.{◌≡◌, ℕ, ◌^◌, ◌<◌, ℤ, Bool, true, false, ◌⊎◌, inl, inr, refl, sym, ap, ◌∙◌, arith}
use Rattle.std.specs.Prelude.{Some}
use Rattle.rv_isa.specs.Word.{bits}
use Rattle.rv_isa.specs.Table.{branch_funct3, width_funct3, alu_funct3, alu_funct7, is_shift}
use Rattle.rv_isa.specs.Row.{IsImmediate, IsWordOf}
use Rattle.rv_isa.specs.Range.{IsOperand, IsEncodable, HasRegisters}
use Rattle.rv_isa.specs.Encoding.{decoded, encoded}
use Rattle.rv_isa.proofs.WordLemmas.{bits-below-5}
use Rattle.rv_isa.proofs.RowLemmas.{row-decoded, decoded-row}
use Rattle.rv_isa.proofs.FormatLemmas.{r-made, r-makes, shift-made, shift-makes, shift-fits, i-made, i-makes, i-fits, s-made, s-makes, s-fits, b-made, b-makes, b-fits, j-made, j-makes, j-fits, u-made, u-makes, u-fits}
use Rattle.rv_isa.specs.declared.instr.AluOp.{AluOp}
use Rattle.rv_isa.specs.declared.instr.AluOp.TheVariants.{Add, Sub, Sll, Slt, Sltu, Xor, Srl, Sra, Or, And}
use Rattle.rv_isa.specs.declared.instr.Cond.{Cond}
use Rattle.rv_isa.specs.declared.instr.Cond.TheVariants.{Eq, Ne, Lt, Ge, Ltu, Geu}
use Rattle.rv_isa.specs.declared.instr.Width.{Width}
use Rattle.rv_isa.specs.declared.instr.Width.TheVariants.{B, H, W, Bu, Hu}
use Rattle.rv_isa.specs.declared.instr.Instr.{Instr}
use Rattle.rv_isa.specs.declared.instr.Instr.TheVariants.{Lui, Auipc, Jal, Jalr, Branch, Load, Store, OpImm, Op, Fence, Ecall, Ebreak}

-- the columns have three and seven bits
branch_funct3-below : (c : Cond) → branch_funct3 c < 8
branch_funct3-below Eq = omega arith
branch_funct3-below Ne = omega arith
branch_funct3-below Lt = omega arith
branch_funct3-below Ge = omega arith
branch_funct3-below Ltu = omega arith
branch_funct3-below Geu = omega arith

width_funct3-below : (width : Width) → width_funct3 width < 8
width_funct3-below B = omega arith
width_funct3-below H = omega arith
width_funct3-below W = omega arith
width_funct3-below Bu = omega arith
width_funct3-below Hu = omega arith

alu_functs-below : (op : AluOp) → (alu_funct3 op < 8) × (alu_funct7 op < 128)
alu_functs-below Add = (omega arith, omega arith)
alu_functs-below Sub = (omega arith, omega arith)
alu_functs-below Sll = (omega arith, omega arith)
alu_functs-below Slt = (omega arith, omega arith)
alu_functs-below Sltu = (omega arith, omega arith)
alu_functs-below Xor = (omega arith, omega arith)
alu_functs-below Srl = (omega arith, omega arith)
alu_functs-below Sra = (omega arith, omega arith)
alu_functs-below Or = (omega arith, omega arith)
alu_functs-below And = (omega arith, omega arith)

-- ---- the word of an instruction is in its row

row-encoded_immediate : (b : Bool) (op : AluOp) (d a : ℕ) (imm : ℤ) → is_shift op ≡ b → d < 32 → a < 32 → IsOperand b imm → IsImmediate b op d a imm (encoded (OpImm op d a imm))
unfolding encoded
row-encoded_immediate true op d a imm shift hd ha fits =
    rw shift (shift-made _ _ _ _ _ _ (omega arith) (alu_functs-below op).0 (alu_functs-below op).1 hd ha fits)
row-encoded_immediate false op d a imm shift hd ha fits =
    rw shift (i-made _ _ _ _ _ (omega arith) (alu_functs-below op).0 hd ha fits)

pub row-encoded : (i : Instr) → HasRegisters i → IsEncodable i → IsWordOf i (encoded i)
unfolding encoded
row-encoded (Lui d imm) regs fits = u-made _ _ _ (omega arith) regs fits
row-encoded (Auipc d imm) regs fits = u-made _ _ _ (omega arith) regs fits
row-encoded (Jal d offset) regs fits = j-made _ _ _ (omega arith) regs fits
row-encoded (Jalr d base offset) regs fits = i-made _ _ _ _ _ (omega arith) (omega arith) regs.0 regs.1 fits
row-encoded (Branch c a b offset) regs fits =
    b-made _ _ _ _ _ (omega arith) (branch_funct3-below c) regs.0 regs.1 fits
row-encoded (Load width d base offset) regs fits =
    i-made _ _ _ _ _ (omega arith) (width_funct3-below width) regs.0 regs.1 fits
row-encoded (Store width src base offset) regs fits =
    (fits.0, s-made _ _ _ _ _ (omega arith) (width_funct3-below width) regs.1 regs.0 fits.1)
row-encoded (OpImm op d a imm) regs fits =
    (fits.0, row-encoded_immediate (is_shift op) op d a imm refl regs.0 regs.1 fits.1)
row-encoded (Op op d a b) regs fits =
    r-made _ _ _ _ _ _ (omega arith) (alu_functs-below op).0 (alu_functs-below op).1 regs.0 regs.1 regs.2
row-encoded Fence regs fits = (unfold bits in refl, unfold bits in refl)
row-encoded Ecall regs fits = refl
row-encoded Ebreak regs fits = refl

-- ---- a word in the row is the word of the instruction, or the instruction is FENCE

encoded-row_immediate : (b : Bool) (op : AluOp) (d a : ℕ) (imm : ℤ) (w : ℕ) → is_shift op ≡ b → w < 2 ^ 32 → IsImmediate b op d a imm w → encoded (OpImm op d a imm) ≡ w
unfolding encoded
encoded-row_immediate true op d a imm w shift h r = rw shift (shift-makes _ _ _ _ _ _ _ h r)
encoded-row_immediate false op d a imm w shift h r = rw shift (i-makes _ _ _ _ _ _ h r)

pub encoded-row : (i : Instr) (w : ℕ) → w < 2 ^ 32 → IsWordOf i w → (i ≡ Fence) ⊎ (encoded i ≡ w)
unfolding encoded
encoded-row (Lui d imm) w h r = inr (u-makes _ _ _ w h r)
encoded-row (Auipc d imm) w h r = inr (u-makes _ _ _ w h r)
encoded-row (Jal d offset) w h r = inr (j-makes _ _ _ w h r)
encoded-row (Jalr d base offset) w h r = inr (i-makes _ _ _ _ _ w h r)
encoded-row (Branch c a b offset) w h r = inr (b-makes _ _ _ _ _ w h r)
encoded-row (Load width d base offset) w h r = inr (i-makes _ _ _ _ _ w h r)
encoded-row (Store width src base offset) w h r = inr (s-makes _ _ _ _ _ w h r.1)
encoded-row (OpImm op d a imm) w h r = inr (encoded-row_immediate (is_shift op) op d a imm w refl h r.1)
encoded-row (Op op d a b) w h r = inr (r-makes _ _ _ _ _ _ w h r)
encoded-row Fence w h r = inl refl
encoded-row Ecall w h r = inr (sym r)
encoded-row Ebreak w h r = inr (sym r)

-- ---- an instruction with a word fits

Fits-row_immediate : (b : Bool) (op : AluOp) (d a : ℕ) (imm : ℤ) (w : ℕ) → IsImmediate b op d a imm w → IsOperand b imm
Fits-row_immediate true op d a imm w r = shift-fits _ _ _ _ _ _ w r
Fits-row_immediate false op d a imm w r = i-fits _ _ _ _ _ w r

pub Fits-row : (i : Instr) (w : ℕ) → IsWordOf i w → IsEncodable i
Fits-row (Lui d imm) w r = u-fits _ _ _ w r
Fits-row (Auipc d imm) w r = u-fits _ _ _ w r
Fits-row (Jal d offset) w r = j-fits _ _ _ w r
Fits-row (Jalr d base offset) w r = i-fits _ _ _ _ _ w r
Fits-row (Branch c a b offset) w r = b-fits _ _ _ _ _ w r
Fits-row (Load width d base offset) w r = i-fits _ _ _ _ _ w r
Fits-row (Store width src base offset) w r = (r.0, s-fits _ _ _ _ _ w r.1)
Fits-row (OpImm op d a imm) w r = (r.0, Fits-row_immediate (is_shift op) op d a imm w r.1)
Fits-row (Op op d a b) w r = tt
Fits-row Fence w r = tt
Fits-row Ecall w r = tt
Fits-row Ebreak w r = tt

-- a register of a word is one of x0 to x31
at : (d w lo : ℕ) → d ≡ bits w lo 5 → d < 32
at d w lo e = rw e (bits-below-5 w lo)

HasRegisters-row_immediate : (b : Bool) (op : AluOp) (d a : ℕ) (imm : ℤ) (w : ℕ) → IsImmediate b op d a imm w → (d < 32) × (a < 32)
HasRegisters-row_immediate true op d a imm w r = (at d w 7 r.has_rd, at a w 15 r.has_rs1)
HasRegisters-row_immediate false op d a imm w r = (at d w 7 r.has_rd, at a w 15 r.has_rs1)

pub HasRegisters-row : (i : Instr) (w : ℕ) → IsWordOf i w → HasRegisters i
HasRegisters-row (Lui d imm) w r = at d w 7 r.has_rd
HasRegisters-row (Auipc d imm) w r = at d w 7 r.has_rd
HasRegisters-row (Jal d offset) w r = at d w 7 r.has_rd
HasRegisters-row (Jalr d base offset) w r = (at d w 7 r.has_rd, at base w 15 r.has_rs1)
HasRegisters-row (Branch c a b offset) w r = (at a w 15 r.has_rs1, at b w 20 r.has_rs2)
HasRegisters-row (Load width d base offset) w r = (at d w 7 r.has_rd, at base w 15 r.has_rs1)
HasRegisters-row (Store width src base offset) w r = (at src w 20 r.1.has_rs2, at base w 15 r.1.has_rs1)
HasRegisters-row (OpImm op d a imm) w r = HasRegisters-row_immediate (is_shift op) op d a imm w r.1
HasRegisters-row (Op op d a b) w r = (at d w 7 r.has_rd, at a w 15 r.has_rs1, at b w 20 r.has_rs2)
HasRegisters-row Fence w r = tt
HasRegisters-row Ecall w r = tt
HasRegisters-row Ebreak w r = tt

-- ---- the laws, over the functions alone

pub decoded-encoded : (i : Instr) → HasRegisters i → IsEncodable i → decoded (encoded i) ≡ Some i
decoded-encoded i regs fits = row-decoded i (encoded i) (row-encoded i regs fits)

pub encoded-decoded : (w : ℕ) (i : Instr) → w < 2 ^ 32 → decoded w ≡ Some i → (i ≡ Fence) ⊎ (encoded i ≡ w)
encoded-decoded w i h e = encoded-row i w h (decoded-row w i e)

-- two instructions with one word are equal
pub encoded-unique : (i j : Instr) → HasRegisters i → IsEncodable i → HasRegisters j → IsEncodable j → encoded i ≡ encoded j → i ≡ j
encoded-unique i j ri fi rj fj e =
    let left = decoded-encoded i ri fi in
    let right = decoded-encoded j rj fj in
    let same : Some i ≡ Some j = sym left ∙ ap decoded e ∙ right in
    cc
