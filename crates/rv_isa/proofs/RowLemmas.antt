-- The function `decoded` gives an instruction exactly where the word is in its row.
use Rattle.std.proofs.Common.{◌≡◌, ℕ, ℤ, Bool, true, false, cond, not, ◌&&◌, ◌||◌, List, [], ◌∷◌, refl, sym, subst}
use Rattle.std.specs.Prelude.{Option, Some, None, option_map, find, IsTrue, ◌==◌}
use Rattle.std.proofs.lemmas.Bool.{eqb-true, and_parts}
use Rattle.rv_isa.specs.Word.{bits}
use Rattle.rv_isa.specs.Table.{branch_funct3, width_funct3, alu_funct3, alu_funct7, is_shift, has_immediate, is_stored, conds, widths, alu_ops, cond_of, load_width, store_width, op_of, op_imm_of}
use Rattle.rv_isa.specs.Row.{opcode, rd, funct3, rs1, funct7, IsImmediate, IsWordOf}
use Rattle.rv_isa.specs.Encoding.{operation_imm, decoded}
use Rattle.rv_isa.specs.declared.instr.AluOp.{AluOp}
use Rattle.rv_isa.specs.declared.instr.AluOp.TheVariants.{Add, Sub, Sll, Slt, Sltu, Xor, Srl, Sra, Or, And}
use Rattle.rv_isa.specs.declared.instr.Cond.{Cond}
use Rattle.rv_isa.specs.declared.instr.Cond.TheVariants.{Eq, Ne, Lt, Ge, Ltu, Geu}
use Rattle.rv_isa.specs.declared.instr.Width.{Width}
use Rattle.rv_isa.specs.declared.instr.Width.TheVariants.{B, H, W, Bu, Hu}
use Rattle.rv_isa.specs.declared.instr.Instr.{Instr}
use Rattle.rv_isa.specs.declared.instr.Instr.TheVariants.{Lui, Auipc, Jal, Jalr, Branch, Load, Store, OpImm, Op, Fence, Ecall, Ebreak}

-- the columns of the table name each mnemonic of an opcode
cond_of-branch_funct3 : (c : Cond) → cond_of (branch_funct3 c) ≡ Some c
cond_of-branch_funct3 Eq = refl
cond_of-branch_funct3 Ne = refl
cond_of-branch_funct3 Lt = refl
cond_of-branch_funct3 Ge = refl
cond_of-branch_funct3 Ltu = refl
cond_of-branch_funct3 Geu = refl

load_of-width_funct3 : (width : Width) → load_width (width_funct3 width) ≡ Some width
load_of-width_funct3 B = refl
load_of-width_funct3 H = refl
load_of-width_funct3 W = refl
load_of-width_funct3 Bu = refl
load_of-width_funct3 Hu = refl

store_of-width_funct3 : (width : Width) → IsTrue (is_stored width) → store_width (width_funct3 width) ≡ Some width
store_of-width_funct3 B h = refl
store_of-width_funct3 H h = refl
store_of-width_funct3 W h = refl
store_of-width_funct3 Bu h = cc
store_of-width_funct3 Hu h = cc

op_of-functs : (op : AluOp) → op_of (alu_funct3 op) (alu_funct7 op) ≡ Some op
op_of-functs Add = refl
op_of-functs Sub = refl
op_of-functs Sll = refl
op_of-functs Slt = refl
op_of-functs Sltu = refl
op_of-functs Xor = refl
op_of-functs Srl = refl
op_of-functs Sra = refl
op_of-functs Or = refl
op_of-functs And = refl

op_imm_of-shift : (op : AluOp) → IsTrue (is_shift op) → op_imm_of (alu_funct3 op) (alu_funct7 op) ≡ Some op
op_imm_of-shift Add h = cc
op_imm_of-shift Sub h = cc
op_imm_of-shift Sll h = refl
op_imm_of-shift Slt h = cc
op_imm_of-shift Sltu h = cc
op_imm_of-shift Xor h = cc
op_imm_of-shift Srl h = refl
op_imm_of-shift Sra h = refl
op_imm_of-shift Or h = cc
op_imm_of-shift And h = cc

op_imm_of-other : (op : AluOp) (f7 : ℕ) → IsTrue (has_immediate op) → is_shift op ≡ false → op_imm_of (alu_funct3 op) f7 ≡ Some op
op_imm_of-other Add f7 h k = refl
op_imm_of-other Sub f7 h k = cc
op_imm_of-other Sll f7 h k = cc
op_imm_of-other Slt f7 h k = refl
op_imm_of-other Sltu f7 h k = refl
op_imm_of-other Xor f7 h k = refl
op_imm_of-other Srl f7 h k = cc
op_imm_of-other Sra f7 h k = cc
op_imm_of-other Or f7 h k = refl
op_imm_of-other And f7 h k = refl

-- ---- from the row to `decoded`

row-decoded_immediate : (b : Bool) (op : AluOp) (d a : ℕ) (imm : ℤ) (w : ℕ) → is_shift op ≡ b → IsTrue (has_immediate op) → IsImmediate b op d a imm w → decoded w ≡ Some (OpImm op d a imm)
unfolding decoded
row-decoded_immediate true op d a imm w shift has r =
    rw (r.has_opcode, r.has_funct3, r.has_funct7, op_imm_of-shift op shift, shift, r.has_rd, r.has_rs1, r.has_amount) refl
row-decoded_immediate false op d a imm w shift has r =
    rw (r.has_opcode, r.has_funct3, op_imm_of-other op (funct7 w) has shift, shift, r.has_rd, r.has_rs1, r.has_imm) refl

pub row-decoded : (i : Instr) (w : ℕ) → IsWordOf i w → decoded w ≡ Some i
unfolding decoded
row-decoded (Lui d imm) w r = rw (r.has_opcode, r.has_rd, r.has_imm) refl
row-decoded (Auipc d imm) w r = rw (r.has_opcode, r.has_rd, r.has_imm) refl
row-decoded (Jal d offset) w r = rw (r.has_opcode, r.has_rd, r.has_imm) refl
row-decoded (Jalr d base offset) w r = rw (r.has_opcode, r.has_funct3, r.has_rd, r.has_rs1, r.has_imm) refl
row-decoded (Branch c a b offset) w r =
    rw (r.has_opcode, r.has_funct3, cond_of-branch_funct3 c, r.has_rs1, r.has_rs2, r.has_imm) refl
row-decoded (Load width d base offset) w r =
    rw (r.has_opcode, r.has_funct3, load_of-width_funct3 width, r.has_rd, r.has_rs1, r.has_imm) refl
row-decoded (Store width src base offset) w r =
    rw (r.1.has_opcode, r.1.has_funct3, store_of-width_funct3 width r.0, r.1.has_rs1, r.1.has_rs2, r.1.has_imm) refl
row-decoded (OpImm op d a imm) w r = row-decoded_immediate (is_shift op) op d a imm w refl r.0 r.1
row-decoded (Op op d a b) w r =
    rw (r.has_opcode, r.has_funct3, r.has_funct7, op_of-functs op, r.has_rd, r.has_rs1, r.has_rs2) refl
row-decoded Fence w r = rw (r.0, r.1) refl
row-decoded Ecall w r = rw r (unfold bits in refl)
row-decoded Ebreak w r = rw r (unfold bits in refl)

-- ---- from `decoded` to the row

-- a choice that gives a value took one side
from_cond : {A P : Type 0} (b : Bool) (x y : Option A) (v : A) → cond b x y ≡ Some v → (b ≡ true → x ≡ Some v → P) → (y ≡ Some v → P) → P
from_cond true x y v e f g = f refl e
from_cond false x y v e f g = g e

from_some : {A : Type 0} (P : A → Type 0) (x y : A) → Some x ≡ Some y → P x → P y
from_some P x y e p = let same : x ≡ y = cc in subst P same p

from_map : {A B : Type 0} (P : B → Type 0) (f : A → B) (o : Option A) (v : B) → option_map f o ≡ Some v → ((x : A) → o ≡ Some x → P (f x)) → P v
from_map P f None v e p = cc
from_map P f (Some x) v e p = from_some P (f x) v e (p x refl)

-- what was found passes the test
find-passes : {A : Type 0} (test : A → Bool) (xs : List A) (x : A) → find test xs ≡ Some x → test x ≡ true
find-passes test [] x e = cc
find-passes test (y ∷ ys) x e =
    from_cond (test y) (Some y) (find test ys) x e (λ passes same. from_some (λ z. test z ≡ true) y x same passes) (λ rest. find-passes test ys x rest)

is_conditional : (w : ℕ) (c : Cond) → cond_of (funct3 w) ≡ Some c → funct3 w ≡ branch_funct3 c
is_conditional w c e = sym (eqb-true _ _ (find-passes (λ d. branch_funct3 d == funct3 w) conds c e))

is_load : (w : ℕ) (width : Width) → load_width (funct3 w) ≡ Some width → funct3 w ≡ width_funct3 width
is_load w width e = sym (eqb-true _ _ (find-passes (λ d. width_funct3 d == funct3 w) widths width e))

is_store : (w : ℕ) (width : Width) → store_width (funct3 w) ≡ Some width → IsTrue (is_stored width) × (funct3 w ≡ width_funct3 width)
is_store w width e =
    let both = and_parts (is_stored width) (width_funct3 width == funct3 w) (find-passes (λ d. is_stored d && width_funct3 d == funct3 w) widths width e) in
    (both.0, sym (eqb-true _ _ both.1))

is_operation : (w : ℕ) (op : AluOp) → op_of (funct3 w) (funct7 w) ≡ Some op → (funct3 w ≡ alu_funct3 op) × (funct7 w ≡ alu_funct7 op)
is_operation w op e =
    let both = and_parts (alu_funct3 op == funct3 w) (alu_funct7 op == funct7 w) (find-passes (λ o. alu_funct3 o == funct3 w && alu_funct7 o == funct7 w) alu_ops op e) in
    (sym (eqb-true _ _ both.0), sym (eqb-true _ _ both.1))

is_immediate : (b : Bool) (op : AluOp) (w : ℕ) → is_shift op ≡ b → opcode w ≡ 0b0010011 → funct3 w ≡ alu_funct3 op → (not b || alu_funct7 op == funct7 w) ≡ true → IsImmediate b op (rd w) (rs1 w) (operation_imm op w) w
is_immediate true op w shift code f3 f7 = record {
  has_opcode = code;
  has_funct3 = f3;
  has_funct7 = sym (eqb-true _ _ f7);
  has_rd = refl;
  has_rs1 = refl;
  has_amount = rw shift refl;
}
is_immediate false op w shift code f3 f7 = record {
  has_opcode = code;
  has_funct3 = f3;
  has_rd = refl;
  has_rs1 = refl;
  has_imm = rw shift refl;
}

is_operation_imm : (w : ℕ) (op : AluOp) → opcode w ≡ 0b0010011 → op_imm_of (funct3 w) (funct7 w) ≡ Some op → IsWordOf (OpImm op (rd w) (rs1 w) (operation_imm op w)) w
is_operation_imm w op code e =
    let all = and_parts (has_immediate op && alu_funct3 op == funct3 w) (not (is_shift op) || alu_funct7 op == funct7 w) (find-passes (λ o. has_immediate o && alu_funct3 o == funct3 w && (not (is_shift o) || alu_funct7 o == funct7 w)) alu_ops op e) in
    let both = and_parts (has_immediate op) (alu_funct3 op == funct3 w) all.0 in
    (both.0, is_immediate (is_shift op) op w refl code (sym (eqb-true _ _ both.1)) all.1)

-- the word has this opcode and is decoded to i on that side of `decoded`
decoded-at : {P : Type 0} (w code : ℕ) (x y : Option Instr) (i : Instr) → cond (opcode w == code) x y ≡ Some i → (opcode w ≡ code → x ≡ Some i → P) → (y ≡ Some i → P) → P
decoded-at w code x y i e f g = from_cond (opcode w == code) x y i e (λ t. f (eqb-true _ _ t)) g

decoded-row_system : (w : ℕ) (i : Instr) → cond (w == 0x00000073) (Some Ecall) (cond (w == 0x00100073) (Some Ebreak) None) ≡ Some i → IsWordOf i w
decoded-row_system w i e =
    let goal : Instr → Type 0 = λ j. IsWordOf j w in
    from_cond (w == 0x00000073) _ _ i e (λ t same. from_some goal Ecall i same (eqb-true _ _ t)) (λ e2.
    from_cond (w == 0x00100073) _ _ i e2 (λ t same. from_some goal Ebreak i same (eqb-true _ _ t)) (λ no. cc))

pub decoded-row : (w : ℕ) (i : Instr) → decoded w ≡ Some i → IsWordOf i w
unfolding decoded
decoded-row w i e0 =
    let goal : Instr → Type 0 = λ j. IsWordOf j w in
    decoded-at w 0b0110111 _ _ i e0 (λ code same. from_some goal _ i same (record { has_opcode = code; has_rd = refl; has_imm = refl })) (λ e1.
    decoded-at w 0b0010111 _ _ i e1 (λ code same. from_some goal _ i same (record { has_opcode = code; has_rd = refl; has_imm = refl })) (λ e2.
    decoded-at w 0b1101111 _ _ i e2 (λ code same. from_some goal _ i same (record { has_opcode = code; has_rd = refl; has_imm = refl })) (λ e3.
    decoded-at w 0b1100111 _ _ i e3 (λ code one. from_cond (funct3 w == 0b000) _ _ i one (λ t same. from_some goal _ i same (record { has_opcode = code; has_funct3 = eqb-true _ _ t; has_rd = refl; has_rs1 = refl; has_imm = refl })) (λ no. cc)) (λ e4.
    decoded-at w 0b1100011 _ _ i e4 (λ code some. from_map goal _ (cond_of (funct3 w)) i some (λ c is. record { has_opcode = code; has_funct3 = is_conditional w c is; has_rs1 = refl; has_rs2 = refl; has_imm = refl })) (λ e5.
    decoded-at w 0b0000011 _ _ i e5 (λ code some. from_map goal _ (load_width (funct3 w)) i some (λ width is. record { has_opcode = code; has_funct3 = is_load w width is; has_rd = refl; has_rs1 = refl; has_imm = refl })) (λ e6.
    decoded-at w 0b0100011 _ _ i e6 (λ code some. from_map goal _ (store_width (funct3 w)) i some (λ width is. ((is_store w width is).0, record { has_opcode = code; has_funct3 = (is_store w width is).1; has_rs1 = refl; has_rs2 = refl; has_imm = refl }))) (λ e7.
    decoded-at w 0b0010011 _ _ i e7 (λ code some. from_map goal _ (op_imm_of (funct3 w) (funct7 w)) i some (λ op is. is_operation_imm w op code is)) (λ e8.
    decoded-at w 0b0110011 _ _ i e8 (λ code some. from_map goal _ (op_of (funct3 w) (funct7 w)) i some (λ op is. record { has_opcode = code; has_funct3 = (is_operation w op is).0; has_funct7 = (is_operation w op is).1; has_rd = refl; has_rs1 = refl; has_rs2 = refl })) (λ e9.
    decoded-at w 0b0001111 _ _ i e9 (λ code one. from_cond (funct3 w == 0b000) _ _ i one (λ t same. from_some goal Fence i same (code, eqb-true _ _ t)) (λ no. cc)) (λ e10. decoded-row_system w i e10))))))))))
