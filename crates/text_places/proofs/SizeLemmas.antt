-- A line without a fault gives so many code words as its statement takes.
use Rattle.std.proofs.Common.{◌≡◌, ℕ, Bool, true, false, List, length, ℤ, Option, Some, None, refl}
use Rattle.rv_isa.specs.declared.instr.Instr.{Instr}
use Rattle.rv_isa.specs.declared.instr.Cond.{Cond}
use Rattle.rv_isa.specs.declared.instr.Instr as instr
use Rattle.rv_assembler.specs.declared.statement.Code.{Code}
use Rattle.rv_assembler.specs.declared.statement.Code.TheVariants.{Upper, Jump, JumpRegister, Branch, Load, Store, OpImm, Op, Fence, Ecall, Ebreak, LoadNumber, LoadAddress, Raw}
use Rattle.rv_assembler.specs.declared.names.Meaning.{Meaning}
use Rattle.rv_assembler.specs.declared.names.Meaning as meaning
use Rattle.rv_assembler.specs.Number.{is_upper, is_immediate, is_jump, is_branch, is_operand}
use Rattle.rv_assembler.specs.Operand.{bytes_of}
use Rattle.rv_assembler.specs.Size.{code_word_count}
use Rattle.rv_assembler.specs.Emission.{one_if, jump, branch, loaded_address, offset_of, emission, words_in}
use Rattle.rv_assembler.specs.Fault.{is_far, is_lost}

one-size : (b : Bool) (i : Instr) → is_far (one_if b i) ≡ false → length (words_in (one_if b i)) ≡ 1
one-size true i e = refl
one-size false i e = absurd cc

jump-size : (rd : ℕ) (o : Option ℤ) → is_far (jump rd o) ≡ false → is_lost (jump rd o) ≡ false → length (words_in (jump rd o)) ≡ 1
jump-size rd None e f = absurd cc
jump-size rd (Some z) e f = one-size (is_jump z) (instr.TheVariants.Jal rd z) e

branch-size : (c : Cond) (a b : ℕ) (o : Option ℤ) → is_far (branch c a b o) ≡ false → is_lost (branch c a b o) ≡ false → length (words_in (branch c a b o)) ≡ 1
branch-size c a b None e f = absurd cc
branch-size c a b (Some z) e f = one-size (is_branch z) (instr.TheVariants.Branch c a b z) e

address-size : (rd : ℕ) (m : Option Meaning) → is_lost (loaded_address rd m) ≡ false → length (words_in (loaded_address rd m)) ≡ 2
address-size rd None f = absurd cc
address-size rd (Some (meaning.TheVariants.Label line place)) f = refl
address-size rd (Some (meaning.TheVariants.Region number start len)) f = refl
address-size rd (Some (meaning.TheVariants.Lock number)) f = absurd cc

pub code-size : (text : List ℕ) (names : List ℕ → Option Meaning) (here : ℕ) (k : Code) → is_far (emission text names here k) ≡ false → is_lost (emission text names here k) ≡ false → length (words_in (emission text names here k)) ≡ code_word_count k
code-size text names here (Upper adds_pc rd n) e f = one-size (is_upper n) _ e
code-size text names here (Jump rd target) e f = jump-size rd (offset_of text names here target) e f
code-size text names here (JumpRegister rd base z) e f = one-size (is_immediate z) _ e
code-size text names here (Branch c a b target) e f = branch-size c a b (offset_of text names here target) e f
code-size text names here (Load width rd base z) e f = one-size (is_immediate z) _ e
code-size text names here (Store width src base z) e f = one-size _ _ e
code-size text names here (OpImm o rd a z) e f = one-size (is_operand o z) _ e
code-size text names here (Op o rd a b) e f = refl
code-size text names here Fence e f = refl
code-size text names here Ecall e f = refl
code-size text names here Ebreak e f = refl
code-size text names here (LoadNumber rd n) e f = refl
code-size text names here (LoadAddress rd name) e f = address-size rd (names (bytes_of text name)) f
code-size text names here (Raw n) e f = refl
