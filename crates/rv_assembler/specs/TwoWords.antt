-- What the two words of `li` and `la` compute, by the meaning of their instructions, for the law `two_words_make_their_value`.
use Rattle.std.specs.Prelude.{◌≡◌, ℕ, ◌*◌, ◌%◌, ◌^◌, ℤ, Some}
use Rattle.rv_isa.specs.Encoding.{decoded}
use Rattle.rv_isa.specs.Meaning.{alu_of}
use Rattle.rv_isa.specs.Word.{pattern}
use Rattle.rv_isa.specs.declared.instr.AluOp.TheVariants.{Add}
use Rattle.rv_isa.specs.declared.instr.Instr.TheVariants.{Lui, OpImm}
use Rattle.rv_assembler.specs.declared.emission.Emission.{Emission}
use Rattle.rv_assembler.specs.declared.emission.Emission.TheVariants.{Two}

-- The first word is LUI. It puts its number into bits 31 to 12 of a register, and 0 into the others. The second is ADDI, which
-- adds to that register. The register then has the value, unless it is x0.
pub record MakesValue (rd value : ℕ) (e : Emission) : Type 0 where
  pub first : ℕ
  pub second : ℕ
  pub upper : ℕ
  pub added : ℤ
  pub two_words : e ≡ Two first second
  pub first_is_lui : decoded first ≡ Some (Lui rd upper)
  pub second_is_addi : decoded second ≡ Some (OpImm Add rd rd added)
  pub sum : alu_of Add (upper * 2 ^ 12 % 2 ^ 32) (pattern added) ≡ value
