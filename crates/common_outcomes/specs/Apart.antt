-- Texts whose control depends on no value that is loaded, by their code alone: a class whose answer is never open for its control.
use Rattle.std.specs.Prelude.{◌≡◌, ◌≢◌, ℕ, Bool, true, false, List, Some}
use Rattle.std.specs.List.{All}
use Rattle.region_table.specs.Program.{ProgramParts}
use Rattle.rv_isa.specs.Encoding.{decoded}
use Rattle.rv_isa.specs.declared.instr.Instr.{Instr}
use Rattle.rv_isa.specs.declared.instr.Instr.TheVariants.{Lui, Auipc, Jal, Jalr, Branch, Load, Store, OpImm, Op, Fence, Ecall, Ebreak}
use Rattle.rv_core.specs.Address.{code_at}
use Rattle.common_outcomes.specs.Phases.{Summary, IsOnCircle}

-- a register that is written is no control register, or this holds; x0 isn't written
abbrev pub WritesOnlyIf : (ℕ → Bool) → ℕ → Type 0 → Type 0
WritesOnlyIf control rd Holds = rd ≢ 0 → control rd ≡ true → Holds

-- an instruction keeps control apart from memory: it decides where it leads, which address it uses, and which lock, by control registers;
-- it computes a control register from control registers alone, and loads none
abbrev pub KeepsControlApart : (ℕ → Bool) → Instr → Type 0
KeepsControlApart control (Lui rd imm) = Unit {0}
KeepsControlApart control (Auipc rd imm) = Unit {0}
KeepsControlApart control (Jal rd offset) = Unit {0}
KeepsControlApart control (Jalr rd base offset) = control base ≡ true
KeepsControlApart control (Branch test a b offset) = (control a ≡ true) × (control b ≡ true)
KeepsControlApart control (Load width rd base offset) = (control base ≡ true) × WritesOnlyIf control rd ⊥
KeepsControlApart control (Store width src base offset) = control base ≡ true
KeepsControlApart control (OpImm op rd a imm) = WritesOnlyIf control rd (control a ≡ true)
KeepsControlApart control (Op op rd a b) = WritesOnlyIf control rd ((control a ≡ true) × (control b ≡ true))
KeepsControlApart control Fence = Unit {0}
KeepsControlApart control Ecall = (control 10 ≡ true) × (control 17 ≡ true)
KeepsControlApart control Ebreak = Unit {0}

-- each instruction of the code does, with these registers as its control registers
abbrev pub IsControlApart : ProgramParts → (ℕ → Bool) → Type 0
IsControlApart P control = (pc word : ℕ) (i : Instr) → code_at P.code pc ≡ Some word → decoded word ≡ Some i → KeepsControlApart control i

-- each task alone ends without a lock, and no lock is on a circle
pub record AreLocksInOrder (rs : List Summary) : Type 0 where
  pub given_up : All (λ (r : Summary). r.alone.state.held ≡ 0) rs
  pub straight : (lock : ℕ) → IsOnCircle rs lock → ⊥
