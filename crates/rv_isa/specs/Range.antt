-- Which numbers an instruction can encode.
use Rattle.std.specs.Prelude.{◌≡◌, ℕ, ◌-◌, ◌^◌, ◌<◌, ℤ, pos, neg_ℤ, ◌≤ℤ◌, ◌<ℤ◌, Bool, true, false, IsTrue}
use Rattle.rv_isa.specs.Word.{bits, pattern}
use Rattle.rv_isa.specs.Table.{is_shift, has_immediate, is_stored}
use Rattle.rv_isa.specs.declared.instr.Instr.{Instr}
use Rattle.rv_isa.specs.declared.instr.Instr.TheVariants.{Lui, Auipc, Jal, Jalr, Branch, Load, Store, OpImm, Op, Fence, Ecall, Ebreak}

-- z is a number of n bits in two's complement
pub record IsSigned (n : ℕ) (z : ℤ) : Type 0 where
  pub low : neg_ℤ (pos (2 ^ (n - 1))) ≤ℤ z
  pub high : z <ℤ pos (2 ^ (n - 1))

-- z is such a number and even, as the distance to another instruction is
pub record IsOffset (n : ℕ) (z : ℤ) : Type 0 where
  pub within : IsSigned n z
  pub even : bits (pattern z) 0 1 ≡ 0

-- z is the amount of a shift
pub record IsAmount (z : ℤ) : Type 0 where
  pub low : pos 0 ≤ℤ z
  pub high : z <ℤ pos 32

-- the immediate of an operation
abbrev pub IsOperand : Bool → ℤ → Type 0
IsOperand true z = IsAmount z
IsOperand false z = IsSigned 12 z

-- the instruction has an encoding
abbrev pub IsEncodable : Instr → Type 0
IsEncodable (Lui d imm) = imm < 2 ^ 20
IsEncodable (Auipc d imm) = imm < 2 ^ 20
IsEncodable (Jal d offset) = IsOffset 21 offset
IsEncodable (Jalr d base offset) = IsSigned 12 offset
IsEncodable (Branch c a b offset) = IsOffset 13 offset
IsEncodable (Load width d base offset) = IsSigned 12 offset
IsEncodable (Store width src base offset) = IsTrue (is_stored width) × IsSigned 12 offset
IsEncodable (OpImm op d a imm) = IsTrue (has_immediate op) × IsOperand (is_shift op) imm
IsEncodable (Op op d a b) = Unit {0}
IsEncodable Fence = Unit {0}
IsEncodable Ecall = Unit {0}
IsEncodable Ebreak = Unit {0}

-- every register of the instruction is one of x0 to x31, as in all values of the type `Instr`
abbrev pub HasRegisters : Instr → Type 0
HasRegisters (Lui d imm) = d < 32
HasRegisters (Auipc d imm) = d < 32
HasRegisters (Jal d offset) = d < 32
HasRegisters (Jalr d base offset) = (d < 32) × (base < 32)
HasRegisters (Branch c a b offset) = (a < 32) × (b < 32)
HasRegisters (Load width d base offset) = (d < 32) × (base < 32)
HasRegisters (Store width src base offset) = (src < 32) × (base < 32)
HasRegisters (OpImm op d a imm) = (d < 32) × (a < 32)
HasRegisters (Op op d a b) = (d < 32) × (a < 32) × (b < 32)
HasRegisters Fence = Unit {0}
HasRegisters Ecall = Unit {0}
HasRegisters Ebreak = Unit {0}
