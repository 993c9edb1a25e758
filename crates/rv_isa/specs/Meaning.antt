-- What the operations and the branch tests compute ("Integer Computational Instructions" and "Control Transfer Instructions" in the RISC-V unprivileged manual).
use Rattle.std.specs.Prelude.{ℕ, ◌+◌, ◌-◌, ◌*◌, ◌/◌, ◌%◌, ◌^◌, ℤ, int_lt, Bool, not, nat_lt, ◌==◌, bit_and, bit_or, bit_xor, if◌then◌else◌}
use Rattle.std.specs.Int.{w32, cast_signed, int_shr}
use Rattle.rv_isa.specs.Word.{pattern}
use Rattle.rv_isa.specs.declared.instr.AluOp.{AluOp}
use Rattle.rv_isa.specs.declared.instr.AluOp.TheVariants.{Add, Sub, Sll, Slt, Sltu, Xor, Srl, Sra, Or, And}
use Rattle.rv_isa.specs.declared.instr.Cond.{Cond}
use Rattle.rv_isa.specs.declared.instr.Cond.TheVariants.{Eq, Ne, Lt, Ge, Ltu, Geu}

-- the number that 32 bits stand for in two's complement
abbrev pub signed : ℕ → ℤ
signed a = cast_signed w32 a

-- the low five bits of a register, by which the others are shifted
abbrev pub amount : ℕ → ℕ
amount b = b % 32

-- the result of an operation on two values of 32 bits
abbrev pub alu_of : AluOp → ℕ → ℕ → ℕ
alu_of Add a b = (a + b) % 2 ^ 32
alu_of Sub a b = (a + 2 ^ 32 - b) % 2 ^ 32
alu_of Sll a b = a * 2 ^ amount b % 2 ^ 32
alu_of Slt a b = if int_lt (signed a) (signed b) then 1 else 0
alu_of Sltu a b = if nat_lt a b then 1 else 0
alu_of Xor a b = bit_xor a b
alu_of Srl a b = a / 2 ^ amount b
alu_of Sra a b = pattern (int_shr (signed a) (amount b))
alu_of Or a b = bit_or a b
alu_of And a b = bit_and a b

-- whether a branch on two values of 32 bits is taken
abbrev pub taken_of : Cond → ℕ → ℕ → Bool
taken_of Eq a b = a == b
taken_of Ne a b = not (a == b)
taken_of Lt a b = int_lt (signed a) (signed b)
taken_of Ge a b = not (int_lt (signed a) (signed b))
taken_of Ltu a b = nat_lt a b
taken_of Geu a b = not (nat_lt a b)
