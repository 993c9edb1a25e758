-- Ranges of numbers of 32 bits without sign, and the arithmetic on them.
use Rattle.std.specs.Prelude.{ℕ, ◌+◌, ◌-◌, ◌*◌, ◌/◌, ◌%◌, ◌^◌, ◌<◌, ◌≤◌, min, max, Bool, ◌&&◌, ◌==◌, nat_lt, if◌then◌else◌}
use Rattle.rv_isa.specs.Meaning.{amount, alu_of}
use Rattle.rv_isa.specs.declared.instr.AluOp.{AluOp}
use Rattle.rv_isa.specs.declared.instr.AluOp.TheVariants.{Add, Sub, Sll, Slt, Sltu, Xor, Srl, Sra, Or, And}
use Rattle.effect_prover.specs.declared.range.Range.{Range}

-- the number lies in the range
pub record Has (range : Range) (n : ℕ) : Type 0 where
  pub low : range.lo ≤ n
  pub high : n ≤ range.hi

-- each number of the first range lies in the second
pub record LiesWithin (inner outer : Range) : Type 0 where
  pub low : outer.lo ≤ inner.lo
  pub high : inner.hi ≤ outer.hi

-- the range isn't empty, and its numbers have 32 bits
pub record IsRange (range : Range) : Type 0 where
  pub some : range.lo ≤ range.hi
  pub within : range.hi < 2 ^ 32

-- one number alone
abbrev pub one : ℕ → Range
one n = record { lo = n; hi = n }

-- every number of 32 bits
abbrev pub every : Range
every = record { lo = 0; hi = 4294967295 }

abbrev pub is_one : Range → Bool
is_one range = range.lo == range.hi

abbrev pub is_empty : Range → Bool
is_empty range = nat_lt range.hi range.lo

-- the range of results from `least` to `greatest`, taken modulo 2^32. If both lie between the same two multiples of 2^32, the
-- results keep their order. Otherwise they can be any number
abbrev pub wrapped_range : ℕ → ℕ → Range
wrapped_range least greatest =
    if least / 2 ^ 32 == greatest / 2 ^ 32 then record { lo = least % 2 ^ 32; hi = greatest % 2 ^ 32 } else every

-- a left shift by n; if a bit may be lost, every number
abbrev pub shifted_left : Range → ℕ → Range
shifted_left a n = if nat_lt (a.hi * 2 ^ n) (2 ^ 32) then record { lo = a.lo * 2 ^ n; hi = a.hi * 2 ^ n } else every

abbrev pub shifted_right : Range → ℕ → Range
shifted_right a n = record { lo = a.lo / 2 ^ n; hi = a.hi / 2 ^ n }

-- the results of an operation on the numbers of two ranges
abbrev pub form : AluOp → Range → Range → Range
form Add a b = wrapped_range (a.lo + b.lo) (a.hi + b.hi)
form Sub a b = wrapped_range (a.lo + 2 ^ 32 - b.hi) (a.hi + 2 ^ 32 - b.lo)
form Sll a b = every
form Slt a b = record { lo = 0; hi = 1 }
form Sltu a b = record { lo = 0; hi = 1 }
form Xor a b = every
form Srl a b = every
form Sra a b = every
form Or a b = every
form And a b = record { lo = 0; hi = min a.hi b.hi }

-- the results of an operation on the numbers of a range and an immediate, whose 32 bits are n
abbrev pub form_imm : AluOp → Range → ℕ → Range
form_imm Sll a n = shifted_left a (amount n)
form_imm Srl a n = shifted_right a (amount n)
form_imm Add a n = form Add a (one n)
form_imm Sub a n = form Sub a (one n)
form_imm Slt a n = form Slt a (one n)
form_imm Sltu a n = form Sltu a (one n)
form_imm Xor a n = form Xor a (one n)
form_imm Sra a n = form Sra a (one n)
form_imm Or a n = form Or a (one n)
form_imm And a n = form And a (one n)

-- the range of the results; if both operands are single numbers, so is the result
abbrev pub computed : AluOp → Range → Range → Range
computed op a b = if is_one a && is_one b then one (alu_of op a.lo b.lo) else form op a b

abbrev pub computed_imm : AluOp → Range → ℕ → Range
computed_imm op a n = if is_one a then one (alu_of op a.lo n) else form_imm op a n

-- the numbers of both ranges
abbrev pub common : Range → Range → Range
common a b = record { lo = max a.lo b.lo; hi = min a.hi b.hi }

-- the numbers of `a` below some number of `b`
abbrev pub below : Range → Range → Range
below a b = record { lo = a.lo; hi = min a.hi (b.hi - 1) }

-- the numbers of `a` above some number of `b`
abbrev pub above : Range → Range → Range
above a b = record { lo = max a.lo (b.lo + 1); hi = a.hi }

-- the numbers of `a` that are some number of `b` or more
abbrev pub at_least : Range → Range → Range
at_least a b = record { lo = max a.lo b.lo; hi = a.hi }

-- the numbers of `a` that are some number of `b` or less
abbrev pub at_most : Range → Range → Range
at_most a b = record { lo = a.lo; hi = min a.hi b.hi }
