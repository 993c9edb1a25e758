-- The table of instruction forms: where a task can continue after an instruction, and with which rows.
use Rattle.std.specs.Prelude.{ℕ, ◌+◌, ◌*◌, ◌%◌, ◌^◌, Bool, ◌&&◌, ◌||◌, ◌==◌, nat_lt, Option, Some, None, if◌then◌else◌, bit_or, bit_xor}
use Rattle.rv_isa.specs.Meaning.{taken_of}
use Rattle.rv_isa.specs.Word.{pattern}
use Rattle.rv_isa.specs.declared.instr.Cond.{Cond}
use Rattle.rv_isa.specs.declared.instr.Cond.TheVariants.{Eq, Ne, Lt, Ge, Ltu, Geu}
use Rattle.rv_isa.specs.declared.instr.Width.{Width}
use Rattle.rv_isa.specs.declared.instr.Width as width
use Rattle.rv_isa.specs.declared.instr.Instr.{Instr}
use Rattle.rv_isa.specs.declared.instr.Instr.TheVariants.{Lui, Auipc, Jal, Jalr, Branch, Load, Store, OpImm, Op, Fence, Ecall, Ebreak}
use Rattle.rv_core.specs.Access.{is_held}
use Rattle.effect_prover.specs.declared.range.Range.{Range}
use Rattle.effect_prover.specs.declared.row.Row.{Row}
use Rattle.effect_prover.specs.declared.successors.Successors.{Successors}
use Rattle.effect_prover.specs.Range.{one, every, is_one, is_empty, computed, computed_imm, common, below, above, at_least, at_most}
use Rattle.effect_prover.specs.Row.{a0, a7, range_of, with_range}

-- the task can continue nowhere, only at the next word, or only at the instruction's target
abbrev pub no_successors : Successors
no_successors = record { next = None; target = None }

abbrev pub falls_through : Row → Successors
falls_through row = record { next = Some row; target = None }

abbrev pub jumps : Row → Successors
jumps row = record { next = None; target = Some row }

-- the row in which two registers have these ranges, unless one of them is empty
abbrev pub narrowed : Row → ℕ → Range → ℕ → Range → Option Row
narrowed row a x b y = if is_empty x || is_empty y then None else Some (with_range (with_range row a x) b y)

-- the row if register a equals register b, is less than it without sign, or isn't less
abbrev pub where_equal : Row → ℕ → ℕ → Option Row
where_equal row a b =
    narrowed row a (common (range_of row a) (range_of row b)) b (common (range_of row a) (range_of row b))

abbrev pub where_less : Row → ℕ → ℕ → Option Row
where_less row a b = narrowed row a (below (range_of row a) (range_of row b)) b (above (range_of row b) (range_of row a))

abbrev pub where_not_less : Row → ℕ → ℕ → Option Row
where_not_less row a b =
    narrowed row a (at_least (range_of row a) (range_of row b)) b (at_most (range_of row b) (range_of row a))

-- the row if the two differ; they can't if both have the same single number
abbrev pub where_different : Row → ℕ → ℕ → Option Row
where_different row a b =
    if is_one (range_of row a) && is_one (range_of row b) && (range_of row a).lo == (range_of row b).lo then None else Some row

-- both are below 2^31, where the signed and the unsigned order agree
abbrev pub are_low : Row → ℕ → ℕ → Bool
are_low row a b = nat_lt (range_of row a).hi (2 ^ 31) && nat_lt (range_of row b).hi (2 ^ 31)

-- a branch that is taken if a is less than b without sign, and one that is taken if it isn't
abbrev pub less_branches : Row → ℕ → ℕ → Successors
less_branches row a b = record { next = where_not_less row a b; target = where_less row a b }

abbrev pub not_less_branches : Row → ℕ → ℕ → Successors
not_less_branches row a b = record { next = where_less row a b; target = where_not_less row a b }

-- a branch of which nothing is known
abbrev pub any_branches : Row → Successors
any_branches row = record { next = Some row; target = Some row }

-- a branch on two registers: the row if it isn't taken, and the row if it is
abbrev pub branches : Cond → Row → ℕ → ℕ → Successors
branches Eq row a b = record { next = where_different row a b; target = where_equal row a b }
branches Ne row a b = record { next = where_equal row a b; target = where_different row a b }
branches Ltu row a b = less_branches row a b
branches Geu row a b = not_less_branches row a b
branches Lt row a b = if are_low row a b then less_branches row a b else any_branches row
branches Ge row a b = if are_low row a b then not_less_branches row a b else any_branches row

-- a branch of a register with itself goes one way
abbrev pub branch_on : Cond → Row → ℕ → ℕ → Successors
branch_on test row a b =
    if a == b then (if taken_of test 0 0 then jumps row else falls_through row) else branches test row a b

-- the range of the values that a load can put into its register
abbrev pub loadable : Width → Range
loadable width.TheVariants.B = every
loadable width.TheVariants.H = every
loadable width.TheVariants.W = every
loadable width.TheVariants.Bu = record { lo = 0; hi = 255 }
loadable width.TheVariants.Hu = record { lo = 0; hi = 65535 }

-- these locks with another one, and without one
abbrev pub held_with : ℕ → ℕ → ℕ
held_with held lock = bit_or held (2 ^ lock)

abbrev pub held_without : ℕ → ℕ → ℕ
held_without held lock = if is_held held lock then bit_xor held (2 ^ lock) else held

-- the locks that are held for certain after a lock of this range was acquired, or released, in a program with `locks` locks
abbrev pub held_after_acquire : ℕ → ℕ → Range → ℕ
held_after_acquire locks held lock = if is_one lock && nat_lt lock.lo locks then held_with held lock.lo else held

abbrev pub held_after_release : ℕ → Range → ℕ
held_after_release held lock = if is_one lock then held_without held lock.lo else 0

-- an ECALL with a number of the first range in a7 and a lock of the second in a0. 1 acquires the lock, 2 releases it, and after
-- any other number the task doesn't continue. If the number isn't known, the locks aren't either
abbrev pub calls : ℕ → Row → Range → Range → Successors
calls locks row number lock =
    if is_one number then
    (if number.lo == 1 then falls_through (record row { held = held_after_acquire locks row.held lock })
    else if number.lo == 2 then falls_through (record row { held = held_after_release row.held lock })
    else no_successors)
    else falls_through (record row { held = 0 })

-- the successors of an instruction at the address pc that is reached with a row
abbrev pub successors : ℕ → ℕ → Row → Instr → Successors
successors locks pc row (Lui rd imm) = falls_through (with_range row rd (one (imm * 4096 % 2 ^ 32)))
successors locks pc row (Auipc rd imm) = falls_through (with_range row rd (one ((pc + imm * 4096) % 2 ^ 32)))
successors locks pc row (Jal rd offset) = jumps (with_range row rd (one (pc + 4)))
successors locks pc row (Jalr rd base offset) = no_successors
successors locks pc row (Branch test a b offset) = branch_on test row a b
successors locks pc row (Load width rd base offset) = falls_through (with_range row rd (loadable width))
successors locks pc row (Store width src base offset) = falls_through row
successors locks pc row (OpImm op rd a imm) = falls_through (with_range row rd (computed_imm op (range_of row a) (pattern imm)))
successors locks pc row (Op op rd a b) = falls_through (with_range row rd (computed op (range_of row a) (range_of row b)))
successors locks pc row Fence = falls_through row
successors locks pc row Ecall = calls locks row (range_of row a7) (range_of row a0)
successors locks pc row Ebreak = no_successors
