-- What a task's next instruction does to the task's own state, and to the word that it stores.
use Rattle.std.specs.Prelude.{ℕ, ◌+◌, ◌*◌, ◌%◌, ◌^◌, ◌==◌, slice_index, Option, Some, None, if◌then◌else◌, bit_or, bit_xor}
use Rattle.region_table.specs.Program.{ProgramParts}
use Rattle.rv_isa.specs.Encoding.{decoded}
use Rattle.rv_isa.specs.Meaning.{alu_of, taken_of}
use Rattle.rv_isa.specs.Word.{pattern}
use Rattle.rv_isa.specs.declared.instr.Instr.{Instr}
use Rattle.rv_isa.specs.declared.instr.Instr.TheVariants.{Lui, Auipc, Jal, Jalr, Branch, Load, Store, OpImm, Op, Fence, Ecall, Ebreak}
use Rattle.rv_core.specs.declared.task.TaskState.{TaskState}
use Rattle.rv_core.specs.Need.{address_of, jump_target, register_target}
use Rattle.rv_core.specs.Address.{code_at, extended, replaced}
use Rattle.rv_core.specs.Registers.{value_in, with_value}

-- the instruction at a task's program counter, if there is one
abbrev pub read_instr : Option ℕ → Option Instr
read_instr None = None
read_instr (Some word) = decoded word

abbrev pub instr_at : ProgramParts → TaskState → Option Instr
instr_at P t = read_instr (code_at P.code t.pc)

-- the address of the instruction after this one
abbrev pub next_pc : TaskState → ℕ
next_pc t = (t.pc + 4) % 2 ^ 32

-- the instruction retires: a value goes to a register, and the task continues at an address
abbrev pub with_result : TaskState → ℕ → ℕ → ℕ → TaskState
with_result t rd value pc = record t { regs = with_value t.regs rd value; pc = pc; retired = t.retired + 1 }

-- the instruction retires and writes no register
abbrev pub jumped_to : TaskState → ℕ → TaskState
jumped_to t pc = record t { pc = pc; retired = t.retired + 1 }

-- the instruction retires, and these locks are held then
abbrev pub with_locks : TaskState → ℕ → TaskState
with_locks t held = record t { pc = next_pc t; held = held; retired = t.retired + 1 }

-- an ECALL with this number in a7 and this lock in a0 acquires or releases the lock
abbrev pub after_call : TaskState → ℕ → ℕ → TaskState
after_call t number lock =
    if number == 1 then with_locks t (bit_or t.held (2 ^ lock)) else with_locks t (bit_xor t.held (2 ^ lock))

-- what an instruction that loads nothing does
abbrev pub after_instr : TaskState → Instr → TaskState
after_instr t (Lui rd imm) = with_result t rd (imm * 4096 % 2 ^ 32) (next_pc t)
after_instr t (Auipc rd imm) = with_result t rd ((t.pc + imm * 4096) % 2 ^ 32) (next_pc t)
after_instr t (Jal rd offset) = with_result t rd (next_pc t) (jump_target t offset)
after_instr t (Jalr rd base offset) = with_result t rd (next_pc t) (register_target t base offset)
after_instr t (Branch test a b offset) =
    jumped_to t (if taken_of test (value_in t.regs a) (value_in t.regs b) then jump_target t offset else next_pc t)
after_instr t (Load width rd base offset) = t
after_instr t (Store width src base offset) = jumped_to t (next_pc t)
after_instr t (OpImm op rd a imm) = with_result t rd (alu_of op (value_in t.regs a) (pattern imm)) (next_pc t)
after_instr t (Op op rd a b) = with_result t rd (alu_of op (value_in t.regs a) (value_in t.regs b)) (next_pc t)
after_instr t Fence = jumped_to t (next_pc t)
after_instr t Ecall = after_call t (slice_index t.regs 17) (slice_index t.regs 10)
after_instr t Ebreak = t

abbrev pub after_fetch : TaskState → Option Instr → TaskState
after_fetch t None = t
after_fetch t (Some i) = after_instr t i

-- the state once the next instruction, which loads nothing, has retired
unfoldable pub advanced : ProgramParts → TaskState → TaskState
advanced P t = after_fetch t (instr_at P t)

-- a load puts its part of the word's value into its register
abbrev pub after_load : TaskState → ℕ → Option Instr → TaskState
after_load t value (Some (Load width rd base offset)) =
    with_result t rd (extended width value (address_of t base offset % 4)) (next_pc t)
after_load t value _ = t

-- the state once the next instruction, a load of a word with this value, has retired
unfoldable pub loaded_of : ProgramParts → ℕ → TaskState → TaskState
loaded_of P value t = after_load t value (instr_at P t)

-- a store puts the low bytes of its register into the word
abbrev pub after_store : TaskState → ℕ → Option Instr → ℕ
after_store t old (Some (Store width src base offset)) =
    replaced width old (address_of t base offset % 4) (value_in t.regs src)
after_store t old _ = old

-- the word after the next instruction, a store to a word of this value
unfoldable pub merged_of : ProgramParts → ℕ → TaskState → ℕ
merged_of P old t = after_store t old (instr_at P t)
