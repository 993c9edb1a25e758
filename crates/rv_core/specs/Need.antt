-- What a task's next instruction needs.
use Rattle.std.specs.Prelude.{ℕ, ◌+◌, ◌*◌, ◌/◌, ◌%◌, ◌^◌, ℤ, Bool, ◌==◌, nat_lt, nat_le, length, Option, Some, None, if◌then◌else◌, slice_index}
use Rattle.region_table.specs.Program.{ProgramParts}
use Rattle.region_table.specs.declared.declared.TaskDecl.{TaskDecl}
use Rattle.rv_isa.specs.Encoding.{decoded}
use Rattle.rv_isa.specs.Meaning.{taken_of}
use Rattle.rv_isa.specs.Word.{pattern}
use Rattle.rv_isa.specs.declared.instr.Instr as instr
use Rattle.rv_isa.specs.declared.instr.Instr.{Instr}
use Rattle.rv_isa.specs.declared.instr.Width.{Width}
use Rattle.rv_core.specs.declared.task.TaskState.{TaskState}
use Rattle.rv_core.specs.declared.task.End as cause
use Rattle.rv_core.specs.declared.task.TrapKind as kind
use Rattle.rv_core.specs.declared.task.TrapKind.{TrapKind}
use Rattle.rv_core.specs.declared.need.Need.{Need}
use Rattle.rv_core.specs.declared.need.Need.TheVariants.{Local, Load, Store, Acquire, Release, End}
use Rattle.rv_core.specs.Access.{is_held, least_held, may_load, may_store}
use Rattle.rv_core.specs.Address.{code_at, data_at, size_of, is_whole}
use Rattle.rv_core.specs.Registers.{value_in}

-- the task ends by a trap at its instruction
abbrev pub traps : TaskState → TrapKind → ℕ → Need
traps t k value = End (cause.TheVariants.Trap k t.pc value)

-- the sum of a register's value and an offset, modulo 2^32
abbrev pub address_of : TaskState → ℕ → ℤ → ℕ
address_of t base offset = (value_in t.regs base + pattern offset) % 2 ^ 32

-- the target of a jump by an offset from the instruction
abbrev pub jump_target : TaskState → ℤ → ℕ
jump_target t offset = (t.pc + pattern offset) % 2 ^ 32

-- the target of a jump by a register and an offset: bit 0 is cleared
abbrev pub register_target : TaskState → ℕ → ℤ → ℕ
register_target t base offset = address_of t base offset / 2 * 2

-- what a jump needs: its target has to be a multiple of 4
abbrev pub jump_need : TaskState → ℕ → Need
jump_need t target = if target % 4 == 0 then Local else traps t kind.TheVariants.Target target

-- a load of the data word at an address, if there is one
abbrev pub load_need : TaskDecl → TaskState → ℕ → Option ℕ → Need
load_need d t address None = traps t kind.TheVariants.Outside address
load_need d t address (Some w) =
    if may_load d t.held w then Load (record { 0 = w }) else traps t kind.TheVariants.Outside address

-- a store to the data word at an address, if there is one
abbrev pub store_need : TaskDecl → TaskState → Bool → ℕ → Option ℕ → Need
store_need d t whole address None = traps t kind.TheVariants.Outside address
store_need d t whole address (Some w) =
    if may_store d t.held w then Store (record { 0 = w }) whole else traps t kind.TheVariants.Outside address

-- what an access needs whose address has to be a multiple of its width
abbrev pub when_aligned : TaskState → Width → ℕ → Need → Need
when_aligned t width address need = if address % size_of width == 0 then need else traps t kind.TheVariants.Misaligned address

-- an ECALL with this number in a7 and this lock in a0: 0 ends the task, 1 acquires the lock, 2 releases it
abbrev pub call_need : ProgramParts → TaskState → ℕ → ℕ → Need
call_need P t number lock =
    if nat_lt 2 number then traps t kind.TheVariants.Call number
    else if number == 0 then (if t.held == 0 then End cause.TheVariants.Finished else traps t kind.TheVariants.HeldEnd (least_held t.held))
    else if nat_le (length P.locks) lock then traps t kind.TheVariants.NoLock lock
    else if number == 1 then (if is_held t.held lock then traps t kind.TheVariants.Held lock else Acquire (record { 0 = lock }))
    else (if is_held t.held lock then Release (record { 0 = lock }) else traps t kind.TheVariants.NotHeld lock)

-- what an instruction needs
abbrev pub instr_need : ProgramParts → TaskDecl → TaskState → Instr → Need
instr_need P d t (instr.TheVariants.Jal rd offset) = jump_need t (jump_target t offset)
instr_need P d t (instr.TheVariants.Jalr rd base offset) = jump_need t (register_target t base offset)
instr_need P d t (instr.TheVariants.Branch test a b offset) =
    if taken_of test (value_in t.regs a) (value_in t.regs b) then jump_need t (jump_target t offset) else Local
instr_need P d t (instr.TheVariants.Load width rd base offset) =
    let address = address_of t base offset in
    when_aligned t width address (load_need d t address (data_at (length P.memory) address))
instr_need P d t (instr.TheVariants.Store width src base offset) =
    let address = address_of t base offset in
    when_aligned t width address (store_need d t (is_whole width) address (data_at (length P.memory) address))
instr_need P d t instr.TheVariants.Ebreak = traps t kind.TheVariants.Break 0
instr_need P d t instr.TheVariants.Ecall = call_need P t (slice_index t.regs 17) (slice_index t.regs 10)
instr_need P d t _ = Local

-- the word of an instruction, if it is one
abbrev pub word_need : ProgramParts → TaskDecl → TaskState → ℕ → Option Instr → Need
word_need P d t word None = traps t kind.TheVariants.Illegal word
word_need P d t word (Some i) = instr_need P d t i

-- the code word at the program counter, if there is one
abbrev pub fetch_need : ProgramParts → TaskDecl → TaskState → Option ℕ → Need
fetch_need P d t None = traps t kind.TheVariants.Fetch t.pc
fetch_need P d t (Some word) = word_need P d t word (decoded word)

-- what a task's next instruction needs; a task that has retired `fuel` instructions ends by Fuel
unfoldable pub need_of : ProgramParts → TaskDecl → ℕ → TaskState → Need
need_of P d fuel t = if t.retired == fuel then End cause.TheVariants.Fuel else fetch_need P d t (code_at P.code t.pc)
