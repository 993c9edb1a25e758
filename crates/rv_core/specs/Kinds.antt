-- The kinds of need, and what each says of the task.
use Rattle.std.specs.Prelude.{◌≡◌, ◌≢◌, ℕ, ◌%◌, ◌^◌, ◌<◌, true, false, length, slice_index, Option, Some, None, option_and_then, bit_or, bit_xor}
use Rattle.region_table.specs.Program.{ProgramParts}
use Rattle.region_table.specs.declared.declared.TaskDecl.{TaskDecl}
use Rattle.rv_isa.specs.declared.instr.Instr as instr
use Rattle.rv_isa.specs.declared.instr.Instr.{Instr}
use Rattle.rv_core.specs.declared.task.TaskState.{TaskState}
use Rattle.rv_core.specs.declared.task.End as cause
use Rattle.rv_core.specs.declared.need.Need.{Need}
use Rattle.rv_core.specs.declared.need.Need.TheVariants.{Local, Load, Store, Acquire, Release, End}
use Rattle.rv_core.specs.Access.{is_held, may_load, may_store}
use Rattle.rv_core.specs.Need.{address_of}
use Rattle.rv_core.specs.Address.{size_of}
use Rattle.rv_core.specs.Step.{advanced}

abbrev pub IsLoad : Need → Type 0
IsLoad (Load word) = Unit {0}
IsLoad _ = ⊥

abbrev pub IsStore : Need → Type 0
IsStore (Store word whole) = Unit {0}
IsStore _ = ⊥

-- the needs that `advance` completes: Local, Store, Acquire and Release
abbrev pub IsAdvance : Need → Type 0
IsAdvance (Load word) = ⊥
IsAdvance (End cause) = ⊥
IsAdvance _ = Unit {0}

-- the task ends because it has used up its fuel
abbrev pub EndsByFuel : Need → Type 0
EndsByFuel (End cause.TheVariants.Fuel) = Unit {0}
EndsByFuel _ = ⊥

-- what a need says of the task, where `next` is its state once the instruction has retired. The word of a load or store is a
-- data word that the task may load or store with the locks that it holds. A lock that it acquires is one of the program's and
-- not held. A lock that it releases is held. Only these two change which locks are held
abbrev pub Tells : ProgramParts → TaskDecl → TaskState → TaskState → Need → Type 0
Tells P d t next Local = next.held ≡ t.held
Tells P d t next (Load word) = (word.0 < length P.memory) × (may_load d t.held word.0 ≡ true)
Tells P d t next (Store word whole) =
    (word.0 < length P.memory) × (may_store d t.held word.0 ≡ true) × (next.held ≡ t.held)
Tells P d t next (Acquire lock) =
    (lock.0 < length P.locks) × (is_held t.held lock.0 ≡ false) × (next.held ≡ bit_or t.held (2 ^ lock.0))
Tells P d t next (Release lock) =
    (lock.0 < length P.locks) × (is_held t.held lock.0 ≡ true) × (next.held ≡ bit_xor t.held (2 ^ lock.0))
Tells P d t next (End cause) = Unit {0}

-- the locks that are held once the instruction of a need has retired
abbrev pub held_after : ℕ → Need → ℕ
held_after held (Acquire lock) = bit_or held (2 ^ lock.0)
held_after held (Release lock) = bit_xor held (2 ^ lock.0)
held_after held _ = held

abbrev pub Allowed : ProgramParts → TaskDecl → TaskState → Need → Type 0
Allowed P d t n = Tells P d t (advanced P t) n

-- a load's or store's address is a multiple of its width
abbrev pub IsAligned : TaskState → Instr → Type 0
IsAligned t (instr.TheVariants.Load width rd base offset) = address_of t base offset % size_of width ≡ 0
IsAligned t (instr.TheVariants.Store width src base offset) = address_of t base offset % size_of width ≡ 0
IsAligned t _ = Unit {0}

-- the register that an instruction writes, if it writes one
abbrev pub destination : Instr → Option ℕ
destination (instr.TheVariants.Lui rd imm) = Some rd
destination (instr.TheVariants.Auipc rd imm) = Some rd
destination (instr.TheVariants.Jal rd offset) = Some rd
destination (instr.TheVariants.Jalr rd base offset) = Some rd
destination (instr.TheVariants.Load width rd base offset) = Some rd
destination (instr.TheVariants.OpImm op rd a imm) = Some rd
destination (instr.TheVariants.Op op rd a b) = Some rd
destination _ = None

-- no register but the instruction's destination changes
abbrev pub KeepsOthers : Option Instr → TaskState → TaskState → Type 0
KeepsOthers i old new =
    (r : ℕ) → option_and_then destination i ≢ Some r → slice_index new.regs r ≡ slice_index old.regs r
