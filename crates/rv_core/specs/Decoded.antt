-- A program's code words, each decoded.
use Rattle.std.specs.Prelude.{◌≡◌, ℕ, ◌-◌, ◌/◌, ◌%◌, ◌&&◌, ◌==◌, nat_le, List, map, slice_get, Option, Some, None, if◌then◌else◌}
use Rattle.region_table.specs.Program.{ProgramParts}
use Rattle.rv_isa.specs.Encoding.{decoded}
use Rattle.rv_isa.specs.declared.instr.Instr.{Instr}

-- these are the instructions of the program's code words, with None for a word that is no instruction
abbrev pub IsDecoded : ProgramParts → List (Option Instr) → Type 0
IsDecoded P instrs = instrs ≡ map decoded P.code

-- an entry of a list of instructions; None past its end
abbrev pub decoded_entry : Option (Option Instr) → Option Instr
decoded_entry None = None
decoded_entry (Some instr) = instr

-- the instruction at an address
abbrev pub found_at : List (Option Instr) → ℕ → Option Instr
found_at instrs pc = if nat_le 0x1000 pc && pc % 4 == 0 then decoded_entry (slice_get instrs ((pc - 0x1000) / 4)) else None
