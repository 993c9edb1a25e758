-- The result of one look at a task's next instruction.
use Rattle.std.specs.Prelude.{◌≡◌, ℕ, ◌==◌, Option, None, if◌then◌else◌}
use Rattle.region_table.specs.Program.{ProgramParts}
use Rattle.region_table.specs.declared.declared.TaskDecl.{TaskDecl}
use Rattle.rv_isa.specs.declared.instr.Instr.{Instr}
use Rattle.rv_core.specs.declared.task.TaskState.{TaskState}
use Rattle.rv_core.specs.declared.need.Next.{Next}
use Rattle.rv_core.specs.Need.{need_of}
use Rattle.rv_core.specs.Step.{instr_at}

-- the task's next instruction; None if the task has used up its fuel
abbrev pub instr_within : ProgramParts → ℕ → TaskState → Option Instr
instr_within P fuel t = if t.retired == fuel then None else instr_at P t

-- what the next instruction needs, and the instruction
abbrev pub next_found : ProgramParts → TaskDecl → ℕ → TaskState → Next
next_found P d fuel t = record { need = need_of P d fuel t; instr = instr_within P fuel t }

-- a look is the one at the next instruction of this state
abbrev pub IsNextOf : ProgramParts → TaskDecl → ℕ → TaskState → Next → Type 0
IsNextOf P d fuel t next = next ≡ next_found P d fuel t
