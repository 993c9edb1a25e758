-- A task's state: how it starts, and how it ends.
use Rattle.std.specs.Prelude.{ℕ, ◌+◌, replicate, slice_set, Some, None}
use Rattle.region_table.specs.declared.declared.TaskDecl.{TaskDecl}
use Rattle.rv_core.specs.declared.task.TaskState.{TaskState}
use Rattle.rv_core.specs.declared.task.End.{End}
use Rattle.rv_core.specs.declared.task.End.TheVariants.{Finished, Fuel, Trap}

-- the state at a task's start: at its entry, its argument in a0, and 0 in every other register
abbrev pub started : TaskDecl → TaskState
started task =
    record { regs = slice_set (replicate 32 0) 10 task.arg; pc = task.entry; held = 0; retired = 0; end = None }

-- how many instructions retire when the task ends: one for the ECALL that finishes it, else none
abbrev pub retires_at : End → ℕ
retires_at Finished = 1
retires_at _ = 0

-- the state once the task has ended; the instruction that finishes a task retires
abbrev pub stopped : End → TaskState → TaskState
stopped Finished t = record t { retired = t.retired + 1; end = Some Finished }
stopped Fuel t = record t { end = Some Fuel }
stopped (Trap kind pc value) t = record t { end = Some (Trap kind pc value) }
