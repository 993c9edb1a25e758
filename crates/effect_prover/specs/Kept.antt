-- The table that is kept for the next task.
use Rattle.std.specs.Prelude.{◌≡◌, Bool, List, length, Option, Some, None}
use Rattle.region_table.specs.Program.{ProgramParts}
use Rattle.region_table.specs.declared.declared.TaskDecl.{TaskDecl}
use Rattle.effect_prover.specs.declared.task_table.TaskTable.{TaskTable}
use Rattle.effect_prover.specs.Table.{Table, IsLeastTable}
use Rattle.effect_prover.specs.Blocks.{AreLed, filled}

-- filled up from these rows at these leaders, the table is the least table of the task
pub record AreLeaderRows (P : ProgramParts) (d : TaskDecl) (leaders : List Bool) (rows : Table) : Type 0 where
  pub led : AreLed P.code (length P.code) leaders
  pub words : length rows ≡ length P.code
  pub least : IsLeastTable P d (filled P leaders rows)

-- it is the table of every task with its entry and argument
abbrev pub IsTaskTable : ProgramParts → TaskTable → Type 0
IsTaskTable P table = (d : TaskDecl) → d.entry ≡ table.entry → d.arg ≡ table.arg → AreLeaderRows P d table.leaders.items table.rows.items

-- no table is kept, or one that is right
abbrev pub IsTableKept : ProgramParts → Option TaskTable → Type 0
IsTableKept P None = Unit {0}
IsTableKept P (Some table) = IsTaskTable P table

-- the kept table is that of the task
abbrev pub IsTableReady : ProgramParts → TaskDecl → Option TaskTable → Type 0
IsTableReady P d None = ⊥
IsTableReady P d (Some table) = AreLeaderRows P d table.leaders.items table.rows.items
