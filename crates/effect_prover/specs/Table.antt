-- Tables: a row for each code word that a task can reach. And the least closed table.
use Rattle.std.specs.Prelude.{◌≡◌, ◌⊎◌, ℕ, ◌+◌, ◌*◌, ◌%◌, ◌^◌, ◌<◌, ◌≤◌, List, length, slice_get, slice_index_or, Option, Some, None}
use Rattle.rv_isa.specs.Word.{pattern}
use Rattle.rv_isa.specs.declared.instr.Instr.{Instr}
use Rattle.rv_isa.specs.declared.instr.Instr.TheVariants.{Jal, Branch}
use Rattle.region_table.specs.Program.{ProgramParts}
use Rattle.region_table.specs.declared.declared.TaskDecl.{TaskDecl}
use Rattle.rv_core.specs.Step.{read_instr}
use Rattle.effect_prover.specs.declared.range.Range.{Range}
use Rattle.effect_prover.specs.declared.row.Row.{Row}
use Rattle.effect_prover.specs.declared.successors.Successors.{Successors}
use Rattle.effect_prover.specs.Row.{range_of, start_row, IsRow, IsUnder}
use Rattle.effect_prover.specs.Successors.{successors}

-- for each code word its row, or None where the task can't reach it
abbrev pub Table : Type 0
Table = List (Option Row)

abbrev pub row_at : Table → ℕ → Option Row
row_at table i = slice_index_or table i None

-- the address of code word i
abbrev pub address_at : ℕ → ℕ
address_at i = 4096 + 4 * i

-- the instruction that code word i is, if it is one
abbrev pub instr_of : List ℕ → ℕ → Option Instr
instr_of code i = read_instr (slice_get code i)

-- the target of a branch or JAL at the address pc
abbrev pub target_of : ℕ → Instr → Option ℕ
target_of pc (Jal rd offset) = Some ((pc + pattern offset) % 2 ^ 32)
target_of pc (Branch test a b offset) = Some ((pc + pattern offset) % 2 ^ 32)
target_of pc _ = None

-- a head is a code word that is the target of a branch or JAL at the same or a later address; each loop without a JALR has one
pub record IsLoopHead (code : List ℕ) (i : ℕ) : Type 0 where
  pub place : ℕ
  pub later : i ≤ place
  pub instr : Instr
  pub there : instr_of code place ≡ Some instr
  pub aims : target_of (address_at place) instr ≡ Some (address_at i)

-- the ends that a range at a head may have: 0, the task's argument, the greatest and the least signed number, and the greatest
-- unsigned number
abbrev pub IsEnd : ℕ → ℕ → Type 0
IsEnd argument e = (e ≡ 0) ⊎ ((e ≡ argument) ⊎ ((e ≡ 2147483647) ⊎ ((e ≡ 2147483648) ⊎ (e ≡ 4294967295))))

-- a range at a head is a single number, or has two such ends; so it can grow only a few times
abbrev pub IsHeadRange : ℕ → Range → Type 0
IsHeadRange argument range = (range.lo ≡ range.hi) ⊎ (IsEnd argument range.lo × IsEnd argument range.hi)

-- a table of a task
pub record IsTable (P : ProgramParts) (d : TaskDecl) (table : Table) : Type 0 where
  pub words : length table ≡ length P.code
  pub rows : (i : ℕ) (row : Row) → row_at table i ≡ Some row → IsRow row
  pub heads : (i : ℕ) (row : Row) → IsLoopHead P.code i → row_at table i ≡ Some row → (r : ℕ) → r < 32 → IsHeadRange d.arg (range_of row r)

-- the row at an address, where a code word stands there, contains what is given
abbrev pub Covers : Table → ℕ → Option Row → Type 0
Covers table address given = (i : ℕ) → i < length table → address ≡ address_at i → IsUnder given (row_at table i)

-- the rows at the next word and at the target of an instruction at pc contain those of its successors
pub record IsPassedOn (table : Table) (pc : ℕ) (instr : Instr) (s : Successors) : Type 0 where
  pub next : Covers table (pc + 4) s.next
  pub target : (address : ℕ) → target_of pc instr ≡ Some address → Covers table address s.target

-- a table is closed: its row at the task's entry contains the start row, and for each instruction that is reached, the rows of
-- its successors contain what the instruction gives them
pub record IsClosed (P : ProgramParts) (d : TaskDecl) (table : Table) : Type 0 where
  pub shape : IsTable P d table
  pub entry : Covers table d.entry (Some (start_row d))
  pub passes : (i : ℕ) (row : Row) (instr : Instr) → row_at table i ≡ Some row → instr_of P.code i ≡ Some instr
      → IsPassedOn table (address_at i) instr (successors (length P.locks) (address_at i) row instr)

-- the least of all closed tables of the task: every closed table contains it row by row
pub record IsLeastTable (P : ProgramParts) (d : TaskDecl) (table : Table) : Type 0 where
  pub closed : IsClosed P d table
  pub least : (all : Table) → IsClosed P d all → (i : ℕ) → IsUnder (row_at table i) (row_at all i)
