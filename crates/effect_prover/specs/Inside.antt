-- Whether a load or store that is reached with a row only accesses words that its task may use.
use Rattle.std.specs.Prelude.{◌≡◌, ℕ, ℤ, ◌%◌, ◌<◌, Bool, IsTrue, length, Option, Some, None}
use Rattle.rv_isa.specs.Word.{pattern}
use Rattle.rv_isa.specs.declared.instr.AluOp.TheVariants.{Add}
use Rattle.rv_isa.specs.declared.instr.Width.{Width}
use Rattle.rv_isa.specs.declared.instr.Instr.{Instr}
use Rattle.rv_isa.specs.declared.instr.Instr.TheVariants.{Jalr, Load, Store}
use Rattle.region_table.specs.Program.{ProgramParts}
use Rattle.region_table.specs.declared.declared.TaskDecl.{TaskDecl}
use Rattle.rv_core.specs.Access.{may_load, may_store}
use Rattle.rv_core.specs.Address.{data_at, size_of}
use Rattle.effect_prover.specs.declared.range.Range.{Range}
use Rattle.effect_prover.specs.declared.row.Row.{Row}
use Rattle.effect_prover.specs.Range.{Has, computed_imm}
use Rattle.effect_prover.specs.Row.{range_of}
use Rattle.effect_prover.specs.Table.{Table, row_at, instr_of}

-- there is a data word, and it passes a test
abbrev pub IsAllowed : (ℕ → Bool) → Option ℕ → Type 0
IsAllowed allowed None = ⊥
IsAllowed allowed (Some word) = IsTrue (allowed word)

-- each address of the range that is a multiple of the width lies in one of `words` data words, and that word passes the test
abbrev pub AreAllowed : (ℕ → Bool) → ℕ → Width → Range → Type 0
AreAllowed allowed words width range =
    (address : ℕ) → Has range address → address % size_of width ≡ 0 → IsAllowed allowed (data_at words address)

-- the addresses that a load or store with this base and offset can have
abbrev pub addresses : Row → ℕ → ℤ → Range
addresses row base offset = computed_imm Add (range_of row base) (pattern offset)

-- a load or store only accesses words that the task may use in that way with the locks of the row. A jump to a register is
-- never inside, since its target isn't known
abbrev pub IsInside : ProgramParts → TaskDecl → Row → Instr → Type 0
IsInside P d row (Load width rd base offset) = AreAllowed (may_load d row.held) (length P.memory) width (addresses row base offset)
IsInside P d row (Store width src base offset) = AreAllowed (may_store d row.held) (length P.memory) width (addresses row base offset)
IsInside P d row (Jalr rd base offset) = ⊥
IsInside P d row _ = Unit {0}

-- the instruction of a word is inside, if the table reaches it
abbrev pub IsInsideAt : ProgramParts → TaskDecl → Table → ℕ → Type 0
IsInsideAt P d table i = (row : Row) (instr : Instr) → row_at table i ≡ Some row → instr_of P.code i ≡ Some instr → IsInside P d row instr

-- every instruction that the table reaches is inside
abbrev pub AreInside : ProgramParts → TaskDecl → Table → Type 0
AreInside P d table = (i : ℕ) → IsInsideAt P d table i

-- the table reaches an instruction at this word that isn't inside
pub record IsOutsideAt (P : ProgramParts) (d : TaskDecl) (table : Table) (i : ℕ) : Type 0 where
  pub row : Row
  pub reached : row_at table i ≡ Some row
  pub instr : Instr
  pub there : instr_of P.code i ≡ Some instr
  pub outside : IsInside P d row instr → ⊥

-- the first word with such an instruction, or None if there is none
abbrev pub IsFirstOutside : ProgramParts → TaskDecl → Table → Option ℕ → Type 0
IsFirstOutside P d table None = AreInside P d table
IsFirstOutside P d table (Some place) = IsOutsideAt P d table place × ((i : ℕ) → i < place → IsInsideAt P d table i)
