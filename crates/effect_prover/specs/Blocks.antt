-- Blocks. A block is a run of adjacent code words, and only the first, its leader, can be reached from elsewhere. The row at
-- the leader gives the rows of the other words.
use Rattle.std.specs.Prelude.{◌≡◌, ◌⊎◌, ℕ, zero, suc, ◌+◌, ◌<◌, Bool, true, false, List, length, map, slice_index_or, Option, Some, None, if◌then◌else◌}
use Rattle.std.specs.List.{range_with_len}
use Rattle.rv_isa.specs.declared.instr.Instr.{Instr}
use Rattle.rv_isa.specs.declared.instr.Instr.TheVariants.{Lui, Auipc, Jal, Jalr, Branch, Load, Store, OpImm, Op, Fence, Ecall, Ebreak}
use Rattle.region_table.specs.Program.{ProgramParts}
use Rattle.region_table.specs.declared.declared.TaskDecl.{TaskDecl}
use Rattle.effect_prover.specs.declared.row.Row.{Row}
use Rattle.effect_prover.specs.Successors.{successors}
use Rattle.effect_prover.specs.Table.{Table, row_at, address_at, instr_of, target_of}

-- the instruction is straight: it continues at the next word, and nowhere else
abbrev pub is_straight : Instr → Bool
is_straight (Lui rd imm) = true
is_straight (Auipc rd imm) = true
is_straight (Jal rd offset) = false
is_straight (Jalr rd base offset) = false
is_straight (Branch test a b offset) = false
is_straight (Load width rd base offset) = true
is_straight (Store width src base offset) = true
is_straight (OpImm op rd a imm) = true
is_straight (Op op rd a b) = true
is_straight Fence = true
is_straight Ecall = false
is_straight Ebreak = false

-- a straight instruction stands at the code word
pub record IsStraightAt (code : List ℕ) (i : ℕ) : Type 0 where
  pub instr : Instr
  pub there : instr_of code i ≡ Some instr
  pub plain : is_straight instr ≡ true

-- whether a code word is marked as the first of a block
abbrev pub is_leader : List Bool → ℕ → Bool
is_leader leaders i = slice_index_or leaders i false

-- the leaders that the first n code words require: the first word, each word after one that isn't straight, and each target of
-- a branch or JAL
pub record AreLed (code : List ℕ) (n : ℕ) (leaders : List Bool) : Type 0 where
  pub words : length leaders ≡ length code
  pub first : 0 < length code → is_leader leaders 0 ≡ true
  pub behind : (i : ℕ) → i < n → i + 1 < length code → IsStraightAt code i ⊎ (is_leader leaders (i + 1) ≡ true)
  pub aimed : (i j : ℕ) (instr : Instr) → i < n → j < length code → instr_of code i ≡ Some instr
      → target_of (address_at i) instr ≡ Some (address_at j) → is_leader leaders j ≡ true

-- all leaders of the first marks are leaders of the second
pub record HasMoreLeaders (old new : List Bool) : Type 0 where
  pub words : length new ≡ length old
  pub all : (i : ℕ) → is_leader old i ≡ true → is_leader new i ≡ true

-- these leaders suffice for a task: they are those that the code words require, and the task's entry
pub record HasLeaders (P : ProgramParts) (d : TaskDecl) (leaders : List Bool) : Type 0 where
  pub led : AreLed P.code (length P.code) leaders
  pub entry : (i : ℕ) → i < length P.code → d.entry ≡ address_at i → is_leader leaders i ≡ true

-- the leader of a code word's block
abbrev pub leader_of : List Bool → ℕ → ℕ
leader_of leaders zero = zero
leader_of leaders (suc i) = if is_leader leaders (suc i) then suc i else leader_of leaders i

-- this is the last word of its block
pub record IsLast (leaders : List Bool) (words i : ℕ) : Type 0 where
  pub within : i < words
  pub behind : i + 1 < words → is_leader leaders (i + 1) ≡ true

-- the row that a code word gives to the next one
abbrev pub row_behind : ProgramParts → ℕ → Option Row → Option Instr → Option Row
row_behind P i None instr = None
row_behind P i (Some row) None = None
row_behind P i (Some row) (Some instr) = (successors (length P.locks) (address_at i) row instr).next

-- the row at a code word, from the rows at the leaders
abbrev pub filled_row : ProgramParts → List Bool → Table → ℕ → Option Row
filled_row P leaders rows zero = row_at rows zero
filled_row P leaders rows (suc i) =
    if is_leader leaders (suc i) then row_at rows (suc i) else row_behind P i (filled_row P leaders rows i) (instr_of P.code i)

-- the table of which these are the rows at the leaders
unfoldable pub filled : ProgramParts → List Bool → Table → Table
filled P leaders rows = map (filled_row P leaders rows) (range_with_len 0 (length P.code))

-- the row at the word before, if there is one
abbrev pub filled_before : ProgramParts → List Bool → Table → ℕ → Option Row
filled_before P leaders rows zero = None
filled_before P leaders rows (suc i) = filled_row P leaders rows i
