-- How the least table is found: rows grow as little as they must, until each has been passed on to its successors.
use Rattle.std.specs.Prelude.{◌≡◌, ◌≢◌, ◌↔◌, ℕ, ◌+◌, ◌-◌, ◌<◌, ◌≤◌, Bool, true, false, List, length, slice_index_or, slice_set, Option, Some, None, sum_by, bit_and}
use Rattle.region_table.specs.Program.{ProgramParts}
use Rattle.region_table.specs.declared.declared.TaskDecl.{TaskDecl}
use Rattle.rv_isa.specs.declared.instr.Instr.{Instr}
use Rattle.effect_prover.specs.declared.range.Range.{Range}
use Rattle.effect_prover.specs.declared.row.Row.{Row}
use Rattle.effect_prover.specs.Range.{LiesWithin, IsRange}
use Rattle.effect_prover.specs.Row.{range_of, IsUnder}
use Rattle.effect_prover.specs.Successors.{successors}
use Rattle.effect_prover.specs.Table.{Table, row_at, address_at, instr_of, IsLoopHead, IsEnd, IsHeadRange, IsTable, Covers, IsPassedOn, IsClosed}
use Rattle.effect_prover.specs.Blocks.{is_leader, leader_of, IsLast, filled_row}

-- ---- joined ranges and rows

-- the greatest end of a head's range that is at most n, and the least that is at least n
pub record IsEndUpTo (argument n e : ℕ) : Type 0 where
  pub end : IsEnd argument e
  pub within : e ≤ n
  pub greatest : (f : ℕ) → IsEnd argument f → f ≤ n → f ≤ e

pub record IsEndFrom (argument n e : ℕ) : Type 0 where
  pub end : IsEnd argument e
  pub within : n ≤ e
  pub least : (f : ℕ) → IsEnd argument f → n ≤ f → e ≤ f

-- the least range with all numbers of two ranges; at a head, the least that a head may have
pub record IsJoinedRange (head : Bool) (argument : ℕ) (old given new : Range) : Type 0 where
  pub first : LiesWithin old new
  pub second : LiesWithin given new
  pub range : IsRange new
  pub head_range : head ≡ true → IsHeadRange argument new
  pub least : (all : Range) → (head ≡ true → IsHeadRange argument all) → LiesWithin old all → LiesWithin given all → LiesWithin new all

-- the least row that contains two rows
pub record IsRowJoined (head : Bool) (argument : ℕ) (old given new : Row) : Type 0 where
  pub count : length new.ranges ≡ 32
  pub ranges : (r : ℕ) → r < 32 → IsJoinedRange head argument (range_of old r) (range_of given r) (range_of new r)
  pub held : new.held ≡ bit_and old.held given.held

-- the same if there may be no row yet
abbrev pub IsJoinedTo : Bool → ℕ → Option Row → Row → Row → Type 0
IsJoinedTo head argument None given new = IsRowJoined head argument given given new
IsJoinedTo head argument (Some old) given new = IsRowJoined head argument old given new

-- the row of a word contains a row, so that joining that row to it changes nothing
abbrev pub IsTakenIn : Bool → ℕ → Option Row → Row → Type 0
IsTakenIn head argument None given = ⊥
IsTakenIn head argument (Some old) given = IsRowJoined head argument old given old

-- ---- room

-- how many numbers of 32 bits aren't in the range
abbrev pub range_room : Range → ℕ
range_room range = range.lo + (4294967295 - range.hi)

-- by how much a row can grow at most, and a word that isn't reached yet
abbrev pub row_room : Row → ℕ
row_room row = sum_by range_room row.ranges + row.held

abbrev pub room_of : Option Row → ℕ
room_of None = 141733920768
room_of (Some row) = row_room row

abbrev pub table_room : Table → ℕ
table_room table = sum_by room_of table

-- ---- heads and marks

-- these tell which code words are heads
pub record HasHeads (code : List ℕ) (heads : List Bool) : Type 0 where
  pub words : length heads ≡ length code
  pub tells : (i : ℕ) → i < length code → (slice_index_or heads i false ≡ true) ↔ IsLoopHead code i

-- one of the first n code words makes the word a head
pub record IsHeadBefore (code : List ℕ) (n i : ℕ) : Type 0 where
  pub head : IsLoopHead code i
  pub before : head.place < n

-- the heads by the first n code words are marked
abbrev pub AreMarked : List ℕ → ℕ → List Bool → Type 0
AreMarked code n heads = (i : ℕ) → i < length code → (slice_index_or heads i false ≡ true) ↔ IsHeadBefore code n i

-- whether a word's row has still to be passed on
abbrev pub row_is_pending : List Bool → ℕ → Bool
row_is_pending pending i = slice_index_or pending i false

-- ---- the sweep

-- each row of the first table lies below the second's
abbrev pub IsTableUnder : Table → Table → Type 0
IsTableUnder table all = (i : ℕ) → IsUnder (row_at table i) (row_at all i)

-- the table lies below every closed one
abbrev pub IsBelowAll : ProgramParts → TaskDecl → Table → Type 0
IsBelowAll P d table = (all : Table) → IsClosed P d all → IsTableUnder table all

-- the rows of the word's successors contain what it gives them
abbrev pub HasPassedOn : ProgramParts → List Bool → Table → ℕ → Type 0
HasPassedOn P leaders table i =
    (row : Row) (instr : Instr) → filled_row P leaders table i ≡ Some row → instr_of P.code i ≡ Some instr
    → IsPassedOn table (address_at i) instr (successors (length P.locks) (address_at i) row instr)

-- the state of the sweep; its table has the rows at the leaders. For each block whose leader isn't pending, the last word has
-- passed on its rows. No leader before the cursor is pending
pub record IsSwept (P : ProgramParts) (d : TaskDecl) (leaders : List Bool) (table : Table) (pending : List Bool) (cursor : ℕ) : Type 0 where
  pub shape : IsTable P d table
  pub least : IsBelowAll P d table
  pub marks : length pending ≡ length table
  pub passed : (i : ℕ) → IsLast leaders (length P.code) i → row_is_pending pending (leader_of leaders i) ≡ false → HasPassedOn P leaders table i
  pub before : (i : ℕ) → i < cursor → is_leader leaders i ≡ true → row_is_pending pending i ≡ false

-- what is given to an address, if there is one, is covered there
abbrev pub CoversAt : Table → Option ℕ → Option Row → Type 0
CoversAt table address given = (a : ℕ) → address ≡ Some a → Covers table a given

-- a row was given to an address. The table grew as little as it had to, and each row that grew is pending. The sweep continues
-- at the least such word, or at the cursor
pub record IsRowGiven (P : ProgramParts) (d : TaskDecl) (old : Table) (was : List Bool) (address : Option ℕ) (given : Option Row) (cursor : ℕ) (new : Table) (pending : List Bool) (next : ℕ) : Type 0 where
  pub words : length new ≡ length old
  pub marks : length pending ≡ length was
  pub shape : IsTable P d new
  pub grows : IsTableUnder old new
  pub covers : CoversAt new address given
  pub least : (all : Table) → IsTable P d all → IsTableUnder old all → CoversAt all address given → IsTableUnder new all
  pub same : (i : ℕ) → row_is_pending pending i ≡ false → row_at new i ≡ row_at old i
  pub unmarked : (i : ℕ) → row_is_pending pending i ≡ false → row_is_pending was i ≡ false
  pub before : (i : ℕ) → i < next → row_is_pending pending i ≡ row_is_pending was i
  pub within : next ≤ cursor
  pub room_falls : table_room new ≤ table_room old
  pub room_less : next < cursor → table_room new < table_room old

-- a row was joined to the row at an index; `grew` says whether that row grew
pub record IsPut (head : Bool) (argument : ℕ) (old : Table) (place : ℕ) (given : Row) (new : Table) (grew : Bool) : Type 0 where
  pub row : Row
  pub table : new ≡ slice_set old place (Some row)
  pub joined : IsJoinedTo head argument (row_at old place) given row
  pub changed : grew ≡ true → row_at old place ≢ Some row
  pub unchanged : grew ≡ false → row_at old place ≡ Some row
