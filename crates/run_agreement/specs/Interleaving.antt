-- The machine that a textbook has in mind: one memory; cores that take one instruction at a time, in any order; locks, each of which is
-- free or held by a task; and a barrier between two phases. Its states are worlds.
use Rattle.std.specs.Prelude.{◌≡◌, ℕ, List, [], ◌∷◌, ◌++◌, slice_get, Option, Some, None, if◌then◌else◌}
use Rattle.dn_base.specs.declared.ids.Grant.{Grant}
use Rattle.region_table.specs.Program.{ProgramParts}
use Rattle.region_table.specs.declared.declared.Phase.{Phase}
use Rattle.rv_core.specs.declared.need.Need.{Need}
use Rattle.rv_core.specs.declared.need.Need.TheVariants.{Acquire}
use Rattle.flat_machine.specs.declared.ending.FlatEnd.{FlatEnd}
use Rattle.flat_machine.specs.Step.{Started, wish}
use Rattle.flat_machine.specs.Phases.{Flat, next_phase, initial}
use Rattle.flat_machine.specs.Grants.{is_free, grant_of}
use Rattle.flat_machine.specs.Ending.{flat_end_of}
use Rattle.run_agreement.specs.Worlds.{stepped, world_after_grant, with_phase}

-- What comes next: the task at a place takes an instruction, where the tasks of the current phase stand in the order of their cores; or
-- the next phase begins
pub data Move : Type 0 where
  acts : ℕ → Move
  begins : Move

-- an acquire is possible if its lock is free, and every other instruction always; a task that has ended takes none
abbrev pub instruction : ProgramParts → ℕ → Flat → ℕ → Started → Option Need → Option Flat
instruction P fuel W i r None = None
instruction P fuel W i r (Some (Acquire lock)) = if is_free W.tasks lock.0 then Some (world_after_grant P W i r) else None
instruction P fuel W i r (Some other) = Some (stepped P fuel W i r)

abbrev pub instruction_at : ProgramParts → ℕ → Flat → ℕ → Option Started → Option Flat
instruction_at P fuel W i None = None
instruction_at P fuel W i (Some r) = instruction P fuel W i r (wish P fuel r)

-- a phase begins if all tasks of the phase before it have finished
abbrev pub phase_begun : Flat → Option Phase → Option Flat
phase_begun W None = None
phase_begun W (Some p) = Some (with_phase W p)

-- the state after a move; None if the move isn't possible
abbrev pub move_made : ProgramParts → ℕ → Flat → Move → Option Flat
move_made P fuel W (acts i) = instruction_at P fuel W i (slice_get W.tasks i)
move_made P fuel W begins = phase_begun W (next_phase P W)

abbrev pub move_made_if : ProgramParts → ℕ → Option Flat → Move → Option Flat
move_made_if P fuel None m = None
move_made_if P fuel (Some W) m = move_made P fuel W m

-- the state after several moves, as long as each is possible
abbrev pub interleaved : ProgramParts → ℕ → Option Flat → List Move → Option Flat
interleaved P fuel o [] = o
interleaved P fuel o (m ∷ ms) = interleaved P fuel (move_made_if P fuel o m) ms

-- the lock that a move takes, if it takes one
abbrev pub lock_taken_by : Started → Option Need → List Grant
lock_taken_by r (Some (Acquire lock)) = grant_of r lock ∷ []
lock_taken_by r other = []

abbrev pub lock_taken_at : ProgramParts → ℕ → Option Started → List Grant
lock_taken_at P fuel None = []
lock_taken_at P fuel (Some r) = lock_taken_by r (wish P fuel r)

abbrev pub locks_taken : ProgramParts → ℕ → Flat → Move → List Grant
locks_taken P fuel W (acts i) = lock_taken_at P fuel (slice_get W.tasks i)
locks_taken P fuel W begins = []

abbrev pub locks_taken_if : ProgramParts → ℕ → Option Flat → Move → List Grant
locks_taken_if P fuel None m = []
locks_taken_if P fuel (Some W) m = locks_taken P fuel W m

-- the locks that several moves take, in their order
abbrev pub all_locks_taken : ProgramParts → ℕ → Option Flat → List Move → List Grant
all_locks_taken P fuel o [] = []
all_locks_taken P fuel o (m ∷ ms) = locks_taken_if P fuel o m ++ all_locks_taken P fuel (move_made_if P fuel o m) ms

-- no move is possible
abbrev pub HasNoMove : ProgramParts → ℕ → Flat → Type 0
HasNoMove P fuel W = (m : Move) → move_made P fuel W m ≡ None

-- some moves from the start take these locks in this order, and lead to a state in which no move is possible, and which shows this end
pub record IsInterleaving (P : ProgramParts) (fuel : ℕ) (gs : List Grant) (end' : FlatEnd) : Type 0 where
  pub moves : List Move
  pub last : Flat
  pub leads : interleaved P fuel (Some (initial P)) moves ≡ Some last
  pub over : HasNoMove P fuel last
  pub locks : all_locks_taken P fuel (Some (initial P)) moves ≡ gs
  pub shows : flat_end_of P fuel last ≡ end'
