-- The origins of a program's parts (`Places`): from which line each code word, region, lock, phase and task comes. Tables (in
-- rv_assembler) says which rows a line of good form gives to the tables of a program. Here each row has the line that gives it,
-- and its number among that line's rows.
use Rattle.std.specs.Prelude.{ℕ, ◌+◌, ◌-◌, List, [], ◌∷◌, Option, flat_map}
use Rattle.rv_assembler.specs.declared.statement.Statement.{Statement}
use Rattle.rv_assembler.specs.declared.statement.Statement as statement
use Rattle.rv_assembler.specs.declared.parsing.Saying.{Saying}
use Rattle.rv_assembler.specs.declared.names.Meaning.{Meaning}
use Rattle.rv_assembler.specs.declared.draft.Start.{Start}
use Rattle.rv_assembler.specs.Placed.{Placed, placed}
use Rattle.rv_assembler.specs.Counts.{phases_in}
use Rattle.rv_assembler.specs.Declarations.{meaning_of}
use Rattle.rv_assembler.specs.Tables.{placed_code, region_at, lock_name_at, tasks_at}
use Rattle.rv_assembler.specs.Source.{readings, sayings}
use Rattle.text_places.specs.declared.places.CodePlace.{CodePlace}
use Rattle.text_places.specs.declared.places.TaskPlace.{TaskPlace}
use Rattle.text_places.specs.declared.places.Places.{Places}

-- the origins of some rows, the first of which has the number `part`
abbrev pub each_part : {Row Place : Type 0} → (ℕ → Row → Place) → ℕ → List Row → List Place
each_part place part [] = []
each_part place part (r ∷ rs) = place part r ∷ each_part place (part + 1) rs

-- the origins of the rows that a line gives to a table, numbered from 0
abbrev pub places_at : {Row Place : Type 0} → (Placed Saying → List Row) → (ℕ → ℕ → Row → Place) → Placed Saying → List Place
places_at rows_at place p = each_part (place p.here.line) 0 (rows_at p)

-- the origins of all rows of a table
abbrev pub places_of : {Row Place : Type 0} → (Placed Saying → List Row) → (ℕ → ℕ → Row → Place) → List Saying → List Place
places_of rows_at place ss = flat_map (places_at rows_at place) (placed ss)

-- a code word comes from a line, as one of its words
abbrev pub code_place : ℕ → ℕ → ℕ → CodePlace
code_place line part word = record { line = line; part = part }

-- a region, a lock and a phase come from a line of their own
abbrev pub own_line : {Row : Type 0} → ℕ → ℕ → Row → ℕ
own_line line part row = line

-- a task comes from a line, as one of its tasks; the tables number phases from 1
abbrev pub task_place : ℕ → ℕ → Start → TaskPlace
task_place line part t = record { phase = t.phase - 1; core = t.core; line = line; part = part }

-- the phases, by their numbers from 0
abbrev pub phase_row_by : ℕ → Statement → List ℕ
phase_row_by number statement.TheVariants.Phase = number ∷ []
phase_row_by number _ = []

abbrev pub phase_row : Placed Saying → List ℕ
phase_row p = phase_row_by (phases_in p.before) p.here.statement

-- the origins in some lines, where names mean this
abbrev pub places_among : List ℕ → (List ℕ → Option Meaning) → List Saying → Places
places_among text names ss =
    record {
      code = places_of (placed_code text names) code_place ss;
      regions = places_of (region_at text) own_line ss;
      locks = places_of (lock_name_at text) own_line ss;
      phases = places_of phase_row own_line ss;
      tasks = places_of (tasks_at text names) task_place ss;
    }

-- the origins in a text
abbrev pub text_places : List ℕ → Places
text_places text = let ss = sayings (readings text) in places_among text (meaning_of text ss) ss
