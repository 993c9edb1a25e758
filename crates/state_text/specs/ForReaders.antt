-- The answer of a run for readers: how it ended, how each task ended by its name, the data words region by region, and the grants by
-- the names of their locks.
use Rattle.std.specs.Prelude.{ℕ, ◌+◌, ◌-◌, ◌%◌, ◌==◌, max, List, [], ◌∷◌, ◌++◌, length, take, drop, replicate, flat_map, slice_get, codes, find, Option, Some, None, if◌then◌else◌}
use Rattle.std.specs.Fmt.{decimal}
use Rattle.text_pieces.specs.Pieces.{newline, space, hexadecimal}
use Rattle.dn_base.specs.declared.ids.Grant.{Grant}
use Rattle.region_table.specs.declared.declared.Region.{Region}
use Rattle.rv_core.specs.declared.ending.EndShown as shown
use Rattle.rv_core.specs.declared.ending.EndShown.{EndShown}
use Rattle.rv_core.specs.declared.ending.TaskEnd.{TaskEnd}
use Rattle.rv_core.specs.declared.ending.Ending.{Ending}
use Rattle.rv_assembler.specs.declared.statement.Statement.{Statement}
use Rattle.rv_assembler.specs.declared.statement.Statement as statement
use Rattle.rv_assembler.specs.declared.parsing.Reading.{Reading}
use Rattle.rv_assembler.specs.declared.parsing.Reading.TheVariants.{Good}
use Rattle.rv_assembler.specs.Operand.{bytes_of}
use Rattle.rv_assembler.specs.Source.{readings}
use Rattle.text_places.specs.declared.places.TaskPlace.{TaskPlace}
use Rattle.text_places.specs.declared.places.Places.{Places}
use Rattle.text_places.specs.declared.places.Located.{Located}
use Rattle.text_places.specs.Words.{is_task_of}
use Rattle.text_places.specs.Texts.{lock_text}
use Rattle.run_report.specs.Answer.{outcome_line, end_text}
use Rattle.state_text.specs.declared.base.Base.{Base}
use Rattle.state_text.specs.declared.base.Base as base

-- ---- tasks

-- the entry that a line of tasks names, as it stands there: a label, or an address
abbrev pub entry_said : List ℕ → Statement → List ℕ
entry_said text (statement.TheVariants.Tasks f) = bytes_of text f.entry
entry_said text _ = []

abbrev pub entry_on_line : List ℕ → Option Reading → List ℕ
entry_on_line text (Some (Good s)) = entry_said text s.statement
entry_on_line text _ = []

-- lines are numbered from 1
abbrev pub entry_of_task : List ℕ → List Reading → Option TaskPlace → List ℕ
entry_of_task text rs (Some p) = entry_on_line text (slice_get rs (p.line - 1))
entry_of_task text rs None = []

-- a task's name is the entry that its line names
abbrev pub task_name : List ℕ → Places → ℕ → ℕ → List ℕ
task_name text places phase core = entry_of_task text (readings text) (find (is_task_of phase core) places.tasks)

-- how a task ended; a lock that it waits for has its name
abbrev pub end_words : List (List ℕ) → EndShown → List ℕ
end_words locks shown.TheVariants.Finished = end_text shown.TheVariants.Finished
end_words locks shown.TheVariants.Fuel = codes "out of fuel"
end_words locks (shown.TheVariants.Trap k pc value) = end_text (shown.TheVariants.Trap k pc value)
end_words locks (shown.TheVariants.Waits lock) = codes "waits for " ++ lock_text locks lock.0

-- a task that started: its name, its core and its phase, how it ended, and how many instructions it retired
unfoldable pub ended_task_line : List ℕ → List (List ℕ) → TaskEnd → List ℕ
ended_task_line name locks t =
    codes "task " ++ name ++ codes " of core " ++ decimal t.core.0 ++ codes " in phase " ++ decimal t.phase.0 ++ codes ": " ++ end_words locks t.end
    ++ codes ", retired " ++ decimal t.retired ++ newline

abbrev pub task_end_line : List ℕ → Located → TaskEnd → List ℕ
task_end_line text L t = ended_task_line (task_name text L.places t.phase.0 t.core.0) L.program.locks t

-- ---- regions

-- a number in the base that is asked for
abbrev pub number_text : Base → ℕ → List ℕ
number_text base.TheVariants.Decimal n = decimal n
number_text base.TheVariants.Hexadecimal n = hexadecimal n

-- the greatest of some words; 0 where there is none
abbrev pub greatest : List ℕ → ℕ
greatest [] = 0
greatest (v ∷ vs) = max v (greatest vs)

-- a number at the right end of so many columns
unfoldable pub right_aligned : ℕ → List ℕ → List ℕ
right_aligned width digits = replicate (width - length digits) 32 ++ digits

-- eight numbers stand in a line; what stands before the number of this index
abbrev pub break_before : ℕ → List ℕ
break_before index = if index % 8 == 0 then newline ++ codes "  " else space

-- the numbers of some words, the first of which has this index in its region
abbrev pub number_lines : Base → ℕ → ℕ → List ℕ → List ℕ
number_lines b width index [] = []
number_lines b width index (v ∷ vs) = (break_before index ++ right_aligned width (number_text b v)) ++ number_lines b width (index + 1) vs

-- the columns of a region are as wide as its greatest number
abbrev pub columns_text : Base → List ℕ → List ℕ
columns_text b values = number_lines b (length (number_text b (greatest values))) 0 values

-- the words of a region
abbrev pub words_under : List ℕ → Region → List ℕ
words_under memory r = take r.len (drop r.start memory)

-- a region: its name, and then its words, eight in a line
unfoldable pub region_head : List ℕ → List ℕ
region_head name = codes "region " ++ name

abbrev pub region_lines : Base → List ℕ → Region → List ℕ
region_lines b memory r = region_head r.name ++ columns_text b (words_under memory r) ++ newline

-- ---- grants

-- a grant: its lock by name, its core and its phase
unfoldable pub named_grant_line : List (List ℕ) → Grant → List ℕ
named_grant_line locks g =
    codes "grant of " ++ lock_text locks g.lock.0 ++ codes " to core " ++ decimal g.core.0 ++ codes " in phase " ++ decimal g.phase.0 ++ newline

-- ---- all of it

-- the outcome, a line for each task that started, the regions in their order, and the grants in theirs
unfoldable pub answer_for_readers : Base → List ℕ → Located → Ending → List Grant → List ℕ
answer_for_readers b text L e grants =
    outcome_line e.outcome ++ flat_map (task_end_line text L) e.tasks ++ flat_map (region_lines b e.memory) L.program.regions
    ++ flat_map (named_grant_line L.program.locks) grants
