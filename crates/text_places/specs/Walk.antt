-- How the code finds the origins: line by line, from what each line of good form says by itself. In a text without a fault this
-- gives the origins of Places.
use Rattle.std.specs.Prelude.{ℕ, zero, suc, ◌+◌, ◌-◌, List, [], ◌∷◌, ◌++◌, length}
use Rattle.rv_assembler.specs.declared.statement.Statement.{Statement}
use Rattle.rv_assembler.specs.declared.statement.Statement as statement
use Rattle.rv_assembler.specs.declared.parsing.Reading.{Reading}
use Rattle.rv_assembler.specs.declared.parsing.Reading.TheVariants.{Bad, Good}
use Rattle.rv_assembler.specs.Number.{wrapped}
use Rattle.rv_assembler.specs.Size.{code_word_count}
use Rattle.rv_assembler.specs.Gathering.{more}
use Rattle.text_places.specs.declared.places.CodePlace.{CodePlace}
use Rattle.text_places.specs.declared.places.TaskPlace.{TaskPlace}
use Rattle.text_places.specs.declared.places.Places.{Places}

abbrev pub no_places : Places
no_places = record { code = []; regions = []; locks = []; phases = []; tasks = [] }

-- the origins of `count` code words of a line, from its word `part` on
abbrev pub code_parts : ℕ → ℕ → ℕ → List CodePlace
code_parts line part zero = []
code_parts line part (suc n) = record { line = line; part = part } ∷ code_parts line (part + 1) n

-- the origins of `count` tasks of a line, from its task `part` on
abbrev pub task_parts : ℕ → ℕ → ℕ → ℕ → ℕ → List TaskPlace
task_parts phase line first part zero = []
task_parts phase line first part (suc n) =
    record { phase = phase; core = more first part; line = line; part = part } ∷ task_parts phase line first (part + 1) n

-- what a line adds
abbrev pub with_statement : Places → ℕ → Statement → Places
with_statement p line (statement.TheVariants.Instruction k) = record p { code = p.code ++ code_parts line 0 (code_word_count k) }
with_statement p line (statement.TheVariants.Region name len) = record p { regions = p.regions ++ line ∷ [] }
with_statement p line (statement.TheVariants.Lock name) = record p { locks = p.locks ++ line ∷ [] }
with_statement p line statement.TheVariants.Phase = record p { phases = p.phases ++ line ∷ [] }
with_statement p line (statement.TheVariants.Tasks f) =
    record p { tasks = p.tasks ++ task_parts (length p.phases - 1) line (wrapped f.core) 0 (wrapped f.count) }
with_statement p line _ = p

-- a line of bad form adds nothing
abbrev pub with_reading : Places → Reading → Places
with_reading p (Bad f) = p
with_reading p (Good s) = with_statement p s.line s.statement

-- what some lines add
abbrev pub with_readings : Places → List Reading → Places
with_readings p [] = p
with_readings p (r ∷ rs) = with_readings (with_reading p r) rs
