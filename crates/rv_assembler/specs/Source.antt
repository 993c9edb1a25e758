-- The meaning of a source text: a program, or the text's first fault. Begin here. Then read Reading (what a line says by
-- itself, with Shape, Operand and Number), Declarations (names), Tables (what lines declare, with Counts, Named, Emission and
-- Rows), Fault, and Program. The types stand in the code: what a line says (`Saying`, `Reading`) in src/parsing.rt, statements
-- in src/statement.rt, what names mean in src/names.rt, the tables and their rows (`Draft`; `Start`, a task; `Claim`, words
-- that a task uses; `FirstValue`; `Cores`, those of the current tasks) in src/draft.rt, and faults in src/fault.rt.
use Rattle.std.specs.Prelude.{ℕ, Bool, nat_lt, List, [], ◌∷◌, ◌++◌, length, map, filter_map, Option, Some, None, Result, Ok, Err, if◌then◌else◌}
use Rattle.std.specs.Option.{option_or}
use Rattle.region_table.specs.Program.{ProgramParts}
use Rattle.src_text.specs.Line.{lines_of}
use Rattle.rv_assembler.specs.declared.fault.SourceFault.{SourceFault}
use Rattle.rv_assembler.specs.declared.fault.SourceFault as fault
use Rattle.rv_assembler.specs.declared.parsing.Saying.{Saying}
use Rattle.rv_assembler.specs.declared.parsing.Reading.{Reading}
use Rattle.rv_assembler.specs.declared.parsing.Reading.TheVariants.{Bad, Good}
use Rattle.rv_assembler.specs.declared.names.Meaning.{Meaning}
use Rattle.rv_assembler.specs.Reading.{version_line, reading_of}
use Rattle.rv_assembler.specs.Placed.{Placed, placed}
use Rattle.rv_assembler.specs.Declarations.{meaning_of}
use Rattle.rv_assembler.specs.Tables.{tables}
use Rattle.rv_assembler.specs.Fault.{early_fault, limit_fault}
use Rattle.rv_assembler.specs.Program.{program_of}

-- the lines of good form
abbrev pub good : Reading → Option Saying
good (Bad f) = None
good (Good s) = Some s

abbrev pub sayings : List Reading → List Saying
sayings rs = filter_map good rs

-- the first fault of a line, by the lines of good form before it
abbrev pub line_fault : Bool → List ℕ → (List ℕ → Option Meaning) → List Saying → Reading → Option SourceFault
line_fault version_2 text names before (Bad f) = Some f
line_fault version_2 text names before (Good s) =
    option_or (early_fault text names before s) (limit_fault version_2 (tables text names (before ++ s ∷ [])) s.line)

abbrev pub fault_at : Bool → List ℕ → (List ℕ → Option Meaning) → Placed Reading → Option SourceFault
fault_at version_2 text names p = line_fault version_2 text names (sayings p.before) p.here

-- the first faults of the lines that have one
abbrev pub faults : Bool → List ℕ → (List ℕ → Option Meaning) → List Reading → List SourceFault
faults version_2 text names rs = filter_map (fault_at version_2 text names) (placed rs)

-- the first fault, or the program if there is none
abbrev pub without_faults : List SourceFault → ProgramParts → Result ProgramParts SourceFault
without_faults [] p = Ok p
without_faults (f ∷ fs) p = Err f

-- what the lines of a text say; a name means what the first line that declares it says
abbrev pub said_by : Bool → List ℕ → List Reading → Result ProgramParts SourceFault
said_by version_2 text rs =
    let names = meaning_of text (sayings rs) in without_faults (faults version_2 text names rs) (program_of (tables text names (sayings rs)))

-- what the lines of a text say
abbrev pub readings : List ℕ → List Reading
readings text = let ls = lines_of text in map (reading_of (version_line text ls) text) ls

-- the program of a text, or its first fault; for a text of version 1 the version line has the number 0
abbrev pub source : List ℕ → Result ProgramParts SourceFault
source text =
    if nat_lt 1048576 (length text) then Err fault.TheVariants.TooLarge
    else said_by (nat_lt 0 (version_line text (lines_of text))) text (readings text)
