-- How the assembler finds a program or a fault: it adds up the lines one by one, with counts that stay at the greatest number
-- of 32 bits. The meaning of a text is defined in Source; this gives the same.
use Rattle.std.specs.Prelude.{ℕ, ◌%◌, ◌^◌, Bool, nat_lt, List, [], ◌∷◌, ◌++◌, length, map, Option, Some, None, Result, Ok, Err, if◌then◌else◌}
use Rattle.std.specs.Option.{option_or}
use Rattle.region_table.specs.Program.{ProgramParts}
use Rattle.src_text.specs.declared.line.Line.{Line}
use Rattle.src_text.specs.Line.{lines_of}
use Rattle.rv_assembler.specs.declared.fault.SourceFault.{SourceFault}
use Rattle.rv_assembler.specs.declared.fault.SourceFault as fault
use Rattle.rv_assembler.specs.declared.statement.Statement.{Statement}
use Rattle.rv_assembler.specs.declared.statement.Statement as statement
use Rattle.rv_assembler.specs.declared.statement.Family.{Family}
use Rattle.rv_assembler.specs.declared.parsing.Saying.{Saying}
use Rattle.rv_assembler.specs.declared.parsing.Reading.{Reading}
use Rattle.rv_assembler.specs.declared.parsing.Reading.TheVariants.{Bad, Good}
use Rattle.rv_assembler.specs.declared.names.Meaning.{Meaning}
use Rattle.rv_assembler.specs.declared.draft.Draft.{Draft}
use Rattle.rv_assembler.specs.Number.{wrapped}
use Rattle.rv_assembler.specs.Operand.{bytes_of}
use Rattle.rv_assembler.specs.Reading.{version_line, reading_of}
use Rattle.rv_assembler.specs.Gathering.{more, no_count, count_behind, meaning_in}
use Rattle.rv_assembler.specs.Emission.{emission, words_in}
use Rattle.rv_assembler.specs.Named.{no_cores, region_span, usage_of}
use Rattle.rv_assembler.specs.Drafting.{wrapped_entry, members, claims_for, values_for}
use Rattle.rv_assembler.specs.Fault.{limit_fault}
use Rattle.rv_assembler.specs.Testing.{draft_fault}
use Rattle.rv_assembler.specs.Finishing.{finished_program}

abbrev pub no_draft : Draft
no_draft = record { code = []; regions = []; locks = []; values = []; tasks = []; claims = []; phases = 0; family = no_cores; count = no_count }

-- a family of tasks becomes the current one
abbrev pub with_tasks : Draft → ℕ → Family → Draft
with_tasks d entry f =
    record d {
      tasks = d.tasks ++ members (record { phase = d.phases; core = wrapped f.core; entry = entry; arg = f.arg % 2 ^ 32 }) f.step (wrapped f.count);
      family = record { first = wrapped f.core; count = wrapped f.count };
    }

-- what a statement adds, except for the count
abbrev pub draft_with : List ℕ → (List ℕ → Option Meaning) → Draft → Statement → Draft
draft_with text names d statement.TheVariants.Nothing = d
draft_with text names d (statement.TheVariants.Instruction k) = record d { code = d.code ++ words_in (emission text names d.count.code k) }
draft_with text names d (statement.TheVariants.Region name len) =
    record d { regions = d.regions ++ record { name = bytes_of text name; start = d.count.words; len = wrapped len } ∷ [] }
draft_with text names d (statement.TheVariants.Word region index value) =
    record d { values = d.values ++ values_for (region_span (names (bytes_of text region))) index value }
draft_with text names d (statement.TheVariants.Lock name) = record d { locks = d.locks ++ bytes_of text name ∷ [] }
draft_with text names d statement.TheVariants.Phase = record d { phases = more d.phases 1; family = no_cores }
draft_with text names d (statement.TheVariants.Tasks f) = with_tasks d (wrapped_entry text names f.entry) f
draft_with text names d (statement.TheVariants.Uses e) =
    record d { claims = d.claims ++ claims_for d.phases d.family (region_span (names (bytes_of text e.region))) (usage_of text names e) e.extent }

-- the draft after a statement
abbrev pub draft_after : List ℕ → (List ℕ → Option Meaning) → Draft → Statement → Draft
draft_after text names d s = record (draft_with text names d s) { count = count_behind d.count s }

-- the first fault of a line of good form
abbrev pub fault_on_line : Bool → List ℕ → (List ℕ → Option Meaning) → Draft → Saying → Option SourceFault
fault_on_line version_2 text names d s = option_or (draft_fault text names d s) (limit_fault version_2 (draft_after text names d s.statement) s.line)

abbrev pub unless_fault : Option SourceFault → Result Draft SourceFault → Result Draft SourceFault
unless_fault (Some f) r = Err f
unless_fault None r = r

-- line by line: the first line with a fault decides, otherwise all lines are added up
abbrev pub total : Bool → List ℕ → (List ℕ → Option Meaning) → Draft → List Reading → Result Draft SourceFault
total version_2 text names d [] = Ok d
total version_2 text names d (Bad f ∷ rs) = Err f
total version_2 text names d (Good s ∷ rs) =
    unless_fault (fault_on_line version_2 text names d s) (total version_2 text names (draft_after text names d s.statement) rs)

-- the same for lines, by what each says
abbrev pub total_of : ℕ → List ℕ → (List ℕ → Option Meaning) → Draft → List Line → Result Draft SourceFault
total_of version text names d ls = total (nat_lt 0 version) text names d (map (reading_of version text) ls)

abbrev pub program_in : Result Draft SourceFault → Result ProgramParts SourceFault
program_in (Ok d) = Ok (finished_program d)
program_in (Err f) = Err f

-- the names of a text are those of all its lines of good form
abbrev pub gathered_names : List ℕ → List ℕ → Option Meaning
gathered_names text = let ls = lines_of text in meaning_in text no_count (map (reading_of (version_line text ls) text) ls)

-- what the lines of a text add up to
abbrev pub draft_of : List ℕ → Result Draft SourceFault
draft_of text = let ls = lines_of text in total_of (version_line text ls) text (gathered_names text) no_draft ls

-- the program that the lines add up to, or the first fault
abbrev pub added_program : List ℕ → Result ProgramParts SourceFault
added_program text = if nat_lt 1048576 (length text) then Err fault.TheVariants.TooLarge else program_in (draft_of text)
