-- How the assembler adds one line: it makes the code words once, and uses them for the tests and for the code.
use Rattle.std.specs.Prelude.{ℕ, Bool, false, List, [], Option, Some, None, Result, Ok, Err}
use Rattle.rv_assembler.specs.declared.fault.SourceFault.{SourceFault}
use Rattle.rv_assembler.specs.declared.statement.Statement.{Statement}
use Rattle.rv_assembler.specs.declared.statement.Statement as statement
use Rattle.rv_assembler.specs.declared.parsing.Reading.{Reading}
use Rattle.rv_assembler.specs.declared.parsing.Reading.TheVariants.{Bad, Good}
use Rattle.rv_assembler.specs.declared.names.Meaning.{Meaning}
use Rattle.rv_assembler.specs.declared.emission.Emission.{Emission}
use Rattle.rv_assembler.specs.declared.draft.Draft.{Draft}
use Rattle.rv_assembler.specs.Emission.{emission, words_in}
use Rattle.rv_assembler.specs.Fault.{is_far, is_lost}
use Rattle.rv_assembler.specs.Adding.{draft_after, fault_on_line, unless_fault}

-- the code words of a statement that stands at the code word `here`, if it is an instruction
abbrev pub emission_at : List ℕ → (List ℕ → Option Meaning) → ℕ → Statement → Option Emission
emission_at text names here (statement.TheVariants.Instruction k) = Some (emission text names here k)
emission_at text names here _ = None

abbrev pub far_if_any : Option Emission → Bool
far_if_any None = false
far_if_any (Some e) = is_far e

abbrev pub lost_if_any : Option Emission → Bool
lost_if_any None = false
lost_if_any (Some e) = is_lost e

abbrev pub words_if_any : Option Emission → List ℕ
words_if_any None = []
words_if_any (Some e) = words_in e

-- the draft after a line, or the line's first fault
abbrev pub draft_behind : Bool → List ℕ → (List ℕ → Option Meaning) → Draft → Reading → Result Draft SourceFault
draft_behind version_2 text names d (Bad f) = Err f
draft_behind version_2 text names d (Good s) = unless_fault (fault_on_line version_2 text names d s) (Ok (draft_after text names d s.statement))
