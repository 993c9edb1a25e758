-- A text, its program and its check, and the lines that refuse them.
use Rattle.std.specs.Prelude.{◌≡◌, ◌⊎◌, ℕ, List, Ok, Err}
use Rattle.region_table.specs.Program.{ProgramParts}
use Rattle.rv_assembler.specs.declared.fault.SourceFault.{SourceFault}
use Rattle.rv_assembler.specs.Source.{source}
use Rattle.effect_checker.specs.declared.fault.CheckFault.{CheckFault}
use Rattle.effect_checker.specs.Checked.{IsChecked}
use Rattle.effect_checker.specs.Faults.{IsLeastFault}
use Rattle.run_report.specs.declared.refusal.Refusal as refusal
use Rattle.run_report.specs.Refusal.{refusal_of}
use Rattle.run_report.specs.declared.programs.Stop.{Stop}
use Rattle.run_report.specs.declared.programs.Stop as stop

-- the text has a program, and this holds of it
pub record HasProgram (text : List ℕ) (Holds : ProgramParts → Type 0) : Type 0 where
  pub program : ProgramParts
  pub is : source text ≡ Ok program
  pub holds : Holds program

-- the text has a program whose tasks don't conflict, and this holds of it
pub record HasChecked (text : List ℕ) (Holds : ProgramParts → Type 0) : Type 0 where
  pub program : ProgramParts
  pub is : source text ≡ Ok program
  pub checked : IsChecked program
  pub holds : Holds program

-- the text has no program, and the line says its first fault
pub record IsNoProgram (text line : List ℕ) : Type 0 where
  pub fault : SourceFault
  pub is : source text ≡ Err fault
  pub says : line ≡ refusal_of (refusal.TheVariants.Source fault)

-- tasks of the program conflict, and the line says the least conflict
pub record IsInConflict (program : ProgramParts) (line : List ℕ) : Type 0 where
  pub fault : CheckFault
  pub least : IsLeastFault program fault
  pub says : line ≡ refusal_of (refusal.TheVariants.Check fault)

-- the text has no program that may be run, and the line says why
abbrev pub IsUnfit : List ℕ → List ℕ → Type 0
IsUnfit text line = IsNoProgram text line ⊎ HasProgram text (λ P. IsInConflict P line)

-- a refusal has such a line; out of memory says nothing of the text
abbrev pub IsStop : (List ℕ → Type 0) → Stop → Type 0
IsStop IsLine (stop.TheVariants.Refused line) = IsLine line
IsStop IsLine stop.TheVariants.Memory = Unit {0}
