-- The program's answer to options and a text.
use Rattle.std.specs.Prelude.{◌≡◌, ◌⊎◌, ℕ, Bool, List}
use Rattle.region_table.specs.Program.{ProgramParts}
use Rattle.run_report.specs.Texts.{HasChecked, IsUnfit}
use Rattle.dn_machine.specs.declared.record.RunRecord.{RunRecord}
use Rattle.program_outside.specs.declared.ends.Output.{Output}
use Rattle.sweep_top.specs.declared.options.Form.{Form}
use Rattle.sweep_top.specs.declared.options.Form as form
use Rattle.sweep_top.specs.declared.options.SweepOptions.{SweepOptions}
use Rattle.sweep_top.specs.declared.status.SweepStatus.{SweepStatus}
use Rattle.sweep_top.specs.declared.status.SweepStatus as status
use Rattle.sweep_top.specs.Runs.{AreRunsOf}
use Rattle.sweep_top.specs.AnswerTable.{answers_table}
use Rattle.sweep_top.specs.Summary.{runs_summary}
use Rattle.sweep_top.specs.Table.{runs_table}

-- a status of the program, and all bytes that are to be written
abbrev pub SweepReply : Type 0
SweepReply = Output SweepStatus

-- what is printed of the runs of the seeds from the first one on; answers are compared with their counts of instructions or without
abbrev pub sweep_text : Form → (retired : Bool) → ℕ → List RunRecord → List ℕ
sweep_text form.TheVariants.Summary retired first runs = runs_summary retired first runs
sweep_text form.TheVariants.Answers retired first runs = answers_table retired first runs
sweep_text form.TheVariants.Csv retired first runs = runs_table first runs

-- the program was run by each seed that is asked for, and this is what is printed of the runs in a form
pub record IsTextOfRuns (P : ProgramParts) (o : SweepOptions) (f : Form) (text : List ℕ) : Type 0 where
  pub runs : List RunRecord
  pub are : AreRunsOf P o runs
  pub is : text ≡ sweep_text f o.retired o.seeds.first runs

abbrev pub swept : List ℕ → SweepReply
swept text = record { status = status.TheVariants.Swept; bytes = text }

-- the program was run by each seed that is asked for, and the runs are printed in the form that is asked for
pub record IsSweepOf (P : ProgramParts) (o : SweepOptions) (out : SweepReply) : Type 0 where
  pub runs : List RunRecord
  pub are : AreRunsOf P o runs
  pub answer : out ≡ swept (sweep_text o.form o.retired o.seeds.first runs)

-- a text that is refused, with the line with which denovo refuses it
pub record IsSweepRefused (text : List ℕ) (out : SweepReply) : Type 0 where
  pub line : List ℕ
  pub why : IsUnfit text line
  pub answer : out ≡ record { status = status.TheVariants.Refused; bytes = line }

-- the answer to options and a text
abbrev pub IsSweepAnswer : SweepOptions → List ℕ → SweepReply → Type 0
IsSweepAnswer o text out = HasChecked text (λ P. IsSweepOf P o out) ⊎ IsSweepRefused text out
