-- The program's answer to options and a text.
use Rattle.std.specs.Prelude.{◌≡◌, ◌⊎◌, ℕ, Bool, true, false, List, ◌++◌, Option, Some, None, Result, Ok, Err}
use Rattle.dn_base.specs.declared.ids.Grant.{Grant}
use Rattle.dn_base.specs.declared.status.Status.{Status}
use Rattle.dn_base.specs.declared.status.Status as status
use Rattle.dn_base.specs.declared.status.Outcome.{Outcome}
use Rattle.dn_base.specs.Status.{status_of}
use Rattle.region_table.specs.Program.{ProgramParts}
use Rattle.rv_assembler.specs.Source.{source}
use Rattle.rv_listing.specs.Law.{FitsSourceLimits}
use Rattle.rv_listing.specs.Listing.{listed_lines, listing_in, listing_of}
use Rattle.effect_prover.specs.declared.proved.Proved.{Proved}
use Rattle.effect_prover.specs.declared.proved.Proved.TheVariants.{Inside}
use Rattle.effect_prover.specs.Answer.{IsProversAnswer, RunsInside, proved_text}
use Rattle.flat_machine.specs.declared.ending.FlatEnd.{FlatEnd}
use Rattle.flat_machine.specs.Grants.{IsLeast}
use Rattle.flat_machine.specs.Ending.{flat_end}
use Rattle.run_report.specs.Answer.{answer_of}
use Rattle.run_report.specs.Grants.{grant_lines}
use Rattle.run_report.specs.Summary.{checked_of}
use Rattle.run_report.specs.declared.programs.Stop.{Stop}
use Rattle.run_report.specs.declared.programs.Stop as stop
use Rattle.run_report.specs.Texts.{HasProgram, HasChecked, IsNoProgram, IsUnfit}
use Rattle.dn_top.specs.declared.options.Mode.{Mode}
use Rattle.dn_top.specs.declared.options.Mode as mode
use Rattle.dn_top.specs.declared.options.Options.{Options}
use Rattle.dn_top.specs.declared.output.Output.{Output}
use Rattle.dn_machine.specs.declared.record.RunRecord.{RunRecord}
use Rattle.checked_runs.specs.Causes.{IsCaused}
use Rattle.checked_runs.specs.Runs.{reported, summed_up}
use Rattle.dn_top.specs.Runs.{IsRunFor, IsPrintedRun, IsTimedRun}
use Rattle.checked_runs.specs.Documents.{HasTrace, IsRefusedDocument}
use Rattle.dn_top.specs.Documents.{IsTracedRun, IsReplayedRun}

-- ---- what is done with a program

-- a status, and all that is written; no run of the machine is handed back
abbrev pub answered : Status → List ℕ → Output
answered status bytes = record { status = status; bytes = bytes; run = None }

-- the run of a program on one flat memory by the least list of grants, printed as its answer and the grants; if it is out of
-- fuel or stuck, its tasks are the cause
pub record IsFlatRun (program : ProgramParts) (fuel : ℕ) (out : Output) : Type 0 where
  pub grants : List Grant
  pub least : IsLeast program fuel grants
  pub end : FlatEnd
  pub flat : flat_end program fuel grants ≡ Some end
  pub caused : IsCaused program fuel grants end.ending
  pub answer : out ≡ answered (status_of end.ending.outcome) (answer_of end.ending ++ grant_lines grants)

-- the program's listing, with addresses or without; without them, if it is within the limits of a text, it is a text of exactly this
-- program
pub record IsListing (program : ProgramParts) (addresses : Bool) (out : Output) : Type 0 where
  pub answer : out ≡ answered status.TheVariants.Done (listing_in addresses program)
  pub again : addresses ≡ false → FitsSourceLimits (listed_lines program) → source (listing_of program) ≡ Ok program

-- what the prover says of the program's effects; if it says that they are kept, no run ends a task by the trap `outside`
pub record IsProof (program : ProgramParts) (out : Output) : Type 0 where
  pub proved : Proved
  pub right : IsProversAnswer program proved
  pub sound : proved ≡ Inside → RunsInside program
  pub answer : out ≡ answered status.TheVariants.Done (proved_text proved)

-- ---- what is done with a document

-- the document's text has a checked program, and its events are a complete run, which is reported
abbrev pub IsReplayed : List ℕ → Output → Type 0
IsReplayed document out = HasTrace document (λ t. HasChecked t.text (λ P. IsReplayedRun P t out))

-- ---- the run of a text

-- r is a run of the text's checked program on the machine that the options ask for, with its events picked as they ask
abbrev pub IsRunOfText : Options → List ℕ → RunRecord → Type 0
IsRunOfText o text r = HasChecked text (λ P. IsRunFor P o r)

-- ---- a row for each mode

-- what each mode does with a text
abbrev pub done_in : Mode → Options → List ℕ → Output → Type 0
done_in mode.TheVariants.Run o text out = HasChecked text (λ P. IsPrintedRun P o reported out)
done_in mode.TheVariants.Work o text out = HasChecked text (λ P. IsPrintedRun P o summed_up out)
done_in mode.TheVariants.Check o text out = HasChecked text (λ P. out ≡ answered status.TheVariants.Done (checked_of P))
done_in mode.TheVariants.List o text out = HasProgram text (λ P. IsListing P o.addresses out)
done_in mode.TheVariants.Flat o text out = HasChecked text (λ P. IsFlatRun P o.fuel out)
done_in mode.TheVariants.Trace o text out = HasChecked text (λ P. IsTracedRun P o text out)
done_in mode.TheVariants.Replay o text out = IsReplayed text out
done_in mode.TheVariants.Time o text out = HasChecked text (λ P. IsTimedRun P o out)
done_in mode.TheVariants.Prove o text out = HasChecked text (λ P. IsProof P out)

-- which texts each mode refuses, and with which line
abbrev pub refused_in : Mode → List ℕ → List ℕ → Type 0
refused_in mode.TheVariants.Run text line = IsUnfit text line
refused_in mode.TheVariants.Work text line = IsUnfit text line
refused_in mode.TheVariants.Check text line = IsUnfit text line
refused_in mode.TheVariants.List text line = IsNoProgram text line
refused_in mode.TheVariants.Flat text line = IsUnfit text line
refused_in mode.TheVariants.Trace text line = IsUnfit text line
refused_in mode.TheVariants.Replay text line = IsRefusedDocument text line
refused_in mode.TheVariants.Time text line = IsUnfit text line
refused_in mode.TheVariants.Prove text line = IsUnfit text line

-- how many bytes each mode reads at most: one more than its text or document may have; None for a mode that generates its text
abbrev pub most_read : Mode → Option ℕ
most_read mode.TheVariants.Run = Some 1048577
most_read mode.TheVariants.Work = None
most_read mode.TheVariants.Check = Some 1048577
most_read mode.TheVariants.List = Some 1048577
most_read mode.TheVariants.Flat = Some 1048577
most_read mode.TheVariants.Trace = Some 1048577
most_read mode.TheVariants.Replay = Some 536870913
most_read mode.TheVariants.Time = Some 1048577
most_read mode.TheVariants.Prove = Some 1048577

-- whether the events of a mode's run are picked, by the seed or by the workers, and not read from a document
abbrev pub picks_events : Mode → Bool
picks_events mode.TheVariants.Run = true
picks_events mode.TheVariants.Work = true
picks_events mode.TheVariants.Check = false
picks_events mode.TheVariants.List = false
picks_events mode.TheVariants.Flat = false
picks_events mode.TheVariants.Trace = true
picks_events mode.TheVariants.Replay = false
picks_events mode.TheVariants.Time = true
picks_events mode.TheVariants.Prove = false

-- whether a mode runs the multicore machine, and so hands a run back
abbrev pub makes_run : Mode → Bool
makes_run mode.TheVariants.Run = true
makes_run mode.TheVariants.Work = true
makes_run mode.TheVariants.Check = false
makes_run mode.TheVariants.List = false
makes_run mode.TheVariants.Flat = false
makes_run mode.TheVariants.Trace = true
makes_run mode.TheVariants.Replay = true
makes_run mode.TheVariants.Time = true
makes_run mode.TheVariants.Prove = false

-- whether a mode runs the program's tasks; if it doesn't, its only outcome is Done
abbrev pub runs_tasks : Mode → Bool
runs_tasks mode.TheVariants.Run = true
runs_tasks mode.TheVariants.Work = true
runs_tasks mode.TheVariants.Check = false
runs_tasks mode.TheVariants.List = false
runs_tasks mode.TheVariants.Flat = true
runs_tasks mode.TheVariants.Trace = true
runs_tasks mode.TheVariants.Replay = true
runs_tasks mode.TheVariants.Time = true
runs_tasks mode.TheVariants.Prove = false

-- ---- answers

-- the output of a result: a refusal is its line, and out of memory has no output
abbrev pub IsOutputOf : Result Output Stop → Output → Type 0
IsOutputOf (Ok done) out = out ≡ done
IsOutputOf (Err (stop.TheVariants.Refused line)) out = out ≡ answered status.TheVariants.SourceRefused line
IsOutputOf (Err stop.TheVariants.Memory) out = ⊥

-- what the options ask for was done with the text
abbrev pub IsDone : Options → List ℕ → Output → Type 0
IsDone o text out = done_in o.mode o text out

-- the text is refused in the mode that is asked for
pub record IsRefusal (o : Options) (text : List ℕ) (out : Output) : Type 0 where
  pub line : List ℕ
  pub why : refused_in o.mode text line
  pub answer : out ≡ answered status.TheVariants.SourceRefused line

-- the answer to options and a text
abbrev pub IsAnswer : Options → List ℕ → Output → Type 0
IsAnswer o text out = IsDone o text out ⊎ IsRefusal o text out

-- the status is that of an outcome
abbrev pub IsOutcome : Status → Type 0
IsOutcome s = (o : Outcome) × (s ≡ status_of o)
