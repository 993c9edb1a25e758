-- The run of a document, as it is passed between calls.
use Rattle.std.specs.Prelude.{◌≡◌, ◌≤◌, ℕ, List, length}
use Rattle.dn_base.specs.declared.limits.TheConstants.{MOST_EVENTS}
use Rattle.region_table.specs.Program.{ProgramParts}
use Rattle.dn_machine.specs.declared.record.RunRecord.{RunRecord}
use Rattle.dn_machine.specs.Kept.{Made}
use Rattle.dn_machine.specs.Settings.{IsRunOn, IsSettingOf}
use Rattle.run_replay.specs.declared.trace.Trace.{Trace}
use Rattle.run_replay.specs.Document.{IsTraceShape}
use Rattle.run_timing.specs.declared.ticks.Ticks.{Ticks}
use Rattle.run_timing.specs.declared.timing.Timing.{Timing}
use Rattle.run_timing.specs.Finishes.{AreFinishesOf}
use Rattle.run_timing.specs.Longest.{IsTimingOf, numbers_in}
use Rattle.run_report.specs.Texts.{HasChecked}
use Rattle.checked_runs.specs.Documents.{shape_told, IsRunTold}
use Rattle.checked_runs.specs.Runs.{IsPrintable}
use Rattle.view_top.specs.declared.documents.KeptRun.{KeptRun}

-- the machine's size, the text and the run of a document
abbrev pub kept_run_of : Trace → RunRecord → KeptRun
kept_run_of t run = record { sizes = t.shape; text = t.text; run = run }

-- the run of what a document tells is kept, and may be printed
pub record IsKeptRun (P : ProgramParts) (t : Trace) (k : KeptRun) : Type 0 where
  pub told : IsRunTold P t k.run
  pub printable : IsPrintable k.run
  pub is : k ≡ kept_run_of t k.run

-- what is known of such a run, so that a mode may make its events again and print it
pub record IsViewable (k : KeptRun) : Type 0 where
  pub sizes : IsTraceShape k.sizes
  pub few : length k.run.events ≤ MOST_EVENTS
  pub run : HasChecked k.text (λ P. IsRunOn P (shape_told P k.sizes) k.sizes.fuel k.run.events)
  pub printable : IsPrintable k.run

-- the machine has the program of a kept run's text, in the run's size, whatever events have come on it
abbrev pub IsMachineOf : KeptRun → Made → Type 0
IsMachineOf k m = HasChecked k.text (λ P. IsSettingOf P (shape_told P k.sizes) k.sizes.fuel m.state.setting)

-- the timing of a kept run on the machine of a program, by these ticks
abbrev pub IsKeptTiming : KeptRun → Ticks → Timing → ProgramParts → Type 0
IsKeptTiming k ticks timing P = IsTimingOf P (shape_told P k.sizes) k.sizes.fuel k.run.events ticks timing

-- the finishes of a kept run's events on the machine of a program, by these ticks
abbrev pub AreKeptFinishes : KeptRun → Ticks → List ℕ → ProgramParts → Type 0
AreKeptFinishes k ticks finishes P = AreFinishesOf P (shape_told P k.sizes) k.sizes.fuel k.run.events ticks finishes

-- the numbers of the events of the run's longest chain, by these ticks
pub record IsKeptChain (k : KeptRun) (ticks : Ticks) (chain : List ℕ) (P : ProgramParts) : Type 0 where
  pub timing : Timing
  pub times : IsKeptTiming k ticks timing P
  pub is : chain ≡ numbers_in timing.links.items
