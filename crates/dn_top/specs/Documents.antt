-- The document of a run, as it is written; and the run of a document, as it is replayed.
use Rattle.std.specs.Prelude.{◌≡◌, ℕ, List}
use Rattle.region_table.specs.Program.{ProgramParts}
use Rattle.dn_machine.specs.declared.record.RunRecord.{RunRecord}
use Rattle.run_replay.specs.declared.trace.TraceShape.{TraceShape}
use Rattle.run_replay.specs.declared.trace.Trace.{Trace}
use Rattle.run_replay.specs.Document.{IsTrace, document_of}
use Rattle.checked_runs.specs.Runs.{reported}
use Rattle.checked_runs.specs.Documents.{IsRunTold}
use Rattle.dn_top.specs.declared.options.Options.{Options}
use Rattle.dn_top.specs.declared.output.Output.{Output}
use Rattle.dn_top.specs.Runs.{IsRunFor, output_of_run}

-- ---- the document of a run

-- what the document of a run tells of the machine's size and the fuel: those of the options
abbrev pub sizes_of : Options → TraceShape
sizes_of o = record { banks = o.banks; sets = o.sets; ways = o.ways; fuel = o.fuel }

abbrev pub trace_of : Options → List ℕ → RunRecord → Trace
trace_of o text r = record { shape = sizes_of o; text = text; events = r.events }

-- the program of the text was run: the output hands the run back, and is the document of the run
pub record IsTracedRun (P : ProgramParts) (o : Options) (text : List ℕ) (out : Output) : Type 0 where
  pub run : RunRecord
  pub is : IsRunFor P o run
  -- everything that it tells is within the limits of a document, so the bytes are the document of nothing else
  pub told : IsTrace (trace_of o text run)
  pub answer : out ≡ output_of_run (document_of (trace_of o text run)) run

-- ---- a document and its replay

-- the output hands the run of a document back, and reports it
pub record IsReplayedRun (P : ProgramParts) (t : Trace) (out : Output) : Type 0 where
  pub run : RunRecord
  pub told : IsRunTold P t run
  pub answer : out ≡ output_of_run (reported run) run
