-- The run that a document tells: the machine that it names, its replay, and why a document is refused.
use Rattle.std.specs.Prelude.{◌≡◌, ◌⊎◌, ℕ, List}
use Rattle.dn_base.specs.declared.ids.Shape.{Shape}
use Rattle.region_table.specs.Program.{ProgramParts, cores_of}
use Rattle.dn_machine.specs.declared.record.RunRecord.{RunRecord}
use Rattle.dn_machine.specs.Kept.{Made, IsInitialMachine}
use Rattle.run_report.specs.Texts.{HasChecked, IsUnfit}
use Rattle.run_replay.specs.declared.trace.TraceShape.{TraceShape}
use Rattle.run_replay.specs.declared.trace.Trace.{Trace}
use Rattle.run_replay.specs.declared.trace.TraceFault.{TraceFault}
use Rattle.run_replay.specs.declared.replaying.Replayed.{Replayed}
use Rattle.run_replay.specs.declared.replaying.Replayed.TheVariants.{Complete, NotEnabled, Incomplete}
use Rattle.run_replay.specs.declared.refusal.TraceRefusal as refusal
use Rattle.run_replay.specs.Document.{IsDocument}
use Rattle.run_replay.specs.Faults.{HasFault}
use Rattle.run_replay.specs.Refusal.{refusal_text}
use Rattle.run_replay.specs.Replay.{IsReplayOf}
use Rattle.checked_runs.specs.Runs.{IsRunOf}

-- ---- a document and its run

-- the bytes are a document, and this holds of what it tells
pub record HasTrace (bytes : List ℕ) (Holds : Trace → Type 0) : Type 0 where
  pub trace : Trace
  pub is : IsDocument bytes trace
  pub holds : Holds trace

-- the bytes are no document, and the line says their first fault
pub record IsNoDocument (bytes line : List ℕ) : Type 0 where
  pub fault : TraceFault
  pub is : HasFault bytes fault
  pub says : line ≡ refusal_text (refusal.TheVariants.Fault fault)

-- the machine of a program with the size that a document tells
abbrev pub shape_told : ProgramParts → TraceShape → Shape
shape_told P s = record { cores = cores_of P; banks = s.banks; sets = s.sets; ways = s.ways }

-- a machine is that of a document when its run begins, in the size that the document tells, and has this program
abbrev pub IsMachineTold : Trace → Made → Type 0
IsMachineTold t m = let P = m.state.setting.program in IsInitialMachine P (shape_told P t.shape) t.shape.fuel m

-- the replay of a document's events on its machine gives this result
abbrev pub IsReplayIn : ProgramParts → Trace → Replayed → Type 0
IsReplayIn P t r = IsReplayOf P (shape_told P t.shape) t.shape.fuel t.events r

-- the events that a document tells are a complete run of its machine, and r is the record of that run
pub record IsRunTold (P : ProgramParts) (t : Trace) (r : RunRecord) : Type 0 where
  pub events : r.events ≡ t.events
  pub replay : IsReplayIn P t (Complete r.ending r.grants r.counts)
  pub is : IsRunOf P (shape_told P t.shape) t.shape.fuel r

-- ---- a document that is refused

-- the line that refuses events with this replay; a complete run isn't refused
abbrev pub refused_by : Replayed → List ℕ → Type 0
refused_by (Complete ending grants counts) line = ⊥
refused_by (NotEnabled number) line = line ≡ refusal_text (refusal.TheVariants.NotEnabled number)
refused_by Incomplete line = line ≡ refusal_text refusal.TheVariants.Incomplete

-- the document's events are no complete run of its machine: the line names the first event that may not come, or says that
-- another event may come after them
pub record IsNoRun (P : ProgramParts) (t : Trace) (line : List ℕ) : Type 0 where
  pub replayed : Replayed
  pub is : IsReplayIn P t replayed
  pub says : refused_by replayed line

-- the bytes are no document, or its text has no program that may be run, or its events are no complete run; the line says why
abbrev pub IsRefusedDocument : List ℕ → List ℕ → Type 0
IsRefusedDocument document line =
    IsNoDocument document line ⊎ HasTrace document (λ t. IsUnfit t.text line ⊎ HasChecked t.text (λ P. IsNoRun P t line))
