-- What a call of the program reads and writes, and what its status says of that.
use Rattle.std.specs.Prelude.{◌≡◌, ◌≢◌, ◌⊎◌, ℕ, false, List, [], Option, Some, None, IfSome, is_some, option_and_then}
use Rattle.dn_base.specs.declared.status.Status.{Status}
use Rattle.dn_base.specs.declared.status.Status as status
use Rattle.dn_base.specs.Status.{exit_code_of, status_of}
use Rattle.region_table.specs.Program.{ProgramParts}
use Rattle.effect_checker.specs.Checked.{IsChecked}
use Rattle.dn_machine.specs.declared.record.RunRecord.{RunRecord}
use Rattle.run_replay.specs.declared.trace.TraceShape.{TraceShape}
use Rattle.run_replay.specs.Document.{IsTraceShape}
use Rattle.work_gen.specs.Work.{work_of}
use Rattle.dn_top.specs.declared.options.Mode.{Mode}
use Rattle.dn_top.specs.declared.options.Mode as mode
use Rattle.dn_top.specs.declared.options.Options.{Options}
use Rattle.dn_top.specs.declared.output.Output.{Output}
use Rattle.program_outside.specs.declared.ends.Failure.{Failure}
use Rattle.program_outside.specs.declared.ends.Output as outside
use Rattle.dn_top.specs.declared.serving.Answer.{Answer}
use Rattle.dn_top.specs.Answers.{most_read, makes_run, runs_tasks, IsDone as IsDoneIn, IsRefusal, IsAnswer, IsOutcome}
use Rattle.checked_runs.specs.Runs.{IsRunOf}
use Rattle.dn_top.specs.Runs.{IsRunFor}
use Rattle.checked_runs.specs.Documents.{shape_told}
use Rattle.program_outside.specs.Serving.{usage_line, IsDone}
use Rattle.program_outside.specs.Statuses.{status_told}
use Rattle.program_outside.specs.Outside.{SourceState, Devices, SourceFailed, SinkFailed, GaveAtMost, IsUntouched, IsRead, IsFlushed, Took, TookFront}

-- ---- the text of a call

-- the text that options are about: the generated one of their size, or what the source tells
abbrev pub text_by : Option ℕ → ℕ → Option (List ℕ) → Option (List ℕ)
text_by None size content = Some (work_of size)
text_by (Some most) size content = content

abbrev pub text_to_answer : Options → SourceState → Option (List ℕ)
text_to_answer o source = text_by (most_read o.mode) o.size source.bytes

-- the source was left alone if the text is generated, and otherwise read to its end
abbrev pub read_by : Option ℕ → SourceState → SourceState → Type 0
read_by None before after = IsUntouched before after
read_by (Some most) before after = after.bytes ≡ Some []

-- options are given, and this holds of them and their text, if the source tells it
pub record ForText (wanted : Option Options) (source : SourceState) (Holds : Options → List ℕ → Type 0) : Type 0 where
  pub options : Options
  pub asked : wanted ≡ Some options
  pub text : IfSome (text_to_answer options source) (Holds options)

-- ---- what a status says of a text

-- for the status of an outcome: what the options ask for was done with the text's program; the source was read as the mode
-- requires; the sink took exactly the output; and the answer has the output's status and its run
pub record HasDone (o : Options) (before after : Devices) (text : List ℕ) (answer : Answer) : Type 0 where
  pub out : Output
  pub done : IsDoneIn o text out
  pub read : read_by (most_read o.mode) before.source after.source
  pub took : Took before.sink after.sink out.bytes
  pub ends : answer.status ≡ out.status
  pub run : answer.run ≡ out.run

-- for a refusal: the text or its program has a fault, and the sink took the line of the first one
pub record HasRefused (o : Options) (before after : Devices) (text : List ℕ) : Type 0 where
  pub out : Output
  pub refusal : IsRefusal o text out
  pub took : Took before.sink after.sink out.bytes

-- for a failed sink: it took a prefix of the answer
pub record HasFailed (o : Options) (before after : Devices) (text : List ℕ) : Type 0 where
  pub out : Output
  pub answer : IsAnswer o text out
  pub front : TookFront before.sink after.sink out.bytes

-- the text has an answer with this status
pub record HasStatus (o : Options) (text : List ℕ) (s : Status) : Type 0 where
  pub out : Output
  pub answer : IsAnswer o text out
  pub ends : s ≡ out.status

-- a failed sink took a prefix of the line that refuses the words, or of the answer to the text that they ask for
abbrev pub has_stopped : Option Options → Devices → Devices → Type 0
has_stopped None before after = TookFront before.sink after.sink usage_line
has_stopped (Some o) before after = IfSome (text_to_answer o before.source) (HasFailed o before after)

-- r is a run of the program on the machine that the options ask for, with one worker the run of their seed. In the mode replay
-- a document tells the size of the machine and the events
abbrev pub is_run_in : Mode → ProgramParts → Options → RunRecord → Type 0
is_run_in mode.TheVariants.Replay P o r = (s : TraceShape) × IsTraceShape s × IsRunOf P (shape_told P s) s.fuel r
is_run_in m P o r = IsRunFor P o r

-- r is a run of a checked program, and the status is that of its outcome
pub record IsRunWithStatus (m : Mode) (o : Options) (s : Status) (r : RunRecord) : Type 0 where
  pub program : ProgramParts
  pub checked : IsChecked program
  pub run : is_run_in m program o r
  pub ends : s ≡ status_of r.ending.outcome

-- for the status of an outcome: a run is handed back exactly in the modes that make one, and it is a run that the mode makes.
-- If no task is run, the outcome is Done
pub record HandsBack (o : Options) (answer : Answer) : Type 0 where
  pub comes : is_some answer.run ≡ makes_run o.mode
  pub run : IfSome answer.run (IsRunWithStatus o.mode o answer.status)
  pub done : runs_tasks o.mode ≡ false → answer.status ≡ status.TheVariants.Done

-- the status is that of an outcome, or of a refusal of the words or the text
abbrev pub IsOutcomeOrRefusal : Status → Type 0
IsOutcomeOrRefusal s = IsOutcome s ⊎ ((s ≡ status.TheVariants.Usage) ⊎ (s ≡ status.TheVariants.SourceRefused))

-- how many bytes the program reads at most; None if the words are refused or their mode generates its text
abbrev pub most_asked : Option Options → Option ℕ
most_asked wanted = option_and_then (λ (o : Options). most_read o.mode) wanted

-- ---- a call

-- what a call promises by its answer. The devices were `before` and are `after`. `wanted` are the options that the words ask
-- for, or None if the command doesn't take the words
pub record Serves (wanted : Option Options) (before after : Devices) (answer : Answer) : Type 0 where
  -- an outcome comes only if what the words ask for was done with the text, and all of the answer was written
  pub done : IsOutcome answer.status → ForText wanted before.source (λ o text. HasDone o before after text answer)
  -- then a run is handed back exactly in the modes that make one, even if the source doesn't tell its text
  pub handed_back : IsOutcome answer.status → IfSome wanted (λ o. HandsBack o answer)
  -- with any other status no run is handed back
  pub no_run : ¬ IsOutcome answer.status → answer.run ≡ None
  -- Usage comes only if the command doesn't take the words, and the line that says so was written
  pub usage : answer.status ≡ status.TheVariants.Usage → (wanted ≡ None) × Took before.sink after.sink usage_line
  -- and it comes then, unless the sink failed or there was no memory
  pub usage_comes : wanted ≡ None → (answer.status ≡ status.TheVariants.Usage)
      ⊎ ((answer.status ≡ status.TheVariants.Memory) ⊎ ((answer.status ≡ status.TheVariants.WriteFault) × SinkFailed before.sink after.sink))
  -- SourceRefused comes only if the mode refuses the text, and the line of the text's first fault was written
  pub refused : answer.status ≡ status.TheVariants.SourceRefused → ForText wanted before.source (λ o text. HasRefused o before after text)
  -- ReadFault comes only if the source failed; the sink was left alone
  pub read_fault : answer.status ≡ status.TheVariants.ReadFault → SourceFailed before.source after.source × IsUntouched before.sink after.sink
  -- WriteFault comes only if the sink failed; it took a prefix of what was to be written
  pub write_fault : answer.status ≡ status.TheVariants.WriteFault → SinkFailed before.sink after.sink × has_stopped wanted before after
  -- if there was no memory, the sink was left alone
  pub memory : answer.status ≡ status.TheVariants.Memory → IsUntouched before.sink after.sink
  -- if the source's count of faults rose the status is ReadFault: with any other status the count is as before
  pub source_faultless : answer.status ≢ status.TheVariants.ReadFault → after.source.faults ≡ before.source.faults
  -- if the sink's count of faults rose the status is WriteFault: with any other status the count is as before
  pub sink_faultless : answer.status ≢ status.TheVariants.WriteFault → after.sink.faults ≡ before.sink.faults
  -- after every outcome and every refusal all that the sink took is flushed, if the sink tells that
  pub flushed : IsOutcomeOrRefusal answer.status → IsFlushed after.sink
  -- the source is left alone if the words are refused, or their mode generates its text
  pub unread : most_asked wanted ≡ None → IsUntouched before.source after.source
  -- otherwise it gives at most one byte more than a text may have, or in the mode replay a document
  pub few : IfSome (most_asked wanted) (GaveAtMost before.source after.source)
  -- options and a text that the source tells have their answer's status, unless a device failed or there was no memory
  pub complete : (o : Options) → wanted ≡ Some o → (text : List ℕ) → text_to_answer o before.source ≡ Some text
      → ¬ SourceFailed before.source after.source → ¬ SinkFailed before.sink after.sink
      → HasStatus o text answer.status ⊎ (answer.status ≡ status.TheVariants.Memory)

-- ---- its parts

-- the end of a call that has no run: a status, and the one that tells a failure
abbrev pub without_run : Status → Answer
without_run s = record { status = s; run = None }

abbrev pub answer_told : Failure → Answer
answer_told failure = without_run (status_told failure)

-- the exit code of an answer is that of its status
abbrev pub answer_code : Answer → ℕ
answer_code answer = exit_code_of answer.status

-- the answer of an output, and an output as what the shell of programs writes: its bytes, with the answer to end with
abbrev pub answer_to : Output → Answer
answer_to out = record { status = out.status; run = out.run }

abbrev pub written_of : Output → outside.Output Answer
written_of out = record { status = answer_to out; bytes = out.bytes }

-- the output that is written so
abbrev pub output_in : outside.Output Answer → Output
output_in written = record { status = written.status.status; bytes = written.bytes; run = written.status.run }

-- the text was generated, or it was read
abbrev pub obtained_by : Option ℕ → ℕ → SourceState → SourceState → List ℕ → Type 0
obtained_by None size before after text = (text ≡ work_of size) × IsUntouched before after
obtained_by (Some most) size before after text = IsRead before after most text

abbrev pub IsObtained : Options → SourceState → SourceState → List ℕ → Type 0
IsObtained o before after text = obtained_by (most_read o.mode) o.size before after text

abbrev pub IsWrittenAnswer : Options → List ℕ → outside.Output Answer → Type 0
IsWrittenAnswer o text written = IsAnswer o text (output_in written)

-- a call with options ended: their text was answered, or there was none
abbrev pub IsDoneBy : Options → Devices → Devices → Answer → Type 0
IsDoneBy o before after answer = IsDone answer_told (IsObtained o) (IsWrittenAnswer o) before after answer
