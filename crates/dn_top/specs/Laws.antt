-- Definitions for the laws of the program, in src/laws.rt.
use Rattle.std.specs.Prelude.{◌≡◌, ◌≢◌, ◌⊎◌, ℕ, false, List, Some}
use Rattle.std.specs.List.{All}
use Rattle.dn_base.specs.declared.status.Status as status
use Rattle.rv_core.specs.declared.task.TrapKind.TheVariants.{Outside}
use Rattle.rv_core.specs.declared.ending.EndShown.TheVariants.{Trap}
use Rattle.rv_core.specs.declared.ending.TaskEnd.{TaskEnd}
use Rattle.effect_prover.specs.declared.proved.Proved.TheVariants.{Inside}
use Rattle.effect_prover.specs.Answer.{proved_text}
use Rattle.dn_machine.specs.declared.record.RunRecord.{RunRecord}
use Rattle.dn_top.specs.declared.options.Mode as mode
use Rattle.dn_top.specs.declared.options.Options.{Options}
use Rattle.dn_top.specs.declared.serving.Answer.{Answer}
use Rattle.dn_top.specs.Answers.{IsAnswer, IsOutcome, answered, picks_events}
use Rattle.program_outside.specs.Outside.{Devices, Took}
use Rattle.dn_top.specs.Serving.{text_to_answer, Serves}

-- ---- what is decided

-- nothing of the answer depends on the host: one worker is asked for, or the mode picks no events
abbrev pub IsDecided : Options → Type 0
IsDecided o = (o.workers ≡ 1) ⊎ (picks_events o.mode ≡ false)

-- ---- calls

-- a call of the program: its devices before and after, and its answer
pub record Call : Type 0 where
  pub before : Devices
  pub after : Devices
  pub answer : Answer

-- these options are asked for, this is the text that they are about, and the exit code is that of an outcome or of a refusal
pub record IsTextAnswered (o : Options) (text : List ℕ) (c : Call) : Type 0 where
  pub about : text_to_answer o c.before.source ≡ Some text
  pub serves : Serves (Some o) c.before c.after c.answer
  pub ends : IsOutcome c.answer.status ⊎ (c.answer.status ≡ status.TheVariants.SourceRefused)

-- two calls end with the same status, hand the same run back, if any, and their sinks took the same bytes
pub record GaveOneOutput (c d : Call) : Type 0 where
  pub answer : c.answer ≡ d.answer
  pub bytes : List ℕ
  pub first : Took c.before.sink c.after.sink bytes
  pub second : Took d.before.sink d.after.sink bytes

-- ---- what is proved of a text

-- the mode prove answers `proved inside` to the text
pub record IsProvedInside (text : List ℕ) : Type 0 where
  pub options : Options
  pub asked : options.mode ≡ mode.TheVariants.Prove
  pub answer : IsAnswer options text (answered status.TheVariants.Done (proved_text Inside))

-- the task hasn't ended by the trap `outside`
abbrev pub IsTameEnd : TaskEnd → Type 0
IsTameEnd t = (pc value : ℕ) → t.end ≢ Trap Outside pc value

-- the same for all tasks of the run
abbrev pub IsTameRun : RunRecord → Type 0
IsTameRun r = All IsTameEnd r.ending.tasks
