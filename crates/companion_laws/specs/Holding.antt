-- Who holds a lock at the end of a run, and how a reported run is explained by its grants.
use Rattle.std.specs.Prelude.{◌≡◌, ℕ, true, List, Some, flat_map}
use Rattle.std.specs.List.{IsAmong}
use Rattle.dn_base.specs.declared.ids.Grant.{Grant}
use Rattle.region_table.specs.Program.{ProgramParts}
use Rattle.rv_core.specs.Access.{is_held}
use Rattle.flat_machine.specs.Step.{Started}
use Rattle.flat_machine.specs.Phases.{Flat}
use Rattle.flat_machine.specs.Grants.{so_far}
use Rattle.dn_machine.specs.declared.record.RunRecord.{RunRecord}
use Rattle.checked_runs.specs.Runs.{reported}
use Rattle.text_places.specs.declared.places.Located.{Located}
use Rattle.explained_answer.specs.declared.line.AnswerLine.{AnswerLine}
use Rattle.explained_answer.specs.AnswerLines.{answer_line}
use Rattle.explained_answer.specs.declared.explaining.Explained.{Explained}
use Rattle.explained_answer.specs.declared.explaining.Explained.TheVariants.{Text}
use Rattle.explained_answer.specs.Holders.{answer_grants, holder_of}
use Rattle.explained_answer.specs.Lines.{answer_and_sentences}

-- after these grants the core's task of the phase, which is the current one, holds the lock
pub record HoldsLock (P : ProgramParts) (fuel : ℕ) (grants : List Grant) (phase core lock : ℕ) : Type 0 where
  pub last : Flat
  pub reached : so_far P fuel grants ≡ Some last
  pub task : Started
  pub among : IsAmong last.tasks task
  pub in_phase : task.phase.0 ≡ phase
  pub own : task.decl.core.0 ≡ core
  pub holds : is_held task.state.held lock ≡ true

-- the grants name a core of the phase as the lock's holder, and its task does hold the lock
pub record HasHolder (P : ProgramParts) (fuel : ℕ) (grants : List Grant) (phase lock : ℕ) : Type 0 where
  pub core : ℕ
  pub told : holder_of grants phase lock ≡ Some core
  pub holds : HoldsLock P fuel grants phase core lock

-- a reported run was explained: after each of its lines comes what its lines say of it, and the run of the program by their grants,
-- which are those of the run
pub record IsReportExplained (text : List ℕ) (l : Located) (r : RunRecord) (e : Explained) : Type 0 where
  pub lines : List AnswerLine
  pub are : reported r ≡ flat_map answer_line lines
  pub grants : answer_grants lines ≡ r.grants
  pub said : e ≡ Text (answer_and_sentences text l (Some l.program) lines)
