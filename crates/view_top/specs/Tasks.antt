-- Which tasks have a line in an answer for readers.
use Rattle.std.specs.Prelude.{◌≡◌, ℕ, ◌+◌, ◌≤◌, List, [], ◌∷◌, ◌++◌, length, map, take, flat_map}
use Rattle.dn_base.specs.declared.status.Outcome.TheVariants as outcome
use Rattle.region_table.specs.declared.declared.Phase.{Phase}
use Rattle.region_table.specs.declared.declared.TaskDecl.{TaskDecl}
use Rattle.region_table.specs.Program.{ProgramParts}
use Rattle.rv_core.specs.declared.ending.TaskEnd.{TaskEnd}
use Rattle.dn_machine.specs.declared.record.RunRecord.{RunRecord}
use Rattle.run_report.specs.Answer.{outcome_line}
use Rattle.state_text.specs.declared.base.Base.{Base}
use Rattle.state_text.specs.ForReaders.{answer_for_readers, task_end_line}
use Rattle.view_top.specs.Answers.{located}

-- the phase and the core of each task of some phases, the first of which has this number
abbrev pub cores_by_phase : ℕ → List Phase → List (ℕ × ℕ)
cores_by_phase number [] = []
cores_by_phase number (p ∷ ps) = map (λ (d : TaskDecl). (number, d.core.0)) p.tasks ++ cores_by_phase (number + 1) ps

-- the phase and the core that a line names
abbrev pub phase_and_core : TaskEnd → ℕ × ℕ
phase_and_core t = (t.phase.0, t.core.0)

-- behind the outcome stand the lines of the tasks of all phases that began: one for each, in the order of phases and cores. If the run is
-- done, all phases began
pub record HasLineOfEachTask (P : ProgramParts) (text : List ℕ) (b : Base) (r : RunRecord) : Type 0 where
  pub begun : ℕ
  pub within : begun ≤ length P.phases
  pub done : r.ending.outcome ≡ outcome.Done → begun ≡ length P.phases
  pub each : map phase_and_core r.ending.tasks ≡ cores_by_phase 0 (take begun P.phases)
  pub behind : List ℕ
  pub lines : answer_for_readers b text (located P text) r.ending r.grants ≡ outcome_line r.ending.outcome ++ flat_map (task_end_line text (located P text)) r.ending.tasks ++ behind
