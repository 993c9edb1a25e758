-- The verdict on a claim: the run by its grants on one memory, and where the claim first differs from that run.
use Rattle.std.specs.Prelude.{◌≡◌, ℕ, ◌≤◌, nat_eq, if◌then◌else◌, List, [], ◌∷◌, length, slice_get, Option, Some, None, is_none, unwrap_or, IfSome}
use Rattle.std.specs.Option.{option_or}
use Rattle.region_table.specs.Program.{ProgramParts}
use Rattle.flat_machine.specs.declared.ending.FlatEnd.{FlatEnd}
use Rattle.flat_machine.specs.declared.ending.TaskLoads.{TaskLoads}
use Rattle.flat_machine.specs.declared.refused.FlatRun.{FlatRun}
use Rattle.flat_machine.specs.declared.refused.FlatRun.TheVariants.{Whole, Refused}
use Rattle.flat_machine.specs.Ending.{flat_end}
use Rattle.flat_machine.specs.Refused.{IsRunBy}
use Rattle.run_report.specs.Answer.{answer_of}
use Rattle.claims.specs.declared.claim.Claim.{Claim}
use Rattle.claims.specs.Claim.{IsClaim, most_bytes}
use Rattle.claims.specs.declared.verdict.Verdict.{Verdict}
use Rattle.claims.specs.declared.verdict.Verdict.TheVariants.{Agrees, Grants, Tasks, Load, Answer}
use Rattle.claims.specs.Differences.{first_difference, is_same_load, is_same_task}
use Rattle.claims.specs.Lines.{newlines_before, line_of_number}

-- a claim that can be judged: it is within its limits, and the answer is no longer than a whole claim may be
pub record IsJudgeable (c : Claim) : Type 0 where
  pub told : IsClaim c
  pub answer : length c.answer ≤ most_bytes

-- ---- loads

-- the load of a task at this place is wrong: the right one stands there, or the task has no such load
abbrev pub load_verdict : TaskLoads → Option ℕ → Option Verdict
load_verdict right None = None
load_verdict right (Some place) =
    Some (Load (record { phase = right.phase; core = right.core; load = place }) (slice_get right.loads place))

-- the first wrong load of a task
unfoldable pub task_verdict : TaskLoads → TaskLoads → Option Verdict
task_verdict claimed right = load_verdict right (first_difference is_same_load claimed.loads right.loads)

-- the first wrong load of the first task that has one
abbrev pub tasks_verdict : List TaskLoads → List TaskLoads → Option Verdict
tasks_verdict [] right = None
tasks_verdict (c ∷ cs) [] = None
tasks_verdict (c ∷ cs) (r ∷ rs) = option_or (task_verdict c r) (tasks_verdict cs rs)

-- loads may be left out; otherwise they have to be of the tasks that started, in their order, and no load of these may be wrong
abbrev pub loads_verdict : Option (List TaskLoads) → List TaskLoads → Option Verdict
loads_verdict None right = None
loads_verdict (Some claimed) right =
    if is_none (first_difference is_same_task claimed right) then tasks_verdict claimed right else Some Tasks

-- ---- the answer

-- the byte at this index of an answer is the first that is wrong, so all lines before its line are right
abbrev pub line_verdict : List ℕ → Option ℕ → Verdict
line_verdict right None = Agrees
line_verdict right (Some place) =
    Answer (newlines_before place right) (line_of_number (newlines_before place right) right)

unfoldable pub answer_verdict : List ℕ → List ℕ → Verdict
answer_verdict claimed right = line_verdict right (first_difference nat_eq claimed right)

-- ---- the claim

-- the verdict if the claimed grants lead to this end: loads are compared before the answer
unfoldable pub end_verdict : Claim → FlatEnd → Verdict
end_verdict c e = unwrap_or (loads_verdict c.loads e.loads) (answer_verdict c.answer (answer_of e.ending))

abbrev pub verdict_of : Claim → FlatRun → Verdict
verdict_of c (Refused place) = Grants place
verdict_of c (Whole e) = end_verdict c e

-- the verdict on a claim, by the run to which its grants lead
pub record IsVerdict (P : ProgramParts) (c : Claim) (v : Verdict) : Type 0 where
  pub run : FlatRun
  pub by : IsRunBy P c.question.fuel c.grants run
  pub is : v ≡ verdict_of c run

-- the run by the claimed grants has an end. It has the claimed loads, if loads are claimed, and the claimed answer
pub record AgreesWithRun (P : ProgramParts) (c : Claim) : Type 0 where
  pub end' : FlatEnd
  pub run : flat_end P c.question.fuel c.grants ≡ Some end'
  pub loads : IfSome c.loads (λ (claimed : List TaskLoads). claimed ≡ end'.loads)
  pub answer : c.answer ≡ answer_of end'.ending
