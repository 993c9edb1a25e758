-- The run of an answer once more, by the grants that the answer tells: where its tasks stand that wait or are out of fuel. That is
-- said only where this run ends as the answer says of each of its tasks.
use Rattle.std.specs.Prelude.{◌≡◌, ℕ, Bool, true, false, ◌&&◌, ◌||◌, ◌==◌, nat_le, List, [], ◌∷◌, find, Option, Some, None, option_map, if◌then◌else◌}
use Rattle.std.specs.List.{IsAmong, list_any}
use Rattle.dn_base.specs.declared.ids.Grant.{Grant}
use Rattle.region_table.specs.Program.{ProgramParts}
use Rattle.rv_core.specs.declared.ending.EndShown as shown
use Rattle.rv_core.specs.declared.ending.EndShown.{EndShown}
use Rattle.rv_core.specs.declared.ending.TaskEnd.{TaskEnd}
use Rattle.rv_core.specs.Ending.{is_waiting, is_spent}
use Rattle.flat_machine.specs.Step.{Started}
use Rattle.flat_machine.specs.Phases.{Flat, all_tasks}
use Rattle.flat_machine.specs.Grants.{so_far}
use Rattle.flat_machine.specs.Ending.{task_end}
use Rattle.sentences.specs.declared.stopping.Stop.{Stop}
use Rattle.flat_machine.specs.declared.acquires.Acquire.{Acquire}
use Rattle.flat_machine.specs.Acquires.{acquires_so_far}
use Rattle.sentences.specs.declared.endings.Standstill.{Standstill}
use Rattle.sentences.specs.Stops.{stops_by}
use Rattle.explained_answer.specs.declared.run_again.AgainRun.{AgainRun}
use Rattle.explained_answer.specs.declared.line.AnswerLine as line
use Rattle.explained_answer.specs.declared.line.AnswerLine.{AnswerLine}
use Rattle.explained_answer.specs.Ended.{answer_tasks}
use Rattle.explained_answer.specs.Holders.{answer_grants, holder_on}
use Rattle.explained_answer.specs.Acquires.{acquired_on}
use Rattle.explained_answer.specs.Reasons.{reason_by_lines}

-- a task that waits or is out of fuel: only of such a one it is said where it stands
abbrev pub is_unfinished : TaskEnd → Bool
is_unfinished t = is_waiting t.end || is_spent t.end

-- ---- which run it was

-- a task that is out of fuel has retired all that it might; without one, any greater fuel gives the same run
abbrev pub fuel_by : Option TaskEnd → ℕ
fuel_by None = 32768
fuel_by (Some t) = t.retired

abbrev pub fuel_of : List TaskEnd → ℕ
fuel_of ends = fuel_by (find (λ (t : TaskEnd). is_spent t.end) ends)

abbrev pub stops_within : ProgramParts → ℕ → List Grant → Option (List Stop)
stops_within P fuel grants = if nat_le 1 fuel && nat_le fuel 32768 then stops_by P fuel grants else None

-- ---- whether it ended so

abbrev pub is_finished : EndShown → Bool
is_finished shown.TheVariants.Finished = true
is_finished _ = false

abbrev pub is_trap_at : ℕ → ℕ → EndShown → Bool
is_trap_at pc value (shown.TheVariants.Trap kind at found) = pc == at && value == found
is_trap_at pc value _ = false

abbrev pub is_wait_for : ℕ → EndShown → Bool
is_wait_for lock (shown.TheVariants.Waits other) = lock == other.0
is_wait_for lock _ = false

abbrev pub same_way : EndShown → EndShown → Bool
same_way shown.TheVariants.Finished e = is_finished e
same_way shown.TheVariants.Fuel e = is_spent e
same_way (shown.TheVariants.Trap kind pc value) e = is_trap_at pc value e
same_way (shown.TheVariants.Waits lock) e = is_wait_for lock.0 e

abbrev pub same_end : TaskEnd → TaskEnd → Bool
same_end a b = a.phase.0 == b.phase.0 && (a.core.0 == b.core.0 && (a.retired == b.retired && same_way a.end b.end))

abbrev pub are_ends : List TaskEnd → List Stop → Bool
are_ends [] [] = true
are_ends [] (s ∷ ss) = false
are_ends (e ∷ es) [] = false
are_ends (e ∷ es) (s ∷ ss) = same_end e s.end && are_ends es ss

abbrev pub stops_if : List TaskEnd → Option (List Stop) → List Stop
stops_if ends None = []
stops_if ends (Some stops) = if are_ends ends stops then stops else []

-- where these tasks of an answer with these grants stand
abbrev pub stops_with : ProgramParts → List TaskEnd → List Grant → List Stop
stops_with P ends grants = stops_if ends (stops_within P (fuel_of ends) grants)

-- where the tasks of an answer with these lines stand, by a run of this program
unfoldable pub stops_of_run : ProgramParts → List AnswerLine → List Stop
stops_of_run P lines = if list_any is_unfinished (answer_tasks lines) then stops_with P (answer_tasks lines) (answer_grants lines) else []

-- ---- the locks that its tasks acquired

abbrev pub acquires_within : ProgramParts → ℕ → List Grant → List Acquire
acquires_within P fuel grants = if nat_le 1 fuel && nat_le fuel 32768 then acquires_so_far P fuel grants else []

-- those of the run in which the tasks of the answer stand there; nothing where that isn't known
abbrev pub acquires_with : ProgramParts → ℕ → List Grant → List Stop → List Acquire
acquires_with P fuel grants [] = []
acquires_with P fuel grants (s ∷ ss) = acquires_within P fuel grants

-- the locks that are acquired in the run of an answer with these lines, whose tasks stand there
unfoldable pub acquires_of_run : ProgramParts → List AnswerLine → List Stop → List Acquire
acquires_of_run P lines stops = acquires_with P (fuel_of (answer_tasks lines)) (answer_grants lines) stops

-- ---- both

-- what is known of an answer besides its lines: where tasks stand in its run, and the locks that they acquired; and why it is open
abbrev pub run_again : ProgramParts → List AnswerLine → AgainRun
run_again P lines = record { stops = stops_of_run P lines; acquires = acquires_of_run P lines (stops_of_run P lines); why = reason_by_lines P lines }

-- the same, if the answer is run again
abbrev pub answer_again : Option ProgramParts → List AnswerLine → AgainRun
answer_again (Some P) lines = run_again P lines
answer_again None lines = record { stops = []; acquires = []; why = None }

-- the address of the next instruction of a task that stands so
abbrev pub pc_of_end : List Stop → TaskEnd → Option ℕ
pc_of_end stops t = option_map (λ (s : Stop). s.pc) (find (λ (s : Stop). same_end t s.end) stops)

-- the address of the next instruction of the task of a line, if it waits or is out of fuel
abbrev pub pc_on : List Stop → AnswerLine → Option ℕ
pc_on stops (line.TheVariants.Task t) = if is_unfinished t then pc_of_end stops t else None
pc_on stops _ = None

-- what is known of the task of a line of an answer with these lines, if it waits or is out of fuel
abbrev pub standstill_on : AgainRun → List AnswerLine → AnswerLine → Standstill
standstill_on again lines x =
    record { pc = pc_on again.stops x; holder = holder_on (answer_grants lines) x; acquired = acquired_on again.acquires x }

-- in the last state of the run by these grants there is a task that stands so, and its next instruction is at this address
pub record IsNextOfTask (P : ProgramParts) (fuel : ℕ) (grants : List Grant) (t : TaskEnd) (pc : ℕ) : Type 0 where
  pub last : Flat
  pub leads : so_far P fuel grants ≡ Some last
  pub task : Started
  pub among : IsAmong (all_tasks last) task
  pub shown : same_end t (task_end P fuel task) ≡ true
  pub next : task.state.pc ≡ pc
