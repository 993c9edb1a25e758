-- The answer: phase by phase, from the memory that the program begins with.
use Rattle.std.specs.Prelude.{ℕ, ◌+◌, Bool, true, false, ◌&&◌, List, [], ◌∷◌, ◌++◌, map, Option, Some, None}
use Rattle.std.specs.List.{find, list_any, list_all, range_with_len}
use Rattle.std.specs.Option.{option_or, option_map}
use Rattle.region_table.specs.Program.{ProgramParts}
use Rattle.region_table.specs.declared.declared.Phase.{Phase}
use Rattle.rv_core.specs.Access.{is_held}
use Rattle.rv_core.specs.Ending.{shown_end, outcome_of}
use Rattle.rv_core.specs.declared.task.End.{End}
use Rattle.rv_core.specs.declared.ending.EndShown.{EndShown}
use Rattle.rv_core.specs.declared.ending.EndShown as shown
use Rattle.rv_core.specs.declared.ending.TaskEnd.{TaskEnd}
use Rattle.flat_machine.specs.Phases.{finished_by}
use Rattle.common_outcomes.specs.declared.value.Value.{Value}
use Rattle.common_outcomes.specs.declared.answer.Open.{Open}
use Rattle.common_outcomes.specs.declared.answer.Open.TheVariants.{Control, Held, Stuck}
use Rattle.common_outcomes.specs.declared.answer.Outcomes.{Outcomes}
use Rattle.common_outcomes.specs.declared.answer.Outcomes as answer
use Rattle.common_outcomes.specs.Values.{known}
use Rattle.common_outcomes.specs.Phases.{Summary, summaries, is_control_open, takes_elsewhere, is_on_circle, after_from}

abbrev pub locks_up_to : List ℕ
locks_up_to = range_with_len 0 32

-- the first task of which control is open, and where
abbrev pub control_of : ℕ → Summary → Open
control_of phase r = Control (record { 0 = phase }) r.decl.core r.alone.state.pc

-- the least lock with which the task ended and that another task takes
abbrev pub held_lock : List Summary → Summary → Option ℕ
held_lock rs r = find (λ (l : ℕ). is_held r.alone.state.held l && list_any (takes_elsewhere r.decl l) rs) locks_up_to

-- the first task that ends with such a lock
abbrev pub first_held : ℕ → List Summary → List Summary → Option Open
first_held phase rs [] = None
first_held phase rs (r ∷ left) =
    option_or (option_map (λ (l : ℕ). Held (record { 0 = phase }) r.decl.core (record { 0 = l })) (held_lock rs r)) (first_held phase rs left)

-- the least lock on a circle
abbrev pub first_stuck : ℕ → List Summary → Option Open
first_stuck phase rs =
    option_map (λ (l : ℕ). Stuck (record { 0 = phase }) (record { 0 = l })) (find (is_on_circle rs) locks_up_to)

-- why the phase is open: control before held, and held before stuck
abbrev pub open_of : ℕ → List Summary → Option Open
open_of phase rs = option_or (option_map (control_of phase) (find is_control_open rs)) (option_or (first_held phase rs rs) (first_stuck phase rs))

-- how a task alone ends; one of which control is open isn't asked
abbrev pub shown_or : Option End → EndShown
shown_or (Some by) = shown_end by
shown_or None = shown.TheVariants.Fuel

abbrev pub end_alone : ℕ → Summary → TaskEnd
end_alone phase r =
    record { phase = record { 0 = phase }; core = r.decl.core; end = shown_or r.alone.state.end; retired = r.alone.state.retired }

-- these ends and this memory, with the outcome of the ends
abbrev pub settled_with : List TaskEnd → List Value → Outcomes
settled_with ends memory = answer.TheVariants.Settled (record { outcome = outcome_of ends; tasks = ends; memory = memory })

abbrev pub has_ended_well : Summary → Bool
has_ended_well r = finished_by r.alone.state.end

-- a phase is open, or it is the last that begins, or the next one goes on
abbrev pub answer_by : Option Open → Bool → Outcomes → Outcomes → Outcomes
answer_by (Some why) finished here later = answer.TheVariants.Open why
answer_by None false here later = here
answer_by None true here later = later

-- the phases from number `phase` on, each after the one before it where all of its tasks finish
abbrev pub answer_from : ProgramParts → ℕ → ℕ → List Phase → List TaskEnd → List Value → Outcomes
answer_from P fuel phase [] ends memory = settled_with ends memory
answer_from P fuel phase (p ∷ left) ends memory =
    let rs = summaries P fuel p memory in
    let now = ends ++ map (end_alone phase) rs in
    let after = after_from 0 rs memory in
    answer_by (open_of phase rs) (list_all has_ended_well rs) (settled_with now after) (answer_from P fuel (phase + 1) left now after)

-- the answer of a program and a fuel
unfoldable pub outcomes : ProgramParts → ℕ → Outcomes
outcomes P fuel = answer_from P fuel 0 P.phases [] (map known P.memory)
