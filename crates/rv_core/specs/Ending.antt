-- How the end of a task is shown, and the outcome of a run.
use Rattle.std.specs.Prelude.{ℕ, Bool, true, false, if◌then◌else◌, List}
use Rattle.std.specs.List.{list_any}
use Rattle.dn_base.specs.declared.status.Outcome.{Outcome}
use Rattle.dn_base.specs.declared.status.Outcome as outcome
use Rattle.rv_core.specs.declared.ending.EndShown as shown
use Rattle.rv_core.specs.declared.ending.EndShown.{EndShown}
use Rattle.rv_core.specs.declared.ending.TaskEnd.{TaskEnd}
use Rattle.rv_core.specs.declared.ending.Ending.{Ending}
use Rattle.rv_core.specs.declared.task.End.{End}
use Rattle.rv_core.specs.declared.task.End.TheVariants.{Finished, Fuel, Trap}

abbrev pub shown_end : End → EndShown
shown_end Finished = shown.TheVariants.Finished
shown_end Fuel = shown.TheVariants.Fuel
shown_end (Trap kind pc value) = shown.TheVariants.Trap kind pc value

abbrev pub is_waiting : EndShown → Bool
is_waiting (shown.TheVariants.Waits lock) = true
is_waiting _ = false

abbrev pub is_trapped : EndShown → Bool
is_trapped (shown.TheVariants.Trap kind pc value) = true
is_trapped _ = false

abbrev pub is_spent : EndShown → Bool
is_spent shown.TheVariants.Fuel = true
is_spent _ = false

-- the outcome of tasks that stand so: stuck if some task waits; else trapped if some task trapped; else fuel if some task ran
-- out of fuel; else done, when all have finished
unfoldable pub outcome_of : List TaskEnd → Outcome
outcome_of ends =
    if list_any (λ (e : TaskEnd). is_waiting e.end) ends then outcome.TheVariants.Stuck
    else if list_any (λ (e : TaskEnd). is_trapped e.end) ends then outcome.TheVariants.Trapped
    else if list_any (λ (e : TaskEnd). is_spent e.end) ends then outcome.TheVariants.Fuel
    else outcome.TheVariants.Done

abbrev pub ending_of : List TaskEnd → List ℕ → Ending
ending_of ends memory = record { outcome = outcome_of ends; tasks = ends; memory = memory }
