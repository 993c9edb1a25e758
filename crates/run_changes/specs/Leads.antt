-- Changes that lead from one state to another, and those of a run.
use Rattle.std.specs.Prelude.{◌≡◌, ℕ, ◌+◌, List, [], ◌∷◌, flat_map, slice_get, Option, Some, None, if◌then◌else◌}
use Rattle.std.specs.List.{fold}
use Rattle.std.specs.Option.{option_map}
use Rattle.dn_base.specs.declared.ids.CoreId.{CoreId}
use Rattle.region_table.specs.declared.declared.TaskDecl.{TaskDecl}
use Rattle.region_table.specs.Program.{ProgramParts}
use Rattle.region_table.specs.Tasks.{declared}
use Rattle.rv_core.specs.declared.task.End.{End}
use Rattle.rv_core.specs.declared.task.TaskState.{TaskState}
use Rattle.rv_core.specs.Access.{is_held}
use Rattle.rv_core.specs.Task.{retires_at}
use Rattle.message_net.specs.declared.actor.Actor.{Actor}
use Rattle.message_net.specs.declared.actor.Actor.TheVariants.{Core, Keeper}
use Rattle.message_net.specs.declared.event.Event.{Event}
use Rattle.message_net.specs.Id.{same_actor}
use Rattle.registration_protocol.specs.Node.{NodeParts, entry_of, signature_of}
use Rattle.machine_rules.specs.State.{State, home_at, lock_at}
use Rattle.machine_rules.specs.Next.{next}
use Rattle.run_changes.specs.declared.change.ActorChanges.{ActorChanges}
use Rattle.run_changes.specs.declared.change.Change.{Change}
use Rattle.run_changes.specs.declared.change.Change.TheVariants as change
use Rattle.run_changes.specs.Changes.{locks_held}
use Rattle.run_changes.specs.Events.{event_made}
use Rattle.run_changes.specs.Since.{home_of}
use Rattle.run_changes.specs.Applied.{entry_step, hold_step, signature_step, home_step, lock_step, keeper_step, StatusFollows}

-- what is shown of a task: where it is, how many instructions have retired, and how it has ended
pub record TaskShown : Type 0 where
  pub pc : ℕ
  pub retired : ℕ
  pub end : Option End

abbrev pub task_shown : TaskState → TaskShown
task_shown t = record { pc = t.pc; retired = t.retired; end = t.end }

-- a task as it starts
abbrev pub task_started : TaskDecl → TaskShown
task_started d = record { pc = d.entry; retired = 0; end = None }

-- an instruction of a task retires, a task is somewhere, and a task ends
abbrev pub task_retired : ℕ → TaskShown → TaskShown
task_retired pc t = record t { pc = pc; retired = t.retired + 1 }

abbrev pub task_placed : ℕ → ℕ → TaskShown → TaskShown
task_placed pc retired t = record t { pc = pc; retired = retired }

abbrev pub task_ended : End → TaskShown → TaskShown
task_ended by t = record t { retired = t.retired + retires_at by; end = Some by }

-- the task of a core, which a phase begins with if the program declares one
abbrev pub task_step : ProgramParts → ℕ → Option TaskShown → Change → Option TaskShown
task_step P core t (change.Begins phase) = option_map task_started (declared P phase.0 core)
task_step P core t (change.Retired pc) = option_map (task_retired pc) t
task_step P core t (change.At pc retired) = option_map (task_placed pc retired) t
task_step P core t (change.Ended by) = option_map (task_ended by) t
task_step P core t _ = t

-- changes lead from what a core is to what it is then: its phase, wait and flags, its task, the locks that the task holds, its signatures,
-- and its entries
pub record NodeLed (P : ProgramParts) (n : NodeParts) (changes : List Change) (m : NodeParts) : Type 0 where
  pub status : StatusFollows n changes m
  pub task : fold (task_step P n.core) (option_map task_shown n.task) changes ≡ option_map task_shown m.task
  pub held : (l : ℕ) → fold (hold_step l) (is_held (locks_held n.task) l) changes ≡ is_held (locks_held m.task) l
  pub signatures : (l : ℕ) → fold (signature_step l) (signature_of n l) changes ≡ signature_of m l
  pub entries : (w : ℕ) → fold (entry_step w) (entry_of n w) changes ≡ entry_of m w

-- the changes of one actor among those of all, in their order
abbrev pub own_changes : Actor → ActorChanges → List Change
own_changes a c = if same_actor c.actor a then c.changes else []

abbrev pub changes_for : Actor → List ActorChanges → List Change
changes_for a told = flat_map (own_changes a) told

-- the changes of all actors lead from a state to another
pub record Leads (S : State) (told : List ActorChanges) (T : State) : Type 0 where
  pub cores : (core : CoreId) (n m : NodeParts) → slice_get S.nodes core.0 ≡ Some n → slice_get T.nodes core.0 ≡ Some m
      → NodeLed S.setting.program n (changes_for (Core core) told) m
  pub homes : (w : ℕ) → fold (home_step w) (home_at S w) (changes_for (home_of S w) told) ≡ home_at T w
  pub locks : (l : ℕ) → fold (lock_step l) (lock_at S l) (changes_for (home_of S l) told) ≡ lock_at T l
  pub keeper : fold keeper_step S.keeper (changes_for Keeper told) ≡ T.keeper

-- what an event tells of its actor's changes
abbrev pub changes_told : State → Event → ActorChanges
changes_told S e = record { actor = (event_made S e).actor; changes = (event_made S e).changes }

-- what the events of a list tell, each in the state to which those before it lead
abbrev pub changes_along : State → List Event → List ActorChanges
changes_along S [] = []
changes_along S (e ∷ es) = changes_told S e ∷ changes_along (next S e) es
