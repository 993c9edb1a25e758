-- What the one thread of the flat machine does, action by action: its loads and stores, and the grants that it takes.
use Rattle.std.specs.Prelude.{ℕ, zero, suc, if◌then◌else◌, List, [], ◌∷◌, ◌++◌, length, drop, slice_index, slice_get, position, Option, Some, None}
use Rattle.std.specs.List.{list_all}
use Rattle.dn_base.specs.declared.ids.Grant.{Grant}
use Rattle.dn_base.specs.declared.ids.WordId.{WordId}
use Rattle.region_table.specs.Program.{ProgramParts}
use Rattle.region_table.specs.declared.declared.TaskDecl.{TaskDecl}
use Rattle.region_table.specs.declared.declared.Phase.{Phase}
use Rattle.rv_core.specs.declared.need.Need.{Need}
use Rattle.rv_core.specs.declared.need.Need as need
use Rattle.rv_core.specs.Step.{advanced, merged_of}
use Rattle.flat_machine.specs.declared.accesses.AccessKind.{AccessKind}
use Rattle.flat_machine.specs.declared.accesses.AccessKind as kind
use Rattle.flat_machine.specs.declared.accesses.FlatAccess.{FlatAccess}
use Rattle.flat_machine.specs.declared.accesses.FlatAction.{FlatAction}
use Rattle.flat_machine.specs.declared.accesses.FlatAction.TheVariants.{Accesses, Takes}
use Rattle.flat_machine.specs.Step.{Started, At, fresh, wish, in_state, flat_step, segment}
use Rattle.flat_machine.specs.Phases.{Flat, begin, has_finished, initial, initial_flat}
use Rattle.flat_machine.specs.Grants.{can_take, resumed, granted}

-- a log with more actions; None if no actions are logged
abbrev pub with_actions : Option (List FlatAction) → List FlatAction → Option (List FlatAction)
with_actions None more = None
with_actions (Some actions) more = Some (actions ++ more)

-- ---- an instruction

-- the access of a word by a task's next instruction
abbrev pub flat_access : Started → AccessKind → WordId → ℕ → FlatAccess
flat_access r kind word value =
    record { phase = r.phase; core = r.decl.core; pc = r.state.pc; held = r.state.held; number = length r.loads; kind = kind; word = word; value = value }

-- a load finds the word's value, and a store leaves the word's new value
abbrev pub actions_by : ProgramParts → At → Option Need → List FlatAction
actions_by P s (Some (need.TheVariants.Load word)) =
    Accesses (flat_access s.task kind.TheVariants.Load word (slice_index s.memory word.0)) ∷ []
actions_by P s (Some (need.TheVariants.Store word whole)) =
    Accesses (flat_access s.task kind.TheVariants.Store word (merged_of P (slice_index s.memory word.0) s.task.state)) ∷ []
actions_by P s _ = []

-- of the task's next instruction
abbrev pub actions_at : ProgramParts → ℕ → At → List FlatAction
actions_at P fuel s = actions_by P s (wish P fuel s.task)

-- of so many instructions of the task
abbrev pub actions_in : ProgramParts → ℕ → ℕ → At → List FlatAction
actions_in P fuel zero s = []
actions_in P fuel (suc n) s = actions_at P fuel s ++ actions_in P fuel n (flat_step P fuel s)

-- of a segment
unfoldable pub segment_actions : ProgramParts → ℕ → At → List FlatAction
segment_actions P fuel s = actions_in P fuel (suc fuel) s

-- ---- phases

abbrev pub begun_at : ℕ → TaskDecl → List ℕ → At
begun_at phase d memory = record { task = fresh phase d; memory = memory }

-- of the first segments of some tasks, one after the other
abbrev pub run_actions : ProgramParts → ℕ → ℕ → List TaskDecl → List ℕ → List FlatAction
run_actions P fuel phase [] memory = []
run_actions P fuel phase (d ∷ ds) memory =
    segment_actions P fuel (begun_at phase d memory) ++ run_actions P fuel phase ds (segment P fuel (begun_at phase d memory)).memory

-- of the beginning of a phase
abbrev pub begin_actions : ProgramParts → ℕ → Phase → Flat → List FlatAction
begin_actions P fuel phase F = run_actions P fuel F.begun phase.tasks F.memory

-- of the phases that begin while all tasks have finished
abbrev pub settle_actions : ProgramParts → ℕ → List Phase → Flat → List FlatAction
settle_actions P fuel [] F = []
settle_actions P fuel (phase ∷ left) F =
    if list_all has_finished F.tasks then begin_actions P fuel phase F ++ settle_actions P fuel left (begin P fuel phase F) else []

abbrev pub settled_actions : ProgramParts → ℕ → Flat → List FlatAction
settled_actions P fuel F = settle_actions P fuel (drop F.begun P.phases) F

-- before any grant
unfoldable pub initial_actions : ProgramParts → ℕ → List FlatAction
initial_actions P fuel = settled_actions P fuel (initial P)

-- ---- grants

-- of the segment of a task that has acquired the lock that it wants
abbrev pub resumed_actions : ProgramParts → ℕ → Flat → Option Started → List FlatAction
resumed_actions P fuel F None = []
resumed_actions P fuel F (Some r) = segment_actions P fuel (record { task = in_state r (advanced P r.state); memory = F.memory })

abbrev pub granted_actions_at : ProgramParts → ℕ → Grant → Flat → Option ℕ → List FlatAction
granted_actions_at P fuel g F None = []
granted_actions_at P fuel g F (Some i) =
    Takes g ∷ (resumed_actions P fuel F (slice_get F.tasks i) ++ settled_actions P fuel (resumed P fuel F i (slice_get F.tasks i)))

-- of a grant: it is taken, its task runs its next segment, and phases begin as they may. None if no task can take it
unfoldable pub granted_actions : ProgramParts → ℕ → Grant → Flat → List FlatAction
granted_actions P fuel g F = granted_actions_at P fuel g F (position (can_take P fuel F.tasks g) F.tasks)

-- of one grant after the other, for as long as they are legal
abbrev pub grants_actions : ProgramParts → ℕ → Option Flat → List Grant → List FlatAction
grants_actions P fuel o [] = []
grants_actions P fuel None (g ∷ gs) = []
grants_actions P fuel (Some F) (g ∷ gs) = granted_actions P fuel g F ++ grants_actions P fuel (granted P fuel g F) gs

-- all that the thread does by a list of grants, up to the first that isn't legal
unfoldable pub actions_so_far : ProgramParts → ℕ → List Grant → List FlatAction
actions_so_far P fuel gs = initial_actions P fuel ++ grants_actions P fuel (Some (initial_flat P fuel)) gs
