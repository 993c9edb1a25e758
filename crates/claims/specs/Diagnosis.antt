-- What leads from a verdict to the fault: facts of the one thread that takes the claimed grants.
use Rattle.std.specs.Prelude.{◌≡◌, ℕ, ◌==◌, nat_lt, Bool, true, false, ◌&&◌, ◌||◌, not, if◌then◌else◌, List, [], ◌∷◌, length, take, slice_get, position, count_by, find, Option, Some, None}
use Rattle.std.specs.Option.{option_or}
use Rattle.dn_base.specs.declared.ids.LoadSeen.{LoadSeen}
use Rattle.region_table.specs.Program.{ProgramParts}
use Rattle.flat_machine.specs.declared.accesses.AccessKind.{AccessKind}
use Rattle.flat_machine.specs.declared.accesses.AccessKind as kind
use Rattle.flat_machine.specs.declared.accesses.FlatAccess.{FlatAccess}
use Rattle.flat_machine.specs.declared.accesses.FlatAction.{FlatAction}
use Rattle.flat_machine.specs.declared.accesses.FlatAction.TheVariants.{Accesses, Takes}
use Rattle.flat_machine.specs.declared.ending.FlatEnd.{FlatEnd}
use Rattle.flat_machine.specs.declared.ending.TaskLoads.{TaskLoads}
use Rattle.flat_machine.specs.declared.faults.GrantFault.{GrantFault}
use Rattle.flat_machine.specs.Accesses.{actions_so_far}
use Rattle.flat_machine.specs.Ending.{flat_end}
use Rattle.flat_machine.specs.Faults.{StopsFor}
use Rattle.claims.specs.declared.claim.Claim.{Claim}
use Rattle.claims.specs.declared.diagnosis.Diagnosis as diagnosis
use Rattle.claims.specs.declared.diagnosis.Diagnosis.{Diagnosis}
use Rattle.claims.specs.declared.diagnosis.TaskName.{TaskName}
use Rattle.claims.specs.declared.diagnosis.WrongLoad.{WrongLoad}
use Rattle.claims.specs.declared.verdict.Verdict as verdict
use Rattle.claims.specs.declared.verdict.Verdict.{Verdict}
use Rattle.claims.specs.Differences.{first_difference, is_same_load, is_same_task}
use Rattle.claims.specs.Lines.{line_of_number}

-- ---- the earliest wrong load

abbrev pub is_load : AccessKind → Bool
is_load kind.TheVariants.Load = true
is_load kind.TheVariants.Store = false

abbrev pub load_by : FlatAccess → LoadSeen
load_by a = record { word = a.word; value = a.value }

-- whether these are the loads of the task that makes an access
abbrev pub is_by_task : FlatAccess → TaskLoads → Bool
is_by_task a t = (t.phase.0 == a.phase.0) && (t.core.0 == a.core.0)

abbrev pub load_among : ℕ → Option TaskLoads → Option LoadSeen
load_among number None = None
load_among number (Some t) = slice_get t.loads number

-- what is claimed of a load: the claimed load of its task and number
abbrev pub claimed_load : List TaskLoads → FlatAccess → Option LoadSeen
claimed_load claimed a = load_among a.number (find (is_by_task a) claimed)

abbrev pub is_claimed_as : FlatAccess → Option LoadSeen → Bool
is_claimed_as a None = false
is_claimed_as a (Some s) = is_same_load s (load_by a)

-- whether the action is a load that is claimed wrongly
abbrev pub is_wrong_load : List TaskLoads → FlatAction → Bool
is_wrong_load claimed (Takes g) = false
is_wrong_load claimed (Accesses a) = is_load a.kind && not (is_claimed_as a (claimed_load claimed a))

-- the first load that is claimed wrongly, by its place among the thread's actions
abbrev pub earliest_wrong : List TaskLoads → List FlatAction → Option ℕ
earliest_wrong claimed actions = position (is_wrong_load claimed) actions

-- ---- what the thread did before

abbrev pub is_take : FlatAction → Bool
is_take (Takes g) = true
is_take (Accesses a) = false

abbrev pub store_to : ℕ → FlatAction → Option FlatAccess
store_to word (Takes g) = None
store_to word (Accesses a) = if not (is_load a.kind) && (a.word.0 == word) then Some a else None

-- the last store to a word among some actions
abbrev pub last_store : ℕ → List FlatAction → Option FlatAccess
last_store word [] = None
last_store word (x ∷ xs) = option_or (last_store word xs) (store_to word x)

-- a load, with what the thread did before it
abbrev pub wrong_load : List TaskLoads → List FlatAction → FlatAccess → WrongLoad
wrong_load claimed before a =
    record { load = a; claimed = claimed_load claimed a; grants = count_by is_take before; stored = last_store a.word.0 before }

abbrev pub wrong_action : List TaskLoads → List FlatAction → Option FlatAction → Option WrongLoad
wrong_action claimed before (Some (Accesses a)) = Some (wrong_load claimed before a)
wrong_action claimed before (Some (Takes g)) = None
wrong_action claimed before None = None

abbrev pub wrong_at : List TaskLoads → List FlatAction → Option ℕ → Option WrongLoad
wrong_at claimed actions None = None
wrong_at claimed actions (Some place) = wrong_action claimed (take place actions) (slice_get actions place)

-- the earliest wrong load, if there is one
unfoldable pub first_wrong_load : List TaskLoads → List FlatAction → Option WrongLoad
first_wrong_load claimed actions = wrong_at claimed actions (earliest_wrong claimed actions)

-- loads that are claimed; none, if nothing is said of loads
abbrev pub loads_claimed : Option (List TaskLoads) → List TaskLoads
loads_claimed None = []
loads_claimed (Some tasks) = tasks

-- ---- tasks

abbrev pub name_of_task : TaskLoads → TaskName
name_of_task t = record { phase = t.phase; core = t.core }

-- by phases, and in a phase by cores
abbrev pub is_earlier_task : TaskLoads → TaskLoads → Bool
is_earlier_task s t = nat_lt s.phase.0 t.phase.0 || ((s.phase.0 == t.phase.0) && nat_lt s.core.0 t.core.0)

-- the earlier of the two tasks that stand at a place: it is lacking, or it is too much
abbrev pub task_between : Option TaskLoads → Option TaskLoads → Option TaskName
task_between None None = None
task_between None (Some right) = Some (name_of_task right)
task_between (Some claimed) None = Some (name_of_task claimed)
task_between (Some claimed) (Some right) = if is_earlier_task claimed right then Some (name_of_task claimed) else Some (name_of_task right)

abbrev pub first_task : List TaskLoads → List TaskLoads → Option ℕ → Option TaskName
first_task claimed right None = None
first_task claimed right (Some place) = task_between (slice_get claimed place) (slice_get right place)

-- how many tasks started, and the first at which the claim differs from them
unfoldable pub tasks_diagnosis : List TaskLoads → List TaskLoads → Diagnosis
tasks_diagnosis claimed right =
    diagnosis.TheVariants.Tasks (length right) (first_task claimed right (first_difference is_same_task claimed right))

-- ---- the diagnosis

-- the grants stop being legal for this reason
pub record IsGrantsDiagnosis (P : ProgramParts) (c : Claim) (d : Diagnosis) : Type 0 where
  pub fault : Option GrantFault
  pub stops : StopsFor P c.question.fuel c.grants fault
  pub is : d ≡ diagnosis.TheVariants.Grants fault

-- the run has this end, and the claim's tasks differ from those that started
pub record IsTasksDiagnosis (P : ProgramParts) (c : Claim) (d : Diagnosis) : Type 0 where
  pub end' : FlatEnd
  pub run : flat_end P c.question.fuel c.grants ≡ Some end'
  pub is : d ≡ tasks_diagnosis (loads_claimed c.loads) end'.loads

-- what is said of a claim whose verdict is this one
abbrev pub IsDiagnosis : ProgramParts → Claim → Verdict → Diagnosis → Type 0
IsDiagnosis P c verdict.TheVariants.Agrees d = d ≡ diagnosis.TheVariants.Agrees
IsDiagnosis P c (verdict.TheVariants.Grants grant) d = IsGrantsDiagnosis P c d
IsDiagnosis P c verdict.TheVariants.Tasks d = IsTasksDiagnosis P c d
IsDiagnosis P c (verdict.TheVariants.Load place right) d =
    d ≡ diagnosis.TheVariants.Load (first_wrong_load (loads_claimed c.loads) (actions_so_far P c.question.fuel c.grants))
IsDiagnosis P c (verdict.TheVariants.Answer line right) d = d ≡ diagnosis.TheVariants.Answer (line_of_number line c.answer)
