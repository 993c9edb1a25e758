-- What the laws of diagnoses, in src/diagnosis_laws.rt, speak of.
use Rattle.std.specs.Prelude.{◌≡◌, ◌≢◌, ℕ, ℤ, ◌+◌, ◌-◌, ◌/◌, ◌<◌, true, false, List, [], ◌∷◌, ◌++◌, length, take, slice_get, slice_index, count_by, Option, Some, None}
use Rattle.std.specs.List.{All, IsAmong}
use Rattle.dn_base.specs.declared.ids.CoreId.{CoreId}
use Rattle.dn_base.specs.declared.ids.Grant.{Grant}
use Rattle.dn_base.specs.declared.ids.LockId.{LockId}
use Rattle.region_table.specs.Program.{ProgramParts}
use Rattle.rv_isa.specs.Encoding.{decoded}
use Rattle.rv_isa.specs.declared.instr.Instr as instr
use Rattle.rv_isa.specs.declared.instr.Width.{Width}
use Rattle.rv_core.specs.Access.{is_held}
use Rattle.rv_core.specs.Address.{code_at, data_at}
use Rattle.rv_core.specs.Need.{address_of}
use Rattle.rv_core.specs.declared.need.Need.TheVariants.{Acquire}
use Rattle.text_places.specs.declared.places.CodePlace.{CodePlace}
use Rattle.text_places.specs.Places.{text_places}
use Rattle.text_places.specs.Lines.{IsLineOfCode}
use Rattle.flat_machine.specs.declared.accesses.AccessKind as kind
use Rattle.flat_machine.specs.declared.accesses.FlatAccess.{FlatAccess}
use Rattle.flat_machine.specs.declared.accesses.FlatAction.{FlatAction}
use Rattle.flat_machine.specs.declared.accesses.FlatAction.TheVariants.{Accesses, Takes}
use Rattle.flat_machine.specs.declared.ending.TaskLoads.{TaskLoads}
use Rattle.flat_machine.specs.declared.faults.GrantFault as fault
use Rattle.flat_machine.specs.declared.faults.GrantFault.{GrantFault}
use Rattle.flat_machine.specs.Accesses.{actions_at}
use Rattle.flat_machine.specs.Grants.{so_far}
use Rattle.flat_machine.specs.Laws.{at_memory}
use Rattle.flat_machine.specs.Phases.{Flat, initial}
use Rattle.flat_machine.specs.Step.{Started, wish}
use Rattle.run_agreement.specs.Interleaving.{Move, interleaved, all_locks_taken}
use Rattle.claims.specs.declared.diagnosis.WrongLoad.{WrongLoad}
use Rattle.claims.specs.Diagnosis.{load_by, claimed_load, is_wrong_load, is_take, store_to}
use Rattle.claims.specs.DiagnosisText.{place_of_code}

-- ---- the last store

-- the action is no store to the word
abbrev pub StoresElsewhere : ℕ → FlatAction → Type 0
StoresElsewhere word x = store_to word x ≡ None

-- the store is one of the actions, and none after it stores to the word
pub record IsLastStore (word : ℕ) (actions : List FlatAction) (store : FlatAccess) : Type 0 where
  pub before : List FlatAction
  pub behind : List FlatAction
  pub parts : actions ≡ before ++ Accesses store ∷ behind
  pub stores : store_to word (Accesses store) ≡ Some store
  pub none : All (StoresElsewhere word) behind

-- the last store to the word among the actions, or that there is none
abbrev pub IsStoredBy : ℕ → List FlatAction → Option FlatAccess → Type 0
IsStoredBy word actions None = All (StoresElsewhere word) actions
IsStoredBy word actions (Some store) = IsLastStore word actions store

-- ---- the earliest wrong load

-- the action at this place is a load that is claimed wrongly, and no action before it is one
pub record IsEarliest (claimed : List TaskLoads) (actions : List FlatAction) (place : ℕ) : Type 0 where
  pub action : FlatAction
  pub there : slice_get actions place ≡ Some action
  pub wrong : is_wrong_load claimed action ≡ true
  pub before : (n : ℕ) (x : FlatAction) → n < place → slice_get actions n ≡ Some x → is_wrong_load claimed x ≡ false

-- if the action is a load, it is claimed as the thread makes it: of the same word, with the same value
abbrev pub IsClaimedAsMade : List TaskLoads → FlatAction → Type 0
IsClaimedAsMade claimed (Takes g) = Unit {0}
IsClaimedAsMade claimed (Accesses a) = a.kind ≡ kind.TheVariants.Load → claimed_load claimed a ≡ Some (load_by a)

-- the load is one of the thread's actions and differs from the claim, and each load that the thread makes before it is claimed as
-- made. What is said beside it is true of the actions before it: how many grants were taken, and the last store to its word
pub record IsFirstToDiffer (claimed : List TaskLoads) (actions : List FlatAction) (w : WrongLoad) : Type 0 where
  pub before : List FlatAction
  pub behind : List FlatAction
  pub parts : actions ≡ before ++ Accesses w.load ∷ behind
  pub loads : w.load.kind ≡ kind.TheVariants.Load
  pub says : w.claimed ≡ claimed_load claimed w.load
  pub differs : w.claimed ≢ Some (load_by w.load)
  pub agree : All (IsClaimedAsMade claimed) before
  pub taken : w.grants ≡ count_by is_take before
  pub last : IsStoredBy w.load.word.0 before w.stored

-- ---- a grant at fault

-- the list before this grant is legal, and with it it isn't
pub record IsIllegalAt (P : ProgramParts) (fuel : ℕ) (gs : List Grant) (place : ℕ) : Type 0 where
  pub within : place < length gs
  pub legal : so_far P fuel (take place gs) ≢ None
  pub illegal : so_far P fuel (take (place + 1) gs) ≡ None

-- the list is legal, but not maximal: it is legal with some further grant
pub record IsLegalNotMaximal (P : ProgramParts) (fuel : ℕ) (gs : List Grant) : Type 0 where
  pub legal : so_far P fuel gs ≢ None
  pub more : Grant
  pub longer : so_far P fuel (gs ++ more ∷ []) ≢ None

-- the current phase has a task on this core, of which Q holds
pub record HasTaskOn (F : Flat) (core : CoreId) (Q : Started → Type 0) : Type 0 where
  pub task : Started
  pub among : IsAmong F.tasks task
  pub on : task.decl.core.0 ≡ core.0
  pub holds : Q task

-- what is said of a grant is true where the machine stands at F
abbrev pub IsTrueReason : ProgramParts → ℕ → Flat → Grant → GrantFault → Type 0
IsTrueReason P fuel F g fault.TheVariants.Over = All (λ (r : Started). r.state.end ≢ None) F.tasks
IsTrueReason P fuel F g (fault.TheVariants.Phase current) = (current.0 + 1 ≡ F.begun) × (g.phase.0 ≢ current.0)
IsTrueReason P fuel F g fault.TheVariants.NoTask = All (λ (r : Started). r.decl.core.0 ≢ g.core.0) F.tasks
IsTrueReason P fuel F g fault.TheVariants.Ended = HasTaskOn F g.core (λ (r : Started). r.state.end ≢ None)
IsTrueReason P fuel F g (fault.TheVariants.Waits lock) = HasTaskOn F g.core (λ (r : Started). wish P fuel r ≡ Some (Acquire lock)) × (lock.0 ≢ g.lock.0)
IsTrueReason P fuel F g (fault.TheVariants.Held core) = HasTaskOn F core (λ (r : Started). is_held r.state.held g.lock.0 ≡ true)
IsTrueReason P fuel F g (fault.TheVariants.Unfinished core lock) = ⊥

-- a reason is given why the grant at this place isn't legal, and it is true there
pub record IsReasonAt (P : ProgramParts) (fuel : ℕ) (gs : List Grant) (place : ℕ) (given : Option GrantFault) : Type 0 where
  pub flat : Flat
  pub leads : so_far P fuel (take place gs) ≡ Some flat
  pub grant : Grant
  pub there : slice_get gs place ≡ Some grant
  pub reason : GrantFault
  pub is : given ≡ Some reason
  pub true_of : IsTrueReason P fuel flat grant reason

-- the list is said to be unfinished: a core's task waits for a lock, and the list is legal with a grant of this lock to this core
pub record IsSaidUnfinished (P : ProgramParts) (fuel : ℕ) (gs : List Grant) (given : Option GrantFault) : Type 0 where
  pub core : CoreId
  pub lock : LockId
  pub is : given ≡ Some (fault.TheVariants.Unfinished core lock)
  pub more : Grant
  pub to : more.core ≡ core
  pub of : more.lock ≡ lock
  pub longer : so_far P fuel (gs ++ more ∷ []) ≢ None

-- ---- the instruction that is named

-- some moves of the interleaving machine from its start, each possible in its turn, take these locks in this order and lead to W
pub record IsReachedBy (P : ProgramParts) (fuel : ℕ) (gs : List Grant) (W : Flat) : Type 0 where
  pub moves : List Move
  pub leads : interleaved P fuel (Some (initial P)) moves ≡ Some W
  pub locks : all_locks_taken P fuel (Some (initial P)) moves ≡ gs

-- moves that take these locks lead to a state in which the access is what the next instruction of a task does. The task is that of
-- the access: on its core, in its phase, and after as many loads. The instruction stands at the address of the access and is a load,
-- its address is in the word, and the value is that of the word in the state's memory
pub record IsLoadAt (P : ProgramParts) (fuel : ℕ) (gs : List Grant) (a : FlatAccess) : Type 0 where
  pub state : Flat
  pub reached : IsReachedBy P fuel gs state
  pub place : ℕ
  pub task : Started
  pub found : slice_get state.tasks place ≡ Some task
  pub does : actions_at P fuel (at_memory task state.memory) ≡ Accesses a ∷ []
  pub phase : task.phase ≡ a.phase
  pub core : task.decl.core ≡ a.core
  pub number : length task.loads ≡ a.number
  pub stands : task.state.pc ≡ a.pc
  pub code : ℕ
  pub there : code_at P.code a.pc ≡ Some code
  pub width : Width
  pub rd : ℕ
  pub base : ℕ
  pub offset : ℤ
  pub loads : decoded code ≡ Some (instr.TheVariants.Load width rd base offset)
  pub of : data_at (length P.memory) (address_of task.state base offset) ≡ Some a.word.0
  pub reads : slice_index state.memory a.word.0 ≡ a.value

-- the place of the instruction at an address: the line of the text that gives it, by the definition of the language
pub record HasLine (text : List ℕ) (P : ProgramParts) (pc : ℕ) : Type 0 where
  pub place : CodePlace
  pub is : place_of_code (text_places text) pc ≡ Some place
  pub gives : IsLineOfCode text ((pc - 4096) / 4) place
  pub number : code_at P.code pc ≡ slice_get P.code ((pc - 4096) / 4)
