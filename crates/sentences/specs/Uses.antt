-- Why a task may not load or store a data word: what it declares of the word itself, and what the other tasks of its phase do.
use Rattle.std.specs.Prelude.{ℕ, ◌+◌, ◌==◌, Bool, ◌&&◌, ◌||◌, not, List, [], ◌∷◌, Option, Some, None, slice_get, if◌then◌else◌}
use Rattle.std.specs.Option.{option_or, option_and_then}
use Rattle.region_table.specs.declared.interval.Interval.{Interval}
use Rattle.region_table.specs.declared.declared.Effects.{Effects}
use Rattle.region_table.specs.declared.declared.Phase.{Phase}
use Rattle.region_table.specs.declared.declared.TaskDecl.{TaskDecl}
use Rattle.region_table.specs.Program.{ProgramParts}
use Rattle.region_table.specs.Plan.{uses_plainly}
use Rattle.region_table.specs.Words.{has}
use Rattle.rv_isa.specs.Encoding.{decoded}
use Rattle.rv_isa.specs.declared.instr.Instr.{Instr}
use Rattle.rv_isa.specs.declared.instr.Instr as instr
use Rattle.rv_core.specs.Access.{may_load, may_store}
use Rattle.rv_core.specs.Address.{code_at}
use Rattle.sentences.specs.declared.uses.Access.{Access}
use Rattle.sentences.specs.declared.uses.Access.TheVariants.{Load, Store}
use Rattle.sentences.specs.declared.uses.OwnUse.{OwnUse}
use Rattle.sentences.specs.declared.uses.OwnUse.TheVariants.{Free, Guarded, ReadUnder, ReadOnly, Undeclared}
use Rattle.sentences.specs.declared.others_use.Others.{Others}
use Rattle.sentences.specs.declared.others_use.Others.TheVariants.{Guarding, Contending, Reading, Nobody}
use Rattle.sentences.specs.declared.others_use.Guardian.{Guardian}

-- ---- the access

abbrev pub access_of : Instr → Option Access
access_of (instr.TheVariants.Load width rd base offset) = Some Load
access_of (instr.TheVariants.Store width src base offset) = Some Store
access_of _ = None

-- how the instruction at an address accesses a word, if it is a load or a store
abbrev pub instruction_access : ProgramParts → ℕ → Option Access
instruction_access p pc = option_and_then access_of (option_and_then decoded (code_at p.code pc))

-- whether a task that holds these locks may access the word so
abbrev pub may_use : Access → TaskDecl → ℕ → ℕ → Bool
may_use Load d held w = may_load d held w
may_use Store d held w = may_store d held w

-- ---- what the task declares itself

-- the number of the first of these sets that has the word, where the first has the number `lock`
abbrev pub lock_from : ℕ → List (List Interval) → ℕ → Option ℕ
lock_from lock [] w = None
lock_from lock (s ∷ ss) w = if has s w then Some lock else lock_from (lock + 1) ss w

-- the least lock that guards the word for the task's stores, or else for its loads
abbrev pub own_lock : Effects → ℕ → Option ℕ
own_lock e w = option_or (lock_from 0 e.guarded_writes w) (lock_from 0 e.guarded_reads w)

abbrev pub guarded_use : Option ℕ → OwnUse
guarded_use (Some lock) = Guarded lock
guarded_use None = Undeclared

abbrev pub read_use : Bool → OwnUse
read_use reads = if reads then ReadOnly else Undeclared

-- a word that the task may not store plainly, by the lock that guards it for its stores, and the one for its loads
abbrev pub store_under : Option ℕ → Option ℕ → Bool → OwnUse
store_under (Some lock) loads reads = Guarded lock
store_under None (Some lock) reads = ReadUnder lock
store_under None None reads = read_use reads

abbrev pub load_use : Effects → ℕ → OwnUse
load_use e w = if has e.writes w || has e.reads w then Free else guarded_use (own_lock e w)

abbrev pub store_use : Effects → ℕ → OwnUse
store_use e w =
    if has e.writes w then Free
    else store_under (lock_from 0 e.guarded_writes w) (lock_from 0 e.guarded_reads w) (has e.reads w)

abbrev pub own_use : Access → Effects → ℕ → OwnUse
own_use Load e w = load_use e w
own_use Store e w = store_use e w

-- ---- what the other tasks of the phase declare

abbrev pub guardian_by : ℕ → Option ℕ → Option Guardian
guardian_by core None = None
guardian_by core (Some lock) = Some (record { core = core; lock = lock })

-- the first task for which a lock guards the word, and the lock
abbrev pub guardian_among : List TaskDecl → ℕ → Option Guardian
guardian_among [] w = None
guardian_among (t ∷ ts) w = option_or (guardian_by t.core.0 (own_lock t.effects w)) (guardian_among ts w)

-- whether a plain use of the word by a task conflicts with this plain access by another
abbrev pub opposes : Access → TaskDecl → ℕ → Bool
opposes Load t w = has t.effects.writes w
opposes Store t w = uses_plainly t w

abbrev pub is_contender : Access → ℕ → TaskDecl → ℕ → Bool
is_contender a core t w = not (t.core.0 == core) && opposes a t w

-- the first task of another core with which such a plain access conflicts
abbrev pub contender_among : Access → ℕ → List TaskDecl → ℕ → Option ℕ
contender_among a core [] w = None
contender_among a core (t ∷ ts) w = if is_contender a core t w then Some t.core.0 else contender_among a core ts w

abbrev pub is_reader : ℕ → TaskDecl → ℕ → Bool
is_reader core t w = not (t.core.0 == core) && has t.effects.reads w

-- the first task of another core that may load the word plainly
abbrev pub reader_among : ℕ → List TaskDecl → ℕ → Option ℕ
reader_among core [] w = None
reader_among core (t ∷ ts) w = if is_reader core t w then Some t.core.0 else reader_among core ts w

-- a lock that guards the word stands before a task that contends, and that before one that only loads
abbrev pub others_by : Option Guardian → Option ℕ → Option ℕ → Others
others_by (Some guardian) contender reader = Guarding guardian
others_by None (Some core) reader = Contending core
others_by None None (Some core) = Reading core
others_by None None None = Nobody

abbrev pub others_among : Access → ℕ → List TaskDecl → ℕ → Others
others_among a core tasks w = others_by (guardian_among tasks w) (contender_among a core tasks w) (reader_among core tasks w)

abbrev pub tasks_or_none : Option Phase → List TaskDecl
tasks_or_none None = []
tasks_or_none (Some p) = p.tasks

-- what the tasks of a phase declare of a word that the task of this core accesses
abbrev pub others_in : ProgramParts → ℕ → Access → ℕ → ℕ → Others
others_in p phase a core w = others_among a core (tasks_or_none (slice_get p.phases phase)) w
