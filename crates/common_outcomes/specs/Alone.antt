-- A task alone: it goes on from the memory at the beginning of its phase, as if no other task ran. Beside each number stands
-- what is known of it.
use Rattle.std.specs.Prelude.{ℕ, zero, suc, ◌+◌, ◌^◌, ◌==◌, Bool, true, false, ◌&&◌, ◌||◌, not, if◌then◌else◌, List, [], ◌∷◌, length, map, replicate, slice_index, slice_index_or, slice_set, Option, Some, None, is_none, bit_or}
use Rattle.std.specs.List.{list_any}
use Rattle.region_table.specs.Program.{ProgramParts}
use Rattle.region_table.specs.Plan.{task_guards, task_writes}
use Rattle.region_table.specs.declared.declared.TaskDecl.{TaskDecl}
use Rattle.region_table.specs.declared.declared.Phase.{Phase}
use Rattle.rv_isa.specs.declared.instr.Instr.{Instr}
use Rattle.rv_isa.specs.declared.instr.Instr as instr
use Rattle.rv_core.specs.declared.task.TaskState.{TaskState}
use Rattle.rv_core.specs.declared.need.Need.{Need}
use Rattle.rv_core.specs.declared.need.Need.TheVariants.{Local, Load, Store, Acquire, Release, End}
use Rattle.rv_core.specs.Task.{started, stopped}
use Rattle.rv_core.specs.Need.{need_of}
use Rattle.rv_core.specs.Next.{instr_within}
use Rattle.rv_core.specs.Step.{instr_at, advanced, loaded_of, merged_of}
use Rattle.common_outcomes.specs.declared.value.Kind.{Kind}
use Rattle.common_outcomes.specs.declared.value.Kind.TheVariants.{Known, Offset, Varying}
use Rattle.common_outcomes.specs.declared.value.Value.{Value}
use Rattle.common_outcomes.specs.declared.value.Cell.{Cell}
use Rattle.common_outcomes.specs.declared.value.Effect.TheVariants.{Kept}
use Rattle.common_outcomes.specs.Values.{known, is_known, register_kind, kinds_fetched, kinds_loaded, kind_stored, effect_of, joined_effect}

-- a task of a phase, and the memory at the beginning of the phase, in which each word is known or varying
pub record Setup : Type 0 where
  pub program : ProgramParts
  pub fuel : ℕ
  pub phase : Phase
  pub decl : TaskDecl
  pub first : List Value

-- the task so far: its state, in which a register that holds an offset has the number that is added; what is known of its
-- registers; what it has made of each data word; the locks that it has acquired, as bits; and for each lock the locks that it
-- held when it acquired it
pub record Alone : Type 0 where
  pub state : TaskState
  pub kinds : List Kind
  pub cells : List Cell
  pub acquired : ℕ
  pub over : List ℕ

abbrev pub untouched : Cell
untouched = record { stored = None; effect = Kept }

abbrev pub cell_at : List Cell → ℕ → Cell
cell_at cells w = slice_index_or cells w untouched

-- ---- shared words

abbrev pub writes_elsewhere : TaskDecl → ℕ → TaskDecl → Bool
writes_elsewhere d w e = not (e.core.0 == d.core.0) && task_writes e w

-- whether another task of the phase may write the word
abbrev pub is_shared : Phase → TaskDecl → ℕ → Bool
is_shared p d w = list_any (writes_elsewhere d w) p.tasks

-- what a task reads that hasn't stored: an unshared word is as at the phase's beginning
abbrev pub unstored : Bool → ℕ → Value → Value
unstored true w v = record { kind = Offset (record { 0 = w }); number = 0 }
unstored false w v = v

abbrev pub or_unstored : Option Value → Value → Value
or_unstored None v = v
or_unstored (Some x) v = x

abbrev pub value_at_start : Setup → ℕ → Value
value_at_start S w = slice_index_or S.first w (known 0)

-- what the task reads in a word
abbrev pub seen : Setup → List Cell → ℕ → Value
seen S cells w = or_unstored (cell_at cells w).stored (unstored (is_shared S.phase S.decl w) w (value_at_start S w))

-- ---- control

abbrev pub is_settled_call : List Kind → ℕ → Bool
is_settled_call kinds number = not (number == 1 || number == 2) || is_known (register_kind kinds 10)

-- whether each register that decides what the instruction needs, and where it leads, is known
abbrev pub is_control_settled : List Kind → TaskState → Instr → Bool
is_control_settled kinds t (instr.TheVariants.Jalr rd base offset) = is_known (register_kind kinds base)
is_control_settled kinds t (instr.TheVariants.Branch test a b offset) =
    a == b || (is_known (register_kind kinds a) && is_known (register_kind kinds b))
is_control_settled kinds t (instr.TheVariants.Load width rd base offset) = is_known (register_kind kinds base)
is_control_settled kinds t (instr.TheVariants.Store width src base offset) = is_known (register_kind kinds base)
is_control_settled kinds t instr.TheVariants.Ecall = is_known (register_kind kinds 17) && is_settled_call kinds (slice_index t.regs 17)
is_control_settled kinds t _ = true

abbrev pub is_settled_if : List Kind → TaskState → Option Instr → Bool
is_settled_if kinds t None = true
is_settled_if kinds t (Some i) = is_control_settled kinds t i

-- a task that has used up its fuel ends, whatever its next instruction is
abbrev pub is_settled_next : Setup → Alone → Bool
is_settled_next S a = is_settled_if a.kinds a.state (instr_within S.program S.fuel a.state)

-- ---- sections

-- a list with each element changed, by its place
abbrev pub placed_from : ℕ → (ℕ → Cell → Cell) → List Cell → List Cell
placed_from i f [] = []
placed_from i f (x ∷ xs) = f i x ∷ placed_from (i + 1) f xs

-- the word's section ends: its effect is added to those before
abbrev pub closed : Cell → Cell
closed c = record { stored = None; effect = joined_effect c.effect (effect_of c.stored) }

-- a shared word that the lock guards, at the end of a section of the lock
abbrev pub closed_by : Setup → ℕ → ℕ → Cell → Cell
closed_by S lock w c = if is_shared S.phase S.decl w && task_guards S.decl lock w then closed c else c

-- a register at the end of a section of the lock
abbrev pub left_by : TaskDecl → ℕ → Kind → Kind
left_by d lock (Offset w) = if task_guards d lock w.0 then Varying else Offset w
left_by d lock k = k

-- ---- steps

abbrev pub go_on_alone : ProgramParts → Alone → Alone
go_on_alone P a = record a { state = advanced P a.state; kinds = kinds_fetched a.kinds (instr_at P a.state) }

abbrev pub load_alone : ProgramParts → Alone → Value → Alone
load_alone P a v =
    record a { state = loaded_of P v.number a.state; kinds = kinds_loaded a.kinds v.kind (instr_at P a.state) }

-- what a word holds after the next instruction, a store to this word
abbrev pub stored_value : Setup → Alone → ℕ → Value
stored_value S a w =
    let before = seen S a.cells w in
    record { kind = kind_stored a.kinds (is_shared S.phase S.decl w) w before.kind (instr_at S.program a.state); number = merged_of S.program before.number a.state }

abbrev pub store_alone : Setup → Alone → ℕ → Alone
store_alone S a w =
    record (go_on_alone S.program a) { cells = slice_set a.cells w (record { stored = Some (stored_value S a w); effect = (cell_at a.cells w).effect }) }

abbrev pub acquire_alone : ProgramParts → Alone → ℕ → Alone
acquire_alone P a lock =
    record (go_on_alone P a) { acquired = bit_or a.acquired (2 ^ lock); over = slice_set a.over lock (bit_or (slice_index a.over lock) a.state.held) }

abbrev pub release_alone : Setup → Alone → ℕ → Alone
release_alone S a lock =
    let gone = go_on_alone S.program a in
    record gone { kinds = map (left_by S.decl lock) gone.kinds; cells = placed_from 0 (closed_by S lock) a.cells }

-- one instruction of the task alone, by what it needs. At the task's end all its sections end, and what it has made of unshared
-- words is done
abbrev pub alone_by : Setup → Alone → Need → Alone
alone_by S a Local = go_on_alone S.program a
alone_by S a (Load word) = load_alone S.program a (seen S a.cells word.0)
alone_by S a (Store word whole) = store_alone S a word.0
alone_by S a (Acquire lock) = acquire_alone S.program a lock.0
alone_by S a (Release lock) = release_alone S a lock.0
alone_by S a (End cause) = record a { state = stopped cause a.state; cells = map closed a.cells }

-- a task that has ended, or whose control is open, isn't changed
abbrev pub alone_step : Setup → Alone → Alone
alone_step S a =
    if is_none a.state.end && is_settled_next S a then alone_by S a (need_of S.program S.decl S.fuel a.state) else a

abbrev pub alone_steps : Setup → ℕ → Alone → Alone
alone_steps S zero a = a
alone_steps S (suc n) a = alone_steps S n (alone_step S a)

abbrev pub start_alone : Setup → Alone
start_alone S =
    record { state = started S.decl; kinds = replicate 32 Known; cells = replicate (length S.program.memory) untouched; acquired = 0; over = replicate 32 0 }

-- the task alone, as far as it comes: each step but the last retires an instruction. It has ended, or its control is open
unfoldable pub alone : Setup → Alone
alone S = alone_steps S (suc S.fuel) (start_alone S)
