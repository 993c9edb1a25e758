-- A phase: each task alone, whether control is open or a lock may be waited for for ever, and what is known of memory after it.
use Rattle.std.specs.Prelude.{◌≡◌, ℕ, zero, suc, ◌+◌, ◌==◌, Bool, true, ◌&&◌, ◌||◌, not, List, [], ◌∷◌, map, slice_index, is_none}
use Rattle.std.specs.List.{list_any}
use Rattle.region_table.specs.Program.{ProgramParts}
use Rattle.region_table.specs.declared.declared.TaskDecl.{TaskDecl}
use Rattle.region_table.specs.declared.declared.Phase.{Phase}
use Rattle.rv_core.specs.Access.{is_held}
use Rattle.common_outcomes.specs.declared.value.Value.{Value}
use Rattle.common_outcomes.specs.declared.value.Effect.{Effect}
use Rattle.common_outcomes.specs.declared.value.Effect.TheVariants.{Kept}
use Rattle.common_outcomes.specs.Values.{joined_effect, applied}
use Rattle.common_outcomes.specs.Alone.{Setup, Alone, cell_at, alone}

-- a task of a phase, and the task alone
pub record Summary : Type 0 where
  pub decl : TaskDecl
  pub alone : Alone

-- the task, in this phase with this memory at its beginning
abbrev pub setup : ProgramParts → ℕ → Phase → List Value → TaskDecl → Setup
setup P fuel p first d = record { program = P; fuel = fuel; phase = p; decl = d; first = first }

abbrev pub summary : ProgramParts → ℕ → Phase → List Value → TaskDecl → Summary
summary P fuel p first d = record { decl = d; alone = alone (setup P fuel p first d) }

-- each task of the phase, in the order of their cores
abbrev pub summaries : ProgramParts → ℕ → Phase → List Value → List Summary
summaries P fuel p first = map (summary P fuel p first) p.tasks

-- ---- memory after the phase

-- what all sections of the phase did to a word
abbrev pub effects_at : List Summary → ℕ → Effect
effects_at [] w = Kept
effects_at (r ∷ rs) w = joined_effect (cell_at r.alone.cells w).effect (effects_at rs w)

-- memory after the phase, from word w on
abbrev pub after_from : ℕ → List Summary → List Value → List Value
after_from w rs [] = []
after_from w rs (v ∷ vs) = applied (effects_at rs w) v ∷ after_from (w + 1) rs vs

-- ---- why a phase is open

-- the task's control is open
abbrev pub is_control_open : Summary → Bool
is_control_open r = is_none r.alone.state.end

-- another task acquires the lock with which this one ended
abbrev pub takes_elsewhere : TaskDecl → ℕ → Summary → Bool
takes_elsewhere d lock r = not (r.decl.core.0 == d.core.0) && is_held r.alone.acquired lock

-- some task acquires `next` while it holds `lock`
abbrev pub is_nested : List Summary → ℕ → ℕ → Bool
is_nested rs lock next = list_any (λ (r : Summary). is_held (slice_index r.alone.over next) lock) rs

-- each of these locks, and then the last, is acquired by some task while it holds the one before it
abbrev pub IsLockWay : List Summary → ℕ → List ℕ → ℕ → Type 0
IsLockWay rs from [] to = is_nested rs from to ≡ true
IsLockWay rs from (l ∷ ls) to = (is_nested rs from l ≡ true) × IsLockWay rs l ls to

-- a way leads from the lock back to it
pub record IsOnCircle (rs : List Summary) (lock : ℕ) : Type 0 where
  pub between : List ℕ
  pub way : IsLockWay rs lock between lock

-- whether a way leads from one lock to another on which each lock between is one of the first n
abbrev pub leads : List Summary → ℕ → ℕ → ℕ → Bool
leads rs zero from to = is_nested rs from to
leads rs (suc n) from to = leads rs n from to || (leads rs n from n && leads rs n n to)

-- whether a way leads from one lock to another; a program has at most 32 locks
unfoldable pub leads_to : List Summary → ℕ → ℕ → Bool
leads_to rs from to = leads rs 32 from to

abbrev pub is_on_circle : List Summary → ℕ → Bool
is_on_circle rs lock = leads_to rs lock lock
