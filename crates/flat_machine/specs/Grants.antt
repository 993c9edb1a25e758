-- Grants of locks to the tasks of the flat machine.
use Rattle.std.specs.Prelude.{◌≡◌, ℕ, ◌==◌, Bool, false, ◌&&◌, not, if◌then◌else◌, List, [], ◌∷◌, slice_get, slice_set, take, Option, Some, None, is_none, position}
use Rattle.std.specs.Option.{option_or}
use Rattle.std.specs.List.{list_any}
use Rattle.dn_base.specs.declared.ids.Grant.{Grant}
use Rattle.dn_base.specs.declared.ids.LockId.{LockId}
use Rattle.region_table.specs.Program.{ProgramParts}
use Rattle.rv_core.specs.declared.need.Need.{Need}
use Rattle.rv_core.specs.declared.need.Need.TheVariants.{Acquire}
use Rattle.rv_core.specs.Access.{is_held}
use Rattle.rv_core.specs.Step.{advanced}
use Rattle.flat_machine.specs.Step.{Started, At, wish, in_state, segment}
use Rattle.flat_machine.specs.Phases.{Flat, settled, initial_flat}

-- whether no task holds the lock
abbrev pub is_free : List Started → ℕ → Bool
is_free tasks lock = not (list_any (λ (r : Started). is_held r.state.held lock) tasks)

-- the grant of a lock to a task: in its phase, to its core
abbrev pub grant_of : Started → LockId → Grant
grant_of r lock = record { phase = r.phase; core = r.decl.core; lock = lock }

-- the grant that a task can take: it is for the lock that the task wants, if no task holds that
abbrev pub grant_by : List Started → Started → Option Need → Option Grant
grant_by tasks r (Some (Acquire lock)) =
    if is_free tasks lock.0 then Some (grant_of r lock) else None
grant_by tasks r _ = None

abbrev pub grant_for : ProgramParts → ℕ → List Started → Started → Option Grant
grant_for P fuel tasks r = grant_by tasks r (wish P fuel r)

abbrev pub is_grant : Grant → Option Grant → Bool
is_grant g None = false
is_grant g (Some h) = (h.phase.0 == g.phase.0) && ((h.core.0 == g.core.0) && (h.lock.0 == g.lock.0))

-- whether the task can take the grant
abbrev pub can_take : ProgramParts → ℕ → List Started → Grant → Started → Bool
can_take P fuel tasks g r = is_grant g (grant_for P fuel tasks r)

-- a task acquires the lock that it wants, and runs its next segment
abbrev pub go_on : ProgramParts → ℕ → Started → List ℕ → At
go_on P fuel r memory =
    segment P fuel (record { task = in_state r (advanced P r.state); memory = memory })

abbrev pub with_task : Flat → ℕ → At → Flat
with_task F i s = record F { tasks = slice_set F.tasks i s.task; memory = s.memory }

abbrev pub resumed : ProgramParts → ℕ → Flat → ℕ → Option Started → Flat
resumed P fuel F i None = F
resumed P fuel F i (Some r) = with_task F i (go_on P fuel r F.memory)

abbrev pub granted_at : ProgramParts → ℕ → Flat → Option ℕ → Option Flat
granted_at P fuel F None = None
granted_at P fuel F (Some i) = Some (settled P fuel (resumed P fuel F i (slice_get F.tasks i)))

-- the machine after a grant: the task that can take it acquires the lock and runs its next segment, and phases begin as they
-- may. None if no task can take it: the phase isn't the current one, the core's task doesn't wait for the lock, or a task holds
-- the lock
unfoldable pub granted : ProgramParts → ℕ → Grant → Flat → Option Flat
granted P fuel g F = granted_at P fuel F (position (can_take P fuel F.tasks g) F.tasks)

abbrev pub granted_if : ProgramParts → ℕ → Option Flat → Grant → Option Flat
granted_if P fuel None g = None
granted_if P fuel (Some F) g = granted P fuel g F

-- one grant after the other, for as long as they are legal
abbrev pub grants_from : ProgramParts → ℕ → Option Flat → List Grant → Option Flat
grants_from P fuel o [] = o
grants_from P fuel o (g ∷ gs) = grants_from P fuel (granted_if P fuel o g) gs

-- the machine after a list of grants; None where one of them isn't legal
abbrev pub so_far : ProgramParts → ℕ → List Grant → Option Flat
so_far P fuel gs = grants_from P fuel (Some (initial_flat P fuel)) gs

-- starting at F, the grants of the list before this index are legal and lead to G, and the grant there isn't legal
pub record IsStoppedAt (P : ProgramParts) (fuel : ℕ) (F : Flat) (gs : List Grant) (G : Flat) (place : ℕ) : Type 0 where
  pub given : Grant
  pub there : slice_get gs place ≡ Some given
  pub front : grants_from P fuel (Some F) (take place gs) ≡ Some G
  pub illegal : granted P fuel given G ≡ None

-- the first grant that one of these tasks can take
abbrev pub first_grant : ProgramParts → ℕ → List Started → List Started → Option Grant
first_grant P fuel tasks [] = None
first_grant P fuel tasks (r ∷ rs) = option_or (grant_for P fuel tasks r) (first_grant P fuel tasks rs)

-- the grant to the least core whose wanted lock is free; None where the run is over or each waiting task's lock is held
unfoldable pub next_grant : ProgramParts → ℕ → Flat → Option Grant
next_grant P fuel F = first_grant P fuel F.tasks F.tasks

-- whether the grants so far are a whole list: no task can take a grant
abbrev pub grants_are_whole : ProgramParts → ℕ → Flat → Bool
grants_are_whole P fuel F = is_none (next_grant P fuel F)

-- each grant of the list is the least one at its point, starting here, and after the last one the list is whole
abbrev pub IsLeastFrom : ProgramParts → ℕ → Option Flat → List Grant → Type 0
IsLeastFrom P fuel None gs = ⊥
IsLeastFrom P fuel (Some F) [] = next_grant P fuel F ≡ None
IsLeastFrom P fuel (Some F) (g ∷ gs) = (next_grant P fuel F ≡ Some g) × IsLeastFrom P fuel (granted P fuel g F) gs

-- each grant of the list is the first that can be taken then, and none can be taken after the last
abbrev pub IsLeast : ProgramParts → ℕ → List Grant → Type 0
IsLeast P fuel gs = IsLeastFrom P fuel (Some (initial_flat P fuel)) gs
