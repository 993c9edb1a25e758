-- Why a grant isn't legal, and why a list of legal grants isn't whole.
use Rattle.std.specs.Prelude.{◌≡◌, ℕ, ◌-◌, ◌==◌, Bool, not, if◌then◌else◌, List, find, take, slice_get, Option, Some, None, is_none}
use Rattle.std.specs.List.{list_all}
use Rattle.dn_base.specs.declared.ids.Grant.{Grant}
use Rattle.region_table.specs.Program.{ProgramParts}
use Rattle.rv_core.specs.declared.need.Need.{Need}
use Rattle.rv_core.specs.declared.need.Need.TheVariants.{Acquire}
use Rattle.rv_core.specs.Access.{is_held}
use Rattle.flat_machine.specs.declared.faults.GrantFault.{GrantFault}
use Rattle.flat_machine.specs.declared.faults.GrantFault.TheVariants.{Over, Phase, NoTask, Ended, Waits, Held, Unfinished}
use Rattle.flat_machine.specs.Step.{Started, wish}
use Rattle.flat_machine.specs.Phases.{Flat}
use Rattle.flat_machine.specs.Grants.{granted, next_grant, so_far}

abbrev pub has_ended : Started → Bool
has_ended r = not (is_none r.state.end)

abbrev pub is_of_core : ℕ → Started → Bool
is_of_core core r = r.decl.core.0 == core

abbrev pub task_holds : ℕ → Started → Bool
task_holds lock r = is_held r.state.held lock

-- a task holds the lock
abbrev pub held_fault : Option Started → Option GrantFault
held_fault None = None
held_fault (Some holder) = Some (Held holder.decl.core)

-- the task has ended, waits for another lock, or waits for this one, which is held
abbrev pub wish_fault : List Started → Grant → Option Need → Option GrantFault
wish_fault tasks g None = Some Ended
wish_fault tasks g (Some (Acquire lock)) =
    if lock.0 == g.lock.0 then held_fault (find (task_holds lock.0) tasks) else Some (Waits lock)
wish_fault tasks g (Some other) = None

abbrev pub task_fault : ProgramParts → ℕ → List Started → Grant → Option Started → Option GrantFault
task_fault P fuel tasks g None = Some NoTask
task_fault P fuel tasks g (Some r) = wish_fault tasks g (wish P fuel r)

-- the phase that has begun last
abbrev pub current_phase : Flat → ℕ
current_phase F = F.begun - 1

-- the first that is true of a grant: the run is over, the grant is of another phase, its core has no task there, or this task
-- can't take it. None if the grant is legal
abbrev pub grant_fault : ProgramParts → ℕ → Flat → Grant → Option GrantFault
grant_fault P fuel F g =
    if list_all has_ended F.tasks then Some Over
    else if g.phase.0 == current_phase F then task_fault P fuel F.tasks g (find (is_of_core g.core.0) F.tasks)
    else Some (Phase (record { 0 = current_phase F }))

abbrev pub unfinished : Option Grant → Option GrantFault
unfinished None = None
unfinished (Some g) = Some (Unfinished g.core g.lock)

-- the lowest core whose task waits for a free lock, if there is one
abbrev pub end_fault : ProgramParts → ℕ → Flat → Option GrantFault
end_fault P fuel F = unfinished (next_grant P fuel F)

-- what is wrong with what comes next in a list: a grant, or its end
abbrev pub next_fault : ProgramParts → ℕ → Flat → Option Grant → Option GrantFault
next_fault P fuel F (Some g) = grant_fault P fuel F g
next_fault P fuel F None = end_fault P fuel F

-- the grant that comes next isn't legal, or none comes
abbrev pub Stops : ProgramParts → ℕ → Flat → Option Grant → Type 0
Stops P fuel F (Some g) = granted P fuel g F ≡ None
Stops P fuel F None = Unit {0}

-- the list is legal up to this place, stops there, and this is what is wrong there
pub record StopsFor (P : ProgramParts) (fuel : ℕ) (gs : List Grant) (fault : Option GrantFault) : Type 0 where
  pub place : ℕ
  pub flat : Flat
  pub front : so_far P fuel (take place gs) ≡ Some flat
  pub stops : Stops P fuel flat (slice_get gs place)
  pub is : fault ≡ next_fault P fuel flat (slice_get gs place)
