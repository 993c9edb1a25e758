-- Where in the code tasks acquire their locks.
use Rattle.std.specs.Prelude.{◌≡◌, ℕ, List, [], ◌∷◌, ◌++◌, find, Option, Some, None, option_map}
use Rattle.std.specs.List.{IsAmong}
use Rattle.dn_base.specs.declared.ids.Grant.{Grant}
use Rattle.region_table.specs.Program.{ProgramParts}
use Rattle.rv_core.specs.declared.need.Need.TheVariants.{Acquire as Wants}
use Rattle.flat_machine.specs.declared.acquires.Acquire.{Acquire}
use Rattle.flat_machine.specs.Step.{Started, wish}
use Rattle.flat_machine.specs.Phases.{Flat, initial_flat}
use Rattle.flat_machine.specs.Grants.{can_take, granted}

-- the address at which the task waits that can take a grant, if there is one
abbrev pub taker_pc : ProgramParts → ℕ → List Started → Grant → Option ℕ
taker_pc P fuel tasks g = option_map (λ (r : Started). r.state.pc) (find (can_take P fuel tasks g) tasks)

abbrev pub acquire_at : Grant → Option ℕ → List Acquire
acquire_at g None = []
acquire_at g (Some pc) = record { grant = g; pc = pc } ∷ []

-- of one grant after the other, for as long as they are legal
abbrev pub acquires_from : ProgramParts → ℕ → Option Flat → List Grant → List Acquire
acquires_from P fuel None gs = []
acquires_from P fuel (Some F) [] = []
acquires_from P fuel (Some F) (g ∷ gs) = acquire_at g (taker_pc P fuel F.tasks g) ++ acquires_from P fuel (granted P fuel g F) gs

-- the locks that tasks acquire by a list of grants, up to the first that isn't legal, each with the address of its ECALL
unfoldable pub acquires_so_far : ProgramParts → ℕ → List Grant → List Acquire
acquires_so_far P fuel gs = acquires_from P fuel (Some (initial_flat P fuel)) gs

-- the task of the grant's core waits for the grant's lock in this state, and it does so at the address that is found
pub record IsAcquiredAt (P : ProgramParts) (fuel : ℕ) (F : Flat) (g : Grant) (found : Option Acquire) : Type 0 where
  pub task : Started
  pub started : IsAmong F.tasks task
  pub named : task.decl.core ≡ g.core
  pub waits : wish P fuel task ≡ Some (Wants g.lock)
  pub is : found ≡ Some (record { grant = g; pc = task.state.pc })
