-- How accesses that conflict are ordered in this machine: by the barrier, or by a lock that both tasks hold.
use Rattle.std.specs.Prelude.{◌≡◌, ◌⊎◌, ℕ, ◌<◌, true, List, ◌∷◌, ◌++◌}
use Rattle.std.specs.List.{IsAmong}
use Rattle.rv_core.specs.Access.{is_held}
use Rattle.machine_rules.specs.Actions.{Access, LockAction, Action, accesses, acquires}
use Rattle.machine_rules.specs.Racing.{Conflicts}

-- both tasks hold one lock at their accesses, and between these the second task takes the lock that it is granted
pub record IsHandedOn (a b : Access) (between : List Action) : Type 0 where
  pub lock : ℕ
  pub first : is_held a.held lock ≡ true
  pub second : is_held b.held lock ≡ true
  pub grant : LockAction
  pub taken : IsAmong between (acquires grant)
  pub phase : grant.phase ≡ b.phase
  pub core : grant.core ≡ b.core
  pub same : grant.lock ≡ lock

-- the first access, and then the second, are ordered by synchronization: the barrier of a phase is between them, or a lock is
-- handed on between them
abbrev pub IsSynchronized : Access → List Action → Access → Type 0
IsSynchronized a between b = (a.phase < b.phase) ⊎ IsHandedOn a b between

-- any two accesses that conflict are ordered by synchronization
abbrev pub IsGuarded : List Action → Type 0
IsGuarded actions =
    (before between rest : List Action) (a b : Access) → actions ≡ before ++ accesses a ∷ (between ++ accesses b ∷ rest) → Conflicts a b → IsSynchronized a between b
