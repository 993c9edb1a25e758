-- States in which no event may come any more.
use Rattle.std.specs.Prelude.{◌≡◌, ◌≢◌, ◌⊎◌, ℕ, true, slice_get, Some}
use Rattle.dn_base.specs.declared.ids.LockId.{LockId}
use Rattle.registration_protocol.specs.declared.node.NodeWait as wait
use Rattle.registration_protocol.specs.Node.{NodeParts, is_running}
use Rattle.machine_rules.specs.State.{State}
use Rattle.machine_rules.specs.Coherent.{waits_for, has_lock}

-- each node is halted
abbrev pub AllHalted : State → Type 0
AllHalted S = (c : ℕ) (n : NodeParts) → slice_get S.nodes c ≡ Some n → n.halted ≡ true

-- a core has a task of the keeper's phase which hasn't ended
pub record HasOpenTask (S : State) (c : ℕ) : Type 0 where
  pub node : NodeParts
  pub found : slice_get S.nodes c ≡ Some node
  pub phase : node.phase ≡ S.keeper.phase
  pub goes : is_running node.task ≡ true

-- a core waits for a lock that the task of another core holds
pub record IsLockedOut (S : State) (c : ℕ) : Type 0 where
  pub lock : LockId
  pub waits : waits_for S c (wait.TheVariants.Locking lock)
  pub holder : ℕ
  pub other : holder ≢ c
  pub has : has_lock S holder lock.0 ≡ true

-- some task of the phase hasn't ended, and another core's task holds the lock for which each such task waits
pub record IsStuck (S : State) : Type 0 where
  pub some : (c : ℕ) × HasOpenTask S c
  pub each : (c : ℕ) → HasOpenTask S c → IsLockedOut S c

-- all nodes are halted, or each task that hasn't ended waits for a lock that another core's task holds
abbrev pub IsAtRest : State → Type 0
IsAtRest S = AllHalted S ⊎ IsStuck S
