-- Who makes the steps and takes of a history.
use Rattle.std.specs.Prelude.{◌≡◌, ℕ, All}
use Rattle.message_net.specs.declared.actor.Actor.TheVariants.{Keeper}
use Rattle.bank_hall.specs.declared.bank.BankIn as bank_in
use Rattle.bank_hall.specs.declared.port.PortIn as port_in
use Rattle.bank_hall.specs.declared.keeper.KeeperIn as keeper_in
use Rattle.bank_hall.specs.Halls.{BankEntry, PortEntry, KeeperEntry}
use Rattle.host_workers.specs.Rounds.{Round, owner, core_at, bank_at}

-- each step of a bank, each take from a core's port and each step of the keeper is a call by the pass of the worker that owns
-- it
pub record AreOwners (r : Round) : Type 0 where
  pub banks : (b : ℕ) → All (λ (e : BankEntry). (pick : ℕ) → e.input ≡ bank_in.TheVariants.Step pick → e.pass ≡ owner r.workers (bank_at b)) (r.histories.banks b)
  pub ports : (c : ℕ) → All (λ (e : PortEntry). (pick : ℕ) → e.input ≡ port_in.TheVariants.Take pick → e.pass ≡ owner r.workers (core_at c)) (r.histories.ports c)
  pub keeper : All (λ (e : KeeperEntry). (pick : ℕ) → e.input ≡ keeper_in.TheVariants.Step pick → e.pass ≡ owner r.workers Keeper) r.histories.keeper
