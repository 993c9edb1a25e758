-- No object of a hall is spent in a round: a step or a take gives nothing only if the inbox is empty.
use Rattle.std.specs.Prelude.{◌≡◌, ℕ, ◌<◌, List, [], ◌∷◌, ◌++◌, slice_get, Some, None}
use Rattle.message_net.specs.declared.actor.Actor.TheVariants.{Keeper}
use Rattle.registry_bank.specs.Bank.{BankParts}
use Rattle.registration_protocol.specs.Node.{Setting}
use Rattle.machine_rules.specs.State.{State}
use Rattle.turn_lock.specs.declared.entry.Entry.{Entry}
use Rattle.turn_lock.specs.History.{Legal}
use Rattle.grant_log.specs.declared.posted.Posted.{Posted}
use Rattle.bank_hall.specs.declared.bank.BankOut as bank_out
use Rattle.bank_hall.specs.declared.port.PortOut as port_out
use Rattle.bank_hall.specs.declared.keeper.KeeperOut as keeper_out
use Rattle.bank_hall.specs.Banks.{BankState}
use Rattle.bank_hall.specs.Keepers.{KeeperState}
use Rattle.bank_hall.specs.Halls.{BankEntry, PortEntry, KeeperEntry, bank_answer, bank_next, port_answer, port_next, keeper_answer, keeper_next}
use Rattle.host_workers.specs.Rounds.{Round, core_at, bank_at, bank_in, keeper_in}

-- a call stands in the history of an object, which had this content before the call
pub record IsCallAt {O I U C : Type 0} (answer : C → I → U) (next : C → I → C) (start : C) (history : List (Entry O I U)) (there : C) (call : Entry O I U) : Type 0 where
  pub before : List (Entry O I U)
  pub behind : List (Entry O I U)
  pub history_is : history ≡ before ++ call ∷ behind
  pub leads : Legal answer next start before there

pub record AreUnspent (C : Setting) (S : State) (r : Round) : Type 0 where
  pub banks : (b : ℕ) (bank : BankParts) (there : BankState) (call : BankEntry) → slice_get S.banks b ≡ Some bank
      → IsCallAt bank_answer bank_next (bank_in S b bank (r.began (bank_at b)) 0) (r.histories.banks b) there call → call.output ≡ bank_out.TheVariants.Stepped None → there.inbox ≡ []
  pub ports : (c : ℕ) (there : List Posted) (call : PortEntry) → c < C.shape.cores
      → IsCallAt port_answer port_next (r.began (core_at c)) (r.histories.ports c) there call → call.output ≡ port_out.TheVariants.Taken None → there ≡ []
  pub keeper : (there : KeeperState) (call : KeeperEntry)
      → IsCallAt keeper_answer keeper_next (keeper_in S (r.began Keeper) 0) r.histories.keeper there call → call.output ≡ keeper_out.TheVariants.Stepped None → there.inbox ≡ []
