-- What an event makes of an actor, and that all others stay.
use Rattle.std.proofs.Common.{◌≡◌, ℕ, zero, suc, ◌<◌, ◌==◌, false, List, [], ◌∷◌, length, slice_get, Option, Some, refl, ap, arith}
use Rattle.std.proofs.lemmas.Bool.Decides.{nat_tests}
use Rattle.message_net.specs.declared.actor.Actor.{Actor}
use Rattle.message_net.specs.declared.actor.Actor.TheVariants.{Core, Bank, Keeper}
use Rattle.dn_base.specs.declared.ids.CoreId.{CoreId}
use Rattle.dn_base.specs.declared.ids.BankId.{BankId}
use Rattle.message_net.specs.declared.message.Message.{Message}
use Rattle.message_net.specs.declared.message.Outgoing.{Outgoing}
use Rattle.message_net.specs.Id.{same_actor}
use Rattle.registry_bank.specs.Bank.{BankParts, bank_gets}
use Rattle.phase_barrier.specs.Barrier.{keeper_gets}
use Rattle.registration_protocol.specs.Node.{NodeParts}
use Rattle.machine_rules.specs.State.{State}
use Rattle.machine_rules.proofs.Steps.{NodeStep, BankStep, KeeperStep}
use Rattle.machine_rules.proofs.WordCore.{same-number}
use Rattle.host_workers.specs.Members.{ActorParts, NodeIs, BankIs, KeeperIs, node_there, bank_there, parts_of}

-- one actor has become this, and all others are as they were
pub record Became (S T : State) (a : Actor) (x : ActorParts) : Type 0 where
  pub mine : parts_of T a ≡ x
  pub others : (b : Actor) → same_actor b a ≡ false → parts_of T b ≡ parts_of S b

-- an item that is there
pub there : {X : Type 0} (xs : List X) (i : ℕ) → i < length xs → (x : X) × (slice_get xs i ≡ Some x)
there [] i within = absurd (omega (arith, within))
there (x ∷ xs) zero within = (x, refl)
there (x ∷ xs) (suc i) within = there xs i (omega (arith, within))

other-way : (i j : ℕ) → (i == j) ≡ false → (j == i) ≡ false
other-way i j differ = grind (arith, nat_tests, differ)

pub node-became : (S T : State) (core : CoreId) (n m : NodeParts) (left sent : Option Outgoing) → NodeStep S T core.0 n m left sent → Became S T (Core core) (NodeIs m)
node-became S T core n m left sent step =
    record { mine = ap node_there (rw (same-number core.0) at (step.nodes core.0)); others = others }
  where
    others : (b : Actor) → same_actor b (Core core) ≡ false → parts_of T b ≡ parts_of S b
    others (Core other) differ = ap node_there (rw (other-way other.0 core.0 differ) at (step.nodes other.0))
    others (Bank bank) differ = ap (λ (bs : List BankParts). bank_there (slice_get bs bank.0)) step.banks
    others Keeper differ = ap KeeperIs step.keeper

pub bank-became : (S T : State) (bank : BankId) (b : BankParts) (message : Message) (left : Option Outgoing) → BankStep S T bank.0 b message left
    → Became S T (Bank bank) (BankIs (bank_gets b message).0)
bank-became S T bank b message left step =
    record { mine = ap bank_there (rw (same-number bank.0) at (step.banks bank.0)); others = others }
  where
    others : (a : Actor) → same_actor a (Bank bank) ≡ false → parts_of T a ≡ parts_of S a
    others (Core core) differ = ap (λ (ns : List NodeParts). node_there (slice_get ns core.0)) step.nodes
    others (Bank other) differ = ap bank_there (rw (other-way other.0 bank.0 differ) at (step.banks other.0))
    others Keeper differ = ap KeeperIs step.keeper

pub keeper-became : (S T : State) (message : Message) (left : Option Outgoing) → KeeperStep S T message left → Became S T Keeper (KeeperIs (keeper_gets S.keeper message).0)
keeper-became S T message left step = record { mine = ap KeeperIs step.keeper; others = others } where
  others : (a : Actor) → same_actor a Keeper ≡ false → parts_of T a ≡ parts_of S a
  others (Core core) differ = ap (λ (ns : List NodeParts). node_there (slice_get ns core.0)) step.nodes
  others (Bank bank) differ = ap (λ (bs : List BankParts). bank_there (slice_get bs bank.0)) step.banks
  others Keeper differ = absurd (cc)
