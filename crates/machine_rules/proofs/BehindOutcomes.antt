-- Every event leaves each node in the keeper's phase or an earlier one, halted or not.
use Rattle.std.proofs.Common.{◌≡◌, ℕ, ◌+◌, ◌≤◌, ◌==◌, Bool, true, false, List, slice_get, Option, Some, None, refl, sym, ap, ◌∙◌, arith}
use Rattle.dn_base.specs.declared.ids.CoreId.{CoreId}
use Rattle.dn_base.specs.declared.ids.PhaseId.{PhaseId}
use Rattle.message_net.specs.declared.event.Event.{Event}
use Rattle.message_net.specs.declared.message.Message.{Message}
use Rattle.message_net.specs.declared.message.Message.TheVariants.{Go}
use Rattle.message_net.specs.declared.message.Outgoing.{Outgoing}
use Rattle.queue_lock.specs.Lock.{Lock}
use Rattle.registry_bank.specs.declared.bank.BankWord.{BankWord}
use Rattle.phase_barrier.specs.Barrier.{Barrier, all_arrived}
use Rattle.registration_protocol.specs.Node.{NodeParts}
use Rattle.registration_protocol.specs.Messages.{begins}
use Rattle.machine_rules.specs.State.{State}
use Rattle.machine_rules.specs.Next.{next}
use Rattle.machine_rules.proofs.Invariant.{Invariant}
use Rattle.machine_rules.proofs.Steps.{NodeStep}
use Rattle.machine_rules.proofs.Outcomes.{Outcomes, WordStep, LockStep, BarrierStep, at_core}
use Rattle.machine_rules.proofs.PlainOutcomes.{plain-outcomes}

abbrev pub AreBehind : State → Type 0
AreBehind S = (c : ℕ) (n : NodeParts) → slice_get S.nodes c ≡ Some n → n.phase ≤ S.keeper.phase

behind-node : (S T : State) (core : ℕ) (n m : NodeParts) (left sent : Option Outgoing) → NodeStep S T core n m left sent → AreBehind S → m.phase ≤ S.keeper.phase → AreBehind T
behind-node S T core n m left sent step were now c k found = by_core (core == c) refl where
  phases : T.keeper.phase ≡ S.keeper.phase
  phases = ap (λ (x : Barrier). x.phase) step.keeper

  by_core : (x : Bool) → (core == c) ≡ x → k.phase ≤ T.keeper.phase
  by_core true e =
      let is : Some m ≡ Some k = sym (rw (e) at (step.nodes c)) ∙ found in
      let same : m.phase ≡ k.phase = cc in
      omega (arith, now, same, phases)
  by_core false e = omega (arith, were c k (sym (rw (e) at (step.nodes c)) ∙ found), phases)

behind-still : (S T : State) → T.nodes ≡ S.nodes → S.keeper.phase ≤ T.keeper.phase → AreBehind S → AreBehind T
behind-still S T nodes later were c k found = omega (arith, later, were c k (sym (ap (λ (ns : List NodeParts). slice_get ns c) nodes) ∙ found))

pub behind-outcomes : (S : State) (M : ℕ → ℕ) (e : Event) → Invariant S M → Outcomes S M e (λ M'. AreBehind (next S e))
behind-outcomes S M e inv = plain-outcomes S M e (AreBehind T) (record { node = λ core n m left sent step phase mark. same core n m left sent step phase; go = go; halt = λ core n step. same core.0 n _ _ _ step refl; home = home; lock = lock_home; barrier = barrier }) where
  T : State
  T = next S e

  same : (core : ℕ) (n m : NodeParts) (left sent : Option Outgoing) → NodeStep S T core n m left sent → m.phase ≡ n.phase → AreBehind T
  same core n m left sent step phase = behind-node S T core n m left sent step inv.behind (omega (arith, phase, inv.behind core n step.found))

  go : (core : CoreId) (n : NodeParts) (phase : PhaseId) → phase.0 ≡ S.keeper.phase → phase.0 ≡ n.phase + 1
      → NodeStep S T core.0 n (begins S.setting n phase.0) (at_core core (Go phase)) None → AreBehind T
  go core n phase right later step = behind-node S T core.0 n _ _ _ step inv.behind (omega (arith, right))

  home : (w : ℕ) (content : BankWord) (left sent : Option Outgoing) → WordStep S T w content left sent → AreBehind T
  home w content left sent step = behind-still S T step.nodes (omega (arith, ap (λ (x : Barrier). x.phase) step.keeper)) inv.behind

  lock_home : (l : ℕ) (state : Lock) (left sent : Option Outgoing) → LockStep S T l state left sent → AreBehind T
  lock_home l state left sent step = behind-still S T step.nodes (omega (arith, ap (λ (x : Barrier). x.phase) step.keeper)) inv.behind

  barrier : (k : Barrier) (left : Option Outgoing) (sent : Option Message) → BarrierStep S T k left sent → S.keeper.phase ≤ k.phase → (all_arrived S.keeper ≡ true → all_arrived k ≡ true) → AreBehind T
  barrier k left sent step later all = behind-still S T step.nodes (omega (arith, later, ap (λ (x : Barrier). x.phase) step.keeper)) inv.behind
