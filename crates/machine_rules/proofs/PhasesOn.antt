-- Every event leaves the keeper and each node in its phase, or takes it to a later one.
use Rattle.std.proofs.Common.{◌≡◌, ℕ, ◌+◌, ◌≤◌, ◌==◌, Bool, true, false, List, [], ◌∷◌, slice_get, Option, Some, None, refl, sym, ap, subst, ◌∙◌, arith}
use Rattle.std.proofs.lemmas.Bool.{eqb-true}
use Rattle.std.proofs.lemmas.Option.{same_Some}
use Rattle.dn_base.specs.declared.ids.CoreId.{CoreId}
use Rattle.dn_base.specs.declared.ids.PhaseId.{PhaseId}
use Rattle.message_net.specs.declared.event.Event.{Event}
use Rattle.message_net.specs.declared.message.Message.{Message}
use Rattle.message_net.specs.declared.message.Message.TheVariants.{Go}
use Rattle.message_net.specs.declared.message.Outgoing.{Outgoing}
use Rattle.queue_lock.specs.Lock.{Lock}
use Rattle.registry_bank.specs.declared.bank.BankWord.{BankWord}
use Rattle.phase_barrier.specs.Barrier.{Barrier, all_arrived}
use Rattle.registration_protocol.specs.Node.{NodeParts}
use Rattle.registration_protocol.specs.Messages.{begins}
use Rattle.machine_rules.specs.State.{State}
use Rattle.machine_rules.specs.Next.{next, enabled}
use Rattle.machine_rules.specs.Runs.{after, IsRun}
use Rattle.machine_rules.specs.Memory.{store_in}
use Rattle.machine_rules.specs.Sound.{IsSound}
use Rattle.machine_rules.proofs.Invariant.{Invariant}
use Rattle.machine_rules.proofs.Steps.{NodeStep}
use Rattle.machine_rules.proofs.Outcomes.{Outcomes, WordStep, LockStep, BarrierStep, at_core, stored_to}
use Rattle.machine_rules.proofs.PlainOutcomes.{plain-outcomes}
use Rattle.machine_rules.proofs.Dispatch.{ways}
use Rattle.machine_rules.proofs.SoundEvents.{sound-next}
use Rattle.machine_rules.proofs.Kept.{kept}

-- a core's node is in this phase or a later one
pub record IsPast (S : State) (c phase : ℕ) : Type 0 where
  pub node : NodeParts
  pub found : slice_get S.nodes c ≡ Some node
  pub past : phase ≤ node.phase

pub record GoesOn (S T : State) : Type 0 where
  pub keeper : S.keeper.phase ≤ T.keeper.phase
  pub each : (c : ℕ) (n : NodeParts) → slice_get S.nodes c ≡ Some n → IsPast T c n.phase

on-node : (S T : State) (core : ℕ) (n m : NodeParts) (left sent : Option Outgoing) → NodeStep S T core n m left sent → n.phase ≤ m.phase → GoesOn S T
on-node S T core n m left sent step low = record { keeper = omega (arith, ap (λ (x : Barrier). x.phase) step.keeper); each = each } where
  each : (c : ℕ) (k : NodeParts) → slice_get S.nodes c ≡ Some k → IsPast T c k.phase
  each c k found = by_core (core == c) refl where
    by_core : (x : Bool) → (core == c) ≡ x → IsPast T c k.phase
    by_core true e =
        let same : n ≡ k = same_Some n k (sym step.found ∙ (ap (slice_get S.nodes) (eqb-true core c e) ∙ found)) in
        record { node = m; found = step.nodes c ∙ rw (e) refl; past = subst (λ (x : NodeParts). x.phase ≤ m.phase) same low }
    by_core false e = record { node = k; found = step.nodes c ∙ rw (e) found; past = omega arith }

on-still : (S T : State) → T.nodes ≡ S.nodes → S.keeper.phase ≤ T.keeper.phase → GoesOn S T
on-still S T nodes later =
    record {
      keeper = later;
      each = λ c n found. record { node = n; found = ap (λ (ns : List NodeParts). slice_get ns c) nodes ∙ found; past = omega arith };
    }

on-outcomes : (S : State) (M : ℕ → ℕ) (e : Event) → Outcomes S M e (λ M'. GoesOn S (next S e))
on-outcomes S M e = plain-outcomes S M e (GoesOn S T) (record { node = λ core n m left sent step phase mark. same core n m left sent step phase; go = go; halt = λ core n step. same core.0 n _ _ _ step refl; home = home; lock = lock_home; barrier = barrier }) where
  T : State
  T = next S e

  same : (core : ℕ) (n m : NodeParts) (left sent : Option Outgoing) → NodeStep S T core n m left sent → m.phase ≡ n.phase → GoesOn S T
  same core n m left sent step phase = on-node S T core n m left sent step (omega (arith, phase))

  go : (core : CoreId) (n : NodeParts) (phase : PhaseId) → phase.0 ≡ S.keeper.phase → phase.0 ≡ n.phase + 1
      → NodeStep S T core.0 n (begins S.setting n phase.0) (at_core core (Go phase)) None → GoesOn S T
  go core n phase right later step = on-node S T core.0 n _ _ _ step (omega (arith, later))

  home : (w : ℕ) (content : BankWord) (left sent : Option Outgoing) → WordStep S T w content left sent → GoesOn S T
  home w content left sent step = on-still S T step.nodes (omega (arith, ap (λ (x : Barrier). x.phase) step.keeper))

  lock_home : (l : ℕ) (state : Lock) (left sent : Option Outgoing) → LockStep S T l state left sent → GoesOn S T
  lock_home l state left sent step = on-still S T step.nodes (omega (arith, ap (λ (x : Barrier). x.phase) step.keeper))

  barrier : (k : Barrier) (left : Option Outgoing) (sent : Option Message) → BarrierStep S T k left sent → S.keeper.phase ≤ k.phase → (all_arrived S.keeper ≡ true → all_arrived k ≡ true) → GoesOn S T
  barrier k left sent step later all = on-still S T step.nodes (omega (arith, later, ap (λ (x : Barrier). x.phase) step.keeper))

pub goes-on : (S : State) (M : ℕ → ℕ) (e : Event) → Invariant S M → enabled S e ≡ true → GoesOn S (next S e)
goes-on S M e inv may = ways S M e (λ M'. GoesOn S (next S e)) inv may (on-outcomes S M e)

pub keeper-on : (S : State) (M : ℕ → ℕ) (count : ℕ) (events : List Event) → IsSound S count → Invariant S M → IsRun S events → S.keeper.phase ≤ (after S events).keeper.phase
keeper-on S M count [] sound inv run = omega arith
keeper-on S M count (e ∷ es) sound inv run =
    let after_it = sound-next S count e sound run.0 in
    let rest = keeper-on (next S e) (stored_to (store_in S e) M) (count + 1) es after_it (kept S M e inv run.0 after_it.machine) run.1 in
    omega (arith, rest, (goes-on S M e inv run.0).keeper)
