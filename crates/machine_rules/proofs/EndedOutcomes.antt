-- Every event leaves nodes halted only where the keeper's set is whole, or where there are no phases.
use Rattle.std.proofs.Common.{◌≡◌, ◌⊎◌, inl, inr, ℕ, ◌≤◌, ◌==◌, Bool, true, false, List, length, slice_get, Option, Some, None, refl, sym, ap, ◌∙◌, arith}
use Rattle.message_net.specs.declared.event.Event.{Event}
use Rattle.message_net.specs.declared.message.Message.{Message}
use Rattle.message_net.specs.declared.message.Message.TheVariants.{Halt}
use Rattle.message_net.specs.declared.message.Outgoing.{Outgoing}
use Rattle.dn_base.specs.declared.ids.CoreId.{CoreId}
use Rattle.queue_lock.specs.Lock.{Lock}
use Rattle.registry_bank.specs.declared.bank.BankWord.{BankWord}
use Rattle.phase_barrier.specs.Barrier.{Barrier, all_arrived}
use Rattle.registration_protocol.specs.Node.{NodeParts, Setting}
use Rattle.machine_rules.specs.State.{State}
use Rattle.machine_rules.specs.Flight.{is_halt_to}
use Rattle.machine_rules.specs.Next.{next}
use Rattle.machine_rules.proofs.Invariant.{Invariant}
use Rattle.machine_rules.proofs.Steps.{NodeStep}
use Rattle.machine_rules.proofs.Outcomes.{Outcomes, WordStep, LockStep, BarrierStep, at_core}
use Rattle.machine_rules.proofs.PlainOutcomes.{plain-outcomes}
use Rattle.machine_rules.proofs.WordCore.{same-number}

-- the keeper's set is whole, or there are no phases
abbrev pub IsOut : State → Type 0
IsOut S = (all_arrived S.keeper ≡ true) ⊎ (length S.setting.program.phases ≡ 0)

abbrev pub HaveEnded : State → Type 0
HaveEnded S = (c : ℕ) (n : NodeParts) → slice_get S.nodes c ≡ Some n → n.halted ≡ true → IsOut S

out-still : (S T : State) → T.setting ≡ S.setting → (all_arrived S.keeper ≡ true → all_arrived T.keeper ≡ true) → IsOut S → IsOut T
out-still S T setting keeper (inl all) = inl (keeper all)
out-still S T setting keeper (inr none) = inr (ap (λ (x : Setting). length x.program.phases) setting ∙ none)

same-keeper : (S T : State) → T.keeper ≡ S.keeper → all_arrived S.keeper ≡ true → all_arrived T.keeper ≡ true
same-keeper S T same all = ap (λ (k : Barrier). all_arrived k) same ∙ all

ended-node : (S T : State) (core : ℕ) (n m : NodeParts) (left sent : Option Outgoing) → NodeStep S T core n m left sent → HaveEnded S → (m.halted ≡ true → IsOut S) → HaveEnded T
ended-node S T core n m left sent step were now c k found halted = out-still S T step.setting (same-keeper S T step.keeper) (by_core (core == c) refl) where
  by_core : (x : Bool) → (core == c) ≡ x → IsOut S
  by_core true e =
      let is : Some m ≡ Some k = sym (rw (e) at (step.nodes c)) ∙ found in
      let same : m ≡ k = cc in
      now (ap (λ (x : NodeParts). x.halted) same ∙ halted)
  by_core false e = were c k (sym (rw (e) at (step.nodes c)) ∙ found) halted

ended-still : (S T : State) → T.setting ≡ S.setting → T.nodes ≡ S.nodes → (all_arrived S.keeper ≡ true → all_arrived T.keeper ≡ true) → HaveEnded S → HaveEnded T
ended-still S T setting nodes keeper were c k found halted = out-still S T setting keeper (were c k (sym (ap (λ (ns : List NodeParts). slice_get ns c) nodes) ∙ found) halted)

-- who is told to halt is told so by a keeper whose set is whole
told-out : (S T : State) (M : ℕ → ℕ) (core : CoreId) (n m : NodeParts) → NodeStep S T core.0 n m (at_core core Halt) None → Invariant S M → IsOut S
told-out S T M core n m step inv =
    let came = rw (same-number core.0) at (step.flown (is_halt_to core.0)) in
    inl (inv.phases.halting core.0 (omega (arith, came)))

pub ended-outcomes : (S : State) (M : ℕ → ℕ) (e : Event) → Invariant S M → Outcomes S M e (λ M'. HaveEnded (next S e))
ended-outcomes S M e inv = plain-outcomes S M e (HaveEnded T) (record { node = λ core n m left sent step phase mark. same core n m left sent step mark; go = λ core n phase right later step. same core.0 n _ _ _ step refl; halt = halt; home = home; lock = lock_home; barrier = barrier }) where
  T : State
  T = next S e

  same : (core : ℕ) (n m : NodeParts) (left sent : Option Outgoing) → NodeStep S T core n m left sent → m.halted ≡ n.halted → HaveEnded T
  same core n m left sent step mark = ended-node S T core n m left sent step inv.ended (λ halted. inv.ended core n step.found (sym mark ∙ halted))

  halt : (core : CoreId) (n : NodeParts) → NodeStep S T core.0 n (record n { halted = true }) (at_core core Halt) None → HaveEnded T
  halt core n step = ended-node S T core.0 n _ _ _ step inv.ended (λ halted. told-out S T M core n _ step inv)

  home : (w : ℕ) (content : BankWord) (left sent : Option Outgoing) → WordStep S T w content left sent → HaveEnded T
  home w content left sent step = ended-still S T step.setting step.nodes (same-keeper S T step.keeper) inv.ended

  lock_home : (l : ℕ) (state : Lock) (left sent : Option Outgoing) → LockStep S T l state left sent → HaveEnded T
  lock_home l state left sent step = ended-still S T step.setting step.nodes (same-keeper S T step.keeper) inv.ended

  barrier : (k : Barrier) (left : Option Outgoing) (sent : Option Message) → BarrierStep S T k left sent → S.keeper.phase ≤ k.phase → (all_arrived S.keeper ≡ true → all_arrived k ≡ true) → HaveEnded T
  barrier k left sent step on later = ended-still S T step.setting step.nodes (λ all. ap (λ (x : Barrier). all_arrived x) step.keeper ∙ later all) inv.ended
