-- A lock whose grant is in flight is held by no task.
use Rattle.std.proofs.Common.{◌≡◌, ◌⊎◌, inl, inr, ℕ, ◌<◌, ◌≤◌, true, slice_get, Option, Some, None, refl, sym, ap, subst, ◌∙◌, arith}
use Rattle.std.proofs.lemmas.Bool.Decides.{nat_tests}
use Rattle.dn_base.specs.declared.ids.CoreId.{CoreId}
use Rattle.region_table.specs.declared.declared.Phase.{Phase}
use Rattle.rv_core.specs.declared.task.TaskState.{TaskState}
use Rattle.rv_core.specs.Task.{started}
use Rattle.rv_core.specs.Access.{is_held}
use Rattle.rv_core.proofs.HeldLemmas.{holds-none}
use Rattle.flat_machine.proofs.Rights.{both-ways}
use Rattle.run_agreement.specs.Cores.{IsFreeAmong}
use Rattle.queue_lock.specs.Lock.{Lock, holder_count}
use Rattle.registration_protocol.specs.Node.{NodeParts}
use Rattle.machine_rules.specs.State.{State, lock_at}
use Rattle.machine_rules.specs.Flight.{bit, flight, is_grant_to}
use Rattle.machine_rules.specs.Coherent.{has_lock, holder_in}
use Rattle.machine_rules.proofs.Exclusive.{one-holder}
use Rattle.machine_rules.proofs.Invariant.{Invariant}
use Rattle.run_agreement.specs.Agreed.{States, Loads, stands, AreShown}
use Rattle.run_agreement.proofs.Nodes.{node-there, HasIt, stands-or}

-- a lock has one holder at the most
holder-once : (o : Option Lock) (c : ℕ) → holder_in c o ≤ 1
holder-once None c = omega arith
holder-once (Some h) c = by_holder h.holder where
  by_holder : (o : Option CoreId) → holder_count c o ≤ 1
  by_holder None = omega arith
  by_holder (Some x) = grind (arith, nat_tests)

pub granted-free : (S : State) (M : ℕ → ℕ) (K : States) (L : Loads) (p : Phase) (lock core : ℕ) → Invariant S M → AreShown S K L → slice_get S.setting.program.phases S.keeper.phase ≡ Some p → 1 ≤ flight S (is_grant_to lock core)
    → IsFreeAmong p (stands K L S.keeper.phase) lock
granted-free S M K L p lock core inv shown there some e among held = by_node (node-there S M S.keeper.phase p e inv there among) where
  by_core : (n : NodeParts) → slice_get S.nodes e.core.0 ≡ Some n → (t : TaskState) → n.task ≡ Some t → is_held t.held lock ≡ true → ⊥
  by_core n found t has holds_it =
      let one : bit (has_lock S e.core.0 lock) ≡ 1 = rw (found, has, holds_it) refl in
      let same : e.core.0 ≡ core = one-holder (lock_at S lock) e.core.0 core (omega (arith, one, inv.locks.row lock e.core.0)) (omega (arith, some, inv.locks.row lock core)) in
      let here : bit (has_lock S core lock) ≡ 1 = subst (λ (c : ℕ). bit (has_lock S c lock) ≡ 1) same one in
      omega (arith, here, some, inv.locks.row lock core, holder-once (lock_at S lock) core)

  by_ways : (n : NodeParts) → slice_get S.nodes e.core.0 ≡ Some n → HasIt S K e n ⊎ ((n.phase < S.keeper.phase) × (K S.keeper.phase e.core.0 ≡ started e)) → ⊥
  by_ways n found (inl it) = by_core n found it.task it.has (sym (ap (λ (t : TaskState). is_held t.held lock) it.is) ∙ held)
  by_ways n found (inr before) = both-ways (is_held 0 lock) (holds-none lock) (sym (ap (λ (t : TaskState). is_held t.held lock) before.1) ∙ held)

  by_node : (n : NodeParts) × (slice_get S.nodes e.core.0 ≡ Some n) → ⊥
  by_node (n, found) = by_ways n found (stands-or S M K L p e n inv shown there among found)
