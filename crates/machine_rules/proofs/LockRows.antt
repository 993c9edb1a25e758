-- The rows of locks after each event.
use Rattle.std.proofs.Common.{◌≡◌, ℕ, ◌==◌, ◌&&◌, ◌||◌, not, Bool, true, false, cond, slice_get, Option, Some, None, refl, ap, subst, ◌∙◌, arith}
use Rattle.std.proofs.lemmas.Bool.{eqb-true}
use Rattle.std.proofs.lemmas.Bool.Decides.{nat_tests}
use Rattle.dn_base.specs.declared.ids.CoreId.{CoreId}
use Rattle.dn_base.specs.declared.ids.LockId.{LockId}
use Rattle.dn_base.specs.declared.ids.BankId.{BankId}
use Rattle.rv_core.specs.Access.{is_held}
use Rattle.write_signature.specs.declared.signature.Signature.{Signature}
use Rattle.message_net.specs.declared.actor.Actor.TheVariants.{Core, Bank}
use Rattle.message_net.specs.declared.message.Message.TheVariants.{Acquire, Release, Grant}
use Rattle.message_net.specs.declared.message.Outgoing.{Outgoing}
use Rattle.registration_protocol.specs.Node.{NodeParts}
use Rattle.registration_protocol.specs.Parts.{held_locks}
use Rattle.machine_rules.specs.State.{State, lock_at}
use Rattle.machine_rules.specs.Flight.{bit, is_acquire_of, is_release_of, is_grant_to}
use Rattle.machine_rules.specs.Coherent.{holds_lock, has_lock, is_locking, node_is_locking, queued_in, holder_in}
use Rattle.machine_rules.proofs.Invariant.{LocksGood, LockRow, lock_counts}
use Rattle.machine_rules.proofs.Steps.{NodeStep}
use Rattle.machine_rules.proofs.WordEvents.{Flown, Balance}
use Rattle.machine_rules.proofs.WordCore.{same-number}

abbrev pub LockFlows : State → State → Option Outgoing → Option Outgoing → ℕ → ℕ → Type 0
LockFlows S T left sent l c = Balance S T left sent (is_acquire_of l c) × Balance S T left sent (is_release_of l c) × Balance S T left sent (is_grant_to l c)

pub lock-flows : (S T : State) (left sent : Option Outgoing) → Flown S T left sent → (l c : ℕ) → LockFlows S T left sent l c
lock-flows S T left sent flown l c = (flown (is_acquire_of l c), flown (is_release_of l c), flown (is_grant_to l c))

-- a core's event: what its node holds and waits for afterwards; the locks' homes have no part in it
pub record LockCore (S T : State) (core : ℕ) (n m : NodeParts) (left sent : Option Outgoing) : Type 0 where
  pub holding : (l d : ℕ) → bit (has_lock T d l) ≡ cond (core == d) (bit (is_held (held_locks m.task) l)) (bit (has_lock S d l))
  pub waiting : (l d : ℕ) → bit (node_is_locking l (slice_get T.nodes d)) ≡ cond (core == d) (bit (is_locking l m.waiting)) (bit (node_is_locking l (slice_get S.nodes d)))
  pub held : (l : ℕ) → bit (has_lock S core l) ≡ bit (is_held (held_locks n.task) l)
  pub waited : (l : ℕ) → bit (node_is_locking l (slice_get S.nodes core)) ≡ bit (is_locking l n.waiting)
  pub locks : (l : ℕ) → lock_at T l ≡ lock_at S l
  pub flows : (l c : ℕ) → LockFlows S T left sent l c

pub lock-core : (S T : State) {core : ℕ} {n m : NodeParts} {left sent : Option Outgoing} → NodeStep S T core n m left sent → LockCore S T core n m left sent
lock-core S T {core = core} {n = n} {m = m} {left = left} {sent = sent} step =
    record {
      holding = λ l d. by_holding l d (core == d) refl;
      waiting = λ l d. by_waiting l d (core == d) refl;
      held = λ l. ap (λ (o : Option NodeParts). bit (holds_lock l o)) step.found;
      waited = λ l. ap (λ (o : Option NodeParts). bit (node_is_locking l o)) step.found;
      locks = λ l. rw (step.setting, step.banks) refl;
      flows = lock-flows S T left sent step.flown;
    }
  where
    by_holding : (l d : ℕ) (x : Bool) → (core == d) ≡ x → bit (has_lock T d l) ≡ cond x (bit (is_held (held_locks m.task) l)) (bit (has_lock S d l))
    by_holding l d true e = ap (λ (o : Option NodeParts). bit (holds_lock l o)) (rw (e) at (step.nodes d))
    by_holding l d false e = ap (λ (o : Option NodeParts). bit (holds_lock l o)) (rw (e) at (step.nodes d))

    by_waiting : (l d : ℕ) (x : Bool) → (core == d) ≡ x → bit (node_is_locking l (slice_get T.nodes d)) ≡ cond x (bit (is_locking l m.waiting)) (bit (node_is_locking l (slice_get S.nodes d)))
    by_waiting l d true e = ap (λ (o : Option NodeParts). bit (node_is_locking l o)) (rw (e) at (step.nodes d))
    by_waiting l d false e = ap (λ (o : Option NodeParts). bit (node_is_locking l o)) (rw (e) at (step.nodes d))

-- the rows of the core itself and of the others
core-rows : (S T : State) (core : ℕ) (n m : NodeParts) (left sent : Option Outgoing) → LockCore S T core n m left sent → LocksGood S
    → ((l : ℕ) → LockRow (lock_counts T l core)) → ((l d : ℕ) → (core == d) ≡ false → LockFlows S T None None l d) → (l d : ℕ) → LockRow (lock_counts T l d)
core-rows S T core n m left sent h g own aside l d = by_test (core == d) refl where
  by_test : (x : Bool) → (core == d) ≡ x → LockRow (lock_counts T l d)
  by_test true e = subst (λ (c : ℕ). LockRow (lock_counts T l c)) (eqb-true core d e) (own l)
  by_test false e =
      let holding = rw (e) at (h.holding l d) in
      let waiting = rw (e) at (h.waiting l d) in
      omega (arith, g.row l d, aside l d e, holding, waiting, ap (queued_in d) (h.locks l), ap (holder_in d) (h.locks l))

-- nothing that concerns locks changes
pub quiet-rows : (S T : State) (core : ℕ) (n m : NodeParts) (left sent : Option Outgoing) → LockCore S T core n m left sent → LocksGood S
    → ((l : ℕ) → is_held (held_locks m.task) l ≡ is_held (held_locks n.task) l) → ((l : ℕ) → is_locking l m.waiting ≡ is_locking l n.waiting)
    → ((l d : ℕ) → LockFlows S T None None l d) → (l d : ℕ) → LockRow (lock_counts T l d)
quiet-rows S T core n m left sent h g held waits aside =
    core-rows S T core n m left sent h g own (λ l d e. aside l d)
  where
    own : (l : ℕ) → LockRow (lock_counts T l core)
    own l =
        let holding = rw (same-number core) at (h.holding l core) in
        let waiting = rw (same-number core) at (h.waiting l core) in
        omega (arith, g.row l core, aside l core, holding, waiting, h.held l, h.waited l, ap bit (held l), ap bit (waits l), ap (queued_in core) (h.locks l), ap (holder_in core) (h.locks l))

-- the core asks for a lock
pub acquire-rows : (S T : State) (core : CoreId) (n : NodeParts) (m : NodeParts) (lock : LockId) (bank : BankId)
    → LockCore S T core.0 n m None (Some (record { to = Bank bank; message = Acquire lock core })) → LocksGood S
    → ((l : ℕ) → is_held (held_locks m.task) l ≡ is_held (held_locks n.task) l) → ((l : ℕ) → is_locking l n.waiting ≡ false) → ((l : ℕ) → is_locking l m.waiting ≡ (lock.0 == l))
    → (l d : ℕ) → LockRow (lock_counts T l d)
acquire-rows S T core n m lock bank h g held before after =
    core-rows S T core.0 n m None (Some (record { to = Bank bank; message = Acquire lock core })) h g own aside
  where
    aside : (l d : ℕ) → (core.0 == d) ≡ false → LockFlows S T None None l d
    aside l d e = by_lock (lock.0 == l) refl where
      by_lock : (x : Bool) → (lock.0 == l) ≡ x → LockFlows S T None None l d
      by_lock true f = rw (f, e) at (h.flows l d)
      by_lock false f = rw (f) at (h.flows l d)

    own : (l : ℕ) → LockRow (lock_counts T l core.0)
    own l = by_lock (lock.0 == l) refl where
      by_lock : (x : Bool) → (lock.0 == l) ≡ x → LockRow (lock_counts T l core.0)
      by_lock x f =
          let holding = rw (same-number core.0) at (h.holding l core.0) in
          let waiting = rw (same-number core.0) at (h.waiting l core.0) in
          let moved = rw (same-number core.0) at (h.flows l core.0) in
          grind (arith, nat_tests, g.row l core.0, moved, holding, waiting, h.held l, h.waited l, ap bit (held l), ap bit (before l), ap bit (after l), ap (queued_in core.0) (h.locks l), ap (holder_in core.0) (h.locks l))

-- the core gives a lock up
pub release-rows : (S T : State) (core : CoreId) (n m : NodeParts) (lock : LockId) (s : Signature) (bank : BankId)
    → LockCore S T core.0 n m None (Some (record { to = Bank bank; message = Release lock core s })) → LocksGood S
    → is_held (held_locks n.task) lock.0 ≡ true → ((l : ℕ) → is_held (held_locks m.task) l ≡ (not (l == lock.0) && is_held (held_locks n.task) l)) → ((l : ℕ) → is_locking l m.waiting ≡ is_locking l n.waiting)
    → (l d : ℕ) → LockRow (lock_counts T l d)
release-rows S T core n m lock s bank h g had held waits =
    core-rows S T core.0 n m None (Some (record { to = Bank bank; message = Release lock core s })) h g own aside
  where
    aside : (l d : ℕ) → (core.0 == d) ≡ false → LockFlows S T None None l d
    aside l d e = by_lock (lock.0 == l) refl where
      by_lock : (x : Bool) → (lock.0 == l) ≡ x → LockFlows S T None None l d
      by_lock true f = rw (f, e) at (h.flows l d)
      by_lock false f = rw (f) at (h.flows l d)

    own : (l : ℕ) → LockRow (lock_counts T l core.0)
    own l = by_lock (lock.0 == l) refl where
      by_lock : (x : Bool) → (lock.0 == l) ≡ x → LockRow (lock_counts T l core.0)
      by_lock true f =
          let same : lock.0 ≡ l = eqb-true lock.0 l f in
          let turned : (l == lock.0) ≡ true = grind (arith, nat_tests, f) in
          let holding = rw (same-number core.0) at (h.holding l core.0) in
          let waiting = rw (same-number core.0) at (h.waiting l core.0) in
          let moved = rw (f, same-number core.0) at (h.flows l core.0) in
          let after : is_held (held_locks m.task) l ≡ false = rw (turned) at (held l) in
          let here : is_held (held_locks n.task) l ≡ true = subst (λ (x : ℕ). is_held (held_locks n.task) x ≡ true) same had in
          omega (arith, g.row l core.0, moved, holding, waiting, h.held l, h.waited l, ap bit after, ap bit here, ap bit (waits l), ap (queued_in core.0) (h.locks l), ap (holder_in core.0) (h.locks l))
      by_lock false f =
          let turned : (l == lock.0) ≡ false = grind (arith, nat_tests, f) in
          let holding = rw (same-number core.0) at (h.holding l core.0) in
          let waiting = rw (same-number core.0) at (h.waiting l core.0) in
          let moved = rw (f) at (h.flows l core.0) in
          let after : is_held (held_locks m.task) l ≡ is_held (held_locks n.task) l = rw (turned) at (held l) in
          omega (arith, g.row l core.0, moved, holding, waiting, h.held l, h.waited l, ap bit after, ap bit (waits l), ap (queued_in core.0) (h.locks l), ap (holder_in core.0) (h.locks l))

-- the core gets a lock
pub grant-rows : (S T : State) (core : CoreId) (n m : NodeParts) (lock : LockId) (s : Signature)
    → LockCore S T core.0 n m (Some (record { to = Core core; message = Grant lock s })) None → LocksGood S
    → is_held (held_locks n.task) lock.0 ≡ false → ((l : ℕ) → is_held (held_locks m.task) l ≡ ((l == lock.0) || is_held (held_locks n.task) l))
    → ((l : ℕ) → is_locking l n.waiting ≡ (lock.0 == l)) → ((l : ℕ) → is_locking l m.waiting ≡ false)
    → (l d : ℕ) → LockRow (lock_counts T l d)
grant-rows S T core n m lock s h g had held before after =
    core-rows S T core.0 n m (Some (record { to = Core core; message = Grant lock s })) None h g own aside
  where
    aside : (l d : ℕ) → (core.0 == d) ≡ false → LockFlows S T None None l d
    aside l d e = by_lock (lock.0 == l) refl where
      by_lock : (x : Bool) → (lock.0 == l) ≡ x → LockFlows S T None None l d
      by_lock true f = rw (f, e) at (h.flows l d)
      by_lock false f = rw (f) at (h.flows l d)

    own : (l : ℕ) → LockRow (lock_counts T l core.0)
    own l = by_lock (lock.0 == l) refl where
      by_lock : (x : Bool) → (lock.0 == l) ≡ x → LockRow (lock_counts T l core.0)
      by_lock true f =
          let same : lock.0 ≡ l = eqb-true lock.0 l f in
          let turned : (l == lock.0) ≡ true = grind (arith, nat_tests, f) in
          let holding = rw (same-number core.0) at (h.holding l core.0) in
          let waiting = rw (same-number core.0) at (h.waiting l core.0) in
          let moved = rw (f, same-number core.0) at (h.flows l core.0) in
          let now : is_held (held_locks m.task) l ≡ true = rw (turned) at (held l) in
          let here : is_held (held_locks n.task) l ≡ false = subst (λ (x : ℕ). is_held (held_locks n.task) x ≡ false) same had in
          let waits : is_locking l n.waiting ≡ true = before l ∙ f in
          omega (arith, g.row l core.0, moved, holding, waiting, h.held l, h.waited l, ap bit now, ap bit here, ap bit waits, ap bit (after l), ap (queued_in core.0) (h.locks l), ap (holder_in core.0) (h.locks l))
      by_lock false f =
          let turned : (l == lock.0) ≡ false = grind (arith, nat_tests, f) in
          let holding = rw (same-number core.0) at (h.holding l core.0) in
          let waiting = rw (same-number core.0) at (h.waiting l core.0) in
          let moved = rw (f) at (h.flows l core.0) in
          let now : is_held (held_locks m.task) l ≡ is_held (held_locks n.task) l = rw (turned) at (held l) in
          let waits : is_locking l n.waiting ≡ false = before l ∙ f in
          omega (arith, g.row l core.0, moved, holding, waiting, h.held l, h.waited l, ap bit now, ap bit waits, ap bit (after l), ap (queued_in core.0) (h.locks l), ap (holder_in core.0) (h.locks l))
