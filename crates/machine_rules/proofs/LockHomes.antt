-- The rows of locks after what a lock's home does.
use Rattle.std.proofs.Common.{◌≡◌, ℕ, ◌==◌, Bool, true, false, cond, List, [], ◌∷◌, ◌++◌, slice_get, Option, Some, None, refl, ap, subst, ◌∙◌, arith}
use Rattle.std.proofs.lemmas.Bool.{eqb-true}
use Rattle.dn_base.specs.declared.ids.CoreId.{CoreId}
use Rattle.dn_base.specs.declared.ids.LockId.{LockId}
use Rattle.dn_base.specs.declared.ids.BankId.{BankId}
use Rattle.write_signature.specs.declared.signature.Signature.{Signature}
use Rattle.message_net.specs.declared.actor.Actor.TheVariants.{Core, Bank}
use Rattle.message_net.specs.declared.message.Message.TheVariants.{Acquire, Release, Grant}
use Rattle.message_net.specs.declared.message.Outgoing.{Outgoing}
use Rattle.queue_lock.specs.Lock.{Lock, times_queued, holder_count}
use Rattle.queue_lock.proofs.LockLemmas.{places_of-cons, places_of-push}
use Rattle.machine_rules.specs.State.{State, lock_at}
use Rattle.machine_rules.specs.Flight.{bit}
use Rattle.machine_rules.specs.Coherent.{has_lock, node_is_locking, queued_in, holder_in}
use Rattle.machine_rules.proofs.Invariant.{LocksGood, LockRow, lock_counts}
use Rattle.machine_rules.proofs.WordCore.{same-number}
use Rattle.machine_rules.proofs.LockRows.{LockFlows}

-- an event of the home of a lock, whose state was h and is k afterwards
pub record LockHome (S T : State) (lock : LockId) (h k : Lock) (left sent : Option Outgoing) : Type 0 where
  pub was : lock_at S lock.0 ≡ Some h
  pub now : (l : ℕ) → lock_at T l ≡ cond (lock.0 == l) (Some k) (lock_at S l)
  pub holding : (l d : ℕ) → bit (has_lock T d l) ≡ bit (has_lock S d l)
  pub waiting : (l d : ℕ) → bit (node_is_locking l (slice_get T.nodes d)) ≡ bit (node_is_locking l (slice_get S.nodes d))
  pub flows : (l d : ℕ) → LockFlows S T left sent l d
  -- no mail of another lock comes or goes
  pub aside : (l d : ℕ) → (lock.0 == l) ≡ false → LockFlows S T None None l d

home-rows : (S T : State) (lock : LockId) (h k : Lock) (left sent : Option Outgoing) → LockHome S T lock h k left sent → LocksGood S
    → ((d : ℕ) → LockRow (lock_counts T lock.0 d)) → (l d : ℕ) → LockRow (lock_counts T l d)
home-rows S T lock h k left sent e g own l d = by_lock (lock.0 == l) refl where
  by_lock : (x : Bool) → (lock.0 == l) ≡ x → LockRow (lock_counts T l d)
  by_lock true f = subst (λ (x : ℕ). LockRow (lock_counts T x d)) (eqb-true lock.0 l f) (own d)
  by_lock false f =
      let now = rw (f) at (e.now l) in
      omega (arith, g.row l d, e.aside l d f, e.holding l d, e.waiting l d, ap (queued_in d) now, ap (holder_in d) now)

-- a free lock is the asking core's
pub free-rows : (S T : State) (lock : LockId) (core : CoreId) (bank : BankId) (s : Signature) (h k : Lock)
    → LockHome S T lock h k (Some (record { to = Bank bank; message = Acquire lock core })) (Some (record { to = Core core; message = Grant lock s })) → LocksGood S
    → h.holder ≡ None → k.holder ≡ Some core → k.queue ≡ h.queue → (l d : ℕ) → LockRow (lock_counts T l d)
free-rows S T lock core bank s h k e g free has queue = home-rows S T lock h k _ _ e g own where
  own : (d : ℕ) → LockRow (lock_counts T lock.0 d)
  own d = by_core (core.0 == d) refl where
    by_core : (x : Bool) → (core.0 == d) ≡ x → LockRow (lock_counts T lock.0 d)
    by_core x f =
        let now = rw (same-number lock.0) at (e.now lock.0) in
        let moved = rw (same-number lock.0, f) at (e.flows lock.0 d) in
        let holder = rw (f) at (ap (holder_count d) has) in
        omega (arith, g.row lock.0 d, moved, e.holding lock.0 d, e.waiting lock.0 d, ap (queued_in d) now, ap (holder_in d) now, ap (queued_in d) e.was, ap (holder_in d) e.was, ap (holder_count d) free, holder, ap (times_queued d) queue)

-- the asking core stands behind the others
pub held-rows : (S T : State) (lock : LockId) (core : CoreId) (bank : BankId) (h k : Lock)
    → LockHome S T lock h k (Some (record { to = Bank bank; message = Acquire lock core })) None → LocksGood S
    → k.holder ≡ h.holder → k.queue ≡ h.queue ++ core ∷ [] → (l d : ℕ) → LockRow (lock_counts T l d)
held-rows S T lock core bank h k e g has queue = home-rows S T lock h k _ _ e g own where
  own : (d : ℕ) → LockRow (lock_counts T lock.0 d)
  own d = by_core (core.0 == d) refl where
    by_core : (x : Bool) → (core.0 == d) ≡ x → LockRow (lock_counts T lock.0 d)
    by_core x f =
        let now = rw (same-number lock.0) at (e.now lock.0) in
        let moved = rw (same-number lock.0, f) at (e.flows lock.0 d) in
        let behind = rw (f) at (ap (times_queued d) queue ∙ places_of-push d h.queue core) in
        omega (arith, g.row lock.0 d, moved, e.holding lock.0 d, e.waiting lock.0 d, ap (queued_in d) now, ap (holder_in d) now, ap (queued_in d) e.was, ap (holder_in d) e.was, ap (holder_count d) has, behind)

-- the holder gives the lock up, and nobody waits
pub last-rows : (S T : State) (lock : LockId) (core : CoreId) (s : Signature) (bank : BankId) (h k : Lock)
    → LockHome S T lock h k (Some (record { to = Bank bank; message = Release lock core s })) None → LocksGood S
    → h.holder ≡ Some core → k.holder ≡ None → k.queue ≡ h.queue → (l d : ℕ) → LockRow (lock_counts T l d)
last-rows S T lock core s bank h k e g had none queue = home-rows S T lock h k _ _ e g own where
  own : (d : ℕ) → LockRow (lock_counts T lock.0 d)
  own d = by_core (core.0 == d) refl where
    by_core : (x : Bool) → (core.0 == d) ≡ x → LockRow (lock_counts T lock.0 d)
    by_core x f =
        let now = rw (same-number lock.0) at (e.now lock.0) in
        let moved = rw (same-number lock.0, f) at (e.flows lock.0 d) in
        let holder = rw (f) at (ap (holder_count d) had) in
        omega (arith, g.row lock.0 d, moved, e.holding lock.0 d, e.waiting lock.0 d, ap (queued_in d) now, ap (holder_in d) now, ap (queued_in d) e.was, ap (holder_in d) e.was, ap (holder_count d) none, holder, ap (times_queued d) queue)

-- the holder gives the lock up, and the first that waits gets it
pub on-rows : (S T : State) (lock : LockId) (core waiter : CoreId) (others : List CoreId) (s t : Signature) (bank : BankId) (h k : Lock)
    → LockHome S T lock h k (Some (record { to = Bank bank; message = Release lock core s })) (Some (record { to = Core waiter; message = Grant lock t })) → LocksGood S
    → h.holder ≡ Some core → k.holder ≡ Some waiter → h.queue ≡ waiter ∷ others → k.queue ≡ others → (l d : ℕ) → LockRow (lock_counts T l d)
on-rows S T lock core waiter others s t bank h k e g had has first rest = home-rows S T lock h k _ _ e g own where
  own : (d : ℕ) → LockRow (lock_counts T lock.0 d)
  own d = by_core (core.0 == d) refl (waiter.0 == d) refl where
    by_core : (x : Bool) → (core.0 == d) ≡ x → (y : Bool) → (waiter.0 == d) ≡ y → LockRow (lock_counts T lock.0 d)
    by_core x f y i =
        let now = rw (same-number lock.0) at (e.now lock.0) in
        let moved = rw (same-number lock.0, f, i) at (e.flows lock.0 d) in
        let before = rw (f) at (ap (holder_count d) had) in
        let after = rw (i) at (ap (holder_count d) has) in
        let front = rw (i) at (ap (times_queued d) first ∙ places_of-cons d waiter others) in
        omega (arith, g.row lock.0 d, moved, e.holding lock.0 d, e.waiting lock.0 d, ap (queued_in d) now, ap (holder_in d) now, ap (queued_in d) e.was, ap (holder_in d) e.was, before, after, front, ap (times_queued d) rest)
