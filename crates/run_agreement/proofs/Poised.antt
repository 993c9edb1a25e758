-- In a poised state each core that goes on wants a lock: it may acquire it, or waits for it. Without such a core the run is over.
use Rattle.std.proofs.Common.{◌≡◌, ◌⊎◌, inl, inr, ℕ, Bool, true, false, List, ◌++◌, slice_get, sum_by, Some, refl, ap, subst}
use Rattle.dn_base.specs.declared.ids.LockId.{LockId}
use Rattle.rv_core.specs.declared.need.Need as need
use Rattle.message_net.specs.declared.event.Event.{Event}
use Rattle.registration_protocol.specs.declared.node.NodeWait as wait
use Rattle.registration_protocol.specs.Node.{NodeParts, Setting, need_now, is_active}
use Rattle.registration_protocol.specs.OwnEvents.{may_instr, IsStill}
use Rattle.machine_rules.specs.State.{State, initial_state}
use Rattle.machine_rules.specs.Sound.{IsReady}
use Rattle.machine_rules.specs.Flight.{mail_count}
use Rattle.machine_rules.specs.Runs.{after, IsRun, IsOver}
use Rattle.machine_rules.proofs.Invariant.{Invariant}
use Rattle.machine_rules.proofs.RunsKept.{memory_over}
use Rattle.machine_rules.proofs.RunsCoherent.{first_memory, run-all}
use Rattle.machine_rules.proofs.RestNodes.{IsQuiet, IsIdle, waits-lock}
use Rattle.run_agreement.specs.Reached.{AcquiresNothing, StandsAtLocks, IsOverButForLocks, ComesToLocks}
use Rattle.run_agreement.proofs.Appending.{after-append, run-append}
use Rattle.run_agreement.proofs.Growing.{Grows, Chooses}
use Rattle.run_agreement.proofs.Choosing.{choose-poised, grow-poised, IsPoised, EachIs, IsThere, each-or, still-over}

pub poised-quiet : (S : State) → IsPoised S → IsQuiet S
poised-quiet S p test = ap (sum_by (mail_count test)) p.empty

-- a node that goes on
pub record IsOpen (S : State) (c : ℕ) (n : NodeParts) : Type 0 where
  pub found : slice_get S.nodes c ≡ Some n
  pub awake : n.halted ≡ false
  pub absent : n.arrived ≡ false

-- it wants a lock, and may acquire it or waits for it
pub record Wants (S : State) (n : NodeParts) : Type 0 where
  pub lock : LockId
  pub needs : need_now S.setting n ≡ Some (need.TheVariants.Acquire lock)
  pub way : (may_instr S.setting n ≡ true) ⊎ (n.waiting ≡ wait.TheVariants.Locking lock)

pub idle-node : (S : State) (M : ℕ → ℕ) (c : ℕ) (n : NodeParts) → Invariant S M → IsPoised S → IsOpen S c n → may_instr S.setting n ≡ false → IsIdle S M c n
idle-node S M c n inv p o never =
    record {
      inv = inv;
      quiet = poised-quiet S p;
      found = o.found;
      awake = o.awake;
      absent = o.absent;
      instr = never;
      evict = (p.nodes c n o.found).evict;
      arrive = (p.nodes c n o.found).arrive;
    }

pub open-wants : (S : State) (M : ℕ → ℕ) (c : ℕ) (n : NodeParts) → Invariant S M → IsPoised S → IsOpen S c n → Wants S n
open-wants S M c n inv p o = by_instr (may_instr S.setting n) refl (p.nodes c n o.found).instr where
  waits : may_instr S.setting n ≡ false → Wants S n
  waits never =
      let at = waits-lock S M c n (idle-node S M c n inv p o never) in
      record { lock = at.0; needs = rw (at.1) at ((inv.machine.node c n o.found).fits).waiting; way = inr at.1 }

  by_instr : (b : Bool) → may_instr S.setting n ≡ b → (may_instr S.setting n ≡ false) ⊎ ((lock : LockId) × (need_now S.setting n ≡ Some (need.TheVariants.Acquire lock))) → Wants S n
  by_instr false never rest = waits never
  by_instr true may (inl never) = absurd (cc)
  by_instr true may (inr (lock, needs)) = record { lock = lock; needs = needs; way = inl may }

-- ---- over

abbrev GoesOn : NodeParts → Type 0
GoesOn n = (n.halted ≡ false) × (n.arrived ≡ false)

inactive-still : (C : Setting) (n : NodeParts) → is_active n ≡ false → IsStill C n
inactive-still C n off = record { instr = rw (off) refl; evict = λ w. rw (off) refl; arrive = rw (off) refl }

still-or : (C : Setting) (n : NodeParts) → IsStill C n ⊎ GoesOn n
still-or C n = by_marks n.halted refl n.arrived refl where
  by_marks : (x : Bool) → n.halted ≡ x → (y : Bool) → n.arrived ≡ y → IsStill C n ⊎ GoesOn n
  by_marks true e y f = inl (inactive-still C n (rw (e) refl))
  by_marks false e true f = inl (inactive-still C n (rw (e, f) refl))
  by_marks false e false f = inr (e, f)

pub record SomeOpen (S : State) : Type 0 where
  pub core : ℕ
  pub node : NodeParts
  pub open' : IsOpen S core node

-- a poised state is over, or some core goes on
pub over-or-open : (S : State) → IsPoised S → IsOver S ⊎ SomeOpen S
over-or-open S p = by_nodes (each-or S.nodes (IsStill S.setting) GoesOn (λ c n found. still-or S.setting n)) where
  by_nodes : EachIs S.nodes (IsStill S.setting) ⊎ IsThere S.nodes GoesOn → IsOver S ⊎ SomeOpen S
  by_nodes (inl all) = inl (still-over S p.empty all)
  by_nodes (inr t) = inr (record { core = t.place; node = t.node; open' = record { found = t.found; awake = t.kind.0; absent = t.kind.1 } })

-- ---- progress

at-locks : (S : State) (M : ℕ → ℕ) → Invariant S M → IsPoised S → StandsAtLocks S
at-locks S M inv p = record { empty = p.empty; wants = λ c n found awake absent. wants c n (record { found = found; awake = awake; absent = absent }) } where
  wants : (c : ℕ) (n : NodeParts) → IsOpen S c n → (lock : LockId) × (need_now S.setting n ≡ Some (need.TheVariants.Acquire lock))
  wants c n o = let w = open-wants S M c n inv p o in (w.lock, w.needs)

-- where nothing but acquires may come
pub stops-at : (C : Setting) (events : List Event) → IsReady C → IsRun (initial_state C) events → IsOverButForLocks (after (initial_state C) events) → StandsAtLocks (after (initial_state C) events)
stops-at C events ready run over = by_choice (choose-poised S M inv) where
  S : State
  S = after (initial_state C) events

  M : ℕ → ℕ
  M = memory_over (first_memory C) (initial_state C) events

  inv : Invariant S M
  inv = (run-all C events ready run).1

  by_choice : Chooses AcquiresNothing IsPoised S → StandsAtLocks S
  by_choice (inl p) = at-locks S M inv p
  by_choice (inr (e, may, fine)) = let never = over e fine in absurd (cc)

-- a run without acquires leads there
pub to-locks : (C : Setting) (events : List Event) → IsReady C → IsRun (initial_state C) events → ComesToLocks (after (initial_state C) events)
to-locks C events ready run = record { events = g.events; run = g.run; others = g.fine; at_locks = at-locks (after S g.events) (memory_over (first_memory C) (initial_state C) (events ++ g.events)) inv g.done } where
  S : State
  S = after (initial_state C) events

  g : Grows S AcquiresNothing IsPoised
  g = grow-poised C events ready run

  inv : Invariant (after S g.events) (memory_over (first_memory C) (initial_state C) (events ++ g.events))
  inv =
      subst (λ (x : State). Invariant x (memory_over (first_memory C) (initial_state C) (events ++ g.events))) (after-append (initial_state C) events g.events)
      (run-all C (events ++ g.events) ready (run-append (initial_state C) events g.events run g.run)).1
