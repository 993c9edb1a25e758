-- What a run without acquires grants: nothing if nobody waits for a lock, and at most one lock if one core waits.
use Rattle.std.proofs.Common.{◌≡◌, ◌≢◌, ◌⊎◌, inl, inr, ℕ, ◌+◌, ◌==◌, Bool, true, false, cond, List, [], ◌∷◌, Some, None, refl, sym, ap, ◌∙◌}
use Rattle.std.proofs.lemmas.Bool.{eqb-true, eqb-false}
use Rattle.std.proofs.lemmas.Option.{none-some, same_Some}
use Rattle.dn_base.specs.declared.ids.LockId.{LockId}
use Rattle.dn_base.specs.declared.ids.Grant.{Grant}
use Rattle.message_net.specs.declared.event.Event.{Event}
use Rattle.machine_rules.specs.State.{State}
use Rattle.machine_rules.specs.Sound.{IsSound}
use Rattle.machine_rules.specs.Next.{next, granted_in}
use Rattle.machine_rules.specs.Memory.{store_in}
use Rattle.machine_rules.specs.Runs.{after, IsRun, grants_of}
use Rattle.machine_rules.proofs.Invariant.{Invariant}
use Rattle.machine_rules.proofs.Outcomes.{stored_to}
use Rattle.machine_rules.proofs.SoundEvents.{sound-next}
use Rattle.machine_rules.proofs.Kept.{kept}
use Rattle.run_agreement.specs.Reached.{AcquiresNothing, AllAlong}
use Rattle.run_agreement.proofs.Waits.{awaited_by, KeepsWaits, TakesLock, event-goes}

-- nobody waits for a lock
abbrev pub NobodyWaits : State → Type 0
NobodyWaits S = (c : ℕ) → awaited_by S c ≡ None

-- one core waits for a lock, and no other core for any
pub record OnlyWaits (S : State) (core : ℕ) (lock : LockId) : Type 0 where
  pub own : awaited_by S core ≡ Some lock
  pub others : (c : ℕ) → c ≢ core → awaited_by S c ≡ None

-- ---- nobody waits

pub record GrantsNone (S : State) (events : List Event) : Type 0 where
  pub free : NobodyWaits (after S events)
  pub none : grants_of S events ≡ []

none-taken : (S : State) (e : Event) → NobodyWaits S → TakesLock S e → ⊥
none-taken S e free t = none-some t.lock (sym (free t.core) ∙ t.was)

none-first : (S : State) (e : Event) (es : List Event) → granted_in S e ≡ None → GrantsNone (next S e) es → GrantsNone S (e ∷ es)
none-first S e es told rest = record { free = rest.free; none = rw (told) rest.none }

pub free-run : (S : State) (M : ℕ → ℕ) (made : ℕ) (events : List Event) → IsSound S made → Invariant S M → IsRun S events → AllAlong AcquiresNothing S events → NobodyWaits S → GrantsNone S events
free-run S M made [] sound inv run fine free = record { free = free; none = refl }
free-run S M made (e ∷ es) sound inv run fine free = by_way (event-goes S M e inv run.0 fine.0) (free-run (next S e) (stored_to (store_in S e) M) (made + 1) es later (kept S M e inv run.0 later.machine) run.1 fine.1) where
  later : IsSound (next S e) (made + 1)
  later = sound-next S made e sound run.0

  by_way : KeepsWaits S e ⊎ TakesLock S e → (NobodyWaits (next S e) → GrantsNone (next S e) es) → GrantsNone S (e ∷ es)
  by_way (inl k) rest = none-first S e es k.told (rest (λ c. k.same c ∙ free c))
  by_way (inr t) rest = absurd (none-taken S e free t)

-- ---- one core waits

-- it waits still and nothing was granted; or it was granted the lock, nothing else was, and nobody waits
pub record GrantsOne (S : State) (events : List Event) (core : ℕ) (lock : LockId) : Type 0 where
  pub free : NobodyWaits (after S events)
  pub phase : ℕ
  pub one : grants_of S events ≡ record { phase = record { 0 = phase }; core = record { 0 = core }; lock = lock } ∷ []

pub record GrantsNotYet (S : State) (events : List Event) (core : ℕ) (lock : LockId) : Type 0 where
  pub only : OnlyWaits (after S events) core lock
  pub none : grants_of S events ≡ []

-- the one that is granted a lock is the one that waits
taken-core : (S : State) (e : Event) (core : ℕ) (lock : LockId) → OnlyWaits S core lock → (t : TakesLock S e) → (t.core == core) ≡ true
taken-core S e core lock only t = by_core (t.core == core) refl where
  by_core : (b : Bool) → (t.core == core) ≡ b → (t.core == core) ≡ true
  by_core true is = is
  by_core false is = absurd (none-some t.lock (sym (only.others t.core (eqb-false t.core core is)) ∙ t.was))

taken-free : (S : State) (e : Event) (core : ℕ) (lock : LockId) → OnlyWaits S core lock → (t : TakesLock S e) → t.core ≡ core → NobodyWaits (next S e)
taken-free S e core lock only t is c = t.now c ∙ by_core (t.core == c) refl where
  by_core : (b : Bool) → (t.core == c) ≡ b → cond (t.core == c) None (awaited_by S c) ≡ None
  by_core true e = rw (e) refl
  by_core false e = rw (e) (only.others c (λ same. eqb-false t.core c e (is ∙ sym same)))

one-first : (S : State) (e : Event) (es : List Event) (core : ℕ) (lock : LockId) → OnlyWaits S core lock → (t : TakesLock S e) → GrantsNone (next S e) es → GrantsOne S (e ∷ es) core lock
one-first S e es core lock only t rest =
    let is : t.core ≡ core = eqb-true t.core core (taken-core S e core lock only t) in
    let same : t.lock ≡ lock = same_Some t.lock lock (sym t.was ∙ ap (awaited_by S) is ∙ only.own) in
    let told : granted_in S e ≡ Some (record { phase = record { 0 = t.phase }; core = record { 0 = core }; lock = lock }) =
    t.told ∙ ap (λ (c : ℕ). Some (record { phase = record { 0 = t.phase }; core = record { 0 = c }; lock = t.lock })) is
    ∙ ap (λ (l : LockId). Some (record { phase = record { 0 = t.phase }; core = record { 0 = core }; lock = l })) same in
    record { free = rest.free; phase = t.phase; one = rw (told) (ap (λ (gs : List Grant). record { phase = record { 0 = t.phase }; core = record { 0 = core }; lock = lock } ∷ gs) rest.none) }

pub turn-run : (S : State) (M : ℕ → ℕ) (made core : ℕ) (lock : LockId) (events : List Event) → IsSound S made → Invariant S M → IsRun S events → AllAlong AcquiresNothing S events → OnlyWaits S core lock
    → GrantsNotYet S events core lock ⊎ GrantsOne S events core lock
turn-run S M made core lock [] sound inv run fine only = inl (record { only = only; none = refl })
turn-run S M made core lock (e ∷ es) sound inv run fine only =
    by_way (event-goes S M e inv run.0 fine.0)
    (turn-run (next S e) (stored_to (store_in S e) M) (made + 1) core lock es later (kept S M e inv run.0 later.machine) run.1 fine.1)
    (free-run (next S e) (stored_to (store_in S e) M) (made + 1) es later (kept S M e inv run.0 later.machine) run.1 fine.1)
  where
    later : IsSound (next S e) (made + 1)
    later = sound-next S made e sound run.0

    by_rest : granted_in S e ≡ None → GrantsNotYet (next S e) es core lock ⊎ GrantsOne (next S e) es core lock → GrantsNotYet S (e ∷ es) core lock ⊎ GrantsOne S (e ∷ es) core lock
    by_rest told (inl r) = inl (record { only = r.only; none = rw (told) r.none })
    by_rest told (inr r) = inr (record { free = r.free; phase = r.phase; one = rw (told) r.one })

    by_way : KeepsWaits S e ⊎ TakesLock S e → (OnlyWaits (next S e) core lock → GrantsNotYet (next S e) es core lock ⊎ GrantsOne (next S e) es core lock) → (NobodyWaits (next S e) → GrantsNone (next S e) es)
        → GrantsNotYet S (e ∷ es) core lock ⊎ GrantsOne S (e ∷ es) core lock
    by_way (inl k) more done = by_rest k.told (more (record { own = k.same core ∙ only.own; others = λ c apart. k.same c ∙ only.others c apart }))
    by_way (inr t) more done = inr (one-first S e es core lock only t (done (taken-free S e core lock only t (eqb-true t.core core (taken-core S e core lock only t)))))
