-- Each lock allows all that is done with it in a run, and a task that says that it holds a lock is the lock's holder.
use Rattle.std.proofs.Common.{◌≡◌, ◌⊎◌, inl, inr, ℕ, ◌+◌, ◌≤◌, ◌==◌, Bool, true, false, List, [], ◌∷◌, Option, Some, None, refl, sym, ap, subst, ◌∙◌, arith}
use Rattle.std.specs.Option.{is_none}
use Rattle.std.proofs.lemmas.Bool.{eqb-true}
use Rattle.std.proofs.lemmas.Option.{same_Some, none-some}
use Rattle.rv_core.specs.Access.{is_held}
use Rattle.rv_core.specs.declared.task.TaskState.{TaskState}
use Rattle.flat_machine.proofs.Rights.{both-ways}
use Rattle.message_net.specs.declared.event.Event.{Event}
use Rattle.registration_protocol.specs.Node.{Setting}
use Rattle.registration_protocol.specs.Parts.{held_locks}
use Rattle.machine_rules.specs.State.{State, initial_state, lock_at}
use Rattle.machine_rules.specs.Next.{next}
use Rattle.machine_rules.specs.Memory.{store_in}
use Rattle.machine_rules.specs.Runs.{IsRun}
use Rattle.machine_rules.specs.Flight.{bit}
use Rattle.machine_rules.specs.Coherent.{has_lock, holds_lock, holder_in}
use Rattle.machine_rules.specs.Sound.{IsSound, IsWellFormed}
use Rattle.machine_rules.specs.Actions.{Access, LockAction, Action, accesses, acquires, releases, arrives, starts}
use Rattle.machine_rules.specs.Accesses.{access_in, synchronization_in, action_in, actions_of}
use Rattle.machine_rules.specs.Consistent.{allows, holder_after, AllowsEach, AreLocksLegal}
use Rattle.machine_rules.proofs.Invariant.{Invariant}
use Rattle.machine_rules.proofs.Outcomes.{stored_to}
use Rattle.machine_rules.proofs.Exclusive.{one-holder}
use Rattle.machine_rules.proofs.SoundEvents.{sound-next}
use Rattle.machine_rules.proofs.Kept.{kept}
use Rattle.machine_rules.proofs.OpenedSound.{opened-sound}
use Rattle.machine_rules.proofs.OpenedInvariant.{node-unlocked, opened-invariant}
use Rattle.machine_rules.proofs.RunsCoherent.{first_memory}
use Rattle.machine_rules.proofs.WordCore.{same-number}
use Rattle.machine_rules.proofs.AccessMade.{IsMade, access-told}
use Rattle.machine_rules.proofs.TasksMove.{IsGained, IsLost, Moves, moves}
use Rattle.machine_rules.proofs.ActionsDone.{IsPlain, plain, either-way, no-action}
use Rattle.machine_rules.proofs.ReadOff.{read-none, read-some}

-- ---- one holder

pub same-holder : (S : State) (M : ℕ → ℕ) (l c d : ℕ) → Invariant S M → has_lock S c l ≡ true → has_lock S d l ≡ true → c ≡ d
same-holder S M l c d inv one two = one-holder (lock_at S l) c d (holder c one) (holder d two) where
  holder : (k : ℕ) → has_lock S k l ≡ true → 1 ≤ holder_in k (lock_at S l)
  holder k has = let held : bit (has_lock S k l) ≡ 1 = ap bit has in omega (arith, held, inv.locks.row l k)

-- a lock's state is that of the tasks: whose task holds it, if any does
pub record IsHolder (S : State) (l : ℕ) (h : Option ℕ) : Type 0 where
  pub is : (c : ℕ) → has_lock S c l ≡ true → h ≡ Some c
  pub has : (c : ℕ) → h ≡ Some c → has_lock S c l ≡ true

-- ---- one event

-- nobody comes to hold the lock or gives it up
unchanged : (S T : State) (l : ℕ) (h : Option ℕ) {sync : Option Action} → Moves S T sync → ((c : ℕ) → IsGained S c l sync → ⊥) → ((c : ℕ) → IsLost c l sync → ⊥) → IsHolder S l h → IsHolder T l h
unchanged S T l h {sync} m none-gains none-loses holder = record { is = λ c now. holder.is c (was c now); has = λ c same. remains c (holder.has c same) } where
  was : (c : ℕ) → has_lock T c l ≡ true → has_lock S c l ≡ true
  was c now = by_lock (has_lock S c l) refl where
    by_lock : (b : Bool) → has_lock S c l ≡ b → has_lock S c l ≡ true
    by_lock true e = e
    by_lock false e = absurd (none-gains c (m.gains c l e now))

  remains : (c : ℕ) → has_lock S c l ≡ true → has_lock T c l ≡ true
  remains c had = by_lock (has_lock T c l) refl where
    by_lock : (b : Bool) → has_lock T c l ≡ b → has_lock T c l ≡ true
    by_lock true e = e
    by_lock false e = absurd (none-loses c (m.loses c l had e))

-- the lock allows the action, and its state is that after the action
pub record IsAllowed (T : State) (l : ℕ) (h : Option ℕ) (a : Action) : Type 0 where
  pub allowed : allows l h a ≡ true
  pub holder : IsHolder T l (holder_after l h a)

acquire-allowed : (S T : State) (N : ℕ → ℕ) (l : ℕ) (h : Option ℕ) (x : LockAction) → Invariant T N → Moves S T (Some (acquires x)) → IsHolder S l h → IsAllowed T l h (acquires x)
acquire-allowed S T N l h x good m holder = by_lock (x.lock == l) refl where
  no-loss : (c k : ℕ) → IsLost c k (Some (acquires x)) → ⊥
  no-loss c k lost = let e = lost.is in differ lost.release e where
    differ : (y : LockAction) → Some (acquires x) ≡ Some (releases y) → ⊥
    differ y e = cc

  by_lock : (b : Bool) → (x.lock == l) ≡ b → IsAllowed T l h (acquires x)
  by_lock false e =
      record {
        allowed = rw (e) refl;
        holder = rw (e) (unchanged S T l h m (λ c gained. absurd (both-ways (x.lock == l) e (other gained.acquire gained.is gained.lock))) (λ c. no-loss c l) holder);
      }
    where
      other : (y : LockAction) → Some (acquires x) ≡ Some (acquires y) → y.lock ≡ l → (x.lock == l) ≡ true
      other y same is =
          let one : x ≡ y = cc in
          let right : x.lock ≡ l = ap (λ (z : LockAction). z.lock) one ∙ is in
          rw (right) (same-number l)
  by_lock true e =
      record {
        allowed = rw (e) (free h refl);
        holder = rw (e) (record { is = λ c now. ap (λ (k : ℕ). Some k) (same-holder T N l x.core c good has-it now); has = λ c same. subst (λ (k : ℕ). has_lock T k l ≡ true) (same_Some x.core c same) has-it });
      }
    where
      right : x.lock ≡ l
      right = eqb-true x.lock l e

      has-it : has_lock T x.core l ≡ true
      has-it = subst (λ (k : ℕ). has_lock T x.core k ≡ true) right (m.acts.acquires' x refl).1

      lacked : has_lock S x.core l ≡ false
      lacked = subst (λ (k : ℕ). has_lock S x.core k ≡ false) right (m.acts.acquires' x refl).0

      free : (o : Option ℕ) → h ≡ o → is_none o ≡ true
      free None is = refl
      free (Some c) is = by_now (has_lock T c l) refl where
        had : has_lock S c l ≡ true
        had = holder.has c is

        by_now : (b : Bool) → has_lock T c l ≡ b → is_none (Some c) ≡ true
        by_now false now = absurd (no-loss c l (m.loses c l had now))
        by_now true now =
            let same : c ≡ x.core = same-holder T N l c x.core good now has-it in
            absurd (both-ways (has_lock S x.core l) lacked (subst (λ (k : ℕ). has_lock S k l ≡ true) same had))

release-allowed : (S T : State) (l : ℕ) (h : Option ℕ) (x : LockAction) → Moves S T (Some (releases x)) → IsHolder S l h → IsAllowed T l h (releases x)
release-allowed S T l h x m holder = by_lock (x.lock == l) refl where
  no-gain : (c k : ℕ) → IsGained S c k (Some (releases x)) → ⊥
  no-gain c k gained = differ gained.acquire gained.is where
    differ : (y : LockAction) → Some (releases x) ≡ Some (acquires y) → ⊥
    differ y e = cc

  by_lock : (b : Bool) → (x.lock == l) ≡ b → IsAllowed T l h (releases x)
  by_lock false e =
      record {
        allowed = rw (e) refl;
        holder = rw (e) (unchanged S T l h m (λ c. no-gain c l) (λ c lost. absurd (both-ways (x.lock == l) e (other lost.release lost.is lost.lock))) holder);
      }
    where
      other : (y : LockAction) → Some (releases x) ≡ Some (releases y) → y.lock ≡ l → (x.lock == l) ≡ true
      other y same is =
          let one : x ≡ y = cc in
          let right : x.lock ≡ l = ap (λ (z : LockAction). z.lock) one ∙ is in
          rw (right) (same-number l)
  by_lock true e =
      record {
        allowed = rw (e, owner) (same-number x.core);
        holder = rw (e) (record { is = λ c now. absurd (nobody c now); has = λ c same. absurd (none-some c same) });
      }
    where
      right : x.lock ≡ l
      right = eqb-true x.lock l e

      had : has_lock S x.core l ≡ true
      had = subst (λ (k : ℕ). has_lock S x.core k ≡ true) right (m.acts.releases' x refl).0

      lacks : has_lock T x.core l ≡ false
      lacks = subst (λ (k : ℕ). has_lock T x.core k ≡ false) right (m.acts.releases' x refl).1

      owner : h ≡ Some x.core
      owner = holder.is x.core had

      nobody : (c : ℕ) → has_lock T c l ≡ true → ⊥
      nobody c now = by_was (has_lock S c l) refl where
        by_was : (b : Bool) → has_lock S c l ≡ b → ⊥
        by_was false was = no-gain c l (m.gains c l was now)
        by_was true was =
            let same : c ≡ x.core = same_Some c x.core (sym (holder.is c was) ∙ owner) in
            both-ways (has_lock T x.core l) lacks (subst (λ (k : ℕ). has_lock T k l ≡ true) same now)

barrier-quiet : (S T : State) (l : ℕ) (h : Option ℕ) (a : Action) → Moves S T (Some a) → ((y : LockAction) → a ≡ acquires y → ⊥) → ((y : LockAction) → a ≡ releases y → ⊥) → IsHolder S l h → IsHolder T l h
barrier-quiet S T l h a m never nor holder =
    unchanged S T l h m (λ c gained. never gained.acquire (same_Some a (acquires gained.acquire) gained.is)) (λ c lost. nor lost.release (same_Some a (releases lost.release) lost.is)) holder

synchronization-allowed : (S T : State) (N : ℕ → ℕ) (l : ℕ) (h : Option ℕ) (a : Action) → Invariant T N → Moves S T (Some a) → IsPlain (Some a) → IsHolder S l h → IsAllowed T l h a
synchronization-allowed S T N l h (accesses x) good m none holder = absurd none
synchronization-allowed S T N l h (acquires x) good m none holder = acquire-allowed S T N l h x good m holder
synchronization-allowed S T N l h (releases x) good m none holder = release-allowed S T l h x m holder
synchronization-allowed S T N l h (arrives x) good m none holder = record { allowed = refl; holder = barrier-quiet S T l h (arrives x) m (λ y e. differ y e) (λ y e. nor y e) holder } where
  differ : (y : LockAction) → arrives x ≡ acquires y → ⊥
  differ y e = cc

  nor : (y : LockAction) → arrives x ≡ releases y → ⊥
  nor y e = cc
synchronization-allowed S T N l h (starts x) good m none holder = record { allowed = refl; holder = barrier-quiet S T l h (starts x) m (λ y e. differ y e) (λ y e. nor y e) holder } where
  differ : (y : LockAction) → starts x ≡ acquires y → ⊥
  differ y e = cc

  nor : (y : LockAction) → starts x ≡ releases y → ⊥
  nor y e = cc

-- an event without synchronization
quiet : (S T : State) (l : ℕ) (h : Option ℕ) → Moves S T None → IsHolder S l h → IsHolder T l h
quiet S T l h m holder = unchanged S T l h m (λ c gained. none-some (acquires gained.acquire) gained.is) (λ c lost. none-some (releases lost.release) lost.is) holder

-- ---- the actions of a run

-- a task that says of an access that it holds the lock is the lock's holder
abbrev pub SaysTruly : ℕ → Option ℕ → Action → Type 0
SaysTruly l h (accesses a) = is_held a.held l ≡ true → h ≡ Some a.core
SaysTruly l h _ = Unit {0}

abbrev pub AreTrueFor : ℕ → Option ℕ → List Action → Type 0
AreTrueFor l h [] = Unit {0}
AreTrueFor l h (a ∷ later) = (allows l h a ≡ true) × SaysTruly l h a × AreTrueFor l (holder_after l h a) later

plain-truth : (l : ℕ) (h : Option ℕ) (a : Action) → IsPlain (Some a) → SaysTruly l h a
plain-truth l h (accesses a) none = absurd none
plain-truth l h (acquires x) none = tt
plain-truth l h (releases x) none = tt
plain-truth l h (arrives x) none = tt
plain-truth l h (starts x) none = tt

access-truth : (S : State) (M : ℕ → ℕ) (e : Event) (a : Access) (l : ℕ) (h : Option ℕ) → IsMade S M e a → IsHolder S l h → is_held a.held l ≡ true → h ≡ Some a.core
access-truth S M e a l h made holder says =
    holder.is a.core
    (ap (holds_lock l) made.works.found
    ∙ (ap (λ (o : Option TaskState). is_held (held_locks o) l) made.works.task ∙ (ap (λ (k : ℕ). is_held k l) (sym made.held) ∙ says)))

true-for : (S : State) (M : ℕ → ℕ) (count : ℕ) (events : List Event) (l : ℕ) (h : Option ℕ) → IsSound S count → Invariant S M → IsRun S events → IsHolder S l h → AreTrueFor l h (actions_of S events)
true-for S M count [] l h sound inv run holder = tt
true-for S M count (e ∷ es) l h sound inv run holder =
    let later = sound-next S count e sound run.0 in
    let good = kept S M e inv run.0 later.machine in
    by_action good (λ k is. true-for (next S e) (stored_to (store_in S e) M) (count + 1) es l k later good run.1 is) (action_in S e) refl
  where
    T : State
    T = next S e

    N : ℕ → ℕ
    N = stored_to (store_in S e) M

    Rest : Type 0
    Rest = (k : Option ℕ) → IsHolder T l k → AreTrueFor l k (actions_of T es)

    m : Moves S T (synchronization_in S e)
    m = moves S M e inv run.0

    by_part : (a : Action) → Invariant T N → Rest → (synchronization_in S e ≡ Some a) ⊎ ((b : Access) × (synchronization_in S e ≡ None) × (access_in S e ≡ Some b) × (a ≡ accesses b)) → AreTrueFor l h (a ∷ actions_of T es)
    by_part a good rest (inl one) =
        let none : IsPlain (Some a) = subst IsPlain one (plain S e) in
        let allowed = synchronization-allowed S T N l h a good (subst (Moves S T) one m) none holder in
        (allowed.allowed, plain-truth l h a none, rest (holder_after l h a) allowed.holder)
    by_part a good rest (inr (b, none, one, same)) =
        subst (λ (x : Action). AreTrueFor l h (x ∷ actions_of T es)) (sym same)
        (refl, access-truth S M e b l h ((access-told S M e inv run.0).made b one) holder, rest h (quiet S T l h (subst (Moves S T) none m) holder))

    by_action : Invariant T N → Rest → (o : Option Action) → action_in S e ≡ o → AreTrueFor l h (actions_of S (e ∷ es))
    by_action good rest None is = subst (AreTrueFor l h) (sym (read-none action_in S e es is)) (rest h (quiet S T l h (subst (Moves S T) (no-action S e is) m) holder))
    by_action good rest (Some a) is = subst (AreTrueFor l h) (sym (read-some action_in S e es a is)) (by_part a good rest (either-way S e a is))

-- nobody holds a lock first
opened-free : (C : Setting) (l : ℕ) → IsWellFormed C → IsHolder (initial_state C) l None
opened-free C l well =
    record {
      is = λ c has. absurd (both-ways (has_lock (initial_state C) c l) (none c) has);
      has = λ c same. absurd (none-some c same);
    }
  where
    none : (c : ℕ) → has_lock (initial_state C) c l ≡ false
    none c = by_lock (has_lock (initial_state C) c l) refl where
      by_lock : (b : Bool) → has_lock (initial_state C) c l ≡ b → has_lock (initial_state C) c l ≡ false
      by_lock false e = e
      by_lock true e = let one : bit (has_lock (initial_state C) c l) ≡ 1 = ap bit e in absurd (omega (arith, one, node-unlocked C l c))

pub well-true : (C : Setting) (events : List Event) (l : ℕ) → IsWellFormed C → IsRun (initial_state C) events → AreTrueFor l None (actions_of (initial_state C) events)
well-true C events l well run = true-for (initial_state C) (first_memory C) 0 events l None (opened-sound C well) (opened-invariant C well) run (opened-free C l well)

-- what is true is allowed
pub true-allowed : (l : ℕ) (h : Option ℕ) (actions : List Action) → AreTrueFor l h actions → AllowsEach l h actions
true-allowed l h [] all = tt
true-allowed l h (a ∷ later) all = (all.0, true-allowed l (holder_after l h a) later all.2)

pub well-legal : (C : Setting) (events : List Event) → IsWellFormed C → IsRun (initial_state C) events → AreLocksLegal (actions_of (initial_state C) events)
well-legal C events well run l = true-allowed l None (actions_of (initial_state C) events) (well-true C events l well run)
