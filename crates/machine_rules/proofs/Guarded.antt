-- Accesses of a run of a checked program that conflict have a barrier between them, or a lock that is handed on.
use Rattle.std.proofs.Common.{◌≡◌, ◌≢◌, ◌⊎◌, inl, inr, ℕ, suc, ◌+◌, ◌<◌, ◌≤◌, nat_lt, Bool, true, false, List, [], ◌∷◌, ◌++◌, length, Option, Some, None, refl, sym, ap, subst, ◌∙◌, arith}
use Rattle.std.specs.List.{IsAmong}
use Rattle.std.proofs.lemmas.Bool.Decides.{nat_tests}
use Rattle.region_table.specs.Tasks.{declared}
use Rattle.region_table.specs.declared.declared.Phase.{Phase}
use Rattle.region_table.proofs.TaskLemmas.{declared-tells}
use Rattle.rv_core.specs.declared.task.TaskState.{TaskState}
use Rattle.rv_core.specs.Access.{is_held, may_load}
use Rattle.flat_machine.proofs.Rights.{both-ways}
use Rattle.flat_machine.proofs.Separation.{SharesLock, shares-lock}
use Rattle.message_net.specs.declared.event.Event.{Event}
use Rattle.registration_protocol.specs.Node.{Setting}
use Rattle.registration_protocol.specs.Parts.{held_locks}
use Rattle.machine_rules.specs.State.{State, initial_state, lock_at}
use Rattle.machine_rules.specs.Next.{next, enabled}
use Rattle.machine_rules.specs.Memory.{store_in}
use Rattle.machine_rules.specs.Runs.{after, IsRun}
use Rattle.machine_rules.specs.Flight.{bit}
use Rattle.machine_rules.specs.Coherent.{holds_lock, has_lock, holder_in}
use Rattle.machine_rules.specs.Sound.{IsSound, IsWellFormed}
use Rattle.machine_rules.specs.Actions.{Access, LockAction, Action, accesses, acquires}
use Rattle.machine_rules.specs.Accesses.{synchronization_in, action_in, actions_of}
use Rattle.machine_rules.specs.Racing.{Conflicts}
use Rattle.machine_rules.specs.Guarded.{IsHandedOn, IsSynchronized, IsGuarded}
use Rattle.machine_rules.proofs.Invariant.{Invariant}
use Rattle.machine_rules.proofs.Outcomes.{stored_to}
use Rattle.machine_rules.proofs.Exclusive.{in-phase, one-holder}
use Rattle.machine_rules.proofs.SoundEvents.{sound-next}
use Rattle.machine_rules.proofs.Kept.{kept}
use Rattle.machine_rules.proofs.OpenedSound.{opened-sound}
use Rattle.machine_rules.proofs.OpenedInvariant.{opened-invariant}
use Rattle.machine_rules.proofs.RunsKept.{memory_over, same-setting, run-setting, run-kept}
use Rattle.machine_rules.proofs.RunsCoherent.{first_memory}
use Rattle.machine_rules.proofs.PhasesOn.{goes-on, keeper-on}
use Rattle.machine_rules.proofs.AccessMade.{IsMade, access-told}
use Rattle.machine_rules.proofs.TasksMove.{IsGained, moves}
use Rattle.machine_rules.proofs.ActionsDone.{action-access, with-synchronization}
use Rattle.machine_rules.proofs.ReadOff.{read-none, read-some, IsSplit, split, run-front}

-- ---- actions

among-first : {X : Type 0} (x : X) (xs : List X) → IsAmong (x ∷ xs) x
among-first x xs = (0, (omega arith, refl))

among-later : {X : Type 0} (x : X) (xs : List X) (y : X) → IsAmong xs y → IsAmong (x ∷ xs) y
among-later x xs y h = let within = h.1.0 in (suc h.0, (omega (arith, within), h.1.1))

-- ---- who comes to hold a lock takes it

record IsTaken (S : State) (events : List Event) (c l : ℕ) : Type 0 where
  pub acquire : LockAction
  pub core : acquire.core ≡ c
  pub lock : acquire.lock ≡ l
  pub low : S.keeper.phase ≤ acquire.phase
  pub high : acquire.phase ≤ (after S events).keeper.phase
  pub among : IsAmong (actions_of S events) (acquires acquire)

taken-later : (S : State) (e : Event) (es : List Event) (c l : ℕ) → S.keeper.phase ≤ (next S e).keeper.phase → IsTaken (next S e) es c l → IsTaken S (e ∷ es) c l
taken-later S e es c l on h = by_action (action_in S e) refl where
  with_among : IsAmong (actions_of S (e ∷ es)) (acquires h.acquire) → IsTaken S (e ∷ es) c l
  with_among among = record { acquire = h.acquire; core = h.core; lock = h.lock; low = omega (arith, on, h.low); high = h.high; among = among }

  by_action : (o : Option Action) → action_in S e ≡ o → IsTaken S (e ∷ es) c l
  by_action None is = with_among (subst (λ (xs : List Action). IsAmong xs (acquires h.acquire)) (sym (read-none action_in S e es is)) h.among)
  by_action (Some x) is =
      with_among (subst (λ (xs : List Action). IsAmong xs (acquires h.acquire)) (sym (read-some action_in S e es x is))
      (among-later x (actions_of (next S e) es) _ h.among))

taken-first : (S : State) (e : Event) (es : List Event) (c l : ℕ) → S.keeper.phase ≤ (after S (e ∷ es)).keeper.phase → IsGained S c l (synchronization_in S e) → IsTaken S (e ∷ es) c l
taken-first S e es c l on h =
    record {
      acquire = h.acquire;
      core = h.core;
      lock = h.lock;
      low = omega (arith, h.phase);
      high = omega (arith, h.phase, on);
      among = subst (λ (xs : List Action). IsAmong xs (acquires h.acquire)) (sym (read-some action_in S e es (acquires h.acquire) (with-synchronization S e (acquires h.acquire) h.is)))
          (among-first (acquires h.acquire) (actions_of (next S e) es));
    }

taken : (S : State) (M : ℕ → ℕ) (count : ℕ) (events : List Event) (c l : ℕ) → IsSound S count → Invariant S M → IsRun S events → has_lock S c l ≡ false → has_lock (after S events) c l ≡ true
    → IsTaken S events c l
taken S M count [] c l sound inv run before now = absurd (both-ways (has_lock S c l) before now)
taken S M count (e ∷ es) c l sound inv run before now =
    let later = sound-next S count e sound run.0 in
    let good = kept S M e inv run.0 later.machine in
    let on = (goes-on S M e inv run.0).keeper in
    let further = keeper-on (next S e) (stored_to (store_in S e) M) (count + 1) es later good run.1 in
    by_lock (has_lock (next S e) c l) refl on (omega (arith, on, further)) (λ unheld. taken (next S e) (stored_to (store_in S e) M) (count + 1) es c l later good run.1 unheld now)
  where
    by_lock : (x : Bool) → has_lock (next S e) c l ≡ x → S.keeper.phase ≤ (next S e).keeper.phase → S.keeper.phase ≤ (after S (e ∷ es)).keeper.phase
        → (has_lock (next S e) c l ≡ false → IsTaken (next S e) es c l) → IsTaken S (e ∷ es) c l
    by_lock true is on over rest = taken-first S e es c l over ((moves S M e inv run.0).gains c l before is)
    by_lock false is on over rest = taken-later S e es c l on (rest is)

-- ---- two accesses that conflict, in one phase

-- the lock that both tasks hold
common : (S T : State) (M N : ℕ → ℕ) (e f : Event) (a b : Access) → Invariant S M → T.setting ≡ S.setting → (one : IsMade S M e a) → (two : IsMade T N f b) → two.node.phase ≡ one.node.phase → Conflicts a b
    → SharesLock a.held b.held
common S T M N e f a b inv setting one two phase conflict =
    let x = declared-tells S.setting.program one.node.phase a.core one.decl one.works.declares in
    let here : declared S.setting.program one.node.phase b.core ≡ Some two.decl =
    subst (λ (C : Setting). declared C.program one.node.phase b.core ≡ Some two.decl) setting (subst (λ (q : ℕ). declared T.setting.program q b.core ≡ Some two.decl) phase two.works.declares) in
    let y = declared-tells S.setting.program one.node.phase b.core two.decl here in
    let both : Some y.phase ≡ Some x.phase = sym y.there ∙ x.there in
    let same : y.phase ≡ x.phase = cc in
    let among : IsAmong x.phase.tasks two.decl = subst (λ (p : Phase). IsAmong p.tasks two.decl) same y.among in
    let apart : one.decl.core.0 ≢ two.decl.core.0 = λ k. conflict.cores (sym x.own ∙ k ∙ y.own) in
    by_store x.phase x.known x.among among apart conflict.store
  where
    by_store : (p : Phase) → IsAmong S.setting.program.phases p → IsAmong p.tasks one.decl → IsAmong p.tasks two.decl → one.decl.core.0 ≢ two.decl.core.0
        → (a.written ≢ None) ⊎ (b.written ≢ None) → SharesLock a.held b.held
    by_store p known first second apart (inl writes) =
        shares-lock S.setting.program p one.decl two.decl a.held b.held a.word inv.machine.checked known first second apart (one.stores writes)
        (subst (λ (w : ℕ). may_load two.decl b.held w ≡ true) (sym conflict.word) two.loads)
    by_store p known first second apart (inr writes) =
        let s = shares-lock S.setting.program p two.decl one.decl b.held a.held b.word inv.machine.checked known second first (λ k. apart (sym k)) (two.stores writes)
        (subst (λ (w : ℕ). may_load one.decl a.held w ≡ true) conflict.word one.loads) in
        record { lock = s.lock; one = s.two; two = s.one }

-- while one core's task holds a lock another's doesn't
unheld : (S : State) (M : ℕ → ℕ) (c d l : ℕ) → Invariant S M → c ≢ d → has_lock S c l ≡ true → has_lock S d l ≡ false
unheld S M c d l inv apart holds = by_lock (has_lock S d l) refl where
  holder : (k : ℕ) → has_lock S k l ≡ true → 1 ≤ holder_in k (lock_at S l)
  holder k has = let one : bit (has_lock S k l) ≡ 1 = ap bit has in omega (arith, one, inv.locks.row l k)

  by_lock : (x : Bool) → has_lock S d l ≡ x → has_lock S d l ≡ false
  by_lock false is = is
  by_lock true is = absurd (apart (one-holder (lock_at S l) c d (holder c holds) (holder d is)))

-- a conflict in one phase, between an event e and one after the events that follow it: the lock is handed on
handed : (U : State) (M N K : ℕ → ℕ) (count : ℕ) (e f : Event) (es : List Event) (a b : Access) → Invariant U M → U.keeper.phase ≤ (next U e).keeper.phase → IsSound (next U e) count → Invariant (next U e) N
    → IsRun (next U e) es → Invariant (after (next U e) es) K → IsMade U M e a → IsMade (after (next U e) es) K f b → Conflicts a b → a.phase ≡ b.phase → IsHandedOn a b (actions_of (next U e) es)
handed U M N K count e f es a b first on sound good run later one two conflict same =
    record {
      lock = shares.lock;
      first = shares.one;
      second = shares.two;
      grant = took.acquire;
      taken = took.among;
      phase = phase;
      core = took.core;
      same = took.lock;
    }
  where
    T : State
    T = next U e

    V : State
    V = after T es

    at_first : a.phase ≡ U.keeper.phase
    at_first = one.phase ∙ in-phase U M a.core one.node one.decl one.task first one.works

    at_second : b.phase ≡ V.keeper.phase
    at_second = two.phase ∙ in-phase V K b.core two.node two.decl two.task later two.works

    shares : SharesLock a.held b.held
    shares = common U V M K e f a b first (run-setting T es ∙ same-setting U e) one two (sym two.phase ∙ (sym same ∙ one.phase)) conflict

    had : has_lock T a.core shares.lock ≡ true
    had = ap (holds_lock shares.lock) one.now ∙ (ap (λ (k : ℕ). is_held k shares.lock) one.keeps ∙ shares.one)

    has : has_lock V b.core shares.lock ≡ true
    has =
        ap (holds_lock shares.lock) two.works.found
        ∙ (ap (λ (o : Option TaskState). is_held (held_locks o) shares.lock) two.works.task ∙ (ap (λ (k : ℕ). is_held k shares.lock) (sym two.held) ∙ shares.two))

    took : IsTaken T es b.core shares.lock
    took = taken T N count es b.core shares.lock sound good run (unheld T N a.core b.core shares.lock good conflict.cores had) has

    phase : took.acquire.phase ≡ b.phase
    phase = omega (arith, took.low, took.high, same, at_first, at_second, on)

-- two accesses that conflict, made by an event e and one after the events that follow it
synchronized : (U : State) (M N : ℕ → ℕ) (count : ℕ) (e f : Event) (es : List Event) (a b : Access) → Invariant U M → U.keeper.phase ≤ (next U e).keeper.phase → IsSound (next U e) count → Invariant (next U e) N
    → IsRun (next U e) es → IsMade U M e a → IsMade (after (next U e) es) (memory_over N (next U e) es) f b → Conflicts a b → IsSynchronized a (actions_of (next U e) es) b
synchronized U M N count e f es a b first on sound good run one two conflict =
    by_phase (nat_lt a.phase b.phase) refl (omega (arith, at_first, at_second, on, further)) (handed U M N (memory_over N T es) count e f es a b first on sound good run later.1 one two conflict)
  where
    T : State
    T = next U e

    later : IsSound (after T es) (count + length es) × Invariant (after T es) (memory_over N T es)
    later = run-kept T N count es sound good run

    at_first : a.phase ≡ U.keeper.phase
    at_first = one.phase ∙ in-phase U M a.core one.node one.decl one.task first one.works

    at_second : b.phase ≡ (after T es).keeper.phase
    at_second = two.phase ∙ in-phase (after T es) (memory_over N T es) b.core two.node two.decl two.task later.1 two.works

    further : T.keeper.phase ≤ (after T es).keeper.phase
    further = keeper-on T N count es sound good run

    by_phase : (x : Bool) → nat_lt a.phase b.phase ≡ x → a.phase ≤ b.phase → (a.phase ≡ b.phase → IsHandedOn a b (actions_of T es)) → IsSynchronized a (actions_of T es) b
    by_phase true is low handed = let less : a.phase < b.phase = grind (arith, nat_tests, is) in inl less
    by_phase false is low handed = let same : a.phase ≡ b.phase = grind (arith, nat_tests, is, low) in inr (handed same)

-- ---- every run

guarded : (S : State) (M : ℕ → ℕ) (count : ℕ) (events : List Event) → IsSound S count → Invariant S M → IsRun S events → IsGuarded (actions_of S events)
guarded S M count events sound inv run before between rest a b is conflict =
    subst (λ (xs : List Action). IsSynchronized a xs b) t.front (synchronized U (memory_over M S s.past) N (count + length s.past + 1) s.event t.event t.past a b here.1 on sound_on good second.0 one two conflict)
  where
    s : IsSplit action_in S events before (accesses a) (between ++ accesses b ∷ rest)
    s = split action_in S events before (accesses a) (between ++ accesses b ∷ rest) is

    U : State
    U = after S s.past

    T : State
    T = next U s.event

    N : ℕ → ℕ
    N = stored_to (store_in U s.event) (memory_over M S s.past)

    first : IsRun S s.past × (enabled U s.event ≡ true) × IsRun T s.later
    first = run-front S s.past s.later s.event (subst (IsRun S) s.is run)

    here : IsSound U (count + length s.past) × Invariant U (memory_over M S s.past)
    here = run-kept S M count s.past sound inv first.0

    sound_on : IsSound T (count + length s.past + 1)
    sound_on = sound-next U (count + length s.past) s.event here.0 first.1

    good : Invariant T N
    good = kept U (memory_over M S s.past) s.event here.1 first.1 sound_on.machine

    on : U.keeper.phase ≤ T.keeper.phase
    on = (goes-on U (memory_over M S s.past) s.event here.1 first.1).keeper

    t : IsSplit action_in T s.later between (accesses b) rest
    t = split action_in T s.later between (accesses b) rest s.back

    second : IsRun T t.past × (enabled (after T t.past) t.event ≡ true) × IsRun (next (after T t.past) t.event) t.later
    second = run-front T t.past t.later t.event (subst (IsRun T) t.is first.2)

    one : IsMade U (memory_over M S s.past) s.event a
    one = (access-told U (memory_over M S s.past) s.event here.1 first.1).made a (action-access U s.event a s.told)

    two : IsMade (after T t.past) (memory_over N T t.past) t.event b
    two =
        (access-told (after T t.past) (memory_over N T t.past) t.event (run-kept T N (count + length s.past + 1) t.past sound_on good second.0).1 second.1).made b
        (action-access (after T t.past) t.event b t.told)

pub well-guarded : (C : Setting) (events : List Event) → IsWellFormed C → IsRun (initial_state C) events → IsGuarded (actions_of (initial_state C) events)
well-guarded C events well run = guarded (initial_state C) (first_memory C) 0 events (opened-sound C well) (opened-invariant C well) run
