-- Every run is sequentially consistent, in the order in which its actions retire.
use Rattle.std.proofs.Common.{◌≡◌, ◌⊎◌, inl, inr, ℕ, ◌+◌, true, List, [], ◌∷◌, get_or, slice_get, Option, Some, None, unwrap_or, option_and_then, refl, sym, ap, subst, ◌∙◌, arith}
use Rattle.std.specs.List.{All}
use Rattle.std.specs.Option.{option_or}
use Rattle.std.proofs.lemmas.Option.{same_Some, none-some}
use Rattle.std.proofs.lemmas.List.Elements.{All-cons, All-nil}
use Rattle.std.proofs.lemmas.List.Kept.{AllPairs-cons}
use Rattle.dn_base.specs.declared.ids.WordId.{WordId}
use Rattle.message_net.specs.declared.event.Event.{Event}
use Rattle.registration_protocol.specs.Node.{NodeParts, Setting}
use Rattle.machine_rules.specs.State.{State, initial_state}
use Rattle.machine_rules.specs.Next.{next, enabled}
use Rattle.machine_rules.specs.Memory.{store_in}
use Rattle.machine_rules.specs.Runs.{after, IsRun}
use Rattle.machine_rules.specs.Sound.{IsSound, IsWellFormed}
use Rattle.machine_rules.specs.Actions.{Access, Action, accesses, acquires, releases, arrives, starts, acting_core, PrecedesInProgram}
use Rattle.machine_rules.specs.Accesses.{access_in, action_in, actions_of, synchronization_in}
use Rattle.machine_rules.specs.Consistent.{stores_to, last_stored, word_after, KeepsProgramOrder, ReadsLastStores}
use Rattle.machine_rules.proofs.Invariant.{Invariant}
use Rattle.machine_rules.proofs.Outcomes.{stored_to}
use Rattle.machine_rules.proofs.SoundEvents.{sound-next}
use Rattle.machine_rules.proofs.Kept.{kept}
use Rattle.machine_rules.proofs.OpenedSound.{opened-sound}
use Rattle.machine_rules.proofs.OpenedInvariant.{opened-invariant}
use Rattle.machine_rules.proofs.RunsKept.{memory_over, run-kept}
use Rattle.machine_rules.proofs.RunsCoherent.{first_memory}
use Rattle.machine_rules.proofs.AccessMade.{value_with, access-told}
use Rattle.machine_rules.proofs.TasksMove.{IsOn, IsFrom, IsUpTo, IsDone, moves}
use Rattle.machine_rules.proofs.ActionsDone.{IsPlain, plain, stores-nothing, action-access, either-way, no-action, action-done}
use Rattle.machine_rules.proofs.ReadOff.{read-none, read-some, split, run-front}

-- ---- each core's actions stand in the order of its program

from-on : (c : ℕ) (n m : NodeParts) (o : Option Action) (a : Action) → IsOn c n m o → IsFrom m a → IsFrom n a
from-on c n m o a (inl stays) (inl from) = inl (omega (arith, stays.phase, from))
from-on c n m o a (inl stays) (inr (phase, absent, inl later)) = inr (stays.phase ∙ phase, stays.arrived ∙ absent, inl later)
from-on c n m o a (inl stays) (inr (phase, absent, inr (stage, place))) = inr (stays.phase ∙ phase, stays.arrived ∙ absent, inr (stage, omega (arith, stays.retired, place)))
from-on c n m o a (inr (inl comes)) (inl from) = inl (omega (arith, comes.phase, from))
from-on c n m o a (inr (inl comes)) (inr (phase, absent, later)) = let now = comes.now in absurd (cc)
from-on c n m o a (inr (inr goes)) (inl from) = inl (omega (arith, goes.phase, from))
from-on c n m o a (inr (inr goes)) (inr (phase, absent, later)) = inl (omega (arith, goes.phase, phase))

-- what a core may still do comes after what it has done
precedes : (m : NodeParts) (a b : Action) → IsUpTo m a → IsFrom m b → PrecedesInProgram a b
precedes m a b (phase, upto) (inl from) = inl (omega (arith, phase, from))
precedes m a b (phase, inl stage) (inr (same, absent, inl later)) = inr (phase ∙ same, inl (omega (arith, stage, later)))
precedes m a b (phase, inl stage) (inr (same, absent, inr (one, place))) = inr (phase ∙ same, inl (omega (arith, stage, one)))
precedes m a b (phase, inr (inl (stage, place))) (inr (same, absent, inl later)) = inr (phase ∙ same, inl (omega (arith, stage, later)))
precedes m a b (phase, inr (inl (stage, place))) (inr (same, absent, inr (one, from))) = inr (phase ∙ same, inr (stage ∙ sym one, omega (arith, place, from)))
precedes m a b (phase, inr (inr arrived)) (inr (same, absent, later)) = absurd (cc)

record AreOrdered (S : State) (actions : List Action) : Type 0 where
  pub pairs : KeepsProgramOrder actions
  pub from : (c : ℕ) (n : NodeParts) → slice_get S.nodes c ≡ Some n → All (λ (a : Action). c ≡ acting_core a → IsFrom n a) actions

no-pairs : KeepsProgramOrder []
no-pairs i j d less within = absurd (omega (arith, within))

-- an event that is no action
still-ordered : (S T : State) (o : Option Action) (moved : (c : ℕ) (n : NodeParts) → slice_get S.nodes c ≡ Some n → (m : NodeParts) × (slice_get T.nodes c ≡ Some m) × IsOn c n m o) (actions : List Action)
    → AreOrdered T actions → AreOrdered S actions
still-ordered S T o moved actions rest =
    record {
      pairs = rest.pairs;
      from = λ c n found i d within core.
          let m = moved c n found in
          from-on c n m.0 o (get_or actions i d) m.2 (rest.from c m.0 m.1 i d within core);
    }

-- the action of an event comes before all later ones of its core
first-ordered : (S T : State) (a : Action) (actions : List Action) → IsDone S T a → AreOrdered T actions → AreOrdered S actions → AreOrdered S (a ∷ actions)
first-ordered S T a actions done later rest =
    record {
      pairs = AllPairs-cons (λ (x y : Action). acting_core x ≡ acting_core y → PrecedesInProgram x y) a actions
          (λ i d within core. precedes done.later a (get_or actions i d) done.upto (later.from (acting_core a) done.later done.now i d within core)) rest.pairs;
      from = λ c n found. All-cons (λ (x : Action). c ≡ acting_core x → IsFrom n x) a actions (here c n found) (rest.from c n found);
    }
  where
    here : (c : ℕ) (n : NodeParts) → slice_get S.nodes c ≡ Some n → c ≡ acting_core a → IsFrom n a
    here c n found core =
        let same : n ≡ done.node = same_Some n done.node (sym found ∙ (ap (slice_get S.nodes) core ∙ done.found)) in
        subst (λ (x : NodeParts). IsFrom x a) (sym same) done.from

ordered : (S : State) (M : ℕ → ℕ) (count : ℕ) (events : List Event) → IsSound S count → Invariant S M → IsRun S events → AreOrdered S (actions_of S events)
ordered S M count [] sound inv run = record { pairs = no-pairs; from = λ c n found. All-nil _ }
ordered S M count (e ∷ es) sound inv run =
    let later = sound-next S count e sound run.0 in
    by_action (action_in S e) refl (ordered (next S e) (stored_to (store_in S e) M) (count + 1) es later (kept S M e inv run.0 later.machine) run.1)
  where
    T : State
    T = next S e

    moved : (c : ℕ) (n : NodeParts) → slice_get S.nodes c ≡ Some n → (m : NodeParts) × (slice_get T.nodes c ≡ Some m) × IsOn c n m (synchronization_in S e)
    moved c n found = let m = (moves S M e inv run.0).each c n found in (m.node, m.found, m.on)

    by_action : (o : Option Action) → action_in S e ≡ o → AreOrdered T (actions_of T es) → AreOrdered S (actions_of S (e ∷ es))
    by_action None is rest = subst (AreOrdered S) (sym (read-none action_in S e es is)) (still-ordered S T (synchronization_in S e) moved (actions_of T es) rest)
    by_action (Some a) is rest =
        subst (AreOrdered S) (sym (read-some action_in S e es a is))
        (first-ordered S T a (actions_of T es) (action-done S M e a inv run.0 is) rest (still-ordered S T (synchronization_in S e) moved (actions_of T es) rest))

pub well-ordered : (C : Setting) (events : List Event) → IsWellFormed C → IsRun (initial_state C) events → KeepsProgramOrder (actions_of (initial_state C) events)
well-ordered C events well run = (ordered (initial_state C) (first_memory C) 0 events (opened-sound C well) (opened-invariant C well) run).pairs

-- ---- the memory of a run is what the last stores have written

or-else : (x y : Option ℕ) (d : ℕ) → unwrap_or (option_or x y) d ≡ unwrap_or x (unwrap_or y d)
or-else None y d = refl
or-else (Some v) y d = refl

-- a word of a memory after an action, if there is one
value_by : Option Action → (ℕ → ℕ) → ℕ → ℕ
value_by o M w = unwrap_or (option_and_then (stores_to w) o) (M w)

plain-stores : (a : Action) (w : ℕ) → IsPlain (Some a) → stores_to w a ≡ None
plain-stores (accesses a) w none = absurd none
plain-stores (acquires x) w none = refl
plain-stores (releases x) w none = refl
plain-stores (arrives x) w none = refl
plain-stores (starts x) w none = refl

-- what an action writes is what its event stores
writes-by : (S : State) (M : ℕ → ℕ) (e : Event) (w : ℕ) → Invariant S M → enabled S e ≡ true → (o : Option Action) → action_in S e ≡ o → value_by o M w ≡ stored_to (store_in S e) M w
unfolding value_by
writes-by S M e w inv may None is = by_access (access_in S e) refl where
  quiet : synchronization_in S e ≡ None
  quiet = no-action S e is

  by_access : (p : Option Access) → access_in S e ≡ p → M w ≡ stored_to (store_in S e) M w
  by_access None none = sym (ap (λ (p : Option Access). value_with p M w) none) ∙ (access-told S M e inv may).writes w
  by_access (Some a) some = absurd (none-some (accesses a) (sym is ∙ rw (quiet, some) refl))
writes-by S M e w inv may (Some a) is = by_part (either-way S e a is) where
  by_part : (synchronization_in S e ≡ Some a) ⊎ ((b : Access) × (synchronization_in S e ≡ None) × (access_in S e ≡ Some b) × (a ≡ accesses b)) → unwrap_or (stores_to w a) (M w) ≡ stored_to (store_in S e) M w
  by_part (inl one) =
      ap (λ (p : Option ℕ). unwrap_or p (M w)) (plain-stores a w (subst IsPlain one (plain S e)))
      ∙ ap (λ (p : Option (WordId × ℕ)). stored_to p M w) (sym (stores-nothing S e a one))
  by_part (inr (b, none, one, same)) =
      ap (λ (x : Action). unwrap_or (stores_to w x) (M w)) same ∙ (sym (ap (λ (p : Option Access). value_with p M w) one) ∙ (access-told S M e inv may).writes w)

pub last-stores : (S : State) (M : ℕ → ℕ) (count : ℕ) (events : List Event) (w : ℕ) → IsSound S count → Invariant S M → IsRun S events
    → memory_over M S events w ≡ unwrap_or (last_stored w (actions_of S events)) (M w)
unfolding value_by
last-stores S M count [] w sound inv run = refl
last-stores S M count (e ∷ es) w sound inv run =
    let later = sound-next S count e sound run.0 in
    by_action (action_in S e) refl (last-stores (next S e) (stored_to (store_in S e) M) (count + 1) es w later (kept S M e inv run.0 later.machine) run.1)
  where
    T : State
    T = next S e

    Later : Type 0
    Later = memory_over (stored_to (store_in S e) M) T es w ≡ unwrap_or (last_stored w (actions_of T es)) (stored_to (store_in S e) M w)

    now : (o : Option Action) → action_in S e ≡ o → Later → memory_over (stored_to (store_in S e) M) T es w ≡ unwrap_or (last_stored w (actions_of T es)) (value_by o M w)
    now o is rest = rest ∙ ap (unwrap_or (last_stored w (actions_of T es))) (sym (writes-by S M e w inv run.0 o is))

    by_action : (o : Option Action) → action_in S e ≡ o → Later → memory_over M S (e ∷ es) w ≡ unwrap_or (last_stored w (actions_of S (e ∷ es))) (M w)
    by_action None is rest = now None is rest ∙ ap (λ (xs : List Action). unwrap_or (last_stored w xs) (M w)) (sym (read-none action_in S e es is))
    by_action (Some a) is rest =
        now (Some a) is rest
        ∙ (sym (or-else (last_stored w (actions_of T es)) (stores_to w a) (M w)) ∙ ap (λ (xs : List Action). unwrap_or (last_stored w xs) (M w)) (sym (read-some action_in S e es a is)))

-- ---- every run

pub reads-last : (C : Setting) (events : List Event) → IsWellFormed C → IsRun (initial_state C) events → ReadsLastStores C.program.memory (actions_of (initial_state C) events)
reads-last C events well run before rest a value is reads =
    let S : State = initial_state C in
    let s = split action_in S events before (accesses a) rest is in
    let parts = run-front S s.past s.later s.event (subst (IsRun S) s.is run) in
    let sound = opened-sound C well in
    let inv = opened-invariant C well in
    let here = run-kept S (first_memory C) 0 s.past sound inv parts.0 in
    let made = (access-told (after S s.past) (memory_over (first_memory C) S s.past) s.event here.1 parts.1).made a (action-access (after S s.past) s.event a s.told) in
    made.reads value reads ∙ (last-stores S (first_memory C) 0 s.past a.word sound inv parts.0 ∙ ap (λ (xs : List Action). word_after C.program.memory xs a.word) s.front)
