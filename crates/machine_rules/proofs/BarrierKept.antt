-- The barrier allows all that is done in a run: a core starts a phase after all cores have arrived in the one before, and does
-- nothing in a phase before it has started it.
use Rattle.std.proofs.Common.{◌≡◌, ◌⊎◌, inl, inr, ℕ, zero, suc, ◌+◌, ◌<◌, ◌≤◌, nat_lt, ◌&&◌, not, Bool, true, false, List, [], ◌∷◌, length, slice_get, Option, Some, None, refl, sym, ap, subst, ◌∙◌, arith}
use Rattle.std.proofs.lemmas.Bool.Decides.{nat_tests}
use Rattle.std.proofs.lemmas.Option.{same_Some, none-some, slice_get_within}
use Rattle.message_net.specs.declared.event.Event.{Event}
use Rattle.phase_barrier.specs.Barrier.{all_arrived}
use Rattle.registration_protocol.specs.Node.{NodeParts, Setting}
use Rattle.machine_rules.specs.State.{State, initial_state}
use Rattle.machine_rules.specs.Next.{next}
use Rattle.machine_rules.specs.Memory.{store_in}
use Rattle.machine_rules.specs.Runs.{IsRun}
use Rattle.machine_rules.specs.Flight.{bit, flight, is_go_to}
use Rattle.machine_rules.specs.Coherent.{is_alive}
use Rattle.machine_rules.specs.Sound.{IsSound, IsWellFormed}
use Rattle.machine_rules.specs.Actions.{Access, BarrierAction, Action, accesses, arrives, starts, acting_core, acting_phase}
use Rattle.machine_rules.specs.Accesses.{access_in, synchronization_in, action_in, actions_of}
use Rattle.machine_rules.specs.Consistent.{IsAt, StandsBefore, IsBarrierLegal}
use Rattle.machine_rules.proofs.Invariant.{Invariant}
use Rattle.machine_rules.proofs.Outcomes.{stored_to}
use Rattle.machine_rules.proofs.SoundEvents.{sound-next}
use Rattle.machine_rules.proofs.Kept.{kept}
use Rattle.machine_rules.proofs.OpenedFacts.{opened-setting, opened-node}
use Rattle.machine_rules.proofs.OpenedSound.{opened-sound}
use Rattle.machine_rules.proofs.OpenedInvariant.{opened-invariant}
use Rattle.machine_rules.proofs.RunsKept.{same-setting}
use Rattle.machine_rules.proofs.RunsCoherent.{first_memory}
use Rattle.machine_rules.proofs.DispatchCore.{node-there}
use Rattle.machine_rules.proofs.TasksMove.{IsOn, HasMoved, IsDone, IsStarted, Moves, moves}
use Rattle.machine_rules.proofs.ActionsDone.{either-way, with-synchronization, no-action, action-done}
use Rattle.machine_rules.proofs.ReadOff.{read-none, read-some}

-- a core has arrived in a phase, or is past it
abbrev pub HasDone : NodeParts → ℕ → Type 0
HasDone n p = (p < n.phase) ⊎ ((n.phase ≡ p) × (n.arrived ≡ true))

abbrev pub arrival : ℕ → ℕ → Action
arrival c p = arrives (record { phase = p; core = c })

abbrev pub start : ℕ → ℕ → Action
start c p = starts (record { phase = p; core = c })

-- it comes to be so by an arrival
done-by : (c : ℕ) (n m : NodeParts) (o : Option Action) (p : ℕ) → IsOn c n m o → HasDone m p → HasDone n p ⊎ (o ≡ Some (arrival c p))
done-by c n m o p (inl stays) (inl past) = inl (inl (omega (arith, stays.phase, past)))
done-by c n m o p (inl stays) (inr (here, now)) = inl (inr (stays.phase ∙ here, stays.arrived ∙ now))
done-by c n m o p (inr (inl comes)) (inl past) = inl (inl (omega (arith, comes.phase, past)))
done-by c n m o p (inr (inl comes)) (inr (here, now)) = inr (comes.is ∙ ap (λ (q : ℕ). Some (arrives (record { phase = q; core = c }))) (comes.phase ∙ here))
done-by c n m o p (inr (inr goes)) (inl past) = by_phase (nat_lt p n.phase) refl where
  by_phase : (b : Bool) → nat_lt p n.phase ≡ b → HasDone n p ⊎ (o ≡ Some (arrives (record { phase = p; core = c })))
  by_phase true less = let low : p < n.phase = grind (arith, nat_tests, less) in inl (inl low)
  by_phase false less = let same : n.phase ≡ p = grind (arith, nat_tests, less, past, goes.phase) in inl (inr (same, goes.before))
done-by c n m o p (inr (inr goes)) (inr (here, now)) = let none = goes.now in absurd (cc)

-- a core is in a later phase only by a start
begun-by : (c : ℕ) (n m : NodeParts) (o : Option Action) (p : ℕ) → IsOn c n m o → m.phase ≡ p → (n.phase ≡ p) ⊎ (o ≡ Some (start c p))
begun-by c n m o p (inl stays) here = inl (stays.phase ∙ here)
begun-by c n m o p (inr (inl comes)) here = inl (comes.phase ∙ here)
begun-by c n m o p (inr (inr goes)) here = inr (goes.is ∙ ap (λ (q : ℕ). Some (starts (record { phase = q; core = c }))) here)

-- when a core starts a phase all cores have arrived in the one before
all-done : (S : State) (M : ℕ → ℕ) (x : BarrierAction) (c : ℕ) (n : NodeParts) (p : ℕ) → Invariant S M → IsStarted S x → slice_get S.nodes c ≡ Some n → p + 1 ≡ x.phase → HasDone n p
all-done S M x c n p inv s found before = by_halted n.halted refl where
  going : flight S (is_go_to x.core) ≡ 1
  going = omega (arith, inv.phases.phase x.core s.node s.found s.awake, s.before, s.keeper)

  missing : all_arrived S.keeper ≡ true → ⊥
  missing all = omega (arith, going, inv.phases.over all x.core)

  alive-one : (y z : Bool) → bit (y && not z) ≤ 1
  alive-one true true = omega arith
  alive-one true false = omega arith
  alive-one false z = omega arith

  arrived-by : (y : Bool) → n.arrived ≡ y → 1 ≤ bit (y && not n.halted) → n.arrived ≡ true
  arrived-by true is some = is
  arrived-by false is some = absurd (omega (arith, some))

  here : bit (is_alive (slice_get S.nodes c)) ≡ bit (n.arrived && not n.halted)
  here = ap (λ (o : Option NodeParts). bit (is_alive o)) found

  by_go : n.halted ≡ false → (g : ℕ) → flight S (is_go_to c) ≡ g → HasDone n p
  by_go awake zero none = inl (omega (arith, inv.phases.phase c n found awake, none, s.keeper, before))
  by_go awake (suc g) some =
      let row = inv.phases.row c in
      let most = alive-one n.arrived n.halted in
      inr (omega (arith, inv.phases.phase c n found awake, some, row, here, most, s.keeper, before), arrived-by n.arrived refl (omega (arith, some, row, here)))

  by_ended : (all_arrived S.keeper ≡ true) ⊎ (length S.setting.program.phases ≡ 0) → HasDone n p
  by_ended (inl all) = absurd (missing all)
  by_ended (inr none) = absurd (omega (arith, none, s.within))

  by_halted : (b : Bool) → n.halted ≡ b → HasDone n p
  by_halted false is = by_go is (flight S (is_go_to c)) refl
  by_halted true is = by_ended (inv.ended c n found is)

-- ---- the actions of a run, seen from a state

pub record IsBarrierFrom (S : State) (actions : List Action) : Type 0 where
  pub together : (j : ℕ) (x : BarrierAction) (c : ℕ) (n : NodeParts) (p : ℕ) → IsAt actions j (starts x) → slice_get S.nodes c ≡ Some n → p + 1 ≡ x.phase → HasDone n p ⊎ StandsBefore actions j (arrival c p)
  pub later : (j : ℕ) (x : BarrierAction) → IsAt actions j (starts x) → 0 < x.phase
  pub begun : (j : ℕ) (a : Action) (n : NodeParts) → IsAt actions j a → slice_get S.nodes (acting_core a) ≡ Some n
      → ((x : BarrierAction) × (a ≡ starts x)) ⊎ ((n.phase ≡ acting_phase a) ⊎ StandsBefore actions j (start (acting_core a) (acting_phase a)))
  pub there : (j : ℕ) (a : Action) → IsAt actions j a → (n : NodeParts) × (slice_get S.nodes (acting_core a) ≡ Some n)

-- what stands before a place stands before the next one with an action in front
further : (b : Action) (actions : List Action) (k : ℕ) (a : Action) → StandsBefore actions k a → StandsBefore (b ∷ actions) (suc k) a
further b actions k a (i, less, is) = (suc i, omega (arith, less), is)

front : (b : Action) (actions : List Action) (k : ℕ) (a : Action) → b ≡ a → StandsBefore (b ∷ actions) (suc k) a
front b actions k a is = (0, omega arith, ap (λ (x : Action). Some x) is)

none-from : (S : State) → IsBarrierFrom S []
none-from S =
    record {
      together = λ j x c n p is found before. absurd (none-some (starts x) is);
      later = λ j x is. absurd (none-some (starts x) is);
      begun = λ j a n is found. absurd (none-some a is);
      there = λ j a is. absurd (none-some a is);
    }

-- the node of a core in a list that doesn't grow
node-before : (S T : State) (c : ℕ) (m : NodeParts) → length T.nodes ≡ length S.nodes → slice_get T.nodes c ≡ Some m → (n : NodeParts) × (slice_get S.nodes c ≡ Some n)
node-before S T c m long found = node-there S c (let within = slice_get_within T.nodes c m found in omega (arith, long, within))

silent-from : (S T : State) (actions : List Action) → length T.nodes ≡ length S.nodes → Moves S T None → IsBarrierFrom T actions → IsBarrierFrom S actions
silent-from S T actions long m rest = record { together = together; later = rest.later; begun = begun; there = λ j a is. let t = rest.there j a is in node-before S T (acting_core a) t.0 long t.1 } where
  together : (j : ℕ) (x : BarrierAction) (c : ℕ) (n : NodeParts) (p : ℕ) → IsAt actions j (starts x) → slice_get S.nodes c ≡ Some n → p + 1 ≡ x.phase → HasDone n p ⊎ StandsBefore actions j (arrival c p)
  together j x c n p is found before = by_later (rest.together j x c moved.node p is moved.found before) where
    moved : HasMoved T c n None
    moved = m.each c n found

    by_now : HasDone n p ⊎ (None ≡ Some (arrival c p)) → HasDone n p ⊎ StandsBefore actions j (arrival c p)
    by_now (inl done) = inl done
    by_now (inr none) = absurd (none-some (arrival c p) none)

    by_later : HasDone moved.node p ⊎ StandsBefore actions j (arrival c p) → HasDone n p ⊎ StandsBefore actions j (arrival c p)
    by_later (inl done) = by_now (done-by c n moved.node None p moved.on done)
    by_later (inr earlier) = inr earlier

  begun : (j : ℕ) (a : Action) (n : NodeParts) → IsAt actions j a → slice_get S.nodes (acting_core a) ≡ Some n
      → ((x : BarrierAction) × (a ≡ starts x)) ⊎ ((n.phase ≡ acting_phase a) ⊎ StandsBefore actions j (start (acting_core a) (acting_phase a)))
  begun j a n is found = by_later (rest.begun j a moved.node is moved.found) where
    moved : HasMoved T (acting_core a) n None
    moved = m.each (acting_core a) n found

    by_now : (n.phase ≡ acting_phase a) ⊎ (None ≡ Some (start (acting_core a) (acting_phase a))) → ((x : BarrierAction) × (a ≡ starts x)) ⊎ ((n.phase ≡ acting_phase a) ⊎ StandsBefore actions j (start (acting_core a) (acting_phase a)))
    by_now (inl here) = inr (inl here)
    by_now (inr none) = absurd (none-some (start (acting_core a) (acting_phase a)) none)

    by_later : ((x : BarrierAction) × (a ≡ starts x)) ⊎ ((moved.node.phase ≡ acting_phase a) ⊎ StandsBefore actions j (start (acting_core a) (acting_phase a)))
        → ((x : BarrierAction) × (a ≡ starts x)) ⊎ ((n.phase ≡ acting_phase a) ⊎ StandsBefore actions j (start (acting_core a) (acting_phase a)))
    by_later (inl start') = inl start'
    by_later (inr (inl here)) = by_now (begun-by (acting_core a) n moved.node None (acting_phase a) moved.on here)
    by_later (inr (inr earlier)) = inr (inr earlier)

-- ---- the action of an event in front

-- what has to be known of it: a core does it; a synchronization is that action; and a start is one
record IsFirst (S T : State) (M : ℕ → ℕ) (b : Action) (o : Option Action) : Type 0 where
  pub inv : Invariant S M
  pub long : length T.nodes ≡ length S.nodes
  pub moves' : Moves S T o
  pub done : IsDone S T b
  pub told : (a : Action) → o ≡ Some a → b ≡ a
  pub begins : (x : BarrierAction) → b ≡ starts x → o ≡ Some (starts x)

first-from : (S T : State) (M : ℕ → ℕ) (b : Action) (o : Option Action) (actions : List Action) → IsFirst S T M b o → IsBarrierFrom T actions → IsBarrierFrom S (b ∷ actions)
first-from S T M b o actions f rest = record { together = together; later = later; begun = begun; there = there } where
  together : (j : ℕ) (x : BarrierAction) (c : ℕ) (n : NodeParts) (p : ℕ) → IsAt (b ∷ actions) j (starts x) → slice_get S.nodes c ≡ Some n → p + 1 ≡ x.phase → HasDone n p ⊎ StandsBefore (b ∷ actions) j (arrival c p)
  together zero x c n p is found before = inl (all-done S M x c n p f.inv (f.moves'.acts.starts' x (f.begins x (same_Some b (starts x) is))) found before)
  together (suc k) x c n p is found before = by_later (rest.together k x c moved.node p is moved.found before) where
    moved : HasMoved T c n o
    moved = f.moves'.each c n found

    by_now : HasDone n p ⊎ (o ≡ Some (arrival c p)) → HasDone n p ⊎ StandsBefore (b ∷ actions) (suc k) (arrival c p)
    by_now (inl done) = inl done
    by_now (inr one) = inr (front b actions k (arrival c p) (f.told (arrival c p) one))

    by_later : HasDone moved.node p ⊎ StandsBefore actions k (arrival c p) → HasDone n p ⊎ StandsBefore (b ∷ actions) (suc k) (arrival c p)
    by_later (inl done) = by_now (done-by c n moved.node o p moved.on done)
    by_later (inr earlier) = inr (further b actions k (arrival c p) earlier)

  later : (j : ℕ) (x : BarrierAction) → IsAt (b ∷ actions) j (starts x) → 0 < x.phase
  later zero x is = let s = f.moves'.acts.starts' x (f.begins x (same_Some b (starts x) is)) in omega (arith, s.before)
  later (suc k) x is = rest.later k x is

  begun : (j : ℕ) (a : Action) (n : NodeParts) → IsAt (b ∷ actions) j a → slice_get S.nodes (acting_core a) ≡ Some n
      → ((x : BarrierAction) × (a ≡ starts x)) ⊎ ((n.phase ≡ acting_phase a) ⊎ StandsBefore (b ∷ actions) j (start (acting_core a) (acting_phase a)))
  begun zero a n is found = by_now (begun-by (acting_core a) n moved.node o (acting_phase a) moved.on here) where
    moved : HasMoved T (acting_core a) n o
    moved = f.moves'.each (acting_core a) n found

    same : b ≡ a
    same = same_Some b a is

    here : moved.node.phase ≡ acting_phase a
    here =
        let one : moved.node ≡ f.done.later = same_Some moved.node f.done.later (sym moved.found ∙ (ap (λ (x : Action). slice_get T.nodes (acting_core x)) (sym same) ∙ f.done.now)) in
        ap (λ (k : NodeParts). k.phase) one ∙ (sym f.done.upto.0 ∙ ap acting_phase same)

    by_now : (n.phase ≡ acting_phase a) ⊎ (o ≡ Some (start (acting_core a) (acting_phase a))) → ((x : BarrierAction) × (a ≡ starts x)) ⊎ ((n.phase ≡ acting_phase a) ⊎ StandsBefore (b ∷ actions) 0 (start (acting_core a) (acting_phase a)))
    by_now (inl stays) = inr (inl stays)
    by_now (inr one) = inl (starts-with (sym same ∙ f.told (start (acting_core a) (acting_phase a)) one))
      where
        starts-with : a ≡ start (acting_core a) (acting_phase a) → (x : BarrierAction) × (a ≡ starts x)
        starts-with is = (record { phase = acting_phase a; core = acting_core a }, is)
  begun (suc k) a n is found = by_later (rest.begun k a moved.node is moved.found) where
    moved : HasMoved T (acting_core a) n o
    moved = f.moves'.each (acting_core a) n found

    by_now : (n.phase ≡ acting_phase a) ⊎ (o ≡ Some (start (acting_core a) (acting_phase a))) → ((x : BarrierAction) × (a ≡ starts x)) ⊎ ((n.phase ≡ acting_phase a) ⊎ StandsBefore (b ∷ actions) (suc k) (start (acting_core a) (acting_phase a)))
    by_now (inl stays) = inr (inl stays)
    by_now (inr one) = inr (inr (front b actions k (start (acting_core a) (acting_phase a)) (f.told (start (acting_core a) (acting_phase a)) one)))

    by_later : ((x : BarrierAction) × (a ≡ starts x)) ⊎ ((moved.node.phase ≡ acting_phase a) ⊎ StandsBefore actions k (start (acting_core a) (acting_phase a)))
        → ((x : BarrierAction) × (a ≡ starts x)) ⊎ ((n.phase ≡ acting_phase a) ⊎ StandsBefore (b ∷ actions) (suc k) (start (acting_core a) (acting_phase a)))
    by_later (inl start') = inl start'
    by_later (inr (inl here)) = by_now (begun-by (acting_core a) n moved.node o (acting_phase a) moved.on here)
    by_later (inr (inr earlier)) = inr (inr (further b actions k (start (acting_core a) (acting_phase a)) earlier))

  there : (j : ℕ) (a : Action) → IsAt (b ∷ actions) j a → (n : NodeParts) × (slice_get S.nodes (acting_core a) ≡ Some n)
  there zero a is = subst (λ (x : Action). (n : NodeParts) × (slice_get S.nodes (acting_core x) ≡ Some n)) (same_Some b a is) (f.done.node, f.done.found)
  there (suc k) a is = let t = rest.there k a is in node-before S T (acting_core a) t.0 f.long t.1

-- ---- every run

from-run : (S : State) (M : ℕ → ℕ) (count : ℕ) (events : List Event) → IsSound S count → Invariant S M → IsRun S events → IsBarrierFrom S (actions_of S events)
from-run S M count [] sound inv run = none-from S
from-run S M count (e ∷ es) sound inv run =
    let later = sound-next S count e sound run.0 in
    let good = kept S M e inv run.0 later.machine in
    by_action good (from-run (next S e) (stored_to (store_in S e) M) (count + 1) es later good run.1) (action_in S e) refl
  where
    T : State
    T = next S e

    m : Moves S T (synchronization_in S e)
    m = moves S M e inv run.0

    long : Invariant T (stored_to (store_in S e) M) → length T.nodes ≡ length S.nodes
    long good = good.machine.nodes ∙ (ap (λ (C : Setting). C.shape.cores) (same-setting S e) ∙ sym inv.machine.nodes)

    told : (b a : Action) → action_in S e ≡ Some b → synchronization_in S e ≡ Some a → b ≡ a
    told b a is one = same_Some b a (sym is ∙ with-synchronization S e a one)

    begins : (b : Action) (x : BarrierAction) → action_in S e ≡ Some b → b ≡ starts x → synchronization_in S e ≡ Some (starts x)
    begins b x is same = by_part (either-way S e b is) where
      by_part : (synchronization_in S e ≡ Some b) ⊎ ((a : Access) × (synchronization_in S e ≡ None) × (access_in S e ≡ Some a) × (b ≡ accesses a)) → synchronization_in S e ≡ Some (starts x)
      by_part (inl one) = one ∙ ap (λ (y : Action). Some y) same
      by_part (inr (a, none, one, access)) = absurd (differ (sym access ∙ same)) where
        differ : accesses a ≡ starts x → ⊥
        differ wrong = cc

    by_action : Invariant T (stored_to (store_in S e) M) → IsBarrierFrom T (actions_of T es) → (o : Option Action) → action_in S e ≡ o → IsBarrierFrom S (actions_of S (e ∷ es))
    by_action good rest None is = subst (IsBarrierFrom S) (sym (read-none action_in S e es is)) (silent-from S T (actions_of T es) (long good) (subst (Moves S T) (no-action S e is) m) rest)
    by_action good rest (Some b) is =
        subst (IsBarrierFrom S) (sym (read-some action_in S e es b is))
        (first-from S T M b (synchronization_in S e) (actions_of T es)
        (record { inv = inv; long = long good; moves' = m; done = action-done S M e b inv run.0 is; told = λ a. told b a is; begins = λ x. begins b x is }) rest)

-- the machine begins with each core in phase 0, and none has arrived
pub well-barrier : (C : Setting) (events : List Event) → IsWellFormed C → IsRun (initial_state C) events → IsBarrierLegal C.shape.cores (actions_of (initial_state C) events)
well-barrier C events well run = record { together = together; begun = begun; within = within } where
  S : State
  S = initial_state C

  sound : IsSound S 0
  sound = opened-sound C well

  cores : length S.nodes ≡ C.shape.cores
  cores = sound.machine.nodes ∙ ap (λ (x : Setting). x.shape.cores) (opened-setting C)

  all : IsBarrierFrom S (actions_of S events)
  all = from-run S (first_memory C) 0 events sound (opened-invariant C well) run

  first : (c : ℕ) (n : NodeParts) → slice_get S.nodes c ≡ Some n → (n.phase ≡ 0) × (n.arrived ≡ false)
  first c n found = let new = (opened-node C c n found).is in (ap (λ (x : NodeParts). x.phase) new, ap (λ (x : NodeParts). x.arrived) new)

  together : (j : ℕ) (x : BarrierAction) (core : ℕ) → IsAt (actions_of S events) j (starts x) → core < C.shape.cores
      → (y : BarrierAction) × (y.core ≡ core) × (y.phase + 1 ≡ x.phase) × StandsBefore (actions_of S events) j (arrives y)
  together j x core is within = by_phase x.phase refl where
    node : (n : NodeParts) × (slice_get S.nodes core ≡ Some n)
    node = node-there S core (omega (arith, cores, within))

    by_done : (p : ℕ) → p + 1 ≡ x.phase → HasDone node.0 p ⊎ StandsBefore (actions_of S events) j (arrival core p) → (y : BarrierAction) × (y.core ≡ core) × (y.phase + 1 ≡ x.phase) × StandsBefore (actions_of S events) j (arrives y)
    by_done p before (inl (inl past)) = absurd (omega (arith, past, (first core node.0 node.1).0))
    by_done p before (inl (inr (here, now))) = let none = (first core node.0 node.1).1 in absurd (cc)
    by_done p before (inr earlier) = (record { phase = p; core = core }, refl, before, earlier)

    by_phase : (q : ℕ) → x.phase ≡ q → (y : BarrierAction) × (y.core ≡ core) × (y.phase + 1 ≡ x.phase) × StandsBefore (actions_of S events) j (arrives y)
    by_phase zero none = absurd (omega (arith, none, all.later j x is))
    by_phase (suc p) some = let before : p + 1 ≡ x.phase = omega (arith, some) in by_done p before (all.together j x core node.0 p is node.1 before)

  begun : (j : ℕ) (a : Action) → IsAt (actions_of S events) j a → 0 < acting_phase a
      → ((x : BarrierAction) × (a ≡ starts x)) ⊎ ((x : BarrierAction) × (x.core ≡ acting_core a) × (x.phase ≡ acting_phase a) × StandsBefore (actions_of S events) j (starts x))
  begun j a is late = by_part (all.begun j a node.0 is node.1) where
    node : (n : NodeParts) × (slice_get S.nodes (acting_core a) ≡ Some n)
    node = all.there j a is

    by_part : ((x : BarrierAction) × (a ≡ starts x)) ⊎ ((node.0.phase ≡ acting_phase a) ⊎ StandsBefore (actions_of S events) j (start (acting_core a) (acting_phase a)))
        → ((x : BarrierAction) × (a ≡ starts x)) ⊎ ((x : BarrierAction) × (x.core ≡ acting_core a) × (x.phase ≡ acting_phase a) × StandsBefore (actions_of S events) j (starts x))
    by_part (inl start') = inl start'
    by_part (inr (inl here)) = absurd (omega (arith, here, late, (first (acting_core a) node.0 node.1).0))
    by_part (inr (inr earlier)) = inr (record { phase = acting_phase a; core = acting_core a }, refl, refl, earlier)

  within : (j : ℕ) (a : Action) → IsAt (actions_of S events) j a → acting_core a < C.shape.cores
  within j a is = let t = all.there j a is in let less = slice_get_within S.nodes (acting_core a) t.0 t.1 in omega (arith, less, cores)
