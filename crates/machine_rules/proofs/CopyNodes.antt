-- What is known of copies after a core's event that leaves its phase and carries its signatures on.
use Rattle.std.proofs.Common.{◌≡◌, ◌⊎◌, inl, inr, ℕ, ◌+◌, ◌≤◌, ◌==◌, Bool, true, false, cond, slice_get, Option, Some, refl, sym, ap, subst, ◌∙◌, arith}
use Rattle.std.proofs.lemmas.Bool.{eqb-true}
use Rattle.message_net.specs.declared.message.Outgoing.{Outgoing}
use Rattle.word_cache.specs.declared.row.Entry.{Entry}
use Rattle.word_cache.specs.declared.row.Entry.TheVariants.{Valid}
use Rattle.rv_core.specs.Access.{is_held}
use Rattle.registration_protocol.specs.Node.{NodeParts, entry_of}
use Rattle.registration_protocol.specs.Parts.{held_locks}
use Rattle.machine_rules.specs.State.{State, entry_at}
use Rattle.machine_rules.specs.Coherent.{UsesPlainly, holds_lock}
use Rattle.machine_rules.proofs.Bits.{passes, valid_bit}
use Rattle.machine_rules.proofs.Invariant.{CopiesGood, MayBeOld, carriers, carried_by, is_carrying}
use Rattle.machine_rules.proofs.Steps.{NodeStep}
use Rattle.machine_rules.proofs.WordEvents.{entry-node}
use Rattle.machine_rules.proofs.WordCore.{same-number}
use Rattle.machine_rules.proofs.NodeEntries.{entry-own}
use Rattle.machine_rules.proofs.CopyFrames.{carriers-node, LeavesCore, uses-kept, reason-kept}

-- ---- frames

-- as many signatures of each lock have a word as before, if any had
abbrev pub KeepsSigned : State → State → Type 0
KeepsSigned S T = (l w : ℕ) → 1 ≤ carriers S l w → 1 ≤ carriers T l w

-- another core is left as it was
pub leaves-other : (S T : State) (core : ℕ) (n m : NodeParts) (left sent : Option Outgoing) → NodeStep S T core n m left sent → (c : ℕ) → (core == c) ≡ false → LeavesCore S T c
leaves-other S T core n m left sent step c e =
    record {
      setting = step.setting;
      keeper = rw (step.keeper) refl;
      node = λ k found. (k, same ∙ found, refl);
      unheld = λ l none. ap (λ (o : Option NodeParts). holds_lock l o) same ∙ none;
    }
  where
    same : slice_get T.nodes c ≡ slice_get S.nodes c
    same = rw (e) at (step.nodes c)

-- the core's own node then
pub node-now : (S T : State) (core : ℕ) (n m : NodeParts) (left sent : Option Outgoing) → NodeStep S T core n m left sent → slice_get T.nodes core ≡ Some m
node-now S T core n m left sent step = rw (same-number core) at (step.nodes core)

pub phase-own : (S T : State) (core : ℕ) (n m : NodeParts) (left sent : Option Outgoing) → NodeStep S T core n m left sent → m.phase ≡ n.phase
    → (k : NodeParts) → slice_get S.nodes core ≡ Some k → (x : NodeParts) × (slice_get T.nodes core ≡ Some x) × (x.phase ≡ k.phase)
phase-own S T core n m left sent step phase k found =
    (m, node-now S T core n m left sent step, phase ∙ ap (λ (x : NodeParts). x.phase) (one n k (sym step.found ∙ found)))
  where
    one : (a b : NodeParts) → Some a ≡ Some b → a ≡ b
    one a b e = cc

pub leaves-own : (S T : State) (core : ℕ) (n m : NodeParts) (left sent : Option Outgoing) → NodeStep S T core n m left sent → m.phase ≡ n.phase
    → ((l : ℕ) → is_held (held_locks n.task) l ≡ false → is_held (held_locks m.task) l ≡ false) → LeavesCore S T core
leaves-own S T core n m left sent step phase unheld =
    record {
      setting = step.setting;
      keeper = rw (step.keeper) refl;
      node = phase-own S T core n m left sent step phase;
      unheld = λ l none. (
          ap (λ (o : Option NodeParts). holds_lock l o) (node-now S T core n m left sent step)
          ∙ unheld l (sym (ap (λ (o : Option NodeParts). holds_lock l o) step.found) ∙ none));
    }

-- the copies of the core itself and of the others
pub copies-node : (S T : State) (M M' : ℕ → ℕ) (core : ℕ) (n m : NodeParts) (left sent : Option Outgoing) → CopiesGood S M → NodeStep S T core n m left sent
    → ((w value : ℕ) → entry_of m w ≡ Some (Valid value true) → UsesPlainly T core w)
    → ((w value : ℕ) (marked : Bool) → entry_of m w ≡ Some (Valid value marked) → (value ≡ M' w) ⊎ MayBeOld T core w marked)
    → ((c w value : ℕ) (marked : Bool) → (core == c) ≡ false → entry_at S c w ≡ Some (Valid value marked) → (value ≡ M' w) ⊎ MayBeOld T c w marked)
    → CopiesGood T M'
copies-node S T M M' core n m left sent g step own_marked own_fresh others =
    record {
      marked = λ c w value is. by_marked c w value is (core == c) refl;
      fresh = λ c w value marked is. by_fresh c w value marked is (core == c) refl;
    }
  where
    by_marked : (c w value : ℕ) → entry_at T c w ≡ Some (Valid value true) → (x : Bool) → (core == c) ≡ x → UsesPlainly T c w
    by_marked c w value is true e =
        subst (λ (x : ℕ). UsesPlainly T x w) (eqb-true core c e) (own_marked w value (sym (rw (e) at (entry-node S T core n m left sent step c w)) ∙ is))
    by_marked c w value is false e =
        uses-kept S T c w step.setting (leaves-other S T core n m left sent step c e).node (g.marked c w value (sym (rw (e) at (entry-node S T core n m left sent step c w)) ∙ is))

    by_fresh : (c w value : ℕ) (marked : Bool) → entry_at T c w ≡ Some (Valid value marked) → (x : Bool) → (core == c) ≡ x → (value ≡ M' w) ⊎ MayBeOld T c w marked
    by_fresh c w value marked is true e =
        subst (λ (x : ℕ). (value ≡ M' w) ⊎ MayBeOld T x w marked) (eqb-true core c e) (own_fresh w value marked (sym (rw (e) at (entry-node S T core n m left sent step c w)) ∙ is))
    by_fresh c w value marked is false e = others c w value marked e (sym (rw (e) at (entry-node S T core n m left sent step c w)) ∙ is)

pub fresh-other : (S T : State) (M : ℕ → ℕ) (core : ℕ) (n m : NodeParts) (left sent : Option Outgoing) → CopiesGood S M → NodeStep S T core n m left sent → KeepsSigned S T
    → (c w value : ℕ) (marked : Bool) → (core == c) ≡ false → entry_at S c w ≡ Some (Valid value marked) → (value ≡ M w) ⊎ MayBeOld T c w marked
fresh-other S T M core n m left sent g step signed c w value marked e is = by_reason (g.fresh c w value marked is) where
  by_reason : (value ≡ M w) ⊎ MayBeOld S c w marked → (value ≡ M w) ⊎ MayBeOld T c w marked
  by_reason (inl same) = inl same
  by_reason (inr old) = inr (reason-kept S T c w marked (leaves-other S T core n m left sent step c e) (λ l. signed l w) old)

pub own-entry : (S : State) (core : ℕ) (n : NodeParts) (w : ℕ) → slice_get S.nodes core ≡ Some n → entry_at S core w ≡ entry_of n w
own-entry S core n w found = entry-own S core core n w found (same-number core)

pub fresh-own : (S T : State) (M : ℕ → ℕ) (core : ℕ) (n : NodeParts) → CopiesGood S M → slice_get S.nodes core ≡ Some n → LeavesCore S T core → KeepsSigned S T
    → (w value : ℕ) (marked : Bool) → entry_of n w ≡ Some (Valid value marked) → (value ≡ M w) ⊎ MayBeOld T core w marked
fresh-own S T M core n g found leaves signed w value marked is = by_reason (g.fresh core w value marked (own-entry S core n w found ∙ is)) where
  by_reason : (value ≡ M w) ⊎ MayBeOld S core w marked → (value ≡ M w) ⊎ MayBeOld T core w marked
  by_reason (inl same) = inl same
  by_reason (inr old) = inr (reason-kept S T core w marked leaves (λ l. signed l w) old)

-- ---- an event that leaves the phase, holds no more, and carries the signatures on

pub record IsSteady (S : State) (n m : NodeParts) (left sent : Option Outgoing) : Type 0 where
  pub phase : m.phase ≡ n.phase
  pub unheld : (l : ℕ) → is_held (held_locks n.task) l ≡ false → is_held (held_locks m.task) l ≡ false
  pub carries : (l w : ℕ) → carried_by l w S.keeper.phase n ≤ carried_by l w S.keeper.phase m + passes (is_carrying l w S.keeper.phase) sent
  pub came : (l w : ℕ) → passes (is_carrying l w S.keeper.phase) left ≡ 0

pub signed-by : (S T : State) (core : ℕ) (n m : NodeParts) (left sent : Option Outgoing) → NodeStep S T core n m left sent
    → ((l w : ℕ) → carried_by l w S.keeper.phase n ≤ carried_by l w S.keeper.phase m + passes (is_carrying l w S.keeper.phase) sent)
    → ((l w : ℕ) → passes (is_carrying l w S.keeper.phase) left ≡ 0) → KeepsSigned S T
signed-by S T core n m left sent step carries came l w some =
    omega (arith, some, carriers-node S T core n m left sent step l w, carries l w, came l w)

pub leaves-steady : (S T : State) (core : ℕ) (n m : NodeParts) (left sent : Option Outgoing) → NodeStep S T core n m left sent → IsSteady S n m left sent → LeavesCore S T core
leaves-steady S T core n m left sent step h = leaves-own S T core n m left sent step h.phase h.unheld

pub signed-steady : (S T : State) (core : ℕ) (n m : NodeParts) (left sent : Option Outgoing) → NodeStep S T core n m left sent → IsSteady S n m left sent → KeepsSigned S T
signed-steady S T core n m left sent step h = signed-by S T core n m left sent step h.carries h.came

-- each copy was one before
abbrev pub HasNoNew : NodeParts → NodeParts → Type 0
HasNoNew n m = (w value : ℕ) (marked : Bool) → entry_of m w ≡ Some (Valid value marked) → entry_of n w ≡ Some (Valid value marked)

pub copies-steady : (S T : State) (M : ℕ → ℕ) (core : ℕ) (n m : NodeParts) (left sent : Option Outgoing) → CopiesGood S M → NodeStep S T core n m left sent → IsSteady S n m left sent
    → HasNoNew n m → CopiesGood T M
copies-steady S T M core n m left sent g step h old =
    let signed = signed-steady S T core n m left sent step h in
    let leaves = leaves-steady S T core n m left sent step h in
    copies-node S T M M core n m left sent g step
    (λ w value is. uses-kept S T core w step.setting leaves.node (g.marked core w value (own-entry S core n w step.found ∙ old w value true is)))
    (λ w value marked is. fresh-own S T M core n g step.found leaves signed w value marked (old w value marked is))
    (fresh-other S T M core n m left sent g step signed)

pub old-same : (n m : NodeParts) → ((v : ℕ) → entry_of m v ≡ entry_of n v) → HasNoNew n m
old-same n m same w value marked is = sym (same w) ∙ is

-- the entry of one word becomes one that is no copy
pub old-at : (n m : NodeParts) (w : ℕ) (e : Option Entry) → ((v : ℕ) → entry_of m v ≡ cond (w == v) e (entry_of n v)) → valid_bit e ≡ 0 → HasNoNew n m
old-at n m w e now none v value marked is = by_test (w == v) refl where
  by_test : (x : Bool) → (w == v) ≡ x → entry_of n v ≡ Some (Valid value marked)
  by_test true f =
      let here : e ≡ Some (Valid value marked) = sym (rw (f) at (now v)) ∙ is in
      absurd (omega (arith, none, ap valid_bit here))
  by_test false f = sym (rw (f) at (now v)) ∙ is

-- a message, if there is one, that carries no signature home
abbrev pub IsUnsigned : Option Outgoing → Type 0
IsUnsigned out = (l w p : ℕ) → passes (is_carrying l w p) out ≡ 0

pub steady-same : (S : State) (n m : NodeParts) (left sent : Option Outgoing) → m.phase ≡ n.phase → held_locks m.task ≡ held_locks n.task → m.signatures ≡ n.signatures → IsUnsigned left → IsSteady S n m left sent
steady-same S n m left sent phase held signatures came =
    record {
      phase = phase;
      unheld = λ l none. ap (λ (x : ℕ). is_held x l) held ∙ none;
      carries = λ l w. (
          let same : carried_by l w S.keeper.phase m ≡ carried_by l w S.keeper.phase n = rw (held, signatures) refl in
          omega (arith, same));
      came = λ l w. came l w S.keeper.phase;
    }

pub copies-same : (S T : State) (M : ℕ → ℕ) (core : ℕ) (n m : NodeParts) (left sent : Option Outgoing) → CopiesGood S M → NodeStep S T core n m left sent
    → m.phase ≡ n.phase → held_locks m.task ≡ held_locks n.task → m.signatures ≡ n.signatures → IsUnsigned left → HasNoNew n m → CopiesGood T M
copies-same S T M core n m left sent g step phase held signatures came old =
    copies-steady S T M core n m left sent g step (steady-same S n m left sent phase held signatures came) old
