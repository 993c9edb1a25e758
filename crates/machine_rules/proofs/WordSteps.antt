-- Every event keeps what is known of words.
use Rattle.std.proofs.Common.{◌≡◌, ℕ, ◌≤◌, ◌==◌, Bool, true, false, cond, slice_get, Option, Some, refl, sym, ap, subst, ◌∙◌, arith}
use Rattle.std.proofs.lemmas.Bool.{eqb-true}
use Rattle.message_net.specs.declared.message.Outgoing.{Outgoing}
use Rattle.word_cache.specs.declared.row.Entry.{Entry}
use Rattle.word_cache.specs.declared.row.Entry.TheVariants.{Leaving}
use Rattle.registration_protocol.specs.Node.{NodeParts, entry_of}
use Rattle.machine_rules.specs.State.{State, entry_in, entry_at, home_at}
use Rattle.machine_rules.specs.Coherent.{MayStore}
use Rattle.machine_rules.proofs.Bits.{pending_bit, leaving_bit}
use Rattle.machine_rules.proofs.Invariant.{WordsGood, WordRow, word_counts}
use Rattle.machine_rules.proofs.Steps.{NodeStep}
use Rattle.machine_rules.proofs.WordEvents.{flows, IsAside, WordEvent, entry-node, rows}
use Rattle.machine_rules.proofs.WordCore.{AtCore, same-number}
use Rattle.machine_rules.proofs.WordGood.{IsSingle, AreValued}
use Rattle.machine_rules.proofs.WordQuiet.{home-node}

-- a core's step at one word: the entry of word w becomes `new`, and the others stay
pub record EntryStep (S T : State) (core : ℕ) (n m : NodeParts) (w : ℕ) (old new : Option Entry) (left sent : Option Outgoing) : Type 0 where
  pub step : NodeStep S T core n m left sent
  pub was : entry_of n w ≡ old
  pub now : (v : ℕ) → entry_of m v ≡ cond (w == v) new (entry_of n v)
  pub came : (v : ℕ) → (w == v) ≡ false → IsAside v left
  pub went : (v : ℕ) → (w == v) ≡ false → IsAside v sent

pub entry-here : (S : State) (core : ℕ) (n : NodeParts) (v : ℕ) → slice_get S.nodes core ≡ Some n → entry_at S core v ≡ entry_of n v
entry-here S core n v found = ap (entry_in v) found

pub at-core : (S T : State) (core : ℕ) (n m : NodeParts) (w : ℕ) (old new : Option Entry) (left sent : Option Outgoing) → EntryStep S T core n m w old new left sent → AtCore S T w core old new left sent
at-core S T core n m w old new left sent h =
    record {
      was = entry-here S core n w h.step.found ∙ h.was;
      is = rw (same-number core) at (entry-node S T core n m left sent h.step core w) ∙ (rw (same-number w) at (h.now w));
      others = λ d e. rw (e) at (entry-node S T core n m left sent h.step d w);
      home = home-node S T core n m left sent h.step w;
      flows = flows S T left sent h.step.flown w;
    }

pub word-event : (S T : State) (core : ℕ) (n m : NodeParts) (w : ℕ) (old new : Option Entry) (left sent : Option Outgoing) → EntryStep S T core n m w old new left sent
    → WordEvent S T w core (λ _. new) (home_at S w) left sent
word-event S T core n m w old new left sent h =
    record {
      entries = λ d v. by_tests d v (w == v) refl (core == d) refl;
      homes = λ v. home-node S T core n m left sent h.step v ∙ same_home v (w == v) refl;
      flown = h.step.flown;
      came = h.came;
      went = h.went;
    }
  where
    same_home : (v : ℕ) (x : Bool) → (w == v) ≡ x → home_at S v ≡ cond x (home_at S w) (home_at S v)
    same_home v true e = ap (home_at S) (sym (eqb-true w v e))
    same_home v false e = refl

    by_tests : (d v : ℕ) (x : Bool) → (w == v) ≡ x → (y : Bool) → (core == d) ≡ y → entry_at T d v ≡ cond x (cond y new (entry_at S d v)) (entry_at S d v)
    by_tests d v x e false f = rw (f) at (entry-node S T core n m left sent h.step d v) ∙ same x where
      same : (z : Bool) → entry_at S d v ≡ cond z (entry_at S d v) (entry_at S d v)
      same true = refl
      same false = refl
    by_tests d v true e true f = rw (f) at (entry-node S T core n m left sent h.step d v) ∙ (rw (e) at (h.now v))
    by_tests d v false e true f =
        rw (f) at (entry-node S T core n m left sent h.step d v) ∙ (rw (e) at (h.now v))
        ∙ sym (subst (λ (x : ℕ). entry_at S x v ≡ entry_of n v) (eqb-true core d f) (entry-here S core n v h.step.found))

-- the good words after a core's step at one word
pub core-good : (S T : State) (core : ℕ) (n m : NodeParts) (w : ℕ) (old new : Option Entry) (left sent : Option Outgoing) → EntryStep S T core n m w old new left sent → WordsGood S
    → ((d : ℕ) → WordRow (word_counts T w d)) → IsSingle T → AreValued T → ((d v : ℕ) → pending_bit (entry_at T d v) ≡ 1 → MayStore T d v) → WordsGood T
core-good S T core n m w old new left sent h g own single valued right =
    record {
      row = rows S T w core (λ _. new) (home_at S w) left sent (word-event S T core n m w old new left sent h) g own;
      single = single;
      valued = valued;
      right = right;
    }

-- pending bits after it: no more than before, where `new` is pending only if `old` was
pub calm : (S T : State) (core : ℕ) (n m : NodeParts) (w : ℕ) (old new : Option Entry) (left sent : Option Outgoing) → EntryStep S T core n m w old new left sent
    → pending_bit new ≤ pending_bit old → (d v : ℕ) → pending_bit (entry_at T d v) ≤ pending_bit (entry_at S d v)
calm S T core n m w old new left sent h less d v = by_tests (w == v) refl (core == d) refl where
  by_tests : (x : Bool) → (w == v) ≡ x → (y : Bool) → (core == d) ≡ y → pending_bit (entry_at T d v) ≤ pending_bit (entry_at S d v)
  by_tests true e true f =
      let now = rw (e, f) at ((word-event S T core n m w old new left sent h).entries d v) in
      let here : entry_at S d v ≡ old = subst (λ (x : ℕ). entry_at S d x ≡ old) (eqb-true w v e) (subst (λ (x : ℕ). entry_at S x w ≡ old) (eqb-true core d f) ((at-core S T core n m w old new left sent h).was)) in
      omega (arith, ap pending_bit now, ap pending_bit here, less)
  by_tests true e false f =
      let now = rw (e, f) at ((word-event S T core n m w old new left sent h).entries d v) in
      omega (arith, ap pending_bit now)
  by_tests false e y f =
      let now = rw (e) at ((word-event S T core n m w old new left sent h).entries d v) in
      omega (arith, ap pending_bit now)

-- no entry begins to leave, where `new` isn't leaving
pub still : (S T : State) (core : ℕ) (n m : NodeParts) (w : ℕ) (old new : Option Entry) (left sent : Option Outgoing) → EntryStep S T core n m w old new left sent
    → leaving_bit new ≡ 0 → (d v value : ℕ) → entry_at T d v ≡ Some (Leaving value) → entry_at S d v ≡ Some (Leaving value)
still S T core n m w old new left sent h none d v value is = by_tests (w == v) refl (core == d) refl where
  by_tests : (x : Bool) → (w == v) ≡ x → (y : Bool) → (core == d) ≡ y → entry_at S d v ≡ Some (Leaving value)
  by_tests true e true f =
      let now = rw (e, f) at ((word-event S T core n m w old new left sent h).entries d v) in
      let leaves : leaving_bit new ≡ 1 = ap leaving_bit (sym now ∙ is) in
      absurd (omega (arith, none, leaves))
  by_tests true e false f =
      let now = rw (e, f) at ((word-event S T core n m w old new left sent h).entries d v) in
      sym now ∙ is
  by_tests false e y f =
      let now = rw (e) at ((word-event S T core n m w old new left sent h).entries d v) in
      sym now ∙ is
