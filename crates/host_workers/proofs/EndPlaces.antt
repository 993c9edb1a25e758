-- How a table of ends stands in a place after more ends were noted in it.
use Rattle.std.proofs.Common.{◌≡◌, ℕ, zero, suc, ◌+◌, ◌*◌, ◌<◌, ◌≤◌, ◌==◌, Bool, true, false, cond, List, [], ◌∷◌, length, slice_get, set, Option, Some, None, refl, sym, ap, subst, ◌∙◌, arith}
use Rattle.std.specs.Option.{option_or}
use Rattle.std.specs.List.{filter_map, cons_option}
use Rattle.std.proofs.lemmas.Bool.Decides.{nat_tests}
use Rattle.std.proofs.lemmas.Option.{none-some, same_Some, slice_get_within}
use Rattle.rv_core.specs.declared.ending.EndShown.{EndShown}
use Rattle.rv_core.specs.declared.ending.TaskEnd.{TaskEnd}
use Rattle.rv_core.specs.declared.task.TaskState.{TaskState}
use Rattle.registration_protocol.specs.Node.{NodeParts}
use Rattle.registration_protocol.specs.OwnEvents.{end_of, end_by, shown_by}
use Rattle.machine_rules.specs.Runs.{end_in_phase}
use Rattle.dn_machine.specs.Ends.{EndTable, end_index, with_end}
use Rattle.host_workers.specs.Ends.{with_ends, node_standing}

-- ---- an item of a list that is set

get-put : {X : Type 0} (xs : List X) (i : ℕ) (y : X) → i < length xs → slice_get (set xs i y) i ≡ Some y
get-put [] i y inside = absurd (omega (arith, inside))
get-put (x ∷ xs) zero y inside = refl
get-put (x ∷ xs) (suc i) y inside = get-put xs i y (omega (arith, inside))

other-put : {X : Type 0} (xs : List X) (i j : ℕ) (y : X) → (i == j) ≡ false → slice_get (set xs i y) j ≡ slice_get xs j
other-put [] i j y apart = refl
other-put (x ∷ xs) zero zero y apart = absurd (cc)
other-put (x ∷ xs) zero (suc j) y apart = refl
other-put (x ∷ xs) (suc i) zero y apart = refl
other-put (x ∷ xs) (suc i) (suc j) y apart = other-put xs i j y (let e : (i == j) ≡ (suc i == suc j) = grind (arith, nat_tests) in e ∙ apart)

-- ---- an end is of its node's phase and core

pub record IsEndOf (n : NodeParts) (x : TaskEnd) : Type 0 where
  pub phase : x.phase.0 ≡ n.phase
  pub core : x.core.0 ≡ n.core

pub end-of : (n : NodeParts) (x : TaskEnd) → node_standing n ≡ Some x → IsEndOf n x
end-of n x is = by_task n.task is where
  by_shown : (t : TaskState) (o : Option EndShown) → end_by n t o ≡ Some x → IsEndOf n x
  by_shown t None e = absurd (none-some x e)
  by_shown t (Some s) e = let same = same_Some _ x e in rw (← same) record { phase = refl; core = refl }

  by_task : (o : Option TaskState) → end_of n o ≡ Some x → IsEndOf n x
  by_task None e = absurd (none-some x e)
  by_task (Some t) e = by_shown t (shown_by t.end n.waiting) e

-- ---- one end more

-- the end of another core is elsewhere
other-place : (table : EndTable) (x : TaskEnd) (phase core : ℕ) → x.core.0 < 16 → core < 16 → (x.phase.0 ≡ phase → x.core.0 ≡ core → ⊥)
    → slice_get (with_end (Some x) table) (end_index phase core) ≡ slice_get table (end_index phase core)
other-place table x phase core low small other =
    other-put table (end_index x.phase.0 x.core.0) (end_index phase core) (Some x) (by_test (end_index x.phase.0 x.core.0 == end_index phase core) refl)
  where
    by_test : (t : Bool) → (end_index x.phase.0 x.core.0 == end_index phase core) ≡ t → (end_index x.phase.0 x.core.0 == end_index phase core) ≡ false
    by_test false e = e
    by_test true e =
        let same : 16 * x.phase.0 + x.core.0 ≡ 16 * phase + core = grind (arith, nat_tests, e) in
        absurd (other (omega (arith, same, low, small)) (omega (arith, same, low, small)))

own-place : (table : EndTable) (x : TaskEnd) (phase core : ℕ) (old : Option TaskEnd) → x.phase.0 ≡ phase → x.core.0 ≡ core → slice_get table (end_index phase core) ≡ Some old
    → slice_get (with_end (Some x) table) (end_index phase core) ≡ Some (Some x)
own-place table x phase core old in_phase of_core is =
    let inside = slice_get_within table (end_index phase core) old is in
    let same : end_index x.phase.0 x.core.0 ≡ end_index phase core = omega (arith, in_phase, of_core) in
    rw same (get-put table (end_index phase core) (Some x) inside)

-- how a node's task stands is noted in the place of its phase and core, if it is anywhere
pub own-noted : (table : EndTable) (n : NodeParts) (phase core : ℕ) (old : Option TaskEnd) → n.core ≡ core → core < 16 → slice_get table (end_index phase core) ≡ Some old
    → slice_get (with_end (node_standing n) table) (end_index phase core) ≡ Some (option_or (end_in_phase phase (Some n)) old)
own-noted table n phase core old place small is = by_end (node_standing n) refl where
  none_in : node_standing n ≡ None → (t : Bool) → cond t (node_standing n) None ≡ None
  none_in none true = none
  none_in none false = refl

  by_test : (x : TaskEnd) (t : Bool) → node_standing n ≡ Some x → IsEndOf n x → (n.phase == phase) ≡ t
      → slice_get (with_end (Some x) table) (end_index phase core) ≡ Some (option_or (cond t (node_standing n) None) old)
  by_test x true e of test =
      let here : x.phase.0 ≡ phase = grind (arith, nat_tests, of.phase, test) in
      own-place table x phase core old here (of.core ∙ place) is ∙ ap (λ (o : Option TaskEnd). Some (option_or o old)) (sym e)
  by_test x false e of test =
      other-place table x phase core (omega (arith, of.core, place, small)) small (λ same _. absurd (let hit : (n.phase == phase) ≡ true = grind (arith, nat_tests, of.phase, same) in cc)) ∙ is

  by_end : (o : Option TaskEnd) → node_standing n ≡ o → slice_get (with_end o table) (end_index phase core) ≡ Some (option_or (end_in_phase phase (Some n)) old)
  by_end None e = is ∙ ap (λ (o : Option TaskEnd). Some (option_or o old)) (sym (none_in e (n.phase == phase)))
  by_end (Some x) e = by_test x (n.phase == phase) e (end-of n x e) refl

-- how another core's task stands is noted elsewhere
pub other-noted : (table : EndTable) (n : NodeParts) (phase core : ℕ) → n.core < 16 → core < 16 → (n.core ≡ core → ⊥)
    → slice_get (with_end (node_standing n) table) (end_index phase core) ≡ slice_get table (end_index phase core)
other-noted table n phase core low small other = by_end (node_standing n) refl where
  by_end : (o : Option TaskEnd) → node_standing n ≡ o → slice_get (with_end o table) (end_index phase core) ≡ slice_get table (end_index phase core)
  by_end None e = refl
  by_end (Some x) e =
      let of = end-of n x e in
      other-place table x phase core (omega (arith, of.core, low)) small (λ _ same. other (sym of.core ∙ same))

-- ---- how the tasks of all nodes stand

-- one node after the other
nodes-noted : (n : NodeParts) (ns : List NodeParts) (table : EndTable) → with_ends (filter_map node_standing (n ∷ ns)) table ≡ with_ends (filter_map node_standing ns) (with_end (node_standing n) table)
nodes-noted n ns table = by_end (node_standing n) where
  by_end : (o : Option TaskEnd) → with_ends (cons_option o (filter_map node_standing ns)) table ≡ with_ends (filter_map node_standing ns) (with_end o table)
  by_end None = refl
  by_end (Some x) = refl

-- the nodes are those of the cores from this one on, of which there are at most sixteen
pub record AreFrom (first : ℕ) (ns : List NodeParts) : Type 0 where
  pub place : (i : ℕ) (n : NodeParts) → slice_get ns i ≡ Some n → n.core ≡ first + i
  pub few : first + length ns ≤ 16

from-next : (first : ℕ) (n : NodeParts) (ns : List NodeParts) → AreFrom first (n ∷ ns) → AreFrom (first + 1) ns
from-next first n ns from =
    record { place = λ i m there. (let at = from.place (suc i) m there in omega (arith, at)); few = omega (arith, from.few) }

from-first : (first : ℕ) (n : NodeParts) (ns : List NodeParts) → AreFrom first (n ∷ ns) → n.core ≡ first
from-first first n ns from = let at = from.place 0 n refl in omega (arith, at)

-- a core before or behind them
pub none-noted : (first : ℕ) (ns : List NodeParts) (table : EndTable) (phase core : ℕ) → AreFrom first ns → core < 16 → ((i : ℕ) → i < length ns → core ≡ first + i → ⊥)
    → slice_get (with_ends (filter_map node_standing ns) table) (end_index phase core) ≡ slice_get table (end_index phase core)
none-noted first [] table phase core from small other = refl
none-noted first (n ∷ ns) table phase core from small other =
    let at = from-first first n ns from in
    let on : (i : ℕ) → i < length ns → core ≡ first + 1 + i → ⊥ = λ i inside is. other (suc i) (omega (arith, inside)) (omega (arith, is)) in
    let apart : n.core ≡ core → ⊥ = λ same. other 0 (omega arith) (omega (arith, same, at)) in
    ap (λ (t : EndTable). slice_get t (end_index phase core)) (nodes-noted n ns table)
    ∙ (none-noted (first + 1) ns (with_end (node_standing n) table) phase core (from-next first n ns from) small on
    ∙ other-noted table n phase core (omega (arith, at, from.few)) small apart)

-- a core that is one of them
pub one-noted : (first : ℕ) (ns : List NodeParts) (table : EndTable) (phase i : ℕ) (n : NodeParts) (old : Option TaskEnd) → AreFrom first ns → slice_get ns i ≡ Some n
    → slice_get table (end_index phase (first + i)) ≡ Some old
    → slice_get (with_ends (filter_map node_standing ns) table) (end_index phase (first + i)) ≡ Some (option_or (end_in_phase phase (Some n)) old)
one-noted first [] table phase i n old from there is = absurd (none-some n there)
one-noted first (m ∷ ns) table phase zero n old from there is =
    let none : first + 0 ≡ first = omega arith in
    let same = same_Some m n there in
    let at = from-first first m ns from in
    ap (λ (t : EndTable). slice_get t (end_index phase (first + 0))) (nodes-noted m ns table)
    ∙ (none-noted (first + 1) ns (with_end (node_standing m) table) phase (first + 0) (from-next first m ns from) (omega (arith, from.few)) (λ i inside is. omega (arith, is))
    ∙ (own-noted table m phase (first + 0) old (omega (arith, at)) (omega (arith, from.few)) is
    ∙ ap (λ (x : NodeParts). Some (option_or (end_in_phase phase (Some x)) old)) same))
one-noted first (m ∷ ns) table phase (suc i) n old from there is =
    let on : first + 1 + i ≡ first + suc i = omega arith in
    let at = from-first first m ns from in
    let inside = slice_get_within ns i n there in
    let kept : slice_get (with_end (node_standing m) table) (end_index phase (first + suc i)) ≡ Some old =
    other-noted table m phase (first + suc i) (omega (arith, at, from.few)) (omega (arith, from.few, inside)) (λ same. omega (arith, same, at)) ∙ is in
    ap (λ (t : EndTable). slice_get t (end_index phase (first + suc i))) (nodes-noted m ns table)
    ∙ subst (λ (c : ℕ). slice_get (with_ends (filter_map node_standing ns) (with_end (node_standing m) table)) (end_index phase c) ≡ Some (option_or (end_in_phase phase (Some n)) old)) on
    (one-noted (first + 1) ns (with_end (node_standing m) table) phase i n old (from-next first m ns from) there
    (subst (λ (c : ℕ). slice_get (with_end (node_standing m) table) (end_index phase c) ≡ Some old) (sym on) kept))
