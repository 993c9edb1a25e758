-- Tasks of one phase of a checked program that hold no lock in common keep out of each other's words.
use Rattle.std.proofs.Common.{◌≡◌, ◌≢◌, ℕ, suc, ◌+◌, Bool, true, ◌&&◌, ◌||◌, ◌⊎◌, inl, inr, IsTrue, length, List, [], ◌∷◌, get_or, sym, subst, ⊎_elim, arith}
use Rattle.std.specs.List.{IsAmong}
use Rattle.std.proofs.lemmas.Bool.{false≢true, and_parts, or_cases, or_left, or_right}
use Rattle.region_table.specs.Program.{ProgramParts}
use Rattle.region_table.specs.Words.{has}
use Rattle.region_table.specs.Plan.{uses_plainly, task_guards}
use Rattle.region_table.specs.declared.interval.Interval.{Interval}
use Rattle.region_table.specs.declared.declared.TaskDecl.{TaskDecl}
use Rattle.region_table.specs.declared.declared.Phase.{Phase}
use Rattle.rv_core.specs.Access.{is_held, under, may_load, may_store}
use Rattle.effect_checker.specs.Checked.{IsChecked, writes_plainly}
use Rattle.effect_checker.proofs.SeparationLemmas.{phase-checked, plain_words_apart, guarded_words_apart, locks_apart}
use Rattle.flat_machine.specs.Step.{Started, flat_step, segment}
use Rattle.flat_machine.specs.Laws.{at_memory, IsAlike, HoldApart, SameInEitherOrder}
use Rattle.flat_machine.proofs.Rights.{not-true}
use Rattle.flat_machine.proofs.Frames.{KeepsOut, second-task, swapped-memory, other-kept}

-- a lock that is held, and whose set in a list that begins with that of lock `first` has the word
pub record IsUnder (ss : List (List Interval)) (first held w : ℕ) : Type 0 where
  pub place : ℕ
  pub holds : is_held held (first + place) ≡ true
  pub has : has (get_or ss place []) w ≡ true

pub under-some : (ss : List (List Interval)) (first held w : ℕ) → under ss first held w ≡ true → IsUnder ss first held w
under-some [] first held w e = absurd (false≢true e)
under-some (s ∷ ss) first held w e =
    let later = under-some ss (first + 1) held w in
    ⊎_elim
    (λ (both : (is_held held first && has s w) ≡ true).
    let parts = and_parts (is_held held first) (has s w) both in
    let here : first ≡ first + 0 = omega arith in
    let found : IsUnder (s ∷ ss) first held w = record { place = 0; holds = subst (λ (l : ℕ). is_held held l ≡ true) here parts.0; has = parts.1 } in
    found)
    (λ (behind : under ss (first + 1) held w ≡ true).
    let u = later behind in
    let there : first + 1 + u.place ≡ first + suc u.place = omega arith in
    let found : IsUnder (s ∷ ss) first held w = record { place = suc u.place; holds = subst (λ (l : ℕ). is_held held l ≡ true) there u.holds; has = u.has } in
    found)
    (or_cases (is_held held first && has s w) (under ss (first + 1) held w) e)

-- a lock that the task holds guards the word for it
record IsGuarded (d : TaskDecl) (held w : ℕ) : Type 0 where
  lock : ℕ
  holds : is_held held lock ≡ true
  guards : task_guards d lock w ≡ true

in_hand : (held place : ℕ) → is_held held (0 + place) ≡ true → is_held held place ≡ true
in_hand held place h = let e : 0 + place ≡ place = omega arith in subst (λ (l : ℕ). is_held held l ≡ true) e h

writes-guarded : (d : TaskDecl) (held w : ℕ) → under d.effects.guarded_writes 0 held w ≡ true → IsGuarded d held w
writes-guarded d held w e =
    let u = under-some d.effects.guarded_writes 0 held w e in
    record {
      lock = u.place;
      holds = in_hand held u.place u.holds;
      guards = or_right (has (get_or d.effects.guarded_reads u.place []) w) (has (get_or d.effects.guarded_writes u.place []) w) u.has;
    }

reads-guarded : (d : TaskDecl) (held w : ℕ) → under d.effects.guarded_reads 0 held w ≡ true → IsGuarded d held w
reads-guarded d held w e =
    let u = under-some d.effects.guarded_reads 0 held w e in
    record {
      lock = u.place;
      holds = in_hand held u.place u.holds;
      guards = or_left (has (get_or d.effects.guarded_reads u.place []) w) (has (get_or d.effects.guarded_writes u.place []) w) u.has;
    }

store-cases : (d : TaskDecl) (held w : ℕ) → may_store d held w ≡ true → IsTrue (writes_plainly d w) ⊎ IsGuarded d held w
store-cases d held w e =
    ⊎_elim (λ (plain : has d.effects.writes w ≡ true). let found : IsTrue (writes_plainly d w) ⊎ IsGuarded d held w = inl plain in found)
    (λ (guarded : under d.effects.guarded_writes 0 held w ≡ true). let found : IsTrue (writes_plainly d w) ⊎ IsGuarded d held w = inr (writes-guarded d held w guarded) in found)
    (or_cases (has d.effects.writes w) (under d.effects.guarded_writes 0 held w) e)

load-cases : (d : TaskDecl) (held w : ℕ) → may_load d held w ≡ true → IsTrue (uses_plainly d w) ⊎ IsGuarded d held w
load-cases d held w e =
    let plain : Bool = has d.effects.reads w || has d.effects.writes w in
    let reads : Bool = under d.effects.guarded_reads 0 held w in
    let writes : Bool = under d.effects.guarded_writes 0 held w in
    ⊎_elim
    (λ (first : (plain || reads) ≡ true).
    ⊎_elim (λ (h : plain ≡ true). let found : IsTrue (uses_plainly d w) ⊎ IsGuarded d held w = inl h in found)
    (λ (h : reads ≡ true). let found : IsTrue (uses_plainly d w) ⊎ IsGuarded d held w = inr (reads-guarded d held w h) in found)
    (or_cases plain reads first))
    (λ (h : writes ≡ true). let found : IsTrue (uses_plainly d w) ⊎ IsGuarded d held w = inr (writes-guarded d held w h) in found)
    (or_cases (plain || reads) writes e)

-- two tasks of a phase of a checked program, on two cores, that hold no lock in common
pub record AreApart (P : ProgramParts) (p : Phase) (a b : Started) : Type 0 where
  pub checked : IsChecked P
  pub phase : IsAmong P.phases p
  pub first : IsAmong p.tasks a.decl
  pub second : IsAmong p.tasks b.decl
  pub cores : a.decl.core.0 ≢ b.decl.core.0
  pub held : HoldApart a.state.held b.state.held

-- a lock that two tasks both hold
pub record SharesLock (first second : ℕ) : Type 0 where
  pub lock : ℕ
  pub one : is_held first lock ≡ true
  pub two : is_held second lock ≡ true

shared-by : (P : ProgramParts) (p : Phase) (a b : TaskDecl) (held all w : ℕ) → IsChecked P → IsAmong P.phases p → IsAmong p.tasks a → IsAmong p.tasks b → a.core.0 ≢ b.core.0
    → IsTrue (writes_plainly a w) ⊎ IsGuarded a held w → IsTrue (uses_plainly b w) ⊎ IsGuarded b all w → SharesLock held all
shared-by P p a b held all w checked phase first second cores (inl writes) (inl uses) = absurd (plain_words_apart p a b w (phase-checked P p checked phase) first second cores writes uses)
shared-by P p a b held all w checked phase first second cores (inl writes) (inr g) =
    absurd (guarded_words_apart p b a g.lock w (phase-checked P p checked phase) second first g.guards (or_right (has a.effects.reads w) (has a.effects.writes w) writes))
shared-by P p a b held all w checked phase first second cores (inr g) (inl uses) =
    absurd (guarded_words_apart p a b g.lock w (phase-checked P p checked phase) first second g.guards uses)
shared-by P p a b held all w checked phase first second cores (inr g) (inr k) =
    let same = locks_apart p a b g.lock k.lock w (phase-checked P p checked phase) first second g.guards k.guards in
    record { lock = g.lock; one = g.holds; two = subst (λ (l : ℕ). is_held all l ≡ true) (sym same) k.holds }

-- what a task may store, and a task on another core may load, both may only with a lock that both hold
pub shares-lock : (P : ProgramParts) (p : Phase) (a b : TaskDecl) (held all w : ℕ) → IsChecked P → IsAmong P.phases p → IsAmong p.tasks a → IsAmong p.tasks b → a.core.0 ≢ b.core.0
    → may_store a held w ≡ true → may_load b all w ≡ true → SharesLock held all
shares-lock P p a b held all w checked phase first second cores stores loads =
    shared-by P p a b held all w checked phase first second cores (store-cases a held w stores) (load-cases b all w loads)

pub keeps-out : (P : ProgramParts) (p : Phase) (a b : Started) → AreApart P p a b → KeepsOut a b
keeps-out P p a b h =
    record {
      out = λ w e. not-true (may_load b.decl b.state.held w)
          (λ f.
          let s = shares-lock P p a.decl b.decl a.state.held b.state.held w h.checked h.phase h.first h.second h.cores e f in
          h.held s.lock s.one s.two);
    }

pub in-either-order : (P : ProgramParts) (p : Phase) (fuel : ℕ) (a b : Started) (m : List ℕ) → AreApart P p a b → AreApart P p b a → length m ≡ length P.memory → SameInEitherOrder P fuel a b m
in-either-order P p fuel a b m ab ba in_m =
    record {
      first = second-task P fuel b a m in_m (keeps-out P p b a ba);
      second = second-task P fuel a b m in_m (keeps-out P p a b ab);
      memory = swapped-memory P fuel a b m in_m (keeps-out P p a b ab) (keeps-out P p b a ba);
    }

pub step-leaves_other : (P : ProgramParts) (p : Phase) (fuel : ℕ) (a b : Started) (m : List ℕ) → AreApart P p a b → length m ≡ length P.memory
    → IsAlike (flat_step P fuel (at_memory a m)).memory m (segment P fuel (at_memory b (flat_step P fuel (at_memory a m)).memory)) (segment P fuel (at_memory b m))
step-leaves_other P p fuel a b m ab in_m = other-kept P fuel a b m in_m (keeps-out P p a b ab)
