-- Tasks beside one another: a shared word is used in a section of its lock alone, and a step of one task leaves what another
-- relies on.
use Rattle.std.proofs.Common.{◌≡◌, ◌≢◌, ◌⊎◌, inl, inr, ℕ, zero, suc, ◌+◌, ◌<◌, Bool, true, false, ◌&&◌, ◌||◌, not, ◌==◌, List, [], ◌∷◌, length, slice_index, get_or, refl, sym, ap, ◌∙◌, subst, arith, ⊎_elim}
use Rattle.std.specs.List.{IsAmong, list_any}
use Rattle.std.proofs.lemmas.Bool.{false≢true, ne_eqb, and_parts, and_from, eq-eqb, or_cases, or_left, or_right}
use Rattle.std.proofs.lemmas.List.Folds.{list_any_at}
use Rattle.region_table.specs.Words.{has}
use Rattle.region_table.specs.Plan.{uses_plainly, task_guards, task_writes}
use Rattle.region_table.specs.declared.interval.Interval.{Interval}
use Rattle.region_table.specs.declared.declared.TaskDecl.{TaskDecl}
use Rattle.region_table.specs.declared.declared.Phase.{Phase}
use Rattle.rv_core.specs.Access.{is_held, under, may_load, may_store}
use Rattle.effect_checker.specs.Checked.{IsCheckedPhase, writes_plainly}
use Rattle.effect_checker.proofs.SeparationLemmas.{plain_words_apart, guarded_words_apart}
use Rattle.flat_machine.specs.Step.{Started}
use Rattle.flat_machine.proofs.Frames.{KeepsOut}
use Rattle.flat_machine.proofs.Rights.{not-true, both-ways, store-loads}
use Rattle.flat_machine.proofs.Separation.{under-some}
use Rattle.common_outcomes.specs.Alone.{Setup, Alone, writes_elsewhere, is_shared, value_at_start}
use Rattle.common_outcomes.specs.Agreeing.{Denotes, IsInSection, FitsAlone}

-- ---- shared words

-- an element that passes
record Passes {X : Type 0} (test : X → Bool) (xs : List X) : Type 0 where
  item : X
  among : IsAmong xs item
  passes : test item ≡ true

passes-some : {X : Type 0} (test : X → Bool) (xs : List X) → list_any test xs ≡ true → Passes test xs
passes-some test [] e = absurd (false≢true e)
passes-some {X} test (x ∷ xs) e =
    let later = passes-some test xs in
    ⊎_elim
    (λ (h : test x ≡ true). let found : Passes test (x ∷ xs) = record { item = x; among = (zero, (omega arith, refl)); passes = h } in found)
    (λ (h : list_any test xs ≡ true).
    let p = later h in
    let n = p.among.1.0 in
    let found : Passes test (x ∷ xs) = record { item = p.item; among = (suc p.among.0, (omega arith, p.among.1.1)); passes = p.passes } in
    found)
    (or_cases (test x) (list_any test xs) e)

any-default : {X : Type 0} (xs : List X) (i : ℕ) (a b : X) → i < length xs → get_or xs i a ≡ get_or xs i b
any-default [] i a b within = absurd (omega arith)
any-default (x ∷ xs) zero a b within = refl
any-default (x ∷ xs) (suc i) a b within = any-default xs i a b (omega arith)

held-at : (held place : ℕ) → is_held held (0 + place) ≡ true → is_held held place ≡ true
held-at held place h = let e : 0 + place ≡ place = omega arith in subst (λ (l : ℕ). is_held held l ≡ true) e h

-- what the task loads it uses plainly, or in a section
load-cases : (d : TaskDecl) (held w : ℕ) → may_load d held w ≡ true → (uses_plainly d w ≡ true) ⊎ IsInSection d held w
load-cases d held w e =
    let plain : Bool = has d.effects.reads w || has d.effects.writes w in
    let reads : Bool = under d.effects.guarded_reads 0 held w in
    let writes : Bool = under d.effects.guarded_writes 0 held w in
    ⊎_elim
    (λ (first : (plain || reads) ≡ true).
    ⊎_elim (λ (h : plain ≡ true). let found : (uses_plainly d w ≡ true) ⊎ IsInSection d held w = inl h in found)
    (λ (h : reads ≡ true).
    let u = under-some d.effects.guarded_reads 0 held w h in
    let in' : IsInSection d held w = record { lock = u.place; holds = held-at held u.place u.holds; guards = or_left (has (get_or d.effects.guarded_reads u.place []) w) (has (get_or d.effects.guarded_writes u.place []) w) u.has } in
    let found : (uses_plainly d w ≡ true) ⊎ IsInSection d held w = inr in' in
    found)
    (or_cases plain reads first))
    (λ (h : writes ≡ true).
    let u = under-some d.effects.guarded_writes 0 held w h in
    let in' : IsInSection d held w = record { lock = u.place; holds = held-at held u.place u.holds; guards = or_right (has (get_or d.effects.guarded_reads u.place []) w) (has (get_or d.effects.guarded_writes u.place []) w) u.has } in
    let found : (uses_plainly d w ≡ true) ⊎ IsInSection d held w = inr in' in
    found)
    (or_cases (plain || reads) writes e)

-- some lock guards the word that a task writes, if it doesn't write it plainly
record IsGuarded (d : TaskDecl) (w : ℕ) : Type 0 where
  lock : ℕ
  guards : task_guards d lock w ≡ true

write-cases : (d : TaskDecl) (w : ℕ) → task_writes d w ≡ true → (writes_plainly d w ≡ true) ⊎ IsGuarded d w
write-cases d w e =
    ⊎_elim (λ (h : has d.effects.writes w ≡ true). let found : (writes_plainly d w ≡ true) ⊎ IsGuarded d w = inl h in found)
    (λ (h : list_any (λ (set : List Interval). has set w) d.effects.guarded_writes ≡ true).
    let p = passes-some (λ (set : List Interval). has set w) d.effects.guarded_writes h in
    let place = p.among.0 in
    let within = p.among.1.0 in
    let same : get_or d.effects.guarded_writes place [] ≡ p.item = any-default d.effects.guarded_writes place [] p.item within ∙ sym p.among.1.1 in
    let has' : has (get_or d.effects.guarded_writes place []) w ≡ true = subst (λ (s : List Interval). has s w ≡ true) (sym same) p.passes in
    let g : IsGuarded d w = record { lock = place; guards = or_right (has (get_or d.effects.guarded_reads place []) w) (has (get_or d.effects.guarded_writes place []) w) has' } in
    let found : (writes_plainly d w ≡ true) ⊎ IsGuarded d w = inr g in
    found)
    (or_cases (has d.effects.writes w) (list_any (λ (set : List Interval). has set w) d.effects.guarded_writes) e)

other-core : (e d : TaskDecl) → not (e.core.0 == d.core.0) ≡ true → e.core.0 ≢ d.core.0
other-core e d h same = by_test (e.core.0 == d.core.0) h (subst (λ (n : ℕ). (e.core.0 == n) ≡ true) same (eq-itself e.core.0))
  where
    eq-itself : (n : ℕ) → (n == n) ≡ true
    eq-itself n = eq-eqb n n refl

    by_test : (b : Bool) → not b ≡ true → b ≡ true → ⊥
    by_test true h k = false≢true h
    by_test false h k = false≢true k

-- a shared word is loaded in a section of a lock that guards it
pub shared-inside : (p : Phase) (d : TaskDecl) (held w : ℕ) → IsCheckedPhase p → IsAmong p.tasks d → is_shared p d w ≡ true → may_load d held w ≡ true → IsInSection d held w
shared-inside p d held w checked among shared may =
    let e = passes-some (writes_elsewhere d w) p.tasks shared in
    let parts = and_parts (not (e.item.core.0 == d.core.0)) (task_writes e.item w) e.passes in
    let core = other-core e.item d parts.0 in
    ⊎_elim
    (λ (uses : uses_plainly d w ≡ true).
    absurd (⊎_elim
    (λ (h : writes_plainly e.item w ≡ true). plain_words_apart p e.item d w checked e.among among core h uses)
    (λ (g : IsGuarded e.item w). guarded_words_apart p e.item d g.lock w checked e.among among g.guards uses)
    (write-cases e.item w parts.1)))
    (λ (h : IsInSection d held w). h)
    (load-cases d held w may)

-- ---- what a step of one task leaves to another

pub under-from : (ss : List (List Interval)) (first held w place : ℕ) → is_held held (first + place) ≡ true → has (get_or ss place []) w ≡ true → under ss first held w ≡ true
under-from [] first held w place holds e = e
under-from (s ∷ ss) first held w zero holds e =
    let here : first + 0 ≡ first = omega arith in
    or_left (is_held held first && has s w) (under ss (first + 1) held w)
    (and_from (is_held held first) (has s w) (subst (λ (l : ℕ). is_held held l ≡ true) here holds) e)
under-from (s ∷ ss) first held w (suc place) holds e =
    let there : first + suc place ≡ first + 1 + place = omega arith in
    or_right (is_held held first && has s w) (under ss (first + 1) held w)
    (under-from ss (first + 1) held w place (subst (λ (l : ℕ). is_held held l ≡ true) there holds) e)

-- in a section of a lock that guards the word, the task may load it
pub inside-loads : (d : TaskDecl) (held w : ℕ) → IsInSection d held w → may_load d held w ≡ true
inside-loads d held w h =
    let plain : Bool = has d.effects.reads w || has d.effects.writes w in
    let reads : Bool = under d.effects.guarded_reads 0 held w in
    let writes : Bool = under d.effects.guarded_writes 0 held w in
    let at' : 0 + h.lock ≡ h.lock = omega arith in
    let holds : is_held held (0 + h.lock) ≡ true = subst (λ (l : ℕ). is_held held l ≡ true) (sym at') h.holds in
    ⊎_elim
    (λ (e : has (get_or d.effects.guarded_reads h.lock []) w ≡ true). or_left (plain || reads) writes (or_right plain reads (under-from d.effects.guarded_reads 0 held w h.lock holds e)))
    (λ (e : has (get_or d.effects.guarded_writes h.lock []) w ≡ true). or_right (plain || reads) writes (under-from d.effects.guarded_writes 0 held w h.lock holds e))
    (or_cases (has (get_or d.effects.guarded_reads h.lock []) w) (has (get_or d.effects.guarded_writes h.lock []) w) h.guards)

under-some-set : (ss : List (List Interval)) (first held w : ℕ) → under ss first held w ≡ true → list_any (λ (s : List Interval). has s w) ss ≡ true
under-some-set [] first held w e = e
under-some-set (s ∷ ss) first held w e =
    let later = under-some-set ss (first + 1) held w in
    ⊎_elim
    (λ (h : (is_held held first && has s w) ≡ true). or_left (has s w) (list_any (λ (s : List Interval). has s w) ss) (and_parts (is_held held first) (has s w) h).1)
    (λ (h : under ss (first + 1) held w ≡ true). or_right (has s w) (list_any (λ (s : List Interval). has s w) ss) (later h))
    (or_cases (is_held held first && has s w) (under ss (first + 1) held w) e)

-- a word that a task may store, whatever it holds, is among its writes
pub store-writes : (d : TaskDecl) (held w : ℕ) → may_store d held w ≡ true → task_writes d w ≡ true
store-writes d held w e =
    ⊎_elim (λ (h : has d.effects.writes w ≡ true). or_left (has d.effects.writes w) (list_any (λ (set : List Interval). has set w) d.effects.guarded_writes) h)
    (λ (h : under d.effects.guarded_writes 0 held w ≡ true). or_right (has d.effects.writes w) (list_any (λ (set : List Interval). has set w) d.effects.guarded_writes) (under-some-set d.effects.guarded_writes 0 held w h))
    (or_cases (has d.effects.writes w) (under d.effects.guarded_writes 0 held w) e)

-- a word that another task may store is shared
pub stores-shared : (p : Phase) (d e : TaskDecl) (held w : ℕ) → IsAmong p.tasks e → e.core.0 ≢ d.core.0 → may_store e held w ≡ true → is_shared p d w ≡ true
stores-shared p d e held w among apart may =
    let test : TaskDecl → Bool = writes_elsewhere d w in
    let passes : writes_elsewhere d w e ≡ true = and_from (not (e.core.0 == d.core.0)) (task_writes e w) (ap not (ne_eqb e.core.0 d.core.0 apart)) (store-writes e held w may) in
    list_any_at (writes_elsewhere d w) p.tasks among.0 e among.1.0 (subst (λ (x : TaskDecl). writes_elsewhere d w x ≡ true) among.1.1 passes)

-- another task's step keeps what this one relies on, if it changes no word that this one may load, and no unshared word
pub beside-fits : (S : Setup) (base : ℕ → ℕ) (a : Alone) (r : Started) (m n : List ℕ) → FitsAlone S base a r m → length n ≡ length m
    → ((w : ℕ) → may_load S.decl a.state.held w ≡ true → slice_index n w ≡ slice_index m w)
    → ((w : ℕ) → is_shared S.phase S.decl w ≡ false → slice_index n w ≡ slice_index m w) → FitsAlone S base a r n
beside-fits S base a r m n h count loads own =
    record {
      decl = h.decl;
      state = h.state;
      registers = h.registers;
      taken = h.taken;
      words = h.words ∙ sym count;
      base_small = h.base_small;
      stored = λ w v e. let k = h.stored w v e in
          record {
            may = k.may;
            writes = k.writes;
            runs = k.runs;
            own = k.own;
            shared = k.shared;
            stands = subst (Denotes v base) (sym (by_shared w k.may (is_shared S.phase S.decl w) refl)) k.stands;
            small = k.small;
          };
      kept = λ w runs e shared inside. loads w (inside-loads S.decl a.state.held w inside) ∙ h.kept w runs e shared inside;
      first = λ w runs e shared. subst (Denotes (value_at_start S w) base) (sym (own w shared)) (h.first w runs e shared);
    }
  where
    by_shared : (w : ℕ) → (is_shared S.phase S.decl w ≡ true → may_store S.decl a.state.held w ≡ true) → (b : Bool) → is_shared S.phase S.decl w ≡ b → slice_index n w ≡ slice_index m w
    by_shared w may true e = loads w (store-loads S.decl a.state.held w (may e))
    by_shared w may false e = own w e

-- the step of a task of the phase on another core, which holds no lock that this one holds
pub step-beside : (S : Setup) (base : ℕ → ℕ) (a : Alone) (r q : Started) (m n : List ℕ) → FitsAlone S base a r m → length n ≡ length m → IsAmong S.phase.tasks q.decl → q.decl.core.0 ≢ S.decl.core.0
    → KeepsOut q (record r { decl = S.decl; state = a.state }) → ((w : ℕ) → may_store q.decl q.state.held w ≡ false → slice_index n w ≡ slice_index m w) → FitsAlone S base a r n
step-beside S base a r q m n h count among cores out frame =
    beside-fits S base a r m n h count
    (λ w may. frame w (not-true (may_store q.decl q.state.held w) (λ e. both-ways (may_load S.decl a.state.held w) (out.out w e) may)))
    (λ w own. frame w (not-true (may_store q.decl q.state.held w) (λ e. both-ways (is_shared S.phase S.decl w) own (stores-shared S.phase S.decl q.decl q.state.held w among cores e))))
