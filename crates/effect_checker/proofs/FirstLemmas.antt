-- The first conflict of each kind.
use Rattle.std.proofs.Common.{◌≡◌, ℕ, ◌+◌, ◌<◌, ◌≤◌, ◌&&◌, not, ◌==◌, IsTrue, List, take, refl, sym, ◌∙◌, arith, ⊎_elim}
use Rattle.std.proofs.lemmas.Bool.{and_parts, and_from, not-true, not_from_false, eqb-false, ne_eqb, cases_lt}
use Rattle.region_table.specs.declared.declared.TaskDecl.{TaskDecl}
use Rattle.region_table.specs.Plan.{uses_plainly}
use Rattle.effect_checker.specs.Checked.{on_core, writes_plainly, core_writes, lock_guards}
use Rattle.effect_checker.specs.Faults.{IsPlainConflict, IsGuardedPlain}
use Rattle.effect_checker.specs.Least.{IsFirstPair, IsFirst, AreRising, contends, exposes}
use Rattle.effect_checker.proofs.CoreLemmas.{IsAt, on_core-some, on_core-from, on_core-at, on_core-before, on_core-more}

-- two relations that hold of the same numbers and words have the same first pair
first_pair-same : (R S : ℕ → ℕ → Type 0) (n word : ℕ) → ((m w : ℕ) → R m w → S m w) → ((m w : ℕ) → S m w → R m w) → IsFirstPair R n word → IsFirstPair S n word
first_pair-same R S n word to from h = record {
  holds = to n word h.holds;
  lesser = λ m w l s. h.lesser m w l (from m w s);
  least = λ w s. h.least w (from n w s);
}

-- a core whose task contends with the writer for a word is in conflict with the writer's core
contends-conflict : (tasks : List TaskDecl) (k core w : ℕ) (writer : TaskDecl) → IsAt tasks k writer → IsTrue (on_core (contends writer) tasks core w) → IsPlainConflict tasks writer.core.0 core w
contends-conflict tasks k core w writer at' h =
    let p = on_core-some (contends writer) tasks core w h in
    let user : TaskDecl = p.task in
    let parts = and_parts (not (user.core.0 == writer.core.0)) (writes_plainly writer w && uses_plainly user w) p.passes in
    let uses = and_parts (writes_plainly writer w) (uses_plainly user w) parts.1 in
    let differ : user.core.0 ≡ writer.core.0 → ⊥ = eqb-false user.core.0 writer.core.0 (not-true (user.core.0 == writer.core.0) parts.0) in
    (λ e. differ (p.on ∙ sym e), on_core-from writes_plainly tasks writer.core.0 w k writer at' refl uses.0, on_core-from uses_plainly tasks core w p.place user p.at_place p.on uses.1)

-- the converse
conflict-contends : (tasks : List TaskDecl) (k core w : ℕ) (writer : TaskDecl) → AreRising tasks → IsAt tasks k writer → IsPlainConflict tasks writer.core.0 core w → IsTrue (on_core (contends writer) tasks core w)
conflict-contends tasks k core w writer rising at' h =
    let p = on_core-some uses_plainly tasks core w h.2 in
    let user : TaskDecl = p.task in
    let differ : user.core.0 ≡ writer.core.0 → ⊥ = λ e. h.0 (sym e ∙ p.on) in
    on_core-from (contends writer) tasks core w p.place user p.at_place p.on
    (and_from (not (user.core.0 == writer.core.0)) (writes_plainly writer w && uses_plainly user w) (not_from_false (user.core.0 == writer.core.0) (ne_eqb user.core.0 writer.core.0 differ))
    (and_from (writes_plainly writer w) (uses_plainly user w) (on_core-at writes_plainly tasks k w writer rising at' h.1) p.passes))

-- none of the first `k` tasks writes a word that another core's task uses
abbrev pub NoConflictBefore : List TaskDecl → ℕ → Type 0
NoConflictBefore tasks k = (a b w : ℕ) → IsTrue (core_writes (take k tasks) a w) → IsPlainConflict tasks a b w → ⊥

-- a writer with which no task contends is passed over
pub conflict_more : (tasks : List TaskDecl) (k : ℕ) (writer : TaskDecl) → AreRising tasks → IsAt tasks k writer → NoConflictBefore tasks k
    → ((core w : ℕ) → IsTrue (on_core (contends writer) tasks core w) → ⊥) → NoConflictBefore tasks (k + 1)
conflict_more tasks k writer rising at' none here = λ a b w writes h.
    ⊎_elim (λ e. none a b w e h)
    (λ e. let core : writer.core.0 ≡ a = e.0 in
    let same : IsPlainConflict tasks writer.core.0 b w = rw core h in
    here b w (conflict-contends tasks k b w writer rising at' same))
    (on_core-more writes_plainly tasks k a w writer at' writes)

-- the first writer with which a task contends
pub conflict_first : (tasks : List TaskDecl) (k second word : ℕ) (writer : TaskDecl) → AreRising tasks → IsAt tasks k writer → NoConflictBefore tasks k
    → IsFirstPair (λ core w. IsTrue (on_core (contends writer) tasks core w)) second word → IsFirst (IsPlainConflict tasks) writer.core.0 second word
conflict_first tasks k second word writer rising at' none h = record {
  pair = first_pair-same (λ core w. IsTrue (on_core (contends writer) tasks core w)) (IsPlainConflict tasks writer.core.0) second word
      (λ core w e. contends-conflict tasks k core w writer at' e) (λ core w e. conflict-contends tasks k core w writer rising at' e) h;
  lesser = λ a b w l e. none a b w (on_core-before writes_plainly tasks k a w writer rising at' l e.1) e;
}

-- a core whose task exposes a word of the lock uses a guarded word plainly
pub exposes-guarded : (tasks : List TaskDecl) (lock core w : ℕ) → IsTrue (on_core (exposes tasks lock) tasks core w) → IsGuardedPlain tasks lock core w
exposes-guarded tasks lock core w h =
    let p = on_core-some (exposes tasks lock) tasks core w h in
    let parts = and_parts (lock_guards tasks lock w) (uses_plainly p.task w) p.passes in
    (parts.0, on_core-from uses_plainly tasks core w p.place p.task p.at_place p.on parts.1)

-- the converse
pub guarded-exposes : (tasks : List TaskDecl) (lock core w : ℕ) → IsGuardedPlain tasks lock core w → IsTrue (on_core (exposes tasks lock) tasks core w)
guarded-exposes tasks lock core w h =
    let p = on_core-some uses_plainly tasks core w h.1 in
    on_core-from (exposes tasks lock) tasks core w p.place p.task p.at_place p.on (and_from (lock_guards tasks lock w) (uses_plainly p.task w) h.0 p.passes)

-- the first lock of which some core uses a word plainly
pub guarded_first : (tasks : List TaskDecl) (lock core word : ℕ) → ((l c w : ℕ) → l < lock → IsGuardedPlain tasks l c w → ⊥)
    → IsFirstPair (λ core w. IsTrue (on_core (exposes tasks lock) tasks core w)) core word → IsFirst (IsGuardedPlain tasks) lock core word
guarded_first tasks lock core word none h = record {
  pair = first_pair-same (λ core w. IsTrue (on_core (exposes tasks lock) tasks core w)) (IsGuardedPlain tasks lock) core word
      (λ c w e. exposes-guarded tasks lock c w e) (λ c w e. guarded-exposes tasks lock c w e) h;
  lesser = none;
}

-- what holds of no lesser number holds of no number up to this one
pub none_below_more : (R : ℕ → ℕ → ℕ → Type 0) (n : ℕ) → ((a b w : ℕ) → a < n → R a b w → ⊥) → ((b w : ℕ) → R n b w → ⊥) → (a b w : ℕ) → a < n + 1 → R a b w → ⊥
none_below_more R n none here a b w l h =
    ⊎_elim (λ (m : a < n). none a b w m h) (λ (m : n ≤ a). let e : a ≡ n = omega arith in let same : R n b w = rw (sym e) h in here b w same) (cases_lt a n)
