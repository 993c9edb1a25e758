-- The words that a task may write, and those that a lock guards for it, are in the plan of its phase.
use Rattle.std.proofs.Common.{◌≡◌, ℕ, zero, suc, ◌+◌, ◌<◌, ◌≤◌, Bool, true, IsTrue, List, [], ◌∷◌, length, slice_get, slice_index_or, leb, ltb, Some, sym, ap, subst, ◌∙◌, refl, arith, ⊎_elim}
use Rattle.std.specs.List.{Any, AllZip, IsAmong, list_any}
use Rattle.std.proofs.lemmas.Bool.{cases_lt, and_parts, and_from, or_cases, or_left, or_right, ltb-true, le-leb, lt-ltb}
use Rattle.std.proofs.lemmas.List.Elements.{All-head, All-tail}
use Rattle.std.proofs.lemmas.List.Folds.{Any-from_list_any, list_any_at}
use Rattle.std.proofs.lemmas.Option.{none-some, same_Some}
use Rattle.region_table.specs.declared.interval.Interval.{Interval}
use Rattle.region_table.specs.declared.declared.Region.{Region}
use Rattle.region_table.specs.declared.declared.TaskDecl.{TaskDecl}
use Rattle.region_table.specs.declared.declared.Phase.{Phase}
use Rattle.region_table.specs.declared.plan.PhasePlan.{PhasePlan}
use Rattle.region_table.specs.Words.{in_interval, has}
use Rattle.region_table.specs.Program.{ProgramParts, AreTiled, LiesIn, IsProgram}
use Rattle.region_table.specs.Plan.{in_region, task_guards, task_writes, phase_writes, IsPlan, ArePlans}
use Rattle.region_table.specs.Tasks.{declared, IsDeclaration}
use Rattle.region_table.proofs.TaskLemmas.{task-among, declared-tells}

-- a word of a set that lies in the memory is one of the memory
pub word-within : (words : ℕ) (set : List Interval) (w : ℕ) → LiesIn words set → has set w ≡ true → w < words
word-within words [] w h e = absurd cc
word-within words (i ∷ is) w h e =
    ⊎_elim
    (λ (here : in_interval i w ≡ true).
    let below : w < i.hi = ltb-true w i.hi (and_parts (leb i.lo w) (ltb w i.hi) here).1 in
    let end : i.hi ≤ words = All-head (λ (i : Interval). i.hi ≤ words) i is h in
    omega arith)
    (λ (later : has is w ≡ true). word-within words is w (All-tail (λ (i : Interval). i.hi ≤ words) i is h) later)
    (or_cases (in_interval i w) (has is w) e)

-- every word of tiled regions is one of some region
region-of : (from : ℕ) (rs : List Region) (end w : ℕ) → AreTiled from rs end → from ≤ w → w < end → Any (λ (r : Region). IsTrue (in_region r w)) rs
region-of from [] end w t l h = absurd (omega arith)
region-of from (r ∷ rs) end w t l h =
    ⊎_elim
    (λ (before : w < r.start + r.len).
    (0, r, omega arith, refl, and_from _ _ (le-leb r.start w (omega arith)) (lt-ltb w (r.start + r.len) before)))
    (λ (behind : r.start + r.len ≤ w).
    let rest = region-of (r.start + r.len) rs end w t.2 behind h in
    (suc rest.0, rest.1, (let l = rest.2 in omega arith), rest.3, rest.4))
    (cases_lt w (r.start + r.len))

-- what some element passes
passes-among : {X : Type 0} (test : X → Bool) (xs : List X) (x : X) → IsAmong xs x → test x ≡ true → list_any test xs ≡ true
passes-among test xs x a e = list_any_at test xs a.0 x a.1.0 (ap test (sym a.1.1) ∙ e)

-- a word that a task writes, plainly or under a lock, is one of the memory
pub written-within : (P : ProgramParts) (p : Phase) (d : TaskDecl) (w : ℕ) → IsProgram P → IsAmong P.phases p → IsAmong p.tasks d → IsTrue (task_writes d w) → w < length P.memory
written-within P p d w h known among e =
    let fits = (task-among P p d h known among).effects in
    ⊎_elim
    (λ (plain : has d.effects.writes w ≡ true). word-within (length P.memory) d.effects.writes w fits.writes plain)
    (λ (guarded : list_any (λ (set : List Interval). has set w) d.effects.guarded_writes ≡ true).
    let some = Any-from_list_any (λ (set : List Interval). has set w) d.effects.guarded_writes guarded in
    let lies : LiesIn (length P.memory) some.1 = subst (LiesIn (length P.memory)) some.3 (fits.guarded_writes some.0 some.1 some.2) in
    word-within (length P.memory) some.1 w lies some.4)
    (or_cases (has d.effects.writes w) (list_any (λ (set : List Interval). has set w) d.effects.guarded_writes) e)

-- a word that a task writes, plainly or under a lock, is one that the phase's plan says is written
pub task-written : (P : ProgramParts) (p : Phase) (plan : PhasePlan) (d : TaskDecl) (w : ℕ) → IsProgram P → IsAmong P.phases p → IsPlan P p plan → IsAmong p.tasks d
    → IsTrue (task_writes d w) → IsTrue (has plan.written w)
task-written P p plan d w h known is among e =
    let region = region-of 0 P.regions (length P.memory) w h.tiled (omega arith) (written-within P p d w h known among e) in
    let writes : IsTrue (phase_writes p w) = passes-among (λ (t : TaskDecl). task_writes t w) p.tasks d among e in
    (is.written w).1 (region.0, region.1, region.2, region.3, (region.4, (w, region.4, writes)))

-- a word of a task's guarded writes of a lock is one that the task writes
pub guarded-writes : (d : TaskDecl) (lock w : ℕ) → has (slice_index_or d.effects.guarded_writes lock []) w ≡ true → task_writes d w ≡ true
guarded-writes d lock w e =
    or_right (has d.effects.writes w) (list_any (λ (set : List Interval). has set w) d.effects.guarded_writes)
    (some-set d.effects.guarded_writes lock e)
  where
    some-set : (sets : List (List Interval)) (k : ℕ) → has (slice_index_or sets k []) w ≡ true → list_any (λ (set : List Interval). has set w) sets ≡ true
    some-set [] k e = absurd cc
    some-set (s ∷ ss) zero e = or_left (has s w) (list_any (λ (set : List Interval). has set w) ss) e
    some-set (s ∷ ss) (suc k) e = or_right (has s w) (list_any (λ (set : List Interval). has set w) ss) (some-set ss k e)

-- a word that a lock guards for a task is one that the phase's plan says is guarded by the lock
pub task-guarded : (P : ProgramParts) (p : Phase) (plan : PhasePlan) (d : TaskDecl) (lock w : ℕ) → IsPlan P p plan → IsAmong p.tasks d → lock < length P.locks
    → task_guards d lock w ≡ true → has (slice_index_or plan.guarded lock []) w ≡ true
task-guarded P p plan d lock w is among l e =
    is.guarded lock w l ∙ passes-among (λ (t : TaskDecl). task_guards t lock w) p.tasks d among e

-- the plan of each phase
pub record HasPlan (P : ProgramParts) (p : Phase) (plans : List PhasePlan) (k : ℕ) : Type 0 where
  pub plan : PhasePlan
  pub there : slice_get plans k ≡ Some plan
  pub is : IsPlan P p plan

plan-in : (P : ProgramParts) (phases : List Phase) (plans : List PhasePlan) (k : ℕ) (p : Phase) → AllZip (IsPlan P) phases plans → slice_get phases k ≡ Some p
    → HasPlan P p plans k
plan-in P [] plans k p are there = absurd (none-some p there)
plan-in P (q ∷ qs) [] k p are there = absurd are
plan-in P (q ∷ qs) (x ∷ xs) zero p are there =
    record { plan = x; there = refl; is = subst (λ (r : Phase). IsPlan P r x) (same_Some q p there) are.0 }
plan-in P (q ∷ qs) (x ∷ xs) (suc k) p are there =
    let rest = plan-in P qs xs k p are.1 there in
    record { plan = rest.plan; there = rest.there; is = rest.is }

pub plan-at : (P : ProgramParts) (plans : List PhasePlan) (k : ℕ) (p : Phase) → ArePlans P plans → slice_get P.phases k ≡ Some p → HasPlan P p plans k
plan-at P plans k p are there = plan-in P P.phases plans k p are there

-- the plan of a phase in which a core has a task is a plan of the task's phase
plan-of_declared : (P : ProgramParts) (plans : List PhasePlan) (number core : ℕ) (d : TaskDecl) (plan : PhasePlan) (h : IsDeclaration P number core d) → ArePlans P plans
    → slice_get plans number ≡ Some plan → IsPlan P h.phase plan
plan-of_declared P plans number core d plan h are there =
    let found = plan-at P plans number h.phase are h.there in
    subst (IsPlan P h.phase) (same_Some found.plan plan (sym found.there ∙ there)) found.is

-- the same two of the task that the program declares for a core in a phase
pub declared-written : (P : ProgramParts) (plans : List PhasePlan) (number core : ℕ) (d : TaskDecl) (plan : PhasePlan) (w : ℕ) → IsProgram P → ArePlans P plans
    → declared P number core ≡ Some d → slice_get plans number ≡ Some plan → IsTrue (task_writes d w) → IsTrue (has plan.written w)
declared-written P plans number core d plan w h are is there e =
    let told = declared-tells P number core d is in
    task-written P told.phase plan d w h told.known (plan-of_declared P plans number core d plan told are there) told.among e

pub declared-guarded : (P : ProgramParts) (plans : List PhasePlan) (number core : ℕ) (d : TaskDecl) (plan : PhasePlan) (lock w : ℕ) → ArePlans P plans
    → declared P number core ≡ Some d → slice_get plans number ≡ Some plan → lock < length P.locks → IsTrue (task_guards d lock w)
    → IsTrue (has (slice_index_or plan.guarded lock []) w)
declared-guarded P plans number core d plan lock w are is there l e =
    let told = declared-tells P number core d is in
    task-guarded P told.phase plan d lock w (plan-of_declared P plans number core d plan told are there) told.among l e
