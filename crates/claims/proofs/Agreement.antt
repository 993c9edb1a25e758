-- Nothing differs exactly where two lists are equal.
use Rattle.std.proofs.Common.{◌≡◌, ℕ, suc, ◌==◌, nat_eq, Bool, true, false, ◌&&◌, if◌then◌else◌, List, [], ◌∷◌, Option, Some, None, option_map, refl, ap, ◌∙◌}
use Rattle.std.specs.Option.{option_or}
use Rattle.std.proofs.lemmas.Bool.{eqb-true, eq-eqb}
use Rattle.flat_machine.specs.declared.ending.TaskLoads.{TaskLoads}
use Rattle.claims.specs.declared.verdict.Verdict.{Verdict}
use Rattle.claims.specs.declared.verdict.Verdict.TheVariants.{Agrees}
use Rattle.claims.specs.Differences.{first_difference, is_same_load, is_same_task}
use Rattle.claims.specs.Judge.{load_verdict, task_verdict, tasks_verdict}

-- ---- lists

tail-none : (b : Bool) (o : Option ℕ) → (if b then option_map suc o else Some 0) ≡ None → (b ≡ true) × (o ≡ None)
tail-none true None is = (refl, refl)
tail-none true (Some k) is = absurd (cc)
tail-none false o is = absurd (cc)

-- each value is told as itself
abbrev pub IsSelf : {A : Type 0} → (A → A → Bool) → Type 0
IsSelf {A} same = (x : A) → same x x ≡ true

-- values that are told alike are equal
abbrev pub IsExact : {A : Type 0} → (A → A → Bool) → Type 0
IsExact {A} same = (x y : A) → same x y ≡ true → x ≡ y

pub first_difference-same : {A : Type 0} (same : A → A → Bool) → IsSelf same → (xs : List A) → first_difference same xs xs ≡ None
first_difference-same same self [] = refl
first_difference-same {A} same self (x ∷ xs) =
    ap (λ (b : Bool). if b then option_map suc (first_difference same xs xs) else Some 0) (self x)
    ∙ ap (option_map suc) (first_difference-same same self xs)

pub same-first_difference : {A : Type 0} (same : A → A → Bool) → IsExact same → (xs ys : List A) → first_difference same xs ys ≡ None → xs ≡ ys
same-first_difference same exact [] [] none = refl
same-first_difference same exact [] (y ∷ ys) none = absurd (cc)
same-first_difference same exact (x ∷ xs) [] none = absurd (cc)
same-first_difference same exact (x ∷ xs) (y ∷ ys) none =
    let parts = tail-none (same x y) (first_difference same xs ys) none in
    let head : x ≡ y = exact x y parts.0 in
    let rest = same-first_difference same exact xs ys parts.1 in
    λ i. head i ∷ rest i

-- ---- bytes, loads and tasks

both-true : (a b : Bool) → (a && b) ≡ true → (a ≡ true) × (b ≡ true)
both-true true true is = (refl, refl)
both-true true false is = absurd (cc)
both-true false b is = absurd (cc)

pub byte-self : IsSelf nat_eq
byte-self x = eq-eqb x x refl

pub byte-exact : IsExact nat_eq
byte-exact x y is = eqb-true x y is

pub load-self : IsSelf is_same_load
load-self s = ap (λ (b : Bool). b && (s.value == s.value)) (eq-eqb s.word.0 s.word.0 refl) ∙ eq-eqb s.value s.value refl

pub load-exact : IsExact is_same_load
load-exact s t is =
    let parts = both-true (s.word.0 == t.word.0) (s.value == t.value) is in
    let word = eqb-true s.word.0 t.word.0 parts.0 in
    let value = eqb-true s.value t.value parts.1 in
    λ i. record { word = record { 0 = word i }; value = value i }

pub task-self : IsSelf is_same_task
task-self s = ap (λ (b : Bool). b && (s.core.0 == s.core.0)) (eq-eqb s.phase.0 s.phase.0 refl) ∙ eq-eqb s.core.0 s.core.0 refl

-- ---- the loads of a task

load-none : (r : TaskLoads) (o : Option ℕ) → load_verdict r o ≡ None → o ≡ None
load-none r None is = refl
load-none r (Some place) is = absurd (cc)

task-same : (r : TaskLoads) → task_verdict r r ≡ None
unfolding task_verdict
task-same r = ap (load_verdict r) (first_difference-same is_same_load load-self r.loads)

same-task : (c r : TaskLoads) → is_same_task c r ≡ true → task_verdict c r ≡ None → c ≡ r
unfolding task_verdict
same-task c r is none =
    let parts = both-true (c.phase.0 == r.phase.0) (c.core.0 == r.core.0) is in
    let phase = eqb-true c.phase.0 r.phase.0 parts.0 in
    let core = eqb-true c.core.0 r.core.0 parts.1 in
    let loads = same-first_difference is_same_load load-exact c.loads r.loads (load-none r (first_difference is_same_load c.loads r.loads) none) in
    λ i. record { phase = record { 0 = phase i }; core = record { 0 = core i }; loads = loads i }

task-differs : (c r : TaskLoads) → task_verdict c r ≡ Some Agrees → ⊥
unfolding task_verdict
task-differs c r = told (first_difference is_same_load c.loads r.loads)
  where
    told : (o : Option ℕ) → load_verdict r o ≡ Some Agrees → ⊥
    told None is = cc
    told (Some place) is = cc

-- ---- the loads of many tasks

both-none : (o p : Option Verdict) → option_or o p ≡ None → (o ≡ None) × (p ≡ None)
both-none None p is = (refl, is)
both-none (Some v) p is = absurd (cc)

either-agrees : (o p : Option Verdict) → option_or o p ≡ Some Agrees → (o ≡ Some Agrees → ⊥) → p ≡ Some Agrees
either-agrees None p is never = is
either-agrees (Some v) p is never = absurd (never is)

pub tasks-same : (rs : List TaskLoads) → tasks_verdict rs rs ≡ None
tasks-same [] = refl
tasks-same (r ∷ rs) = ap (λ (o : Option Verdict). option_or o (tasks_verdict rs rs)) (task-same r) ∙ tasks-same rs

pub same-tasks : (cs rs : List TaskLoads) → first_difference is_same_task cs rs ≡ None → tasks_verdict cs rs ≡ None → cs ≡ rs
same-tasks [] [] of none = refl
same-tasks [] (r ∷ rs) of none = absurd (cc)
same-tasks (c ∷ cs) [] of none = absurd (cc)
same-tasks (c ∷ cs) (r ∷ rs) of none =
    let parts = tail-none (is_same_task c r) (first_difference is_same_task cs rs) of in
    let verdicts = both-none (task_verdict c r) (tasks_verdict cs rs) none in
    let head = same-task c r parts.0 verdicts.0 in
    let rest = same-tasks cs rs parts.1 verdicts.1 in
    λ i. head i ∷ rest i

pub tasks-differ : (cs rs : List TaskLoads) → tasks_verdict cs rs ≡ Some Agrees → ⊥
tasks-differ [] rs is = cc
tasks-differ (c ∷ cs) [] is = cc
tasks-differ (c ∷ cs) (r ∷ rs) is = tasks-differ cs rs (either-agrees (task_verdict c r) (tasks_verdict cs rs) is (task-differs c r))
