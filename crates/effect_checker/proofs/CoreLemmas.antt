-- Which core's task passes a test, where tasks rise by their cores.
use Rattle.std.proofs.Common.{◌≡◌, ℕ, ◌+◌, ◌<◌, ◌≤◌, ◌&&◌, ◌||◌, ◌==◌, ◌⊎◌, inl, inr, Bool, true, IsTrue, List, length, get_or, take, refl, sym, ap, ◌∙◌, arith, ⊎_elim}
use Rattle.std.proofs.lemmas.Bool.{and_parts, and_from, or_cases, eqb-true, eq-eqb, cases_lt, cases_order}
use Rattle.std.proofs.lemmas.List.{get_or_read, get_or-take, length-take-le}
use Rattle.std.proofs.Math.Seq.{take-length}
use Rattle.std.proofs.lemmas.List.Folds.{Any-from_list_any, list_any-from_Any, list_any_more}
use Rattle.region_table.specs.declared.declared.TaskDecl.{TaskDecl}
use Rattle.effect_checker.specs.Checked.{on_core}
use Rattle.effect_checker.specs.Least.{IsLeastWord, IsFirstPair, AreRising}

-- a task that stands at a place of the list
pub record IsAt (tasks : List TaskDecl) (k : ℕ) (t : TaskDecl) : Type 0 where
  pub within : k < length tasks
  pub is : t ≡ get_or tasks k t

-- some task of the core passes the test
pub record IsPassing (test : TaskDecl → ℕ → Bool) (tasks : List TaskDecl) (core w : ℕ) : Type 0 where
  pub place : ℕ
  pub task : TaskDecl
  pub at_place : IsAt tasks place task
  pub on : task.core.0 ≡ core
  pub passes : IsTrue (test task w)

pub on_core-some : (test : TaskDecl → ℕ → Bool) (tasks : List TaskDecl) (core w : ℕ) → IsTrue (on_core test tasks core w) → IsPassing test tasks core w
on_core-some test tasks core w h =
    let some = Any-from_list_any (λ (t : TaskDecl). (t.core.0 == core) && test t w) tasks h in
    let t : TaskDecl = some.1 in
    let parts = and_parts (t.core.0 == core) (test t w) some.4 in
    record {
      place = some.0;
      task = t;
      at_place = record { within = some.2; is = sym some.3 };
      on = eqb-true t.core.0 core parts.0;
      passes = parts.1;
    }

pub on_core-from : (test : TaskDecl → ℕ → Bool) (tasks : List TaskDecl) (core w k : ℕ) (t : TaskDecl) → IsAt tasks k t → t.core.0 ≡ core → IsTrue (test t w) → IsTrue (on_core test tasks core w)
on_core-from test tasks core w k t at' e h =
    list_any-from_Any (λ (t : TaskDecl). (t.core.0 == core) && test t w) tasks
    (k, t, at'.within, sym at'.is, and_from (t.core.0 == core) (test t w) (eq-eqb t.core.0 core e) h)

-- tasks that rise are in the order of their places
places_rise : (tasks : List TaskDecl) (j k : ℕ) (u t : TaskDecl) → AreRising tasks → IsAt tasks j u → IsAt tasks k t → j < k → u.core.0 < t.core.0
places_rise tasks j k u t rising au at' l =
    let h : (get_or tasks j t).core.0 < (get_or tasks k t).core.0 = rising j k t l at'.within in
    let eu : u ≡ get_or tasks j t = get_or_read tasks j u au.within au.is t in
    let e : u.core.0 ≡ (get_or tasks j t).core.0 = ap (λ (x : TaskDecl). x.core.0) eu in
    let f : t.core.0 ≡ (get_or tasks k t).core.0 = ap (λ (x : TaskDecl). x.core.0) at'.is in
    omega arith

-- one place has one task
same_place : (tasks : List TaskDecl) (j k : ℕ) (u t : TaskDecl) → IsAt tasks j u → IsAt tasks k t → j ≡ k → u ≡ t
same_place tasks j k u t au at' e =
    let eu : u ≡ get_or tasks j t = get_or_read tasks j u au.within au.is t in
    eu ∙ ap (λ i. get_or tasks i t) e ∙ sym at'.is

-- tasks that rise have one task for a core
pub same_core : (tasks : List TaskDecl) (j k : ℕ) (u t : TaskDecl) → AreRising tasks → IsAt tasks j u → IsAt tasks k t → u.core.0 ≡ t.core.0 → u ≡ t
same_core tasks j k u t rising au at' e =
    ⊎_elim (λ (s : j ≡ k). same_place tasks j k u t au at' s)
    (λ o. absurd (⊎_elim
    (λ (l : j < k). let h = places_rise tasks j k u t rising au at' l in let bad : ⊥ = omega arith in bad)
    (λ (l : k < j). let h = places_rise tasks k j t u rising at' au l in let bad : ⊥ = omega arith in bad) o))
    (cases_order j k)

-- the task at a place passes the test if some task of its core does
pub on_core-at : (test : TaskDecl → ℕ → Bool) (tasks : List TaskDecl) (k w : ℕ) (t : TaskDecl) → AreRising tasks → IsAt tasks k t → IsTrue (on_core test tasks t.core.0 w) → IsTrue (test t w)
on_core-at test tasks k w t rising at' h =
    let p = on_core-some test tasks t.core.0 w h in
    let same : p.task ≡ t = same_core tasks p.place k p.task t rising p.at_place at' p.on in
    sym (ap (λ (x : TaskDecl). test x w) same) ∙ p.passes

-- a task of a lesser core stands before
pub on_core-before : (test : TaskDecl → ℕ → Bool) (tasks : List TaskDecl) (k core w : ℕ) (t : TaskDecl) → AreRising tasks → IsAt tasks k t → core < t.core.0 → IsTrue (on_core test tasks core w) → IsTrue (on_core test (take k tasks) core w)
on_core-before test tasks k core w t rising at' l h =
    let p = on_core-some test tasks core w h in
    let before : p.place < k = ⊎_elim (λ (m : p.place < k). m)
    (λ (m : k ≤ p.place). absurd (⊎_elim
    (λ (s : p.place ≡ k). let e : p.task.core.0 ≡ t.core.0 = ap (λ (x : TaskDecl). x.core.0) (same_place tasks p.place k p.task t p.at_place at' s) in let on = p.on in let bad : ⊥ = omega arith in bad)
    (λ o. ⊎_elim (λ (n : p.place < k). let bad : ⊥ = omega arith in bad)
    (λ (n : k < p.place). let r = places_rise tasks k p.place t p.task rising at' p.at_place n in let on = p.on in let bad : ⊥ = omega arith in bad) o)
    (cases_order p.place k)))
    (cases_lt p.place k) in
    let within : k < length tasks = at'.within in
    let long : length (take k tasks) ≡ k = length-take-le k tasks (omega arith) in
    on_core-from test (take k tasks) core w p.place p.task
    (record { within = omega arith; is = p.at_place.is ∙ sym (get_or-take k tasks p.place p.task before) }) p.on p.passes

-- no task passes the test at any word
abbrev pub NonePasses : (TaskDecl → ℕ → Bool) → List TaskDecl → Type 0
NonePasses test tasks = (core w : ℕ) → IsTrue (on_core test tasks core w) → ⊥

-- some task passes, with one task more
pub on_core-more : (test : TaskDecl → ℕ → Bool) (tasks : List TaskDecl) (k core w : ℕ) (t : TaskDecl) → IsAt tasks k t → IsTrue (on_core test (take (k + 1) tasks) core w) → (IsTrue (on_core test (take k tasks) core w)) ⊎ ((t.core.0 ≡ core) × IsTrue (test t w))
on_core-more test tasks k core w t at' h =
    let more = list_any_more (λ (t : TaskDecl). (t.core.0 == core) && test t w) tasks k t at'.within in
    let last : on_core test (take (k + 1) tasks) core w ≡ (on_core test (take k tasks) core w || ((t.core.0 == core) && test t w)) =
    more ∙ ap (λ (u : TaskDecl). on_core test (take k tasks) core w || ((u.core.0 == core) && test u w)) (sym at'.is) in
    ⊎_elim (λ (e : on_core test (take k tasks) core w ≡ true). inl e)
    (λ (e : ((t.core.0 == core) && test t w) ≡ true). let parts = and_parts (t.core.0 == core) (test t w) e in inr (eqb-true t.core.0 core parts.0, parts.1))
    (or_cases (on_core test (take k tasks) core w) ((t.core.0 == core) && test t w) (sym last ∙ h))

-- no task passes where none of the tasks before the end does
pub none_whole : (test : TaskDecl → ℕ → Bool) (tasks : List TaskDecl) (k : ℕ) → k ≤ length tasks → length tasks ≤ k → NonePasses test (take k tasks) → NonePasses test tasks
none_whole test tasks k l m none =
    let e : k ≡ length tasks = omega arith in
    let whole : take k tasks ≡ tasks = ap (λ i. take i tasks) e ∙ take-length tasks in
    rw whole at none

-- the first task at which some word passes
pub first_passing : (test : TaskDecl → ℕ → Bool) (tasks : List TaskDecl) (k word : ℕ) (t : TaskDecl) → AreRising tasks → IsAt tasks k t → NonePasses test (take k tasks) → IsLeastWord (test t) word
    → IsFirstPair (λ core w. IsTrue (on_core test tasks core w)) t.core.0 word
first_passing test tasks k word t rising at' none h = record {
  holds = on_core-from test tasks t.core.0 word k t at' refl h.passes;
  lesser = λ core w l p. none core w (on_core-before test tasks k core w t rising at' l p);
  least = λ w p. h.least w (on_core-at test tasks k w t rising at' p);
}
