-- A word that a task may write is in the plan of its phase: the task's effects lie in the memory, and the regions cover it.
use Rattle.std.proofs.Common.{◌≡◌, ℕ, suc, ◌+◌, ◌<◌, ◌≤◌, Bool, true, false, nat_lt, IsTrue, List, [], ◌∷◌, length, refl, sym, ap, subst, ◌∙◌, arith, ⊎_elim}
use Rattle.std.proofs.lemmas.Bool.Decides.{nat_tests}
use Rattle.std.specs.List.{Any, IsAmong, list_any}
use Rattle.std.proofs.lemmas.Bool.{or_cases}
use Rattle.std.proofs.lemmas.List.Folds.{Any-from_list_any, list_any_at}
use Rattle.region_table.specs.declared.interval.Interval.{Interval}
use Rattle.region_table.specs.declared.declared.TaskDecl.{TaskDecl}
use Rattle.region_table.specs.declared.declared.Phase.{Phase}
use Rattle.region_table.specs.declared.plan.PhasePlan.{PhasePlan}
use Rattle.region_table.specs.Words.{has}
use Rattle.region_table.specs.declared.declared.Region.{Region}
use Rattle.region_table.specs.Program.{ProgramParts, AreTiled, LiesIn, AreEffects}
use Rattle.region_table.specs.Plan.{in_region, task_writes, phase_writes, IsPlan}
use Rattle.region_table.proofs.WrittenLemmas.{word-within}
use Rattle.machine_rules.specs.Sound.{IsOfTasks}

-- regions that stand one behind the other cover all words up to their end
covering : (from : ℕ) (rs : List Region) (end w : ℕ) → AreTiled from rs end → from ≤ w → w < end → Any (λ (r : Region). IsTrue (in_region r w)) rs
covering from [] end w tiled low high = absurd (omega (arith, tiled, low, high))
covering from (r ∷ rs) end w tiled low high = by_test (nat_lt w (r.start + r.len)) refl (covering (r.start + r.len) rs end w tiled.2) where
  by_test : (b : Bool) → nat_lt w (r.start + r.len) ≡ b → (r.start + r.len ≤ w → w < end → Any (λ (x : Region). IsTrue (in_region x w)) rs) → Any (λ (x : Region). IsTrue (in_region x w)) (r ∷ rs)
  by_test true e rest =
      let here : IsTrue (in_region r w) = grind (arith, nat_tests, e, low, tiled.0) in
      (0, r, omega arith, refl, here)
  by_test false e rest =
      let past : r.start + r.len ≤ w = grind (arith, nat_tests, e) in
      let later = rest past high in
      (suc later.0, later.1, omega (arith, later.2), later.3, later.4)

-- a word that a task may write is one of the memory
within-memory : (words locks : ℕ) (d : TaskDecl) (w : ℕ) → AreEffects words locks d.effects → task_writes d w ≡ true → w < words
within-memory words locks d w fits writes =
    ⊎_elim (word-within words d.effects.writes w fits.writes) (λ (guarded : list_any (λ (set : List Interval). has set w) d.effects.guarded_writes ≡ true).
    let some = Any-from_list_any (λ (set : List Interval). has set w) d.effects.guarded_writes guarded in
    word-within words some.1 w (subst (LiesIn words) some.3 (fits.guarded_writes some.0 some.1 some.2)) some.4)
    (or_cases (has d.effects.writes w) (list_any (λ (set : List Interval). has set w) d.effects.guarded_writes) writes)

pub planned-word : (P : ProgramParts) (p : Phase) (plan : PhasePlan) (d : TaskDecl) (w : ℕ) → IsOfTasks P → IsAmong P.phases p → IsAmong p.tasks d → IsPlan P p plan → task_writes d w ≡ true
    → has plan.written w ≡ true
planned-word P p plan d w of_tasks known among is writes =
    let region = covering 0 P.regions (length P.memory) w of_tasks.tiled (omega arith) (within-memory (length P.memory) (length P.locks) d w (of_tasks.effects p d known among) writes) in
    let some : IsTrue (phase_writes p w) = list_any_at (λ (t : TaskDecl). task_writes t w) p.tasks among.0 d among.1.0 (ap (λ (t : TaskDecl). task_writes t w) (sym among.1.1) ∙ writes) in
    (is.written w).1 (region.0, region.1, region.2, region.3, (region.4, (w, region.4, some)))
