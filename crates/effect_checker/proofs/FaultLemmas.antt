-- That the phases before one are checked, and that the locks of a well-formed phase are the program's.
use Rattle.std.proofs.Common.{◌≡◌, ℕ, ◌<◌, ◌≤◌, false, List, [], length, get_or, refl, arith, ⊎_elim}
use Rattle.std.proofs.lemmas.Bool.{or_cases, cases_lt, both_ways}
use Rattle.std.proofs.lemmas.List.{get_or_past}
use Rattle.std.proofs.lemmas.List.Folds.{Any-from_list_any}
use Rattle.region_table.specs.declared.interval.Interval.{Interval}
use Rattle.region_table.specs.declared.declared.TaskDecl.{TaskDecl}
use Rattle.region_table.specs.declared.declared.Phase.{Phase}
use Rattle.region_table.specs.Words.{has}
use Rattle.region_table.specs.Program.{IsPhase, IsTask}
use Rattle.region_table.specs.Plan.{task_guards}
use Rattle.effect_checker.specs.Checked.{IsCheckedPhase}
use Rattle.effect_checker.specs.Least.{HaveLocks}

-- the phases before number `k` are checked
abbrev pub AreCheckedBefore : List Phase → ℕ → Type 0
AreCheckedBefore phases k = (j : ℕ) (d : Phase) → j < k → IsCheckedPhase (get_or phases j d)

-- no set of a list of sets has a word past its end
no_set : (sets : List (List Interval)) (locks lock w : ℕ) → length sets ≡ locks → locks ≤ lock → has (get_or sets lock []) w ≡ false
no_set sets locks lock w e l = rw (get_or_past sets lock [] (omega arith)) refl

-- a lock guards a word only where it is one of the program's
pub phase-locks : (words locks : ℕ) (p : Phase) → IsPhase words locks p → HaveLocks locks p.tasks
phase-locks words locks p h lock w guards =
    ⊎_elim (λ (l : lock < locks). l)
    (λ (l : locks ≤ lock).
    let some = Any-from_list_any (λ (t : TaskDecl). task_guards t lock w) p.tasks guards in
    let t : TaskDecl = some.1 in
    let well : IsTask words locks t = rw some.3 at (h.tasks some.0 t some.2) in
    absurd (⊎_elim
    (λ r. both_ways (has (get_or t.effects.guarded_reads lock []) w) (no_set t.effects.guarded_reads locks lock w well.effects.reads_by_lock l) r)
    (λ r. both_ways (has (get_or t.effects.guarded_writes lock []) w) (no_set t.effects.guarded_writes locks lock w well.effects.writes_by_lock l) r)
    (or_cases (has (get_or t.effects.guarded_reads lock []) w) (has (get_or t.effects.guarded_writes lock []) w) some.4)))
    (cases_lt lock locks)
