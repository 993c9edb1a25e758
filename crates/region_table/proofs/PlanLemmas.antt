-- One task more in the words that a phase guards, and one phase more in the plans.
use Rattle.std.proofs.Common.{◌≡◌, ℕ, ◌+◌, ◌<◌, ◌||◌, Bool, true, false, List, [], ◌∷◌, ◌++◌, length, get_or, take, refl, sym, ap, ◌∙◌}
use Rattle.std.specs.List.{list_any, AllZip}
use Rattle.std.proofs.lemmas.List.{take_more}
use Rattle.std.proofs.lemmas.List.Folds.{list_any_more}
use Rattle.region_table.specs.declared.interval.Interval.{Interval}
use Rattle.region_table.specs.declared.declared.TaskDecl.{TaskDecl}
use Rattle.region_table.specs.declared.declared.Phase.{Phase}
use Rattle.region_table.specs.declared.plan.PhasePlan.{PhasePlan}
use Rattle.region_table.specs.Words.{has}
use Rattle.region_table.specs.Program.{ProgramParts}
use Rattle.region_table.specs.Plan.{task_guards, IsPlan}

or_assoc : (x y z : Bool) → ((x || y) || z) ≡ (x || (y || z))
or_assoc true y z = refl
or_assoc false y z = refl

-- a task's guarded reads and writes of a lock are added to those of the tasks before it
pub guards_more : (tasks : List TaskDecl) (k lock w : ℕ) (t : TaskDecl) (before reads all r s : List Interval) → k < length tasks → t ≡ get_or tasks k t
    → r ≡ get_or t.effects.guarded_reads lock [] → s ≡ get_or t.effects.guarded_writes lock []
    → has before w ≡ list_any (λ (t : TaskDecl). task_guards t lock w) (take k tasks) → has reads w ≡ (has before w || has r w) → has all w ≡ (has reads w || has s w)
    → has all w ≡ list_any (λ (t : TaskDecl). task_guards t lock w) (take (k + 1) tasks)
guards_more tasks k lock w t before reads all r s l e er es eb erd eal =
    let more = list_any_more (λ (t : TaskDecl). task_guards t lock w) tasks k t l in
    let last : list_any (λ (t : TaskDecl). task_guards t lock w) (take (k + 1) tasks) ≡ (list_any (λ (t : TaskDecl). task_guards t lock w) (take k tasks) || task_guards t lock w) =
    more ∙ ap (λ (u : TaskDecl). list_any (λ (t : TaskDecl). task_guards t lock w) (take k tasks) || task_guards u lock w) (sym e) in
    eal ∙ ap (λ b. b || has s w) (erd ∙ ap (λ b. b || has r w) eb) ∙ or_assoc (list_any (λ (t : TaskDecl). task_guards t lock w) (take k tasks)) (has r w) (has s w)
    ∙ ap (λ (set : List Interval). list_any (λ (t : TaskDecl). task_guards t lock w) (take k tasks) || (has set w || has s w)) er
    ∙ ap (λ (set : List Interval). list_any (λ (t : TaskDecl). task_guards t lock w) (take k tasks) || (has (get_or t.effects.guarded_reads lock []) w || has set w)) es
    ∙ sym last

-- one pair more at the ends of two lists that are related place by place
zip_push : {A B : Type 0} (R : A → B → Type 0) (xs : List A) (ys : List B) (x : A) (y : B) → AllZip R xs ys → R x y → AllZip R (xs ++ x ∷ []) (ys ++ y ∷ [])
zip_push R [] [] x y z r = (r, tt)
zip_push R [] (b ∷ ys) x y z r = absurd z
zip_push R (a ∷ xs) [] x y z r = absurd z
zip_push R (a ∷ xs) (b ∷ ys) x y z r = (z.0, zip_push R xs ys x y z.1 r)

-- one phase more has its plan
pub plans_more : (program : ProgramParts) (phases : List Phase) (k : ℕ) (p : Phase) (plans : List PhasePlan) (plan : PhasePlan) → k < length phases → p ≡ get_or phases k p
    → AllZip (IsPlan program) (take k phases) plans → IsPlan program p plan → AllZip (IsPlan program) (take (k + 1) phases) (plans ++ plan ∷ [])
plans_more program phases k p plans plan l e zip is =
    let here : IsPlan program (get_or phases k p) plan = rw e at is in
    rw (take_more phases k p l) (zip_push (IsPlan program) (take k phases) plans (get_or phases k p) plan zip here)
