-- The first wrong load of many tasks, found task by task.
use Rattle.std.proofs.Common.{◌≡◌, ℕ, ◌<◌, ◌≤◌, min, List, [], ◌∷◌, length, drop, None, refl, ap, ◌∙◌, ⊎_elim, arith}
use Rattle.std.proofs.lemmas.Bool.{cases_lt}
use Rattle.std.proofs.lemmas.List.{drop_all}
use Rattle.flat_machine.specs.declared.ending.TaskLoads.{TaskLoads}
use Rattle.claims.specs.Judge.{tasks_verdict}

none_right : (cs : List TaskLoads) → tasks_verdict cs [] ≡ None
none_right [] = refl
none_right (c ∷ cs) = refl

-- no more tasks are claimed, or no more have started
pub tasks_end : (cs rs : List TaskLoads) (i : ℕ) → min (length cs) (length rs) ≤ i → tasks_verdict (drop i cs) (drop i rs) ≡ None
tasks_end cs rs i all =
    ⊎_elim (λ (h : length cs < length rs). ap (λ (l : List TaskLoads). tasks_verdict l (drop i rs)) (drop_all i cs (omega arith)))
    (λ (h : length rs ≤ length cs). ap (λ (l : List TaskLoads). tasks_verdict (drop i cs) l) (drop_all i rs (omega arith)) ∙ none_right (drop i cs))
    (cases_lt (length cs) (length rs))
