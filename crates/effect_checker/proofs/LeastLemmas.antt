-- The least word of a search, where the test is said in another way or put together from others.
use Rattle.std.proofs.Common.{◌≡◌, ℕ, ◌+◌, ◌<◌, Bool, true, false, ◌&&◌, ◌||◌, Option, Some, None, List, [], length, get_or, take, refl, sym, ap, ◌∙◌}
use Rattle.std.proofs.lemmas.List.Folds.{list_any_more}
use Rattle.dn_base.specs.declared.ids.WordId.{WordId}
use Rattle.region_table.specs.declared.interval.Interval.{Interval}
use Rattle.region_table.specs.declared.declared.TaskDecl.{TaskDecl}
use Rattle.region_table.specs.Words.{has}
use Rattle.region_table.specs.Plan.{task_guards}
use Rattle.effect_checker.specs.Checked.{lock_guards}
use Rattle.effect_checker.specs.Least.{IsLeastFound}

-- two tests that pass the same words have the same least word
pub least_same : (s t : ℕ → Bool) (found : Option WordId) → ((w : ℕ) → s w ≡ t w) → IsLeastFound s found → IsLeastFound t found
least_same s t None same h = λ w p. h w (same w ∙ p)
least_same s t (Some word) same h = record {
  passes = sym (same word.0) ∙ h.passes;
  least = λ w p. h.least w (same w ∙ p);
}

or_and : (x y z : Bool) → ((x && z) || (y && z)) ≡ ((x || y) && z)
or_and true true true = refl
or_and true true false = refl
or_and true false true = refl
or_and true false false = refl
or_and false true true = refl
or_and false true false = refl
or_and false false true = refl
or_and false false false = refl

and_or : (x y z : Bool) → ((x && y) || (x && z)) ≡ (x && (y || z))
and_or true y z = refl
and_or false y z = refl

-- the answer is the lesser of two, whatever was searched for
abbrev pub IsLesser : Option WordId → Option WordId → Option WordId → Type 0
IsLesser a b found = (s t : ℕ → Bool) → IsLeastFound s a → IsLeastFound t b → IsLeastFound (λ w. s w || t w) found

-- the least word of one set that is in either of two others
pub least_right : (s r t : ℕ → Bool) (a b found : Option WordId) → IsLesser a b found → IsLeastFound (λ w. s w && r w) a → IsLeastFound (λ w. s w && t w) b → IsLeastFound (λ w. s w && (r w || t w)) found
least_right s r t a b found lesser h k =
    least_same (λ w. (s w && r w) || (s w && t w)) (λ w. s w && (r w || t w)) found (λ w. and_or (s w) (r w) (t w)) (lesser (λ w. s w && r w) (λ w. s w && t w) h k)

-- the least word of either of two sets that is in another one
pub least_left : (r t s : ℕ → Bool) (a b found : Option WordId) → IsLesser a b found → IsLeastFound (λ w. r w && s w) a → IsLeastFound (λ w. t w && s w) b → IsLeastFound (λ w. (r w || t w) && s w) found
least_left r t s a b found lesser h k =
    least_same (λ w. (r w && s w) || (t w && s w)) (λ w. (r w || t w) && s w) found (λ w. or_and (r w) (t w) (s w)) (lesser (λ w. r w && s w) (λ w. t w && s w) h k)

-- the sets of a slice are those of the sequence that it comes from
pub least_in_sequence : (slice sets : List (List Interval)) (s : ℕ → Bool) (lock : ℕ) (found : Option WordId) → slice ≡ sets
    → IsLeastFound (λ w. has (get_or slice lock []) w && s w) found → IsLeastFound (λ w. has (get_or sets lock []) w && s w) found
least_in_sequence slice sets s lock found e h =
    least_same (λ w. has (get_or slice lock []) w && s w) (λ w. has (get_or sets lock []) w && s w) found (λ w. ap (λ (x : List (List Interval)). has (get_or x lock []) w && s w) e) h

-- one task more
guards_more : (tasks : List TaskDecl) (k : ℕ) (t : TaskDecl) (lock w : ℕ) → k < length tasks → t ≡ get_or tasks k t → lock_guards (take (k + 1) tasks) lock w ≡ (lock_guards (take k tasks) lock w || task_guards t lock w)
guards_more tasks k t lock w l e =
    list_any_more (λ (t : TaskDecl). task_guards t lock w) tasks k t l
    ∙ ap (λ (u : TaskDecl). lock_guards (take k tasks) lock w || task_guards u lock w) (sym e)

-- the least word that the lock guards, with one task more
pub least_more : (tasks : List TaskDecl) (k : ℕ) (t : TaskDecl) (lock : ℕ) (s : ℕ → Bool) (a b found : Option WordId) → k < length tasks → t ≡ get_or tasks k t
    → IsLesser a b found → IsLeastFound (λ w. lock_guards (take k tasks) lock w && s w) a → IsLeastFound (λ w. task_guards t lock w && s w) b
    → IsLeastFound (λ w. lock_guards (take (k + 1) tasks) lock w && s w) found
least_more tasks k t lock s a b found l e lesser h j =
    least_same (λ w. (lock_guards (take k tasks) lock w || task_guards t lock w) && s w) (λ w. lock_guards (take (k + 1) tasks) lock w && s w) found
    (λ w. ap (λ x. x && s w) (sym (guards_more tasks k t lock w l e)))
    (least_left (λ w. lock_guards (take k tasks) lock w) (λ w. task_guards t lock w) s a b found lesser h j)
