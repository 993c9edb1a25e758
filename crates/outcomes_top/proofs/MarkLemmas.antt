-- Words that are marked for a core.
use Rattle.std.proofs.Common.{◌≡◌, ℕ, ◌+◌, ◌<◌, ◌==◌, Bool, true, false, ◌&&◌, ◌||◌, not, List, [], ◌∷◌, ◌++◌, length, take, get_or, refl, sym, ap, ◌∙◌}
use Rattle.std.specs.List.{list_any}
use Rattle.std.proofs.lemmas.List.{take_more}
use Rattle.std.proofs.lemmas.List.Folds.{list_any_more}
use Rattle.region_table.specs.declared.interval.Interval.{Interval}
use Rattle.region_table.specs.declared.declared.TaskDecl.{TaskDecl}
use Rattle.region_table.specs.Words.{has, in_interval}
use Rattle.region_table.specs.Plan.{task_writes}
use Rattle.region_table.proofs.WordLemmas.{has-append}
use Rattle.common_outcomes.specs.Alone.{writes_elsewhere}
use Rattle.outcomes_top.specs.Marks.{mark_of, is_of_other, AreMarkedFor}

or-three : (m o a b : Bool) → ((m || (o && a)) || (o && b)) ≡ (m || (o && (a || b)))
or-three true o a b = refl
or-three false true a b = refl
or-three false false a b = refl

and-false : (o : Bool) → (o && false) ≡ false
and-false true = refl
and-false false = refl

or-false : (m : Bool) → (m || false) ≡ m
or-false true = refl
or-false false = refl

pub marked-none : (marks : List ℕ) (core : ℕ) → AreMarkedFor marks marks core (λ w. false)
marked-none marks core = record {
  words = refl;
  marked = λ w c l. sym (ap (λ (x : Bool). is_of_other (mark_of marks w) c || x) (and-false (not (core == c))) ∙ or-false (is_of_other (mark_of marks w) c));
}

-- words that pass one test, and then words that pass another
pub marked-both : (a b c : List ℕ) (core : ℕ) (first second whole : ℕ → Bool) → AreMarkedFor a b core first → AreMarkedFor b c core second
    → ((w : ℕ) → whole w ≡ (first w || second w)) → AreMarkedFor a c core whole
marked-both a b c core first second whole h k is = record {
  words = k.words ∙ h.words;
  marked = λ w d l. k.marked w d l ∙ ap (λ (x : Bool). x || (not (core == d) && second w)) (h.marked w d l)
      ∙ or-three (is_of_other (mark_of a w) d) (not (core == d)) (first w) (second w)
      ∙ ap (λ (x : Bool). is_of_other (mark_of a w) d || (not (core == d) && x)) (sym (is w));
}

pub marked-as : (a b : List ℕ) (core : ℕ) (test same : ℕ → Bool) → AreMarkedFor a b core test → ((w : ℕ) → test w ≡ same w) → AreMarkedFor a b core same
marked-as a b core test same h is = record {
  words = h.words;
  marked = λ w c l. h.marked w c l ∙ ap (λ (x : Bool). is_of_other (mark_of a w) c || (not (core == c) && x)) (is w);
}

-- one interval more
pub has-more : (is : List Interval) (k : ℕ) (d : Interval) (w : ℕ) → k < length is → has (take (k + 1) is) w ≡ (has (take k is) w || in_interval (get_or is k d) w)
has-more is k d w l =
    let split : take (k + 1) is ≡ take k is ++ get_or is k d ∷ [] = take_more is k d l in
    ap (λ (x : List Interval). has x w) split ∙ has-append (take k is) (get_or is k d ∷ []) w
    ∙ ap (λ (x : Bool). has (take k is) w || x) (or-false (in_interval (get_or is k d) w))

-- one set more
pub sets-more : (sets : List (List Interval)) (k : ℕ) (d : List Interval) (w : ℕ) → k < length sets
    → list_any (λ (set : List Interval). has set w) (take (k + 1) sets) ≡ (list_any (λ (set : List Interval). has set w) (take k sets) || has (get_or sets k d) w)
sets-more sets k d w l = list_any_more (λ (set : List Interval). has set w) sets k d l

-- one task more
pub tasks-more : (before after : List ℕ) (tasks : List TaskDecl) (k : ℕ) (e : TaskDecl) → k < length tasks → AreMarkedFor before after e.core.0 (task_writes e) → e ≡ get_or tasks k e
    → ((d : TaskDecl) (w : ℕ) → d.core.0 < 16 → is_of_other (mark_of before w) d.core.0 ≡ list_any (writes_elsewhere d w) (take k tasks))
    → (d : TaskDecl) (w : ℕ) → d.core.0 < 16 → is_of_other (mark_of after w) d.core.0 ≡ list_any (writes_elsewhere d w) (take (k + 1) tasks)
tasks-more before after tasks k e l h is so d w c =
    h.marked w d.core.0 c ∙ ap (λ (x : Bool). x || writes_elsewhere d w e) (so d w c)
    ∙ ap (λ (x : TaskDecl). list_any (writes_elsewhere d w) (take k tasks) || writes_elsewhere d w x) is
    ∙ sym (list_any_more (writes_elsewhere d w) tasks k e l)
