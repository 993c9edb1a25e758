-- A task that is alone on its line, and a word that all tasks may load.
use Rattle.std.proofs.Common.{◌≡◌, ℕ, ◌+◌, ◌<◌, ◌≤◌, ◌==◌, Bool, true, false, cond, if◌then◌else◌, ltb, List, [], ◌∷◌, count_by, find, Option, Some, None, refl, sym, ap, ◌∙◌, ⊎_elim, arith}
use Rattle.std.specs.List.{IsAmong, position_or_len}
use Rattle.std.specs.Option.{is_some}
use Rattle.std.proofs.lemmas.Bool.{cases_Bool, cases_lt, eq-eqb, eqb-true, eqb-false, false≢true, true≢false, lt-ltb}
use Rattle.std.proofs.lemmas.List.Folds.{find_at}
use Rattle.std.proofs.lemmas.List.Sums.{sum_by-cons}
use Rattle.region_table.proofs.TaskLemmas.{among-got}
use Rattle.region_table.specs.declared.declared.TaskDecl.{TaskDecl}
use Rattle.region_table.specs.Words.{has}
use Rattle.text_places.specs.declared.places.Places.{Places}
use Rattle.text_places.specs.declared.places.TaskPlace.{TaskPlace}
use Rattle.text_places.specs.Words.{is_task_of}
use Rattle.sentences.specs.declared.families.TaskFamily.{TaskFamily}
use Rattle.sentences.specs.declared.uses.Access.TheVariants.{Load}
use Rattle.sentences.specs.Causes.{IsPlainlyFree, MayAllLoad}
use Rattle.sentences.specs.Families.{is_of_line, family_size, family_if, family_at, family_of}
use Rattle.sentences.proofs.TableClaims.{among-cons, among-none}

-- ---- a task that is alone on its line

-- one more element
counted : (p : TaskPlace → Bool) (x : TaskPlace) (xs : List TaskPlace) (b : Bool) → p x ≡ b → count_by p (x ∷ xs) ≡ cond b 1 0 + count_by p xs
counted p x xs b e = sum_by-cons (λ (t : TaskPlace). cond (p t) 1 0) x xs ∙ ap (λ (c : Bool). cond c 1 0 + count_by p xs) e

-- an element that passes is counted
some-counted : (p : TaskPlace → Bool) (ts : List TaskPlace) (t : TaskPlace) → IsAmong ts t → p t ≡ true → 0 < count_by p ts
some-counted p [] t h is = absurd (among-none t h)
some-counted p (x ∷ xs) t h is = by_test (p x) refl (λ (k : IsAmong xs t). some-counted p xs t k is) where
  by_test : (b : Bool) → p x ≡ b → (IsAmong xs t → 0 < count_by p xs) → 0 < count_by p (x ∷ xs)
  by_test true e later = omega (arith, counted p x xs true e)
  by_test false e later =
      ⊎_elim (λ (same : t ≡ x). absurd (false≢true (sym e ∙ ap p (sym same) ∙ is)))
      (λ (behind : IsAmong xs t). omega (arith, counted p x xs false e, later behind)) (among-cons x xs t h)

none-else : (p : TaskPlace → Bool) (x : TaskPlace) (xs : List TaskPlace) → count_by p (x ∷ xs) ≤ 1 → p x ≡ true → 0 < count_by p xs → ⊥
none-else p x xs few e more = omega (arith, few, counted p x xs true e, more)

fewer : (p : TaskPlace → Bool) (x : TaskPlace) (xs : List TaskPlace) → count_by p (x ∷ xs) ≤ 1 → (b : Bool) → p x ≡ b → count_by p xs ≤ 1
fewer p x xs few true e = omega (arith, few, counted p x xs true e)
fewer p x xs few false e = omega (arith, few, counted p x xs false e)

-- where one is counted, two that pass are the same
one-counted : (p : TaskPlace → Bool) (ts : List TaskPlace) (t u : TaskPlace) → count_by p ts ≤ 1 → IsAmong ts t → IsAmong ts u → p t ≡ true → p u ≡ true → u ≡ t
one-counted p [] t u few h k is also = absurd (among-none t h)
one-counted p (x ∷ xs) t u few h k is also =
    ⊎_elim
    (λ (same : t ≡ x).
    ⊎_elim (λ (too : u ≡ x). too ∙ sym same)
    (λ (behind : IsAmong xs u). absurd (none-else p x xs few (ap p (sym same) ∙ is) (some-counted p xs u behind also))) (among-cons x xs u k))
    (λ (behind : IsAmong xs t).
    ⊎_elim (λ (too : u ≡ x). absurd (none-else p x xs few (ap p (sym too) ∙ also) (some-counted p xs t behind is)))
    (λ (next : IsAmong xs u). one-counted p xs t u (fewer p x xs few (p x) refl) behind next is also) (among-cons x xs u k))
    (among-cons x xs t h)

found-passes : (p : TaskPlace → Bool) (ts : List TaskPlace) (t : TaskPlace) → find p ts ≡ Some t → IsAmong ts t
found-passes p ts t e = among-got ts (position_or_len p ts) t (sym (find_at p ts) ∙ e)

few-tasks : (line count : ℕ) → family_if line count ≡ None → count ≤ 1
few-tasks line count e = by_test (ltb 1 count) refl e where
  chosen : Bool → Option TaskFamily
  chosen b = if b then Some (record { line = line; tasks = count }) else None

  by_test : (b : Bool) → ltb 1 count ≡ b → chosen b ≡ None → count ≤ 1
  by_test true l h = absurd (true≢false (ap is_some h))
  by_test false l h =
      ⊎_elim (λ (more : 1 < count). absurd (false≢true (sym l ∙ lt-ltb 1 count more))) (λ (few : count ≤ 1). few) (cases_lt 1 count)

pub alone : (places : Places) (phase core : ℕ) (t u : TaskPlace) → find (is_task_of phase core) places.tasks ≡ Some t → family_of places phase core ≡ None
    → IsAmong places.tasks u → u.line ≡ t.line → u ≡ t
alone places phase core t u found none at same =
    let own : family_if t.line (family_size places.tasks t.line) ≡ None = ap (family_at places.tasks) (sym found) ∙ none in
    one-counted (is_of_line t.line) places.tasks t u (few-tasks t.line (family_size places.tasks t.line) own) (found-passes (is_task_of phase core) places.tasks t found) at
    (eq-eqb t.line t.line refl) (eq-eqb u.line t.line same)

-- ---- a word that all tasks may load

pub all-load : (core : ℕ) (tasks : List TaskDecl) (w : ℕ) → IsPlainlyFree Load core tasks w
    → ((t : TaskDecl) → IsAmong tasks t → t.core.0 ≡ core → has t.effects.writes w ≡ false) → MayAllLoad tasks w
all-load core tasks w free own = record { unguarded = free.unguarded; unwritten = λ t at. by_core t at (t.core.0 == core) refl } where
  by_core : (t : TaskDecl) → IsAmong tasks t → (b : Bool) → (t.core.0 == core) ≡ b → has t.effects.writes w ≡ false
  by_core t at true e = own t at (eqb-true t.core.0 core e)
  by_core t at false e =
      ⊎_elim (λ (writes : has t.effects.writes w ≡ true). absurd (free.apart t at (eqb-false t.core.0 core e) writes))
      (λ (none : has t.effects.writes w ≡ false). none) (cases_Bool (has t.effects.writes w))
