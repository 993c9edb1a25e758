-- Steps of the loops over cores and events.
use Rattle.std.proofs.Common.{◌≡◌, ℕ, zero, suc, ◌+◌, ◌<◌, ◌==◌, Bool, true, false, cond, true, length, get_or, set, take, drop, map, flat_map, List, [], ◌∷◌, ◌++◌, refl, sym, ap, ◌∙◌, arith}
use Rattle.std.specs.List.{enumerate_from}
use Rattle.std.proofs.Math.Seq.{drop-cons}
use Rattle.std.proofs.lemmas.List.{set-get_or}
use Rattle.message_net.specs.declared.event.Event.{Event}
use Rattle.machine_rules.specs.State.{State}
use Rattle.machine_rules.specs.Next.{next}
use Rattle.run_account.specs.Tallies.{Tallies, with_items}
use Rattle.run_account.proofs.Tallied.{items-then}
use Rattle.run_account.specs.declared.access.CountedAccess.{CountedAccess}
use Rattle.run_account.specs.Caches.{SharerCache}
use Rattle.run_account.specs.Lists.{SharerLists, at_set, told_set, told_cache}
use Rattle.run_account.specs.Counts.{told_items}
use Rattle.run_account.specs.Runs.{Listed, listed_after, count_of_run}

-- ---- cores, one after the other

module _ {X : Type 0} (f : ℕ × X → X) where
  -- the first i are changed, and then one more
  swept-more : (xs : List X) (k i j : ℕ) (d : X) → j ≡ k + i → i < length xs
      → set (map f (enumerate_from k (take i xs)) ++ drop i xs) i (f (j, get_or xs i d)) ≡ map f (enumerate_from k (take (suc i) xs)) ++ drop (suc i) xs
  swept-more [] k i j d at within = absurd (omega arith)
  swept-more (x ∷ xs) k zero j d at within = let same : j ≡ k = omega (arith, at) in rw same refl
  swept-more (x ∷ xs) k (suc i) j d at within =
      ap (λ (ys : List X). f (k, x) ∷ ys) (swept-more xs (k + 1) i j d (omega (arith, at)) (omega (arith, within)))

  swept-get : (xs : List X) (k i : ℕ) (d : X) → i < length xs → get_or (map f (enumerate_from k (take i xs)) ++ drop i xs) i d ≡ get_or xs i d
  swept-get [] k i d within = absurd (omega arith)
  swept-get (x ∷ xs) k zero d within = refl
  swept-get (x ∷ xs) k (suc i) d within = swept-get xs (k + 1) i d (omega (arith, within))

  pub swept-step : (xs ys : List X) (i : ℕ) (d : X) → i < length xs → ys ≡ map f (enumerate_from 0 (take i xs)) ++ drop i xs
      → set ys i (f (i, get_or ys i d)) ≡ map f (enumerate_from 0 (take (i + 1) xs)) ++ drop (i + 1) xs
  swept-step xs ys i d within at =
      let one : suc i ≡ i + 1 = omega arith in
      rw at (rw (swept-get xs 0 i d within) (swept-more xs 0 i i d (omega arith) within
      ∙ ap (λ (n : ℕ). map f (enumerate_from 0 (take n xs)) ++ drop n xs) one))

enum-next : {X : Type 0} (xs : List X) (i : ℕ) (d : X) → i < length xs → enumerate_from i (drop i xs) ≡ (i, get_or xs i d) ∷ enumerate_from (i + 1) (drop (i + 1) xs)
enum-next {X = X} xs i d within =
    let one : suc i ≡ i + 1 = omega arith in
    ap (enumerate_from i) (drop-cons xs i d within) ∙ ap (λ (n : ℕ). (i, get_or xs i d) ∷ enumerate_from (i + 1) (drop n xs)) one

-- one core more
pub tallied : (a : CountedAccess) (xs ys : List SharerCache) (t u E : Tallies) (i : ℕ) → i < length xs → ys ≡ map (told_cache a) (enumerate_from 0 (take i xs)) ++ drop i xs
    → u ≡ with_items t (told_items a (i, get_or ys i []))
    → with_items t (flat_map (told_items a) (enumerate_from i (drop i xs))) ≡ E
    → with_items u (flat_map (told_items a) (enumerate_from (i + 1) (drop (i + 1) xs))) ≡ E
tallied a xs ys t u E i within at is led =
    rw (is, at, swept-get (told_cache a) xs 0 i [] within)
    (sym (items-then t (told_items a (i, get_or xs i [])) (flat_map (told_items a) (enumerate_from (i + 1) (drop (i + 1) xs))))
    ∙ ap (λ (ps : List (ℕ × SharerCache)). with_items t (flat_map (told_items a) ps)) (sym (enum-next xs i [] within)) ∙ led)

pub told-caches : (a : CountedAccess) (L : SharerLists) (xs : List SharerCache) (i : ℕ) → i < length xs → L.caches ≡ map (told_cache a) (enumerate_from 0 (take i xs)) ++ drop i xs
    → (cond (i == a.core.0) L (at_set L i a.word.0 (told_set a.kind a.word.0))).caches ≡ map (told_cache a) (enumerate_from 0 (take (i + 1) xs)) ++ drop (i + 1) xs
told-caches a L xs i within at = by_core (i == a.core.0) refl ∙ swept-step (told_cache a) xs L.caches i [] within at where
  by_core : (t : Bool) → (i == a.core.0) ≡ t → (cond t L (at_set L i a.word.0 (told_set a.kind a.word.0))).caches ≡ set L.caches i (told_cache a (i, get_or L.caches i []))
  by_core true e = rw e (sym (set-get_or L.caches i []))
  by_core false e = rw e refl

pub told-ways : (a : CountedAccess) (L : SharerLists) (i : ℕ) → (cond (i == a.core.0) L (at_set L i a.word.0 (told_set a.kind a.word.0))).ways ≡ L.ways
told-ways a L i = by_core (i == a.core.0) where
  by_core : (t : Bool) → (cond t L (at_set L i a.word.0 (told_set a.kind a.word.0))).ways ≡ L.ways
  by_core true = refl
  by_core false = refl

-- ---- events, one after the other

drop-next : (es : List Event) (i : ℕ) (d : Event) → i < length es → drop i es ≡ get_or es i d ∷ drop (i + 1) es
drop-next es i d inside =
    let next : suc i ≡ i + 1 = omega arith in
    drop-cons es i d inside ∙ ap (λ (k : ℕ). get_or es i d ∷ drop k es) next

pub one-led : (S T : State) (A B X : Listed) (es : List Event) (i : ℕ) (d : Event) → i < length es → T ≡ next S (get_or es i d) → B ≡ listed_after S (get_or es i d) A
    → count_of_run S A (drop i es) ≡ X → count_of_run T B (drop (i + 1) es) ≡ X
one-led S T A B X es i d inside moved noted led =
    ap (λ (U : State). count_of_run U B (drop (i + 1) es)) moved ∙ ap (λ (C : Listed). count_of_run (next S (get_or es i d)) C (drop (i + 1) es)) noted
    ∙ ap (λ (fs : List Event). count_of_run S A fs) (sym (drop-next es i d inside)) ∙ led
