-- The actor that can start first, among one more.
use Rattle.std.proofs.Common.{◌≡◌, ◌⊎◌, inl, inr, ℕ, ◌<◌, ◌≤◌, ◌+◌, Bool, true, false, nat_lt, List, slice_get, Option, Some, None, refl, sym, ap, subst, ◌∙◌, arith}
use Rattle.std.proofs.lemmas.Bool.Decides.{nat_tests}
use Rattle.std.proofs.lemmas.Option.{none-some, same_Some}
use Rattle.time_order.specs.declared.choice.Choice.{Choice}
use Rattle.time_order.specs.Choices.{IsFirstChoice}

pub first-none : (choices : List (Option Choice)) → IsFirstChoice choices 0 None
first-none choices =
    record {
      none = λ is place low. absurd (omega (arith, low));
      found = λ r is. absurd (none-some r is);
      within = λ r is. absurd (none-some r is);
      least = λ r is. absurd (none-some r is);
      before = λ r is. absurd (none-some r is);
    }

-- a place below n + 1 is n, or below n
split : (n place : ℕ) → place < n + 1 → (place ≡ n) ⊎ (place < n)
split n place low = by_test (nat_lt place n) refl where
  by_test : (t : Bool) → nat_lt place n ≡ t → (place ≡ n) ⊎ (place < n)
  by_test true e = inr (grind (arith, nat_tests, e))
  by_test false e = inl (grind (arith, nat_tests, e, low))

-- an actor without a choice
pub first-skip : (choices : List (Option Choice)) (n : ℕ) (first : Option (ℕ × Choice)) → slice_get choices n ≡ Some None → IsFirstChoice choices n first → IsFirstChoice choices (n + 1) first
first-skip choices n first here was =
    record {
      none = λ is place low. by_none is place (split n place low);
      found = was.found;
      within = λ r is. omega (arith, was.within r is);
      least = λ r is place c low there. by_least r is place c there (split n place low);
      before = was.before;
    }
  where
    by_none : first ≡ None → (place : ℕ) → (place ≡ n) ⊎ (place < n) → slice_get choices place ≡ Some None
    by_none is place (inl same) = ap (slice_get choices) same ∙ here
    by_none is place (inr low) = was.none is place low

    by_least : (r : ℕ × Choice) → first ≡ Some r → (place : ℕ) (c : Choice) → slice_get choices place ≡ Some (Some c) → (place ≡ n) ⊎ (place < n) → r.1.start ≤ c.start
    by_least r is place c there (inl same) = absurd (cc (same, here, there))
    by_least r is place c there (inr low) = was.least r is place c low there

-- a choice that starts before the first so far
pub first-new : (choices : List (Option Choice)) (n : ℕ) (first : Option (ℕ × Choice)) (choice : Choice) → slice_get choices n ≡ Some (Some choice)
    → ((r : ℕ × Choice) → first ≡ Some r → choice.start < r.1.start) → IsFirstChoice choices n first → IsFirstChoice choices (n + 1) (Some (n, choice))
first-new choices n first choice here sooner was =
    record {
      none = λ is. absurd (cc);
      found = λ r is. subst (λ (x : ℕ × Choice). slice_get choices x.0 ≡ Some (Some x.1)) (same_Some (n, choice) r is) here;
      within = λ r is. subst (λ (x : ℕ × Choice). x.0 < n + 1) (same_Some (n, choice) r is) (omega arith);
      least = λ r is place c low there. subst (λ (x : ℕ × Choice). x.1.start ≤ c.start) (same_Some (n, choice) r is) (by_least place c there (split n place low));
      before = λ r is place c low there.
          subst (λ (x : ℕ × Choice). x.1.start < c.start) (same_Some (n, choice) r is)
          (less place c (subst (λ (x : ℕ × Choice). place < x.0) (sym (same_Some (n, choice) r is)) low) there first refl);
    }
  where
    less : (place : ℕ) (c : Choice) → place < n → slice_get choices place ≡ Some (Some c) → (o : Option (ℕ × Choice)) → first ≡ o → choice.start < c.start
    less place c low there None is = absurd (cc (was.none is place low, there))
    less place c low there (Some r) is = omega (arith, sooner r is, was.least r is place c low there)

    by_least : (place : ℕ) (c : Choice) → slice_get choices place ≡ Some (Some c) → (place ≡ n) ⊎ (place < n) → choice.start ≤ c.start
    by_least place c there (inl same) =
        let one : choice ≡ c = cc (same, here, there) in
        subst (λ (x : Choice). choice.start ≤ x.start) one (omega arith)
    by_least place c there (inr low) = omega (arith, less place c low there first refl)

-- a choice that doesn't
pub first-same : (choices : List (Option Choice)) (n : ℕ) (first : ℕ × Choice) (choice : Choice) → slice_get choices n ≡ Some (Some choice)
    → first.1.start ≤ choice.start → IsFirstChoice choices n (Some first) → IsFirstChoice choices (n + 1) (Some first)
first-same choices n first choice here sooner was =
    record {
      none = λ is. absurd (cc);
      found = was.found;
      within = λ r is. omega (arith, was.within r is);
      least = λ r is place c low there. by_least r is place c there (split n place low);
      before = was.before;
    }
  where
    by_least : (r : ℕ × Choice) → Some first ≡ Some r → (place : ℕ) (c : Choice) → slice_get choices place ≡ Some (Some c) → (place ≡ n) ⊎ (place < n) → r.1.start ≤ c.start
    by_least r is place c there (inl same) =
        let one : choice ≡ c = cc (same, here, there) in
        subst (λ (x : ℕ × Choice). x.1.start ≤ c.start) (same_Some first r is) (subst (λ (x : Choice). first.1.start ≤ x.start) one sooner)
    by_least r is place c there (inr low) = was.least r is place c low there

pub first-kept : (choices : List (Option Choice)) (n : ℕ) (first : Option (ℕ × Choice)) (choice : Choice) (answer : Bool) → slice_get choices n ≡ Some (Some choice) → (first ≡ None → answer ≡ true)
    → ((b : ℕ × Choice) → first ≡ Some b → answer ≡ nat_lt choice.start b.1.start) → answer ≡ false → IsFirstChoice choices n first → IsFirstChoice choices (n + 1) first
first-kept choices n None choice answer here none some is was = absurd (cc (none refl, is))
first-kept choices n (Some b) choice answer here none some is was =
    let test = some b refl in
    first-same choices n b choice here (grind (arith, nat_tests, test, is)) was

pub first-sooner : (first : Option (ℕ × Choice)) (choice : Choice) (answer : Bool) → ((b : ℕ × Choice) → first ≡ Some b → answer ≡ nat_lt choice.start b.1.start) → answer ≡ true
    → (r : ℕ × Choice) → first ≡ Some r → choice.start < r.1.start
first-sooner first choice answer some is r there =
    let test = some r there in
    grind (arith, nat_tests, test, is)
