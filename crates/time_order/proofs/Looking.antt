-- What each actor can start first is looked at one actor after the other.
use Rattle.std.proofs.Common.{◌≡◌, ◌⊎◌, inl, inr, ℕ, ◌+◌, ◌<◌, Bool, true, false, nat_lt, List, length, slice_get, slice_set, Option, Some, refl, sym, ap, subst, ◌∙◌, arith}
use Rattle.std.proofs.lemmas.Bool.Decides.{nat_tests}
use Rattle.std.proofs.lemmas.Option.{slice_get-get_or}
use Rattle.std.proofs.lemmas.List.{get_or-set_same, get_or-set_other}
use Rattle.std.proofs.Math.ListN.{length-set}
use Rattle.machine_rules.specs.State.{State}
use Rattle.time_order.specs.declared.choice.Choice.{Choice}
use Rattle.time_order.specs.declared.flight.Flight.{Flight}
use Rattle.time_order.specs.Actors.{choice_at, AreLooked}
use Rattle.time_order.specs.Flights.{AreSorted, queue_at}

-- a place below n + 1 is below n, or n
below : (n place : ℕ) → place < n + 1 → (place < n) ⊎ (n ≡ place)
below n place low = by_test (nat_lt place n) refl where
  by_test : (t : Bool) → nat_lt place n ≡ t → (place < n) ⊎ (n ≡ place)
  by_test true e = inl (grind (arith, nat_tests, e))
  by_test false e = inr (grind (arith, nat_tests, e, low))

get-written : (xs : List (Option Choice)) (i : ℕ) (x : Option Choice) → i < length xs → slice_get (slice_set xs i x) i ≡ Some x
get-written xs i x low =
    slice_get-get_or (slice_set xs i x) i x (omega (arith, low, length-set xs i x)) ∙ ap (λ (o : Option Choice). Some o) (get_or-set_same xs i x x low)

get-unwritten : (xs : List (Option Choice)) (i j : ℕ) (x : Option Choice) → (j ≡ i → ⊥) → j < length xs → slice_get (slice_set xs i x) j ≡ slice_get xs j
get-unwritten xs i j x apart low =
    slice_get-get_or (slice_set xs i x) j x (omega (arith, low, length-set xs i x)) ∙ (ap (λ (o : Option Choice). Some o) (get_or-set_other xs i j x x apart) ∙ sym (slice_get-get_or xs j x low))

pub looked-more : (S : State) (free : List ℕ) (queues : List (List Flight)) (n : ℕ) (choices : List (Option Choice)) (choice : Option Choice) → AreLooked S free queues n choices → n < length choices
    → choice ≡ choice_at S free queues n → AreLooked S free queues (n + 1) (slice_set choices n choice)
looked-more S free queues n choices choice were within is place low = by_place (below n place low) where
  by_place : (place < n) ⊎ (n ≡ place) → slice_get (slice_set choices n choice) place ≡ Some (choice_at S free queues place)
  by_place (inl before) = get-unwritten choices n place choice (λ same. omega (arith, same, before)) (omega (arith, before, within)) ∙ were place before
  by_place (inr here) =
      subst (λ (x : ℕ). slice_get (slice_set choices n choice) x ≡ Some (choice_at S free queues x)) here
      (get-written choices n choice within ∙ ap (λ (o : Option Choice). Some o) is)

pub sorted-more : (queues : List (List Flight)) (n : ℕ) → ((place : ℕ) → place < n → AreSorted (queue_at queues place)) → AreSorted (queue_at queues n)
    → (place : ℕ) → place < n + 1 → AreSorted (queue_at queues place)
sorted-more queues n were here place low = by_place (below n place low) where
  by_place : (place < n) ⊎ (n ≡ place) → AreSorted (queue_at queues place)
  by_place (inl before) = were place before
  by_place (inr same) = subst (λ (x : ℕ). AreSorted (queue_at queues x)) same here
