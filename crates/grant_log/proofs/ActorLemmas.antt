-- What a merge keeps of each actor's log.
use Rattle.std.proofs.Common.{◌≡◌, ℕ, zero, suc, ◌<◌, Bool, true, false, cond, List, [], ◌∷◌, ◌++◌, length, get_or, refl, sym, ap, ◌∙◌, arith}
use Rattle.std.specs.Prelude.{flat_map, filter, AllPairs, Contains, IsPermutation}
use Rattle.std.proofs.lemmas.List.Elements.{All-tail, filter-append}
use Rattle.std.proofs.lemmas.List.Kept.{AllPairs-filter}
use Rattle.std.proofs.lemmas.List.{append-nil}
use Rattle.std.proofs.lemmas.List.Sorted.{Contains-permutation, IsPermutation-sym}
use Rattle.std.proofs.lemmas.Bool.Decides.{nat_tests}
use Rattle.message_net.specs.declared.actor.Actor.{Actor}
use Rattle.message_net.specs.declared.actor.Actor.TheVariants.{Core, Bank, Keeper}
use Rattle.message_net.specs.Id.{same_actor}
use Rattle.grant_log.specs.declared.log.Stamped.{Stamped}
use Rattle.grant_log.specs.Order.{IsBefore}
use Rattle.grant_log.specs.Log.{IsLog, AreOfOtherActors, AreLogs, IsMerge, of_actor}
use Rattle.grant_log.proofs.OrderLemmas.{by_stamp}
use Rattle.grant_log.proofs.MergeLemmas.{AllPairs-tail}
use Rattle.grant_log.proofs.SameLemmas.{same_entries}

abbrev actor : Stamped → Actor
actor e = e.actor

same_actor-true : (a b : Actor) → same_actor a b ≡ true → a ≡ b
same_actor-true (Core a) (Core b) e = grind (arith, nat_tests)
same_actor-true (Core a) (Bank b) e = cc
same_actor-true (Core a) Keeper e = cc
same_actor-true (Bank a) (Core b) e = cc
same_actor-true (Bank a) (Bank b) e = grind (arith, nat_tests)
same_actor-true (Bank a) Keeper e = cc
same_actor-true Keeper (Core b) e = cc
same_actor-true Keeper (Bank b) e = cc
same_actor-true Keeper Keeper e = refl

-- what a filter keeps
kept : {X : Type 0} (p : X → Bool) (xs : List X) (e : X) → p e ≡ true → (k : ℕ) → k < length xs → get_or xs k e ≡ e → Contains (filter p xs) e
kept p [] e passes k within at = absurd (omega arith)
kept {X} p (x ∷ xs) e passes zero within at = by_test (p x) refl where
  by_test : (t : Bool) → p x ≡ t → Contains (cond t (x ∷ filter p xs) (filter p xs)) e
  by_test true test = (0, omega arith, at)
  by_test false test = absurd (no (sym test ∙ ap p at ∙ passes)) where
    no : false ≡ true → ⊥
    no h = cc
kept {X} p (x ∷ xs) e passes (suc k) within at = by_test (p x) refl (kept p xs e passes k (omega arith) at) where
  by_test : (t : Bool) → p x ≡ t → Contains (filter p xs) e → Contains (cond t (x ∷ filter p xs) (filter p xs)) e
  by_test true test rest = (suc rest.0, omega (arith, rest.1), rest.2)
  by_test false test rest = rest

stood : {X : Type 0} (p : X → Bool) (xs : List X) (e : X) → Contains (filter p xs) e → Contains xs e × (p e ≡ true)
stood p [] e found = absurd (omega (arith, found.1))
stood {X} p (x ∷ xs) e found = by_test (p x) refl (stood p xs e) found where
  by_test : (t : Bool) → p x ≡ t → (Contains (filter p xs) e → Contains xs e × (p e ≡ true)) → Contains (cond t (x ∷ filter p xs) (filter p xs)) e → Contains (x ∷ xs) e × (p e ≡ true)
  by_test true test rest (zero, within, at) = ((0, omega arith, at), ap p (sym at) ∙ test)
  by_test true test rest (suc k, within, at) = let later = rest (k, omega arith, at) in ((suc later.0.0, omega (arith, later.0.1), later.0.2), later.1)
  by_test false test rest behind = let later = rest behind in ((suc later.0.0, omega (arith, later.0.1), later.0.2), later.1)

-- the entries of an actor in a list, and in another order of the same list
moved : (p : Stamped → Bool) (xs ys : List Stamped) → IsPermutation xs ys → (e : Stamped) → Contains (filter p xs) e → Contains (filter p ys) e
moved p xs ys same e found =
    let before = stood p xs e found in
    let after = Contains-permutation xs ys e same before.0 in
    kept p ys e before.1 after.0 after.1 after.2

-- where nothing passes, a filter keeps nothing
keeps_none : {X : Type 0} (p : X → Bool) (xs : List X) → ((k : ℕ) (d : X) → k < length xs → p (get_or xs k d) ≡ true → ⊥) → filter p xs ≡ []
keeps_none p [] fails = refl
keeps_none p (x ∷ xs) fails = by_test (p x) refl (keeps_none p xs (λ k d within. fails (suc k) d (omega arith))) where
  by_test : (t : Bool) → p x ≡ t → filter p xs ≡ [] → cond t (x ∷ filter p xs) (filter p xs) ≡ []
  by_test true test rest = absurd (fails 0 x (omega arith) test)
  by_test false test rest = rest

-- no later log has an entry of an actor that this log has
none_of : (a : Actor) (logs : List (List Stamped)) → ((k : ℕ) (d : List Stamped) → k < length logs → filter (of_actor a) (get_or logs k d) ≡ []) → filter (of_actor a) (flat_map (λ log. log) logs) ≡ []
none_of a [] never = refl
none_of a (log ∷ logs) never =
    filter-append (of_actor a) log (flat_map (λ log. log) logs)
    ∙ rw (never 0 log (omega arith), none_of a logs (λ k d within. never (suc k) d (omega arith))) refl

-- an actor's entries, log after log, are in strict order
rising_of : (a : Actor) (logs : List (List Stamped)) → AreLogs logs → AllPairs IsBefore (filter (of_actor a) (flat_map (λ log. log) logs))
rising_of a [] are = λ i j d before within. absurd (omega arith)
rising_of a (log ∷ logs) are = by_first (filter (of_actor a) log) refl (rising_of a logs (record { each = All-tail IsLog log logs are.each; apart = AllPairs-tail AreOfOtherActors log logs are.apart })) where
  joined : filter (of_actor a) (flat_map (λ log. log) (log ∷ logs)) ≡ filter (of_actor a) log ++ filter (of_actor a) (flat_map (λ log. log) logs)
  joined = filter-append (of_actor a) log (flat_map (λ log. log) logs)

  own : AllPairs IsBefore (filter (of_actor a) log)
  own = AllPairs-filter IsBefore (of_actor a) log (λ i j d before within. by_stamp (get_or log i d) (get_or log j d) (are.each 0 log (omega arith) i j d before within).1)

  no_more : (x : Stamped) → Contains (filter (of_actor a) log) x → filter (of_actor a) (flat_map (λ log. log) logs) ≡ []
  no_more x found =
      let here = stood (of_actor a) log x found in
      none_of a logs (λ k d within. keeps_none (of_actor a) (get_or logs k d) (λ n e inside passes.
      are.apart 0 (suc k) d (omega arith) (omega arith) here.0.0 x here.0.1 n e inside
      (ap actor here.0.2 ∙ sym (same_actor-true a x.actor here.1) ∙ same_actor-true a (get_or (get_or logs k d) n e).actor passes)))

  by_first : (firsts : List Stamped) → filter (of_actor a) log ≡ firsts → AllPairs IsBefore (filter (of_actor a) (flat_map (λ log. log) logs)) → AllPairs IsBefore (filter (of_actor a) (flat_map (λ log. log) (log ∷ logs)))
  by_first [] is rest = rw (joined, is) rest
  by_first (x ∷ xs) is rest = rw (joined, no_more x (rw is (0, omega arith, refl)), append-nil (filter (of_actor a) log)) own

-- in the merge an actor's entries stand as they do in the logs
pub each_kept : (logs : List (List Stamped)) (merged : List Stamped) (a : Actor) → AreLogs logs → IsMerge logs merged → filter (of_actor a) merged ≡ filter (of_actor a) (flat_map (λ log. log) logs)
each_kept logs merged a are merge =
    same_entries (filter (of_actor a) merged) (filter (of_actor a) (flat_map (λ log. log) logs))
    (AllPairs-filter IsBefore (of_actor a) merged merge.rising) (rising_of a logs are)
    (moved (of_actor a) merged (flat_map (λ log. log) logs) (IsPermutation-sym (flat_map (λ log. log) logs) merged merge.same))
    (moved (of_actor a) (flat_map (λ log. log) logs) merged merge.same)
