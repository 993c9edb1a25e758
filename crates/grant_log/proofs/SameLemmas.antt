-- Lists in strict order are known by what they contain.
use Rattle.std.proofs.Common.{◌≡◌, ℕ, zero, suc, ◌<◌, List, [], ◌∷◌, length, get_or, refl, sym, subst, ◌∙◌, arith}
use Rattle.std.specs.Prelude.{flat_map, AllPairs, Contains}
use Rattle.std.specs.declared.cmp.Ordering.TheVariants.{Less, Greater}
use Rattle.std.proofs.lemmas.List.Sorted.{Contains-permutation, IsPermutation-sym, IsPermutation-trans}
use Rattle.grant_log.specs.declared.log.Stamped.{Stamped}
use Rattle.grant_log.specs.Order.{entry_order, IsBefore}
use Rattle.grant_log.specs.Log.{IsMerge}
use Rattle.grant_log.proofs.OrderLemmas.{entry_order_total}
use Rattle.grant_log.proofs.MergeLemmas.{AllPairs-tail}

-- of two entries at most one stands before the other
one_way : (a b : Stamped) → IsBefore a b → IsBefore b a → ⊥
one_way a b there back =
    let turned : entry_order a b ≡ Greater = entry_order_total.antisymm a b ∙ rw back refl in
    less≢greater (sym there ∙ turned) where
      less≢greater : Less ≡ Greater → ⊥
      less≢greater e = cc

-- the first entries of two lists in strict order that contain each other's first
first : (x y : Stamped) (xs ys : List Stamped) → AllPairs IsBefore (x ∷ xs) → AllPairs IsBefore (y ∷ ys)
    → (k : ℕ) → k < length (y ∷ ys) → get_or (y ∷ ys) k x ≡ x → (m : ℕ) → m < length (x ∷ xs) → get_or (x ∷ xs) m y ≡ y → x ≡ y
first x y xs ys rise rises zero within at m inside here = sym at
first x y xs ys rise rises (suc k) within at zero inside here = here
first x y xs ys rise rises (suc k) within at (suc m) inside here =
    let back : IsBefore y x = subst (λ e. IsBefore y e) at (rises 0 (suc k) x (omega arith) within) in
    let there : IsBefore x y = subst (λ e. IsBefore x e) here (rise 0 (suc m) y (omega arith) inside) in
    absurd (one_way x y there back)

-- what stands in a list behind its first entry stands in the other behind its first
behind : (x y e : Stamped) (xs ys : List Stamped) → x ≡ y → AllPairs IsBefore (x ∷ xs) → (k : ℕ) → k < length xs → get_or xs k e ≡ e → Contains (y ∷ ys) e → Contains ys e
behind x y e xs ys same rise k within at (zero, inside, here) =
    let own : IsBefore x e = subst (λ z. IsBefore x z) at (rise 0 (suc k) e (omega arith) (omega arith)) in
    let self : IsBefore e e = subst (λ z. IsBefore z e) (same ∙ here) own in
    absurd (one_way e e self self)
behind x y e xs ys same rise k within at (suc n, inside, here) = (n, omega arith, here)

pub same_entries : (xs ys : List Stamped) → AllPairs IsBefore xs → AllPairs IsBefore ys → ((e : Stamped) → Contains xs e → Contains ys e) → ((e : Stamped) → Contains ys e → Contains xs e) → xs ≡ ys
same_entries [] [] rise rises there back = refl
same_entries [] (y ∷ ys) rise rises there back = absurd (omega (arith, (back y (0, omega arith, refl)).1))
same_entries (x ∷ xs) [] rise rises there back = absurd (omega (arith, (there x (0, omega arith, refl)).1))
same_entries (x ∷ xs) (y ∷ ys) rise rises there back =
    let at = there x (0, omega arith, refl) in
    let here = back y (0, omega arith, refl) in
    let heads : x ≡ y = first x y xs ys rise rises at.0 at.1 at.2 here.0 here.1 here.2 in
    let rest : xs ≡ ys = same_entries xs ys (AllPairs-tail IsBefore x xs rise) (AllPairs-tail IsBefore y ys rises)
    (λ e found. behind x y e xs ys heads rise found.0 found.1 found.2 (there e (suc found.0, omega (arith, found.1), found.2)))
    (λ e found. behind y x e ys xs (sym heads) rises found.0 found.1 found.2 (back e (suc found.0, omega (arith, found.1), found.2))) in
    λ i. heads i ∷ rest i

-- logs have one merge
pub one_merge : (logs : List (List Stamped)) (xs ys : List Stamped) → IsMerge logs xs → IsMerge logs ys → xs ≡ ys
one_merge logs xs ys merge other =
    let both = IsPermutation-trans xs (flat_map (λ log. log) logs) ys (IsPermutation-sym (flat_map (λ log. log) logs) xs merge.same) other.same in
    same_entries xs ys merge.rising other.rising (λ e. Contains-permutation xs ys e both) (λ e. Contains-permutation ys xs e (IsPermutation-sym xs ys both))
