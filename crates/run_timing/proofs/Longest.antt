-- Finishing numbers: where each number finishes with its own cost behind the one of those that it depends on which finishes
-- last, that is the greatest cost of a chain that ends with it.
use Rattle.std.proofs.Common.{◌≡◌, ◌⊎◌, ℕ, zero, suc, ◌+◌, ◌<◌, ◌≤◌, List, [], ◌∷◌, ◌++◌, sum_by, Option, Some, None, refl, ap, arith}
use Rattle.std.proofs.lemmas.List.Sums.{sum_by-cons, sum_by_push}
use Rattle.std.proofs.lemmas.Option.{same_Some, none-some}
use Rattle.run_timing.specs.Rows.{behind, reach_of, IsTimingRow}
use Rattle.run_timing.specs.Chains.{IsChainBehind, IsChain, steps_behind, cost, last_from, last_of, IsFinish}

-- each of n numbers has such a row, and depends on earlier ones alone
pub record AreRows (Own Sender : ℕ → ℕ → Type 0) (n : ℕ) (ticks : ℕ → ℕ) (w : ℕ → ℕ → ℕ) (f : ℕ → ℕ) (b : ℕ → Option ℕ) : Type 0 where
  pub row : (i : ℕ) → i < n → IsTimingRow Own Sender ticks f (reach_of f w i) (b i) i
  pub earlier : (p i : ℕ) → Own p i ⊎ Sender p i → (p < i) × (i < n)

-- ---- no chain costs more than its last number's finish

step-most : (Own Sender : ℕ → ℕ → Type 0) (n : ℕ) (ticks : ℕ → ℕ) (w : ℕ → ℕ → ℕ) (f : ℕ → ℕ) (b : ℕ → Option ℕ) → AreRows Own Sender n ticks w f b → (p i : ℕ) → Own p i ⊎ Sender p i → f p + w p i + ticks i ≤ f i
step-most Own Sender n ticks w f b rows p i d =
    let row = rows.row i ((rows.earlier p i d).1) in
    omega (arith, row.finish, row.latest p d)

behind-most : (Own Sender : ℕ → ℕ → Type 0) (n : ℕ) (ticks : ℕ → ℕ) (w : ℕ → ℕ → ℕ) (f : ℕ → ℕ) (b : ℕ → Option ℕ) → AreRows Own Sender n ticks w f b
    → (g i : ℕ) (is : List ℕ) → g ≤ f i → IsChainBehind (λ p j. Own p j ⊎ Sender p j) i is → g + sum_by ticks is + steps_behind w i is ≤ f (last_from i is)
behind-most Own Sender n ticks w f b rows g i [] low chain = omega (arith, low)
behind-most Own Sender n ticks w f b rows g i (j ∷ js) low chain =
    let one = step-most Own Sender n ticks w f b rows i j chain.0 in
    let rest = behind-most Own Sender n ticks w f b rows (g + w i j + ticks j) j js (omega (arith, low, one)) chain.1 in
    omega (arith, rest, sum_by-cons ticks j js)

last-within : (Own Sender : ℕ → ℕ → Type 0) (n : ℕ) (ticks : ℕ → ℕ) (w : ℕ → ℕ → ℕ) (f : ℕ → ℕ) (b : ℕ → Option ℕ) → AreRows Own Sender n ticks w f b
    → (i : ℕ) (is : List ℕ) → i < n → IsChainBehind (λ p j. Own p j ⊎ Sender p j) i is → last_from i is < n
last-within Own Sender n ticks w f b rows i [] within chain = within
last-within Own Sender n ticks w f b rows i (j ∷ js) within chain = last-within Own Sender n ticks w f b rows j js ((rows.earlier i j chain.0).1) chain.1

-- a chain that isn't empty ends with a number below n, which finishes no earlier than the chain's cost
pub chain-most : (Own Sender : ℕ → ℕ → Type 0) (n : ℕ) (ticks : ℕ → ℕ) (w : ℕ → ℕ → ℕ) (f : ℕ → ℕ) (b : ℕ → Option ℕ) → AreRows Own Sender n ticks w f b
    → (c : List ℕ) (e : ℕ) → IsChain (λ p j. Own p j ⊎ Sender p j) n c → last_of c ≡ Some e → (e < n) × (cost ticks w c ≤ f e)
chain-most Own Sender n ticks w f b rows [] e chain ends = absurd (none-some e ends)
chain-most Own Sender n ticks w f b rows (i ∷ is) e chain ends =
    let same : last_from i is ≡ e = same_Some (last_from i is) e ends in
    let first : ticks i ≤ f i = omega (arith, (rows.row i chain.0).finish) in
    let most = behind-most Own Sender n ticks w f b rows (ticks i) i is first chain.1 in
    let low = last-within Own Sender n ticks w f b rows i is chain.0 chain.1 in
    rw (← same) (low, omega (arith, most, sum_by-cons ticks i is))

-- ---- and there is one of that cost

chain-more : (Depends : ℕ → ℕ → Type 0) (p i : ℕ) (is : List ℕ) → IsChainBehind Depends p is → Depends (last_from p is) i → IsChainBehind Depends p (is ++ i ∷ [])
chain-more Depends p i [] chain d = (d, tt)
chain-more Depends p i (j ∷ js) chain d = (chain.0, chain-more Depends j i js chain.1 d)

steps-more : (w : ℕ → ℕ → ℕ) (p i : ℕ) (is : List ℕ) → steps_behind w p (is ++ i ∷ []) ≡ steps_behind w p is + w (last_from p is) i
steps-more w p i [] = omega arith
steps-more w p i (j ∷ js) = omega (arith, steps-more w j i js)

last-more : (p i : ℕ) (is : List ℕ) → last_from p (is ++ i ∷ []) ≡ i
last-more p i [] = refl
last-more p i (j ∷ js) = last-more j i js

finish-of : (Own Sender : ℕ → ℕ → Type 0) (n : ℕ) (ticks : ℕ → ℕ) (w : ℕ → ℕ → ℕ) (f : ℕ → ℕ) (b : ℕ → Option ℕ) → AreRows Own Sender n ticks w f b
    → (i : ℕ) (c : List ℕ) → IsChain (λ p j. Own p j ⊎ Sender p j) n c → last_of c ≡ Some i → cost ticks w c ≡ f i → IsFinish (λ p j. Own p j ⊎ Sender p j) n ticks w i (f i)
finish-of Own Sender n ticks w f b rows i c chain ends costs =
    record { chain = c; is_chain = chain; ends = ends; costs = costs; greatest = λ other is last. (chain-most Own Sender n ticks w f b rows other i is last).1 }

-- a chain that ends with a number goes on to one that depends on it
goes-on : (Own Sender : ℕ → ℕ → Type 0) (n : ℕ) (ticks : ℕ → ℕ) (w : ℕ → ℕ → ℕ) (f : ℕ → ℕ) (b : ℕ → Option ℕ) → AreRows Own Sender n ticks w f b
    → (p i : ℕ) → Own p i ⊎ Sender p i → f i ≡ ticks i + (f p + w p i) → IsFinish (λ p j. Own p j ⊎ Sender p j) n ticks w p (f p) → IsFinish (λ p j. Own p j ⊎ Sender p j) n ticks w i (f i)
goes-on Own Sender n ticks w f b rows p i d is fin = by_chain fin.chain fin.is_chain fin.ends fin.costs where
  by_chain : (c : List ℕ) → IsChain (λ p j. Own p j ⊎ Sender p j) n c → last_of c ≡ Some p → cost ticks w c ≡ f p → IsFinish (λ p j. Own p j ⊎ Sender p j) n ticks w i (f i)
  by_chain [] chain ends costs = absurd (none-some p ends)
  by_chain (h ∷ hs) chain ends costs =
      let same : last_from h hs ≡ p = same_Some (last_from h hs) p ends in
      finish-of Own Sender n ticks w f b rows i (h ∷ (hs ++ i ∷ [])) (chain.0, chain-more (λ p j. Own p j ⊎ Sender p j) h i hs chain.1 (rw same d)) (ap (λ (x : ℕ). Some x) (last-more h i hs))
      (omega (arith, costs, is, sum_by_push ticks (h ∷ hs) i, steps-more w h i hs, ap (λ (x : ℕ). w x i) same))

finish-below : (Own Sender : ℕ → ℕ → Type 0) (n : ℕ) (ticks : ℕ → ℕ) (w : ℕ → ℕ → ℕ) (f : ℕ → ℕ) (b : ℕ → Option ℕ) → AreRows Own Sender n ticks w f b
    → (most i : ℕ) → i < most → i < n → IsFinish (λ p j. Own p j ⊎ Sender p j) n ticks w i (f i)
finish-below Own Sender n ticks w f b rows zero i low within = absurd (omega (arith, low))
finish-below Own Sender n ticks w f b rows (suc most) i low within =
    by_before (b i) refl (λ p less. finish-below Own Sender n ticks w f b rows most p (omega (arith, low, less)) (omega (arith, less, within)))
  where
    row : IsTimingRow Own Sender ticks f (reach_of f w i) (b i) i
    row = rows.row i within

    reach : ℕ → ℕ
    reach = reach_of f w i

    by_before : (o : Option ℕ) → b i ≡ o → ((p : ℕ) → p < i → IsFinish (λ p j. Own p j ⊎ Sender p j) n ticks w p (f p)) → IsFinish (λ p j. Own p j ⊎ Sender p j) n ticks w i (f i)
    by_before None e earlier =
        let alone : f i ≡ ticks i = omega (arith, row.finish, ap (behind reach) e) in
        finish-of Own Sender n ticks w f b rows i (i ∷ []) (within, tt) refl (omega (arith, alone, sum_by-cons ticks i []))
    by_before (Some p) e earlier =
        let d = row.depends p e in
        goes-on Own Sender n ticks w f b rows p i d (omega (arith, row.finish, ap (behind reach) e)) (earlier p ((rows.earlier p i d).0))

-- each number finishes at the greatest cost of a chain that ends with it
pub finishes : (Own Sender : ℕ → ℕ → Type 0) (n : ℕ) (ticks : ℕ → ℕ) (w : ℕ → ℕ → ℕ) (f : ℕ → ℕ) (b : ℕ → Option ℕ) → AreRows Own Sender n ticks w f b
    → (i : ℕ) → i < n → IsFinish (λ p j. Own p j ⊎ Sender p j) n ticks w i (f i)
finishes Own Sender n ticks w f b rows i within = finish-below Own Sender n ticks w f b rows (i + 1) i (omega arith) within

-- and at nothing else
pub finish-is : (Own Sender : ℕ → ℕ → Type 0) (n : ℕ) (ticks : ℕ → ℕ) (w : ℕ → ℕ → ℕ) (f : ℕ → ℕ) (b : ℕ → Option ℕ) → AreRows Own Sender n ticks w f b
    → (i g : ℕ) → IsFinish (λ p j. Own p j ⊎ Sender p j) n ticks w i g → g ≡ f i
finish-is Own Sender n ticks w f b rows i g fin =
    let most = chain-most Own Sender n ticks w f b rows fin.chain i fin.is_chain fin.ends in
    let other = finishes Own Sender n ticks w f b rows i most.0 in
    omega (arith, most.1, fin.costs, other.costs, fin.greatest other.chain other.is_chain other.ends)
