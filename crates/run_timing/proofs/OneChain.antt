-- Two chains whose numbers finish as they come in them and that end alike are one, from their end backwards.
use Rattle.std.proofs.Common.{◌≡◌, ◌⊎◌, inl, inr, ℕ, zero, suc, ◌+◌, ◌<◌, ◌≤◌, List, [], ◌∷◌, ◌++◌, sum_by, take, slice_get, Some, refl, sym, ap, subst, ◌∙◌, arith}
use Rattle.std.proofs.lemmas.List.Sums.{sum_by-cons, sum_by_push}
use Rattle.std.proofs.lemmas.Option.{same_Some, none-some}
use Rattle.run_timing.specs.Chains.{IsChainBehind, IsChain, steps_behind, steps_cost, cost, last_from, last_of, IsFinish}

-- each number below n costs something, and each depends on one of its own and on one sender at the most
pub record AreSingle (Own Sender : ℕ → ℕ → Type 0) (n : ℕ) (ticks : ℕ → ℕ) : Type 0 where
  pub within : (p i : ℕ) → Own p i ⊎ Sender p i → i < n
  pub one_own : (p q i : ℕ) → Own p i → Own q i → p ≡ q
  pub one_sender : (p q i : ℕ) → Sender p i → Sender q i → p ≡ q
  pub some : (i : ℕ) → i < n → 1 ≤ ticks i

-- a chain whose numbers finish as they come in it, each behind its own where its own and its sender let it start alike
pub record IsFinishing (Own Sender : ℕ → ℕ → Type 0) (n : ℕ) (ticks : ℕ → ℕ) (w : ℕ → ℕ → ℕ) (is : List ℕ) : Type 0 where
  pub chain : IsChain (λ p j. Own p j ⊎ Sender p j) n is
  pub finish : (k i : ℕ) → slice_get is k ≡ Some i → IsFinish (λ p j. Own p j ⊎ Sender p j) n ticks w i (cost ticks w (take (suc k) is))
  pub own : (k b i o s g h : ℕ) → slice_get is k ≡ Some b → slice_get is (suc k) ≡ Some i → Own o i → Sender s i
      → IsFinish (λ p j. Own p j ⊎ Sender p j) n ticks w o g → IsFinish (λ p j. Own p j ⊎ Sender p j) n ticks w s h → g + w o i ≡ h + w s i → b ≡ o

-- a number finishes once
pub one-finish : (Depends : ℕ → ℕ → Type 0) (n : ℕ) (ticks : ℕ → ℕ) (w : ℕ → ℕ → ℕ) (i f g : ℕ) → IsFinish Depends n ticks w i f → IsFinish Depends n ticks w i g → f ≡ g
one-finish Depends n ticks w i f g a b =
    omega (arith, a.costs, b.costs, a.greatest b.chain b.is_chain b.ends, b.greatest a.chain a.is_chain a.ends)

-- ---- the numbers of a chain

behind-within : (Depends : ℕ → ℕ → Type 0) (n : ℕ) → ((p j : ℕ) → Depends p j → j < n) → (i : ℕ) (is : List ℕ) (k j : ℕ) → i < n → IsChainBehind Depends i is → slice_get (i ∷ is) k ≡ Some j → j < n
behind-within Depends n below i is zero j low chain here = subst (λ (x : ℕ). x < n) (same_Some i j here) low
behind-within Depends n below i [] (suc k) j low chain here = absurd (none-some j here)
behind-within Depends n below i (x ∷ xs) (suc k) j low chain here = behind-within Depends n below x xs k j (below i x chain.0) chain.1 here

chain-within : (Depends : ℕ → ℕ → Type 0) (n : ℕ) → ((p j : ℕ) → Depends p j → j < n) → (is : List ℕ) (k j : ℕ) → IsChain Depends n is → slice_get is k ≡ Some j → j < n
chain-within Depends n below [] k j chain here = absurd (none-some j here)
chain-within Depends n below (i ∷ is) k j chain here = behind-within Depends n below i is k j chain.0 chain.1 here

behind-next : (Depends : ℕ → ℕ → Type 0) (i : ℕ) (is : List ℕ) (k a b : ℕ) → IsChainBehind Depends i is → slice_get (i ∷ is) k ≡ Some a → slice_get (i ∷ is) (suc k) ≡ Some b → Depends a b
behind-next Depends i [] k a b chain here next = absurd (none-some b next)
behind-next Depends i (x ∷ xs) zero a b chain here next =
    subst (λ (y : ℕ). Depends y b) (same_Some i a here) (subst (Depends i) (same_Some x b next) chain.0)
behind-next Depends i (x ∷ xs) (suc k) a b chain here next = behind-next Depends x xs k a b chain.1 here next

chain-next : (Depends : ℕ → ℕ → Type 0) (n : ℕ) (is : List ℕ) (k a b : ℕ) → IsChain Depends n is → slice_get is k ≡ Some a → slice_get is (suc k) ≡ Some b → Depends a b
chain-next Depends n [] k a b chain here next = absurd (none-some a here)
chain-next Depends n (i ∷ is) k a b chain here next = behind-next Depends i is k a b chain.1 here next

get-before : (is : List ℕ) (k b : ℕ) → slice_get is (suc k) ≡ Some b → (a : ℕ) × (slice_get is k ≡ Some a)
get-before [] k b here = absurd (none-some b here)
get-before (x ∷ xs) zero b here = (x, refl)
get-before (x ∷ xs) (suc k) b here = get-before xs k b here

take-more : (is : List ℕ) (k b : ℕ) → slice_get is k ≡ Some b → take (suc k) is ≡ take k is ++ b ∷ []
take-more [] k b here = absurd (none-some b here)
take-more (x ∷ xs) zero b here = ap (λ (y : ℕ). y ∷ []) (same_Some x b here)
take-more (x ∷ xs) (suc k) b here = ap (λ (ys : List ℕ). x ∷ ys) (take-more xs k b here)

sum-more : (ticks : ℕ → ℕ) (is : List ℕ) (k b : ℕ) → slice_get is k ≡ Some b → sum_by ticks (take (suc k) is) ≡ sum_by ticks (take k is) + ticks b
sum-more ticks is k b here = ap (sum_by ticks) (take-more is k b here) ∙ sum_by_push ticks (take k is) b

steps-next : (w : ℕ → ℕ → ℕ) (i : ℕ) (is : List ℕ) (k a b : ℕ) → slice_get (i ∷ is) k ≡ Some a → slice_get is k ≡ Some b
    → steps_behind w i (take (suc k) is) ≡ steps_behind w i (take k is) + w a b
steps-next w i [] k a b here next = absurd (none-some b next)
steps-next w i (x ∷ xs) zero a b here next =
    let first : i ≡ a = same_Some i a here in
    let second : x ≡ b = same_Some x b next in
    rw (← first, ← second) (omega arith)
steps-next w i (x ∷ xs) (suc k) a b here next = omega (arith, steps-next w x xs k a b here next)

-- a chain up to a number costs the number's ticks more than the chain up to the number before it, and the step from there
cost-more : (ticks : ℕ → ℕ) (w : ℕ → ℕ → ℕ) (is : List ℕ) (k a b : ℕ) → slice_get is k ≡ Some a → slice_get is (suc k) ≡ Some b
    → cost ticks w (take (suc (suc k)) is) ≡ cost ticks w (take (suc k) is) + w a b + ticks b
cost-more ticks w [] k a b here next = absurd (none-some a here)
cost-more ticks w (i ∷ is) k a b here next = omega (arith, sum-more ticks (i ∷ is) (suc k) b next, steps-next w i is k a b here next)

-- up to its first number it costs that one's ticks
cost-first : (ticks : ℕ → ℕ) (w : ℕ → ℕ → ℕ) (is : List ℕ) (b : ℕ) → slice_get is 0 ≡ Some b → cost ticks w (take 1 is) ≡ ticks b
cost-first ticks w [] b here = absurd (none-some b here)
cost-first ticks w (i ∷ is) b here =
    let same : i ≡ b = same_Some i b here in
    rw (← same) (omega (arith, sum_by-cons ticks i []))

get-last : (i : ℕ) (is : List ℕ) → (k : ℕ) × (slice_get (i ∷ is) k ≡ Some (last_from i is)) × (take (suc k) (i ∷ is) ≡ i ∷ is)
get-last i [] = (0, refl, refl)
get-last i (j ∷ js) =
    let rest = get-last j js in
    (suc rest.0, rest.1, ap (λ (xs : List ℕ). i ∷ xs) rest.2)

-- ---- from the end backwards

-- a number that comes first in one chain does so in the other: it finishes at its own ticks
alone : (Own Sender : ℕ → ℕ → Type 0) (n : ℕ) (ticks : ℕ → ℕ) (w : ℕ → ℕ → ℕ) → AreSingle Own Sender n ticks → (is js : List ℕ) → IsFinishing Own Sender n ticks w is → IsFinishing Own Sender n ticks w js
    → (m i : ℕ) → slice_get is 0 ≡ Some i → slice_get js (suc m) ≡ Some i → ⊥
alone Own Sender n ticks w single is js first second m i here there =
    let before = get-before js m i there in
    let same = one-finish (λ p j. Own p j ⊎ Sender p j) n ticks w i (cost ticks w (take 1 is)) (cost ticks w (take (suc (suc m)) js)) (first.finish 0 i here) (second.finish (suc m) i there) in
    let some = single.some before.0 (chain-within (λ p j. Own p j ⊎ Sender p j) n single.within js m before.0 second.chain before.1) in
    omega (arith, same, some, cost-first ticks w is i here, cost-more ticks w js m before.0 i before.1 there, sum-more ticks js m before.0 before.1)

-- what comes before a number in one chain does so in the other
same-before : (Own Sender : ℕ → ℕ → Type 0) (n : ℕ) (ticks : ℕ → ℕ) (w : ℕ → ℕ → ℕ) → AreSingle Own Sender n ticks → (is js : List ℕ) → IsFinishing Own Sender n ticks w is → IsFinishing Own Sender n ticks w js
    → (k m p q i : ℕ) → slice_get is k ≡ Some p → slice_get is (suc k) ≡ Some i → slice_get js m ≡ Some q → slice_get js (suc m) ≡ Some i
    → cost ticks w (take (suc k) is) + w p i ≡ cost ticks w (take (suc m) js) + w q i → Own p i ⊎ Sender p i → Own q i ⊎ Sender q i → p ≡ q
same-before Own Sender n ticks w single is js first second k m p q i here next there also alike (inl x) (inl y) = single.one_own p q i x y
same-before Own Sender n ticks w single is js first second k m p q i here next there also alike (inr x) (inr y) = single.one_sender p q i x y
same-before Own Sender n ticks w single is js first second k m p q i here next there also alike (inl x) (inr y) =
    sym (second.own m q i p q (cost ticks w (take (suc k) is)) (cost ticks w (take (suc m) js)) there also x y (first.finish k p here) (second.finish m q there) alike)
same-before Own Sender n ticks w single is js first second k m p q i here next there also alike (inr x) (inl y) =
    first.own k p i q p (cost ticks w (take (suc m) js)) (cost ticks w (take (suc k) is)) here next y x (second.finish m q there) (first.finish k p here) (sym alike)

-- up to a number that both have, both are one
same-front : (Own Sender : ℕ → ℕ → Type 0) (n : ℕ) (ticks : ℕ → ℕ) (w : ℕ → ℕ → ℕ) → AreSingle Own Sender n ticks → (is js : List ℕ) → IsFinishing Own Sender n ticks w is → IsFinishing Own Sender n ticks w js
    → (k m i : ℕ) → slice_get is k ≡ Some i → slice_get js m ≡ Some i → take (suc k) is ≡ take (suc m) js
same-front Own Sender n ticks w single is js first second zero zero i here there = take-more is 0 i here ∙ sym (take-more js 0 i there)
same-front Own Sender n ticks w single is js first second zero (suc m) i here there = absurd (alone Own Sender n ticks w single is js first second m i here there)
same-front Own Sender n ticks w single is js first second (suc k) zero i here there = absurd (alone Own Sender n ticks w single js is second first k i there here)
same-front Own Sender n ticks w single is js first second (suc k) (suc m) i here there =
    let p = get-before is k i here in
    let q = get-before js m i there in
    let same =
    one-finish (λ a b. Own a b ⊎ Sender a b) n ticks w i (cost ticks w (take (suc (suc k)) is)) (cost ticks w (take (suc (suc m)) js)) (first.finish (suc k) i here) (second.finish (suc m) i there)
    in
    let alike : cost ticks w (take (suc k) is) + w p.0 i ≡ cost ticks w (take (suc m) js) + w q.0 i =
    omega (arith, same, cost-more ticks w is k p.0 i p.1 here, cost-more ticks w js m q.0 i q.1 there)
    in
    let one : p.0 ≡ q.0 =
    same-before Own Sender n ticks w single is js first second k m p.0 q.0 i p.1 here q.1 there alike (chain-next (λ a b. Own a b ⊎ Sender a b) n is k p.0 i first.chain p.1 here)
    (chain-next (λ a b. Own a b ⊎ Sender a b) n js m q.0 i second.chain q.1 there)
    in
    let rest = same-front Own Sender n ticks w single is js first second k m p.0 p.1 (subst (λ (x : ℕ). slice_get js m ≡ Some x) (sym one) q.1) in
    take-more is (suc k) i here ∙ (ap (λ (xs : List ℕ). xs ++ i ∷ []) rest ∙ sym (take-more js (suc m) i there))

-- a chain with a number in it costs something
cost-some : (Own Sender : ℕ → ℕ → Type 0) (n : ℕ) (ticks : ℕ → ℕ) (w : ℕ → ℕ → ℕ) → AreSingle Own Sender n ticks → (i : ℕ) (is : List ℕ) → IsFinishing Own Sender n ticks w (i ∷ is) → cost ticks w (i ∷ is) ≡ 0 → ⊥
cost-some Own Sender n ticks w single i is finishing none =
    omega (arith, none, sum_by-cons ticks i is, single.some i finishing.chain.0)

-- two of one cost that end alike are one
pub one-chain : (Own Sender : ℕ → ℕ → Type 0) (n : ℕ) (ticks : ℕ → ℕ) (w : ℕ → ℕ → ℕ) → AreSingle Own Sender n ticks → (is js : List ℕ) → IsFinishing Own Sender n ticks w is → IsFinishing Own Sender n ticks w js
    → cost ticks w is ≡ cost ticks w js → ((i j : ℕ) → last_of is ≡ Some i → last_of js ≡ Some j → i ≡ j) → is ≡ js
one-chain Own Sender n ticks w single [] [] first second same ends = refl
one-chain Own Sender n ticks w single [] (j ∷ js) first second same ends = absurd (cost-some Own Sender n ticks w single j js second (sym same))
one-chain Own Sender n ticks w single (i ∷ is) [] first second same ends = absurd (cost-some Own Sender n ticks w single i is first same)
one-chain Own Sender n ticks w single (i ∷ is) (j ∷ js) first second same ends =
    let x = get-last i is in
    let y = get-last j js in
    let last : last_from i is ≡ last_from j js = ends (last_from i is) (last_from j js) refl refl in
    let there = subst (λ (z : ℕ). slice_get (j ∷ js) y.0 ≡ Some z) (sym last) y.1 in
    sym x.2 ∙ (same-front Own Sender n ticks w single (i ∷ is) (j ∷ js) first second x.0 y.0 (last_from i is) x.1 there ∙ y.2)
