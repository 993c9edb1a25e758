-- The way back from a number: what it finishes behind, what that finishes behind, and so on to one that depends on none.
use Rattle.std.proofs.Common.{◌≡◌, ◌⊎◌, Bool, true, false, nat_lt, ℕ, zero, suc, ◌+◌, ◌<◌, ◌≤◌, List, [], ◌∷◌, sum_by, take, slice_get, Option, Some, None, refl, ap, arith}
use Rattle.std.proofs.lemmas.List.Sums.{sum_by-cons}
use Rattle.std.proofs.lemmas.Bool.Decides.{nat_tests}
use Rattle.std.proofs.lemmas.Option.{same_Some, none-some}
use Rattle.run_timing.specs.Chains.{IsChainBehind, IsChain, steps_behind, steps_cost, cost, last_from, last_of}
use Rattle.run_timing.specs.Rows.{behind, reach_of, IsLatest}
use Rattle.run_timing.proofs.Longest.{AreRows, chain-most}

-- these numbers lead from what comes before the first of them to the end, each finishing behind the one before it
abbrev pub Leads : ℕ → (ℕ → Option ℕ) → Option ℕ → Option ℕ → List ℕ → Type 0
Leads n b before end' [] = before ≡ end'
Leads n b before end' (i ∷ is) = (i < n) × (b i ≡ before) × Leads n b (Some i) end' is

leads-behind : (Own Sender : ℕ → ℕ → Type 0) (n : ℕ) (ticks : ℕ → ℕ) (w : ℕ → ℕ → ℕ) (f : ℕ → ℕ) (b : ℕ → Option ℕ) → AreRows Own Sender n ticks w f b
    → (i : ℕ) (end' : Option ℕ) (is : List ℕ) → Leads n b (Some i) end' is → IsChainBehind (λ p j. Own p j ⊎ Sender p j) i is
leads-behind Own Sender n ticks w f b rows i end' [] leads = tt
leads-behind Own Sender n ticks w f b rows i end' (j ∷ js) leads =
    ((rows.row j leads.0).depends i leads.1, leads-behind Own Sender n ticks w f b rows j end' js leads.2)

-- they are a chain
pub leads-chain : (Own Sender : ℕ → ℕ → Type 0) (n : ℕ) (ticks : ℕ → ℕ) (w : ℕ → ℕ → ℕ) (f : ℕ → ℕ) (b : ℕ → Option ℕ) → AreRows Own Sender n ticks w f b
    → (before end' : Option ℕ) (is : List ℕ) → Leads n b before end' is → IsChain (λ p j. Own p j ⊎ Sender p j) n is
leads-chain Own Sender n ticks w f b rows before end' [] leads = tt
leads-chain Own Sender n ticks w f b rows before end' (i ∷ is) leads = (leads.0, leads-behind Own Sender n ticks w f b rows i end' is leads.2)

-- what the steps to these numbers cost, from what comes before the first of them
abbrev steps_from : (ℕ → ℕ → ℕ) → Option ℕ → List ℕ → ℕ
steps_from w None is = steps_cost w is
steps_from w (Some p) is = steps_behind w p is

from-cons : (w : ℕ → ℕ → ℕ) (before : Option ℕ) (j : ℕ) (js : List ℕ) → steps_from w before (j ∷ js) ≡ behind (λ p. w p j) before + steps_behind w j js
from-cons w None j js = omega arith
from-cons w (Some p) j js = refl

pub reach-parts : (f : ℕ → ℕ) (w : ℕ → ℕ → ℕ) (j : ℕ) (before : Option ℕ) → behind (reach_of f w j) before ≡ behind f before + behind (λ p. w p j) before
reach-parts f w j None = refl
reach-parts f w j (Some p) = refl

-- a number finishes its ticks after what it finishes behind, and after the step from there
number-finish : (Own Sender : ℕ → ℕ → Type 0) (n : ℕ) (ticks : ℕ → ℕ) (w : ℕ → ℕ → ℕ) (f : ℕ → ℕ) (b : ℕ → Option ℕ) → AreRows Own Sender n ticks w f b
    → (before : Option ℕ) (j : ℕ) → j < n → b j ≡ before → f j ≡ behind f before + behind (λ p. w p j) before + ticks j
number-finish Own Sender n ticks w f b rows before j within is =
    omega (arith, (rows.row j within).finish, ap (behind (reach_of f w j)) is, reach-parts f w j before)

from-none : (w : ℕ → ℕ → ℕ) (before : Option ℕ) → steps_from w before [] ≡ 0
from-none w None = refl
from-none w (Some p) = refl

-- each finishes at the cost of the numbers up to it and with it
costs-from : (Own Sender : ℕ → ℕ → Type 0) (n : ℕ) (ticks : ℕ → ℕ) (w : ℕ → ℕ → ℕ) (f : ℕ → ℕ) (b : ℕ → Option ℕ) → AreRows Own Sender n ticks w f b
    → (before end' : Option ℕ) (is : List ℕ) (k i : ℕ) → Leads n b before end' is → slice_get is k ≡ Some i
    → f i ≡ behind f before + sum_by ticks (take (suc k) is) + steps_from w before (take (suc k) is)
costs-from Own Sender n ticks w f b rows before end' [] k i leads here = absurd (none-some i here)
costs-from Own Sender n ticks w f b rows before end' (j ∷ js) zero i leads here =
    let same : j ≡ i = same_Some j i here in
    rw (← same) (omega (arith, number-finish Own Sender n ticks w f b rows before j leads.0 leads.1, sum_by-cons ticks j [], from-cons w before j []))
costs-from Own Sender n ticks w f b rows before end' (j ∷ js) (suc k) i leads here =
    omega (
      arith,
      costs-from Own Sender n ticks w f b rows (Some j) end' js k i leads.2 here,
      number-finish Own Sender n ticks w f b rows before j leads.0 leads.1,
      sum_by-cons ticks j (take (suc k) js),
      from-cons w before j (take (suc k) js),
    )

pub leads-costs : (Own Sender : ℕ → ℕ → Type 0) (n : ℕ) (ticks : ℕ → ℕ) (w : ℕ → ℕ → ℕ) (f : ℕ → ℕ) (b : ℕ → Option ℕ) → AreRows Own Sender n ticks w f b
    → (end' : Option ℕ) (is : List ℕ) (k i : ℕ) → Leads n b None end' is → slice_get is k ≡ Some i → f i ≡ cost ticks w (take (suc k) is)
leads-costs Own Sender n ticks w f b rows end' is k i leads here = omega (arith, costs-from Own Sender n ticks w f b rows None end' is k i leads here)

total-from : (Own Sender : ℕ → ℕ → Type 0) (n : ℕ) (ticks : ℕ → ℕ) (w : ℕ → ℕ → ℕ) (f : ℕ → ℕ) (b : ℕ → Option ℕ) → AreRows Own Sender n ticks w f b
    → (before end' : Option ℕ) (is : List ℕ) → Leads n b before end' is → behind f before + sum_by ticks is + steps_from w before is ≡ behind f end'
total-from Own Sender n ticks w f b rows before end' [] leads = omega (arith, ap (behind f) leads, from-none w before)
total-from Own Sender n ticks w f b rows before end' (j ∷ js) leads =
    omega (
      arith,
      total-from Own Sender n ticks w f b rows (Some j) end' js leads.2,
      number-finish Own Sender n ticks w f b rows before j leads.0 leads.1,
      sum_by-cons ticks j js,
      from-cons w before j js,
    )

pub leads-total : (Own Sender : ℕ → ℕ → Type 0) (n : ℕ) (ticks : ℕ → ℕ) (w : ℕ → ℕ → ℕ) (f : ℕ → ℕ) (b : ℕ → Option ℕ) → AreRows Own Sender n ticks w f b
    → (end' : Option ℕ) (is : List ℕ) → Leads n b None end' is → cost ticks w is ≡ behind f end'
leads-total Own Sender n ticks w f b rows end' is leads = omega (arith, total-from Own Sender n ticks w f b rows None end' is leads)

leads-last : (n : ℕ) (b : ℕ → Option ℕ) (i : ℕ) (end' : Option ℕ) (is : List ℕ) → Leads n b (Some i) end' is → Some (last_from i is) ≡ end'
leads-last n b i end' [] leads = leads
leads-last n b i end' (j ∷ js) leads = leads-last n b j end' js leads.2

-- they end with the end
pub leads-end : (n : ℕ) (b : ℕ → Option ℕ) (before : Option ℕ) (e i : ℕ) (is : List ℕ) → Leads n b before (Some e) is → last_of is ≡ Some i → i ≡ e
leads-end n b before e i [] leads ends = absurd (none-some i ends)
leads-end n b before e i (j ∷ js) leads ends = let last = leads-last n b j (Some e) js leads.2 in cc

-- each finishes behind the one before it
pub leads-next : (n : ℕ) (b : ℕ → Option ℕ) (before end' : Option ℕ) (is : List ℕ) (k i j : ℕ) → Leads n b before end' is → slice_get is k ≡ Some i → slice_get is (suc k) ≡ Some j → b j ≡ Some i
leads-next n b before end' [] k i j leads here next = absurd (none-some i here)
leads-next n b before end' (x ∷ []) k i j leads here next = absurd (none-some j next)
leads-next n b before end' (x ∷ y ∷ ys) zero i j leads here next =
    let first : x ≡ i = same_Some x i here in
    let second : y ≡ j = same_Some y j next in
    rw (← first, ← second) leads.2.1
leads-next n b before end' (x ∷ y ∷ ys) (suc k) i j leads here next = leads-next n b (Some x) end' (y ∷ ys) k i j leads.2 here next

pub leads-within : (n : ℕ) (b : ℕ → Option ℕ) (before end' : Option ℕ) (is : List ℕ) (k i : ℕ) → Leads n b before end' is → slice_get is k ≡ Some i → i < n
leads-within n b before end' [] k i leads here = absurd (none-some i here)
leads-within n b before end' (j ∷ js) zero i leads here = let same : j ≡ i = same_Some j i here in rw (← same) leads.0
leads-within n b before end' (j ∷ js) (suc k) i leads here = leads-within n b (Some j) end' js k i leads.2 here

-- ---- the way back from the number that finishes last

pub latest-most : (n : ℕ) (f : ℕ → ℕ) (end' : Option ℕ) (i : ℕ) → IsLatest n f end' → i < n → f i ≤ behind f end'
latest-most n f None i latest within = absurd (omega (arith, latest.none refl, within))
latest-most n f (Some e) i latest within = latest.most e i refl within

-- no chain costs more
pub latest-longest : (Own Sender : ℕ → ℕ → Type 0) (n : ℕ) (ticks : ℕ → ℕ) (w : ℕ → ℕ → ℕ) (f : ℕ → ℕ) (b : ℕ → Option ℕ) → AreRows Own Sender n ticks w f b
    → (end' : Option ℕ) → IsLatest n f end' → (c : List ℕ) → IsChain (λ p j. Own p j ⊎ Sender p j) n c → cost ticks w c ≤ behind f end'
latest-longest Own Sender n ticks w f b rows end' latest [] chain = omega arith
latest-longest Own Sender n ticks w f b rows end' latest (i ∷ is) chain =
    let most = chain-most Own Sender n ticks w f b rows (i ∷ is) (last_from i is) chain refl in
    omega (arith, most.1, latest-most n f end' (last_from i is) latest most.0)

-- one of the same cost ends no earlier
pub latest-least : (Own Sender : ℕ → ℕ → Type 0) (n : ℕ) (ticks : ℕ → ℕ) (w : ℕ → ℕ → ℕ) (f : ℕ → ℕ) (b : ℕ → Option ℕ) → AreRows Own Sender n ticks w f b
    → (e : ℕ) → IsLatest n f (Some e) → (c : List ℕ) (j : ℕ) → IsChain (λ p k. Own p k ⊎ Sender p k) n c → cost ticks w c ≡ f e → last_of c ≡ Some j → e ≤ j
latest-least Own Sender n ticks w f b rows e latest c j chain same ends = by_test (nat_lt j e) refl where
  most : (j < n) × (cost ticks w c ≤ f j)
  most = chain-most Own Sender n ticks w f b rows c j chain ends

  by_test : (t : Bool) → nat_lt j e ≡ t → e ≤ j
  by_test true is =
      let less : j < e = grind (arith, nat_tests, is) in
      absurd (omega (arith, most.1, same, latest.first e j refl less))
  by_test false is = grind (arith, nat_tests, is)
