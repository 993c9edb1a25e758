-- Items of which none counts for some measures.
use Rattle.std.proofs.Common.{◌≡◌, ℕ, zero, suc, ◌+◌, Bool, false, cond, List, [], ◌∷◌, ◌++◌, replicate, refl, ◌∙◌, arith}
use Rattle.std.specs.Prelude.{◌&&◌, flat_map}
use Rattle.std.proofs.lemmas.List.Sums.{sum_by-cons, sum_by-append}
use Rattle.run_account.specs.declared.measure.Measure.{Measure}
use Rattle.run_account.specs.declared.item.Item.{Item}
use Rattle.run_account.specs.declared.item.Grouping.{Grouping}
use Rattle.run_account.specs.Measure.{same_measure}
use Rattle.run_account.specs.Items.{group_of, is_group, counts_for, count_in}

-- no item of the list is of one of the measures that a test names
abbrev pub Lacks : (Measure → Bool) → List Item → Type 0
Lacks named [] = Unit {0}
Lacks named (item ∷ items) = (named item.measure ≡ false) × Lacks named items

pub lacks-append : (named : Measure → Bool) (items more : List Item) → Lacks named items → Lacks named more → Lacks named (items ++ more)
lacks-append named [] more first second = second
lacks-append named (item ∷ items) more first second = (first.0, lacks-append named items more first.1 second)

pub lacks-replicate : (named : Measure → Bool) (n : ℕ) (item : Item) → named item.measure ≡ false → Lacks named (replicate n item)
lacks-replicate named zero item isnt = tt
lacks-replicate named (suc n) item isnt = (isnt, lacks-replicate named n item isnt)

pub lacks-flat_map : {X : Type 0} (named : Measure → Bool) (f : X → List Item) (xs : List X) → ((x : X) → Lacks named (f x)) → Lacks named (flat_map f xs)
lacks-flat_map named f [] each = tt
lacks-flat_map named f (x ∷ xs) each = lacks-append named (f x) (flat_map f xs) (each x) (lacks-flat_map named f xs each)

-- one more item, and two lists
pub count-cons : (regions : List ℕ) (by : Grouping) (m : Measure) (group : ℕ) (item : Item) (items : List Item)
    → count_in regions by m group (item ∷ items) ≡ cond (counts_for regions by m group item) 1 0 + count_in regions by m group items
count-cons regions by m group item items = sum_by-cons (λ (x : Item). cond (counts_for regions by m group x) 1 0) item items

pub count-append : (regions : List ℕ) (by : Grouping) (m : Measure) (group : ℕ) (items more : List Item)
    → count_in regions by m group (items ++ more) ≡ count_in regions by m group items + count_in regions by m group more
count-append regions by m group items more = sum_by-append (λ (x : Item). cond (counts_for regions by m group x) 1 0) items more

-- a list that lacks a measure has none of it
pub count-lacking : (regions : List ℕ) (by : Grouping) (m : Measure) (group : ℕ) (named : Measure → Bool)
    → ((n : Measure) → named n ≡ false → same_measure m n ≡ false) → (items : List Item) → Lacks named items → count_in regions by m group items ≡ 0
count-lacking regions by m group named covers [] none = refl
count-lacking regions by m group named covers (item ∷ items) none =
    count-cons regions by m group item items
    ∙ omega (arith, not-one (same_measure m item.measure) (covers item.measure none.0), count-lacking regions by m group named covers items none.1)
  where
    not-one : (t : Bool) → t ≡ false → cond {A = ℕ} (t && is_group group (group_of regions by item)) 1 0 ≡ 0
    not-one t e = rw e refl
