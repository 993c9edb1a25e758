-- The region of each word.
use Rattle.std.proofs.Common.{◌≡◌, ℕ, zero, suc, ◌+◌, ◌-◌, ◌<◌, ◌≤◌, Bool, true, false, nat_lt, List, [], ◌∷◌, ◌++◌, replicate, slice_get, Some, refl, sym, ap, ◌∙◌, arith}
use Rattle.std.proofs.lemmas.Bool.Decides.{nat_tests}
use Rattle.region_table.specs.declared.declared.Region.{Region}
use Rattle.region_table.specs.Plan.{in_region}
use Rattle.region_table.specs.Program.{AreTiled}
use Rattle.run_account.specs.Items.{regions_from, IsRegionOf}

in-first : (n k w : ℕ) (more : List ℕ) → w < n → slice_get (replicate n k ++ more) w ≡ Some k
in-first zero k w more inside = absurd (omega (arith, inside))
in-first (suc n) k zero more inside = refl
in-first (suc n) k (suc w) more inside = in-first n k w more (omega (arith, inside))

past-first : (n k w v : ℕ) (more : List ℕ) → v ≡ n + w → slice_get (replicate n k ++ more) v ≡ slice_get more w
past-first zero k w v more is = let e : v ≡ w = omega (arith, is) in rw e refl
past-first (suc n) k w zero more is = absurd (omega (arith, is))
past-first (suc n) k w (suc v) more is = past-first n k w v more (omega (arith, is))

-- where a word lies that is so many behind the start
record LiesAt (regions : List Region) (number from w : ℕ) : Type 0 where
  place : ℕ
  region : Region
  group : slice_get (regions_from number regions) w ≡ Some (number + place)
  there : slice_get regions place ≡ Some region
  lies : in_region region (from + w) ≡ true

lies-in : (r : Region) (v : ℕ) → r.start ≤ v → v < r.start + r.len → in_region r v ≡ true
lies-in r v from within = grind (arith, nat_tests, from, within)

find : (regions : List Region) (number from end w : ℕ) → AreTiled from regions end → from + w < end → LiesAt regions number from w
find [] number from end w tiled inside = absurd (omega (arith, tiled, inside))
find (r ∷ rs) number from end w tiled inside =
    by_test (nat_lt w r.len) refl (λ v is. find rs (number + 1) (r.start + r.len) end v tiled.2 (omega (arith, inside, is, tiled.0)))
  where
    by_test : (t : Bool) → nat_lt w r.len ≡ t → ((v : ℕ) → w ≡ r.len + v → LiesAt rs (number + 1) (r.start + r.len) v) → LiesAt (r ∷ rs) number from w
    by_test true e later =
        let within : w < r.len = grind (arith, nat_tests) in
        record {
          place = 0;
          region = r;
          group = in-first r.len number w (regions_from (number + 1) rs) within ∙ ap Some (omega arith);
          there = refl;
          lies = lies-in r (from + w) (omega (arith, tiled.0)) (omega (arith, tiled.0, within));
        }
    by_test false e later =
        let past : r.len ≤ w = grind (arith, nat_tests) in
        let v : ℕ = w - r.len in
        let is : w ≡ r.len + v = omega (arith, past) in
        let rest = later v is in
        let same : r.start + r.len + v ≡ from + w = omega (arith, is, tiled.0) in
        record {
          place = suc rest.place;
          region = rest.region;
          group = past-first r.len number v w (regions_from (number + 1) rs) is ∙ rest.group ∙ ap Some (omega arith);
          there = rest.there;
          lies = rw (sym same) rest.lies;
        }

same-word : (r : Region) (v w : ℕ) → v ≡ w → in_region r v ≡ true → in_region r w ≡ true
same-word r v w is lies = rw (sym is) lies

pub word-lies : (regions : List Region) (end w : ℕ) → AreTiled 0 regions end → w < end → IsRegionOf regions w
word-lies regions end w tiled inside =
    let it = find regions 0 0 end w tiled (omega (arith, inside)) in
    record {
      number = it.place;
      region = it.region;
      group = it.group ∙ ap Some (omega arith);
      there = it.there;
      lies = same-word it.region (0 + w) w (omega arith) it.lies;
    }
