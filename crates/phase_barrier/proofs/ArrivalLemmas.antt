-- What an arrival comes to.
use Rattle.std.proofs.Common.{◌≡◌, ◌≢◌, ℕ, ◌<◌, ◌&&◌, ◌==◌, Bool, true, false, cond, nat_lt, List, [], ◌∷◌, length, get_or, set, slice_get, Option, Some, None, refl, ◌∙◌, arith, ap, subst, zero, suc}
use Rattle.std.specs.Prelude.{replicate}
use Rattle.std.specs.List.{list_all, AllPass}
use Rattle.std.proofs.lemmas.List.{length-replicate, get_or-replicate}
use Rattle.std.proofs.lemmas.List.Folds.{list_all_at}
use Rattle.std.proofs.lemmas.List.Sums.{AllPass-from_list_all, list_all-from_AllPass}
use Rattle.std.proofs.lemmas.Bool.Decides.{nat_tests}
use Rattle.std.proofs.lemmas.Bool.{eqb-true}
use Rattle.std.proofs.lemmas.Option.{slice_get_within, slice_get-get_or, get_or_from_slice_get}
use Rattle.phase_barrier.specs.declared.keeper.Verdict.TheVariants.{Wait}
use Rattle.phase_barrier.specs.Barrier.{Barrier, all_arrived, is_over, in_next_phase, answer_to_all, with_arrival, keeper_arrives}

-- one mark
pub get-set : (flags : List Bool) (core d : ℕ) → slice_get (set flags core true) d ≡ cond ((core == d) && nat_lt d (length flags)) (Some true) (slice_get flags d)
get-set [] core d = grind (arith, nat_tests)
get-set (x ∷ xs) zero zero = grind (arith, nat_tests)
get-set (x ∷ xs) zero (suc d) = grind (arith, nat_tests)
get-set (x ∷ xs) (suc core) zero = grind (arith, nat_tests)
get-set (x ∷ xs) (suc core) (suc d) = grind (arith, nat_tests, get-set xs core d)

pub waits : (k : Barrier) (core d : ℕ) (bad : Bool) → slice_get k.arrived core ≡ Some false → d ≢ core → slice_get k.arrived d ≡ Some false → keeper_arrives k core bad ≡ (with_arrival core bad k, Wait)
waits k core d bad new other missing =
    let still : slice_get (set k.arrived core true) d ≡ Some false = rw (get-set k.arrived core d) (grind (arith, nat_tests)) in
    let within = slice_get_within (set k.arrived core true) d false still in
    let short : list_all (λ (a : Bool). a) (set k.arrived core true) ≡ false =
    list_all_at (λ (a : Bool). a) (set k.arrived core true) d false within (get_or_from_slice_get (set k.arrived core true) d false false still) in
    rw new (rw short refl)

pub releases : (k : Barrier) (core : ℕ) (bad : Bool) → slice_get k.arrived core ≡ Some false → ((d : ℕ) → d ≢ core → slice_get k.arrived d ≢ Some false) → keeper_arrives k core bad ≡ answer_to_all (with_arrival core bad k)
releases k core bad new others =
    let whole : list_all (λ (a : Bool). a) (set k.arrived core true) ≡ true = list_all-from_AllPass (λ (a : Bool). a) (set k.arrived core true) each in
    rw new (rw whole refl) where
      mark : (d : ℕ) (x : Bool) → slice_get (set k.arrived core true) d ≡ Some x → x ≡ true
      mark d true at = refl
      mark d false at = by_test (core == d) refl where
        by_test : (t : Bool) → (core == d) ≡ t → false ≡ true
        by_test true e =
            let same : core ≡ d = eqb-true core d e in
            let within : d < length k.arrived = subst (λ (i : ℕ). i < length k.arrived) same (slice_get_within k.arrived core false new) in
            absurd (grind (arith, nat_tests, get-set k.arrived core d))
        by_test false e =
            let differ : d ≢ core = grind (arith, nat_tests) in
            let old : slice_get k.arrived d ≡ Some false = grind (arith, nat_tests, get-set k.arrived core d) in
            absurd (others d differ old)

      each : AllPass (λ (a : Bool). a) (set k.arrived core true)
      each d x within = mark d (get_or (set k.arrived core true) d x) (slice_get-get_or (set k.arrived core true) d x within)

pub begins : (k : Barrier) → is_over k ≡ false → (in_next_phase k).phase < k.phases
begins k on = grind (arith, nat_tests)

pub unmarked : (n d : ℕ) → d < n → slice_get (replicate n false) d ≡ Some false
unmarked n d within =
    let there : d < length (replicate n false) = omega (arith, within, length-replicate n false) in
    slice_get-get_or (replicate n false) d false there ∙ ap (λ (x : Bool). Some x) (get_or-replicate n d false false within)

pub stays : (k : Barrier) (core : ℕ) (bad : Bool) → all_arrived k ≡ true → keeper_arrives k core bad ≡ (k, Wait)
stays k core bad whole = by_mark (slice_get k.arrived core) refl where
  by_mark : (o : Option Bool) → slice_get k.arrived core ≡ o → keeper_arrives k core bad ≡ (k, Wait)
  by_mark None e = rw e refl
  by_mark (Some true) e = rw e refl
  by_mark (Some false) e =
      let within = slice_get_within k.arrived core false e in
      let here = get_or_from_slice_get k.arrived core false false e in
      let marked = AllPass-from_list_all (λ (a : Bool). a) k.arrived whole core false within in
      absurd (cc)
