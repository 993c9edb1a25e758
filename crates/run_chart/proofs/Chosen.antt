-- Names at the beginning of a list.
use Rattle.std.proofs.Common.{◌≡◌, ◌≢◌, ℕ, ◌==◌, Bool, true, false, List, [], ◌∷◌, ◌++◌, refl, sym, ap, ◌∙◌, arith}
use Rattle.std.proofs.lemmas.Bool.{eqb-true}
use Rattle.std.proofs.lemmas.Bool.Decides.{nat_tests}
use Rattle.run_chart.specs.Choosing.{begins}

-- a name, and what follows it
pub begins_front : (name rest : List ℕ) → begins name (name ++ rest) ≡ begins [] rest
begins_front [] rest = refl
begins_front (n ∷ name) rest =
    let same : (n == n) ≡ true = grind (arith, nat_tests) in
    rw same (begins_front name rest)

-- what doesn't begin with the name has no such beginning
pub begins_none : (name list : List ℕ) → ((rest : List ℕ) → list ≢ name ++ rest) → begins name list ≡ false
begins_none [] list other = absurd (other list refl)
begins_none (n ∷ name) [] other = refl
begins_none (n ∷ name) (c ∷ list) other = by_test (n == c) refl (begins_none name list) where
  by_test : (t : Bool) → (n == c) ≡ t → (((rest : List ℕ) → list ≢ name ++ rest) → begins name list ≡ false) → begins (n ∷ name) (c ∷ list) ≡ false
  by_test true e later = rw e (later (λ rest is. other rest (ap (λ (l : List ℕ). c ∷ l) is ∙ ap (λ (x : ℕ). x ∷ (name ++ rest)) (sym (eqb-true n c e)))))
  by_test false e later = rw e refl
