-- How many of the first numbers pass a test, one more at a time.
use Rattle.std.proofs.Common.{◌≡◌, ℕ, zero, suc, ◌+◌, Bool, cond, List, [], ◌∷◌, ◌++◌, ap, ◌∙◌, arith}
use Rattle.std.specs.Prelude.{count_by}
use Rattle.std.specs.List.{range_with_len}
use Rattle.std.proofs.lemmas.List.Sums.{sum_by-append}

-- the numbers from one on and one more
pub range-more : (from n : ℕ) → range_with_len from (suc n) ≡ range_with_len from n ++ (from + n) ∷ []
range-more from zero = ap (λ (x : ℕ). x ∷ []) (omega arith)
range-more from (suc n) =
    ap (λ (l : List ℕ). from ∷ l) (range-more (from + 1) n ∙ ap (λ (x : ℕ). range_with_len (from + 1) n ++ x ∷ []) (omega arith))

pub count-more : (test : ℕ → Bool) (n : ℕ) → count_by test (range_with_len 0 (n + 1)) ≡ count_by test (range_with_len 0 n) + cond (test n) 1 0
count-more test n =
    let on : n + 1 ≡ suc n = omega arith in
    let more : count_by test (range_with_len 0 (suc n)) ≡ count_by test (range_with_len 0 n ++ (0 + n) ∷ []) = ap (λ (l : List ℕ). count_by test l) (range-more 0 n) in
    let last : 0 + n ≡ n = omega arith in
    ap (λ (k : ℕ). count_by test (range_with_len 0 k)) on ∙ more ∙ sum_by-append (λ (x : ℕ). cond (test x) 1 0) (range_with_len 0 n) ((0 + n) ∷ [])
    ∙ omega (arith, ap {B = ℕ} (λ (x : ℕ). cond (test x) 1 0) last)
