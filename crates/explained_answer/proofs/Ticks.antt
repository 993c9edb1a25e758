-- A number of ticks in front of some bytes.
use Rattle.std.proofs.Common.{◌≡◌, ℕ, ◌-◌, ◌^◌, ◌<◌, ◌≤◌, List, ◌∷◌, ◌++◌, length, take, drop, refl, sym, ap, subst, ◌∙◌, arith}
use Rattle.std.proofs.Math.Seq.{drop-append_seam}
use Rattle.std.specs.Fmt.{decimal}
use Rattle.std.specs.Str.Parse.{digits_value}
use Rattle.text_pieces.proofs.Digits.{front, front-splits, front-digits, front-decimal, decimal-value, decimal-plain, plain-decimal, IsPlain}
use Rattle.text_pieces.proofs.Fields.{SeemsPlain, is-plain, whole-rest}
use Rattle.explained_answer.specs.Parts.{IsTicks}

module _ (bytes : List ℕ) (n : ℕ) (rest : List ℕ) (ticks : IsTicks n) (is : bytes ≡ decimal n ++ 10 ∷ rest) where
  fits : n < 2 ^ 64
  fits = omega (arith, ticks.high)

  digits : front bytes ≡ decimal n
  digits = ap front is ∙ front-decimal n 10 rest fits refl

  pub value-of : digits_value 10 (front bytes) ≡ n
  value-of = ap (digits_value 10) digits ∙ decimal-value n fits

  pub plain-of : IsPlain (front bytes)
  plain-of = subst IsPlain (sym digits) (decimal-plain n fits)

  pub rest-of : drop (length (front bytes)) bytes ≡ 10 ∷ rest
  rest-of = ap (λ ds. drop (length ds) bytes) digits ∙ ap (drop (length (decimal n))) is ∙ drop-append_seam (decimal n) (10 ∷ rest)

pub ticks-parts : (bytes : List ℕ) (v k : ℕ) → v ≡ digits_value 10 (front bytes) → k ≡ length (front bytes) → v ≤ 176187648000000 → SeemsPlain bytes k
    → bytes ≡ decimal v ++ take (length bytes - k) (drop k bytes)
ticks-parts bytes v k value count small seems =
    let fits : digits_value 10 (front bytes) < 2 ^ 64 = omega (arith, value) in
    let digits : decimal v ≡ front bytes = ap decimal value ∙ plain-decimal (front bytes) (front-digits bytes) (is-plain bytes k count seems) fits in
    front-splits bytes ∙ ap (λ ds. ds ++ drop (length (front bytes)) bytes) (sym digits)
    ∙ ap (λ j. decimal v ++ drop j bytes) (sym count) ∙ ap (λ xs. decimal v ++ xs) (sym (whole-rest bytes k))
