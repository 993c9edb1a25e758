-- A number in front of some bytes, and what stands there between a name and an end.
use Rattle.std.proofs.Common.{◌≡◌, ℕ, ◌-◌, ◌^◌, ◌<◌, false, List, [], ◌∷◌, ◌++◌, length, get_or, take, drop, Option, Some, None, IfNone, sym, ap, subst, ◌∙◌, arith, append_assoc}
use Rattle.std.proofs.lemmas.List.{append_cancel_left, take_all, length-drop, get_or_append_left}
use Rattle.std.proofs.Math.Seq.{drop-append_seam}
use Rattle.std.specs.Char.{is_ascii_digit}
use Rattle.std.specs.Fmt.{decimal}
use Rattle.std.specs.Str.Parse.{digits_value}
use Rattle.text_pieces.specs.Field.{field}
use Rattle.text_pieces.proofs.Digits.{front, front-splits, front-digits, front-decimal, decimal-value, decimal-plain, plain-decimal, IsPlain}

pub if-none : {X : Type 0} (o : Option X) (P : Type 0) → P → IfNone o P
if-none None P p = p
if-none (Some x) P p = tt

-- ---- a number in front

module _ (bytes : List ℕ) (n e : ℕ) (rest : List ℕ) (small : n < 2 ^ 32) (other : is_ascii_digit e ≡ false) (is : bytes ≡ decimal n ++ e ∷ rest) where
  fits : n < 2 ^ 64
  fits = omega arith

  digits : front bytes ≡ decimal n
  digits = ap front is ∙ front-decimal n e rest fits other

  pub value-of : digits_value 10 (front bytes) ≡ n
  value-of = ap (digits_value 10) digits ∙ decimal-value n fits

  pub plain-of : IsPlain (front bytes)
  plain-of = subst IsPlain (sym digits) (decimal-plain n fits)

  pub rest-of : drop (length (front bytes)) bytes ≡ e ∷ rest
  rest-of = ap (λ ds. drop (length ds) bytes) digits ∙ ap (drop (length (decimal n))) is ∙ drop-append_seam (decimal n) (e ∷ rest)

-- whether digits are plain shows in the first byte and in their number
abbrev pub SeemsPlain : List ℕ → ℕ → Type 0
SeemsPlain bytes count = (0 < count) × (get_or bytes 0 0 ≡ 48 → count ≡ 1)

first-same : (bytes : List ℕ) → 0 < length (front bytes) → get_or bytes 0 0 ≡ get_or (front bytes) 0 0
first-same bytes some =
    ap (λ bs. get_or bs 0 0) (front-splits bytes) ∙ get_or_append_left (front bytes) (drop (length (front bytes)) bytes) 0 0 some

pub seems-plain : (bytes : List ℕ) (count : ℕ) → count ≡ length (front bytes) → IsPlain (front bytes) → SeemsPlain bytes count
seems-plain bytes count is plain =
    (omega (arith, is, plain.some), λ zero'. is ∙ plain.plain (sym (first-same bytes plain.some) ∙ zero'))

pub is-plain : (bytes : List ℕ) (count : ℕ) → count ≡ length (front bytes) → SeemsPlain bytes count → IsPlain (front bytes)
is-plain bytes count is seems =
    let some : 0 < length (front bytes) = omega (arith, is, seems.0) in
    record { some = some; plain = λ zero'. sym is ∙ seems.1 (first-same bytes some ∙ zero') }

pub whole-rest : (bytes : List ℕ) (k : ℕ) → take (length bytes - k) (drop k bytes) ≡ drop k bytes
whole-rest bytes k = take_all (length bytes - k) (drop k bytes) (omega (arith, length-drop k bytes))

pub number-parts : (bytes : List ℕ) (v k : ℕ) → v ≡ digits_value 10 (front bytes) → k ≡ length (front bytes) → v < 2 ^ 32 → SeemsPlain bytes k
    → bytes ≡ decimal v ++ take (length bytes - k) (drop k bytes)
number-parts bytes v k value count small seems =
    let fits : digits_value 10 (front bytes) < 2 ^ 64 = omega (arith, value) in
    let digits : decimal v ≡ front bytes = ap decimal value ∙ plain-decimal (front bytes) (front-digits bytes) (is-plain bytes k count seems) fits in
    front-splits bytes ∙ ap (λ ds. ds ++ drop (length (front bytes)) bytes) (sym digits)
    ∙ ap (λ j. decimal v ++ drop j bytes) (sym count) ∙ ap (λ xs. decimal v ++ xs) (sym (whole-rest bytes k))

-- ---- a number between a name and an end

pub field-parts : (name : List ℕ) (e n : ℕ) (rest : List ℕ) → field name (e ∷ []) n ++ rest ≡ name ++ (decimal n ++ (e ∷ rest))
unfolding field
field-parts name e n rest = simp append_assoc

pub behind-name : (bytes name behind : List ℕ) (e n : ℕ) (rest : List ℕ) → bytes ≡ name ++ behind → bytes ≡ field name (e ∷ []) n ++ rest → behind ≡ decimal n ++ e ∷ rest
behind-name bytes name behind e n rest is parts = append_cancel_left name behind (decimal n ++ e ∷ rest) (sym is ∙ parts ∙ field-parts name e n rest)
