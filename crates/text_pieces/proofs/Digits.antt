-- The digits in front of some bytes, and the digits of a number.
use Rattle.std.proofs.Common.{◌≡◌, ℕ, zero, suc, ◌+◌, ◌-◌, ◌*◌, ◌^◌, ◌<◌, ◌≤◌, Bool, true, false, cond, List, [], ◌∷◌, ◌++◌, length, get_or, drop, take_while, refl, ap, ◌∙◌, arith, length-append}
use Rattle.std.proofs.lemmas.Bool.Decides.{nat_tests}
use Rattle.std.proofs.lemmas.List.{at_drop_more}
use Rattle.std.proofs.lemmas.List.Sums.{take_while-cons}
use Rattle.std.proofs.lemmas.Fmt.{decimal_is_IsNumeral, decimal_digit, decimal_nonempty, decimal-digits_value, first_decimal}
use Rattle.std.proofs.lemmas.Str.Parse.{IsNumeralModel}
use Rattle.std.specs.Char.{is_ascii_digit, digit_value}
use Rattle.std.specs.Fmt.{decimal}
use Rattle.std.specs.Str.Parse.{AllDigits, digits_value, digits_value_after}

-- ---- the digits in front

abbrev pub front : List ℕ → List ℕ
front bs = take_while is_ascii_digit bs

pub digit-value : (c : ℕ) → is_ascii_digit c ≡ true → digit_value c ≡ c - 48
digit-value c is = grind (arith, nat_tests)

pub value-digit : (c : ℕ) → digit_value c < 10 → is_ascii_digit c ≡ true
value-digit c low = grind (arith, nat_tests)

pub front-digit : (c : ℕ) (bs : List ℕ) → is_ascii_digit c ≡ true → front (c ∷ bs) ≡ c ∷ front bs
front-digit c bs is = take_while-cons is_ascii_digit c bs ∙ ap (λ (b : Bool). cond b (c ∷ front bs) []) is

pub front-other : (c : ℕ) (bs : List ℕ) → is_ascii_digit c ≡ false → front (c ∷ bs) ≡ []
front-other c bs is = take_while-cons is_ascii_digit c bs ∙ ap (λ (b : Bool). cond b (c ∷ front bs) []) is

pub front-nil : front [] ≡ []
front-nil = refl

-- one digit more is read
pub value-more : (v i : ℕ) (bs : List ℕ) → i < length bs → is_ascii_digit (get_or bs i 0) ≡ true
    → digits_value_after 10 v (front (drop i bs)) ≡ digits_value_after 10 (v * 10 + (get_or bs i 0 - 48)) (front (drop (i + 1) bs))
value-more v i bs low is =
    at_drop_more (λ xs. digits_value_after 10 v (front xs)) bs i 0 low
    ∙ ap (λ xs. digits_value_after 10 v xs) (front-digit (get_or bs i 0) (drop (i + 1) bs) is)
    ∙ ap (λ d. digits_value_after 10 (v * 10 + d) (front (drop (i + 1) bs))) (digit-value (get_or bs i 0) is)

pub length-more : (i : ℕ) (bs : List ℕ) → i < length bs → is_ascii_digit (get_or bs i 0) ≡ true
    → length (front (drop i bs)) ≡ 1 + length (front (drop (i + 1) bs))
length-more i bs low is =
    at_drop_more (λ xs. length (front xs)) bs i 0 low
    ∙ ap length (front-digit (get_or bs i 0) (drop (i + 1) bs) is)
    ∙ omega arith

pub value-other : (v i : ℕ) (bs : List ℕ) → i < length bs → is_ascii_digit (get_or bs i 0) ≡ false → digits_value_after 10 v (front (drop i bs)) ≡ v
value-other v i bs low is =
    at_drop_more (λ xs. digits_value_after 10 v (front xs)) bs i 0 low
    ∙ ap (λ xs. digits_value_after 10 v xs) (front-other (get_or bs i 0) (drop (i + 1) bs) is)

pub length-other : (i : ℕ) (bs : List ℕ) → i < length bs → is_ascii_digit (get_or bs i 0) ≡ false → length (front (drop i bs)) ≡ 0
length-other i bs low is =
    at_drop_more (λ xs. length (front xs)) bs i 0 low
    ∙ ap length (front-other (get_or bs i 0) (drop (i + 1) bs) is)

-- more digits make no smaller number
pub no-less : (v : ℕ) (ds : List ℕ) → v ≤ digits_value_after 10 v ds
no-less v [] = omega arith
no-less v (c ∷ cs) = omega (arith, no-less (v * 10 + digit_value c) cs)

-- ---- the bytes are the digits and what stands behind them

pub front-digits : (bs : List ℕ) → AllDigits 10 (front bs)
front-digits [] = tt
front-digits (c ∷ cs) = by_digit (is_ascii_digit c) refl (front-digits cs) where
  by_digit : (b : Bool) → is_ascii_digit c ≡ b → AllDigits 10 (front cs) → AllDigits 10 (front (c ∷ cs))
  by_digit true is rest =
      let low : digit_value c < 10 = grind (arith, nat_tests) in
      rw (front-digit c cs is) (low, rest)
  by_digit false is rest = rw (front-other c cs is) tt

pub front-splits : (bs : List ℕ) → bs ≡ front bs ++ drop (length (front bs)) bs
front-splits [] = refl
front-splits (c ∷ cs) = by_digit (is_ascii_digit c) refl (front-splits cs) where
  by_digit : (b : Bool) → is_ascii_digit c ≡ b → cs ≡ front cs ++ drop (length (front cs)) cs → c ∷ cs ≡ front (c ∷ cs) ++ drop (length (front (c ∷ cs))) (c ∷ cs)
  by_digit true is rest = rw (front-digit c cs is) (ap (λ xs. c ∷ xs) rest)
  by_digit false is rest = rw (front-other c cs is) refl

pub front-within : (bs : List ℕ) → length (front bs) ≤ length bs
front-within bs = omega (arith, ap length (front-splits bs), length-append (front bs) (drop (length (front bs)) bs))

pub front-of_digits : (ds : List ℕ) (e : ℕ) (rest : List ℕ) → AllDigits 10 ds → is_ascii_digit e ≡ false → front (ds ++ e ∷ rest) ≡ ds
front-of_digits [] e rest all other = front-other e rest other
front-of_digits (d ∷ ds) e rest all other =
    front-digit d (ds ++ e ∷ rest) (value-digit d all.0) ∙ ap (λ xs. d ∷ xs) (front-of_digits ds e rest all.1 other)

-- ---- the digits of a number

pub decimal-digits : (n : ℕ) → n < 2 ^ 64 → AllDigits 10 (decimal n)
decimal-digits n small = (decimal_is_IsNumeral n small).0.1

pub decimal-value : (n : ℕ) → n < 2 ^ 64 → digits_value 10 (decimal n) ≡ n
decimal-value n small = (decimal_is_IsNumeral n small).1

pub front-decimal : (n e : ℕ) (rest : List ℕ) → n < 2 ^ 64 → is_ascii_digit e ≡ false → front (decimal n ++ e ∷ rest) ≡ decimal n
front-decimal n e rest small other = front-of_digits (decimal n) e rest (decimal-digits n small) other

-- digits, at least one, that don't begin with 0 unless they are 0 alone
pub record IsPlain (ds : List ℕ) : Type 0 where
  pub some : 0 < length ds
  pub plain : get_or ds 0 0 ≡ 48 → length ds ≡ 1

pub decimal-plain : (n : ℕ) → n < 2 ^ 64 → IsPlain (decimal n)
decimal-plain zero small = record { some = omega (arith, ap length (decimal_digit 0 (omega arith))); plain = λ is. ap length (decimal_digit 0 (omega arith)) }
decimal-plain (suc n) small =
    record { some = decimal_nonempty (suc n) small; plain = λ is. absurd (omega (arith, first_decimal (suc n) (omega arith) small)) }

model : IsNumeralModel (AllDigits 10) (digits_value 10)
model = record { from = λ ds all. all; to = λ ds all. all; same = λ ds all. refl }

pub plain-decimal : (ds : List ℕ) → AllDigits 10 ds → IsPlain ds → digits_value 10 ds < 2 ^ 64 → decimal (digits_value 10 ds) ≡ ds
plain-decimal ds all is small = decimal-digits_value model ds all is.some is.plain small
