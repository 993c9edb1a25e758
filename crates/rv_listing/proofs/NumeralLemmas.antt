-- What the numbers of a listing are read as.
use Rattle.std.proofs.Common.{◌≡◌, ℕ, suc, ◌+◌, ◌*◌, ◌/◌, ◌%◌, ◌^◌, ◌<◌, ◌≤◌, Bool, true, false, cond, ltb, eqb, ◌&&◌, ◌||◌, List, [], ◌∷◌, ◌++◌, length, length-append, get_or, drop, zero, Option, Some, None, refl, ap, ◌∙◌, arith, ⊎_elim}
use Rattle.std.specs.Prelude.{ℤ, pos, negsuc}
use Rattle.std.specs.Fmt.{decimal, signed_decimal, digits}
use Rattle.std.specs.Option.{option_map}
use Rattle.std.proofs.lemmas.Bool.{lt-ltb, le-ltb, le-leb, cases_lt}
use Rattle.std.proofs.lemmas.Int.{ints}
use Rattle.std.proofs.lemmas.Bool.Decides.{nat_tests}
use Rattle.std.proofs.lemmas.Fmt.{decimal_by_steps}
use Rattle.src_text.specs.Byte.{is_word, is_digit, is_minus}
use Rattle.src_text.specs.Lexeme.{token_kind_of}
use Rattle.src_text.specs.Number.{digit_of, value_after, value_of, has_prefix, magnitude_of, if_at_most, negated, number_of}
use Rattle.src_text.specs.declared.token.TokenKind.TheVariants.{Name, Number}
use Rattle.src_text.specs.Register.{register_of, register_rows}
use Rattle.text_pieces.specs.Pieces.{hex_digit, hex_at, hexadecimal}
use Rattle.rv_listing.specs.Statement.{register}
use Rattle.rv_listing.proofs.LexLemmas.{AreWords, AreWords-append, IsWordToken, word_goes_on}

-- decimal digits, with their value
pub record IsDecimal (n : ℕ) (ds : List ℕ) : Type 0 where
  pub value : value_after 10 0 ds ≡ Some n
  pub words : AreWords ds
  pub first : is_digit (get_or ds 0 0) ≡ true
  pub no_prefix : eqb (get_or ds 1 0) 120 ≡ false
  pub some : 0 < length ds

digit-is : (d : ℕ) → d < 10 → (is_digit (48 + d) ≡ true) × (is_word (48 + d) ≡ true) × (digit_of (48 + d) ≡ d)
digit-is d l = (grind (arith, nat_tests), grind (arith, nat_tests), grind (arith, nat_tests))

push-by : (b : Bool) (x y : Option ℕ) (u w : ℕ) → (x ≡ Some u → y ≡ Some w) → cond b x None ≡ Some u → cond b y None ≡ Some w
push-by true x y u w f e = f e
push-by false x y u w f e = absurd cc

value-push : (base v u : ℕ) (ds : List ℕ) (c : ℕ) → value_after base v ds ≡ Some u → digit_of c < base → value_after base v (ds ++ c ∷ []) ≡ Some (u * base + digit_of c)
value-push base v u [] c e l = let s : v ≡ u = cc in rw (lt-ltb (digit_of c) base l, s) refl
value-push base v u (d ∷ ds) c e l =
    push-by (ltb (digit_of d) base) (value_after base (v * base + digit_of d) ds) (value_after base (v * base + digit_of d) (ds ++ c ∷ [])) u (u * base + digit_of c)
    (λ f. value-push base (v * base + digit_of d) u ds c f l) e

first-push : (ds : List ℕ) (c i : ℕ) → i < length ds → get_or (ds ++ c ∷ []) i 0 ≡ get_or ds i 0
first-push [] c i l = absurd (omega arith)
first-push (d ∷ ds) c zero l = refl
first-push (d ∷ ds) c (suc i) l = first-push ds c i (omega arith)

second-push : (ds : List ℕ) (c : ℕ) → 0 < length ds → eqb (get_or ds 1 0) 120 ≡ false → eqb c 120 ≡ false → eqb (get_or (ds ++ c ∷ []) 1 0) 120 ≡ false
second-push [] c l h k = absurd (omega arith)
second-push (d ∷ []) c l h k = k
second-push (d ∷ e ∷ ds) c l h k = h

one : (n : ℕ) → n < 10 → IsDecimal n ((48 + n) ∷ [])
one n l =
    let d = digit-is n l in
    let z : 0 + n ≡ n = omega arith in
    record { value = rw (d.2, lt-ltb n 10 l) (ap (λ (v : ℕ). Some v) z); words = (d.1, tt); first = d.0; no_prefix = refl; some = omega arith }

more : (n : ℕ) (ds : List ℕ) → 10 ≤ n → IsDecimal (n / 10) ds → IsDecimal n (ds ++ ((48 + n % 10) ∷ []))
more n ds l h =
    let m : n % 10 < 10 = omega arith in
    let d = digit-is (n % 10) m in
    let below : digit_of (48 + n % 10) < 10 = omega arith in
    let total : n / 10 * 10 + digit_of (48 + n % 10) ≡ n = omega arith in
    let not_x : eqb (48 + n % 10) 120 ≡ false = grind (arith, nat_tests) in
    record {
      value = value-push 10 0 (n / 10) ds (48 + n % 10) h.value below ∙ ap (λ (v : ℕ). Some v) total;
      words = AreWords-append ds ((48 + n % 10) ∷ []) h.words (d.1, tt);
      first = ap is_digit (first-push ds (48 + n % 10) 0 h.some) ∙ h.first;
      no_prefix = second-push ds (48 + n % 10) h.some h.no_prefix not_x;
      some = omega (arith, length-append ds ((48 + n % 10) ∷ []));
    }

pub IsDecimal-decimal : (n : ℕ) → n < 2 ^ 64 → IsDecimal n (decimal n)
IsDecimal-decimal = decimal_by_steps IsDecimal one more

token-of-words : (ds : List ℕ) → AreWords ds → 0 < length ds → IsWordToken ds
token-of-words [] h l = absurd (omega arith)
token-of-words (d ∷ ds) h l = (word_goes_on d h.0, h.1)

pub decimal-token : (n : ℕ) → n < 2 ^ 64 → IsWordToken (decimal n)
decimal-token n l = let d = IsDecimal-decimal n l in token-of-words (decimal n) d.words d.some

value-some : (base n : ℕ) (ds : List ℕ) → 0 < length ds → value_after base 0 ds ≡ Some n → value_of base ds ≡ Some n
value-some base n [] l e = absurd (omega arith)
value-some base n (d ∷ ds) l e = e

and-false : (a b : Bool) → b ≡ false → (a && b) ≡ false
and-false true b e = e
and-false false b e = refl

pub decimal-magnitude : (n : ℕ) (ds : List ℕ) → IsDecimal n ds → magnitude_of ds ≡ Some n
decimal-magnitude n ds d =
    let p : has_prefix ds ≡ false = and-false (eqb (get_or ds 0 0) 48) (eqb (get_or ds 1 0) 120) d.no_prefix in
    ap (λ (c : Bool). cond c (value_of 16 (drop 2 ds)) (value_of 10 ds)) p ∙ value-some 10 n ds d.some d.value

digit_no_minus : (b : ℕ) → is_digit b ≡ true → is_minus b ≡ false
digit_no_minus b h = grind (arith, nat_tests)

pub decimal-number : (n : ℕ) → n < 2 ^ 32 → number_of (decimal n) ≡ Some (pos n)
decimal-number n l =
    let d = IsDecimal-decimal n (omega arith) in
    let minus : is_minus (get_or (decimal n) 0 0) ≡ false = digit_no_minus (get_or (decimal n) 0 0) d.first in
    ap (λ (c : Bool). cond c (option_map negated (if_at_most 2147483648 (magnitude_of (drop 1 (decimal n))))) (option_map pos (if_at_most 4294967295 (magnitude_of (decimal n))))) minus
    ∙ ap (λ (o : Option ℕ). option_map pos (if_at_most 4294967295 o)) (decimal-magnitude n (decimal n) d)
    ∙ ap (λ (c : Bool). option_map pos (cond c (Some n) None)) (le-leb n 4294967295 (omega arith))

-- the numbers with sign
negated-suc : (n : ℕ) → negated (suc n) ≡ negsuc n
negated-suc n = omega (arith, ints)

-- the numbers that a text may hold
abbrev pub IsHeld : ℤ → Type 0
IsHeld (pos n) = n < 2 ^ 32
IsHeld (negsuc n) = suc n ≤ 2147483648

pub signed-token : (z : ℤ) → IsHeld z → IsWordToken (signed_decimal z)
signed-token (pos n) l = decimal-token n (omega arith)
signed-token (negsuc n) l = let d = IsDecimal-decimal (suc n) (omega arith) in (refl, d.words)

pub signed-number : (z : ℤ) → IsHeld z → number_of (signed_decimal z) ≡ Some z
signed-number (pos n) l = decimal-number n l
signed-number (negsuc n) l =
    let d = IsDecimal-decimal (suc n) (omega arith) in
    ap (λ (o : Option ℕ). option_map negated (if_at_most 2147483648 o)) (decimal-magnitude (suc n) (decimal (suc n)) d)
    ∙ ap (λ (c : Bool). option_map negated (cond c (Some (suc n)) None)) (le-leb (suc n) 2147483648 l)
    ∙ ap (λ (z : ℤ). Some z) (negated-suc n)

-- a token that begins as a number is of the number's kind
pub number-kind : (bs : List ℕ) (z : ℤ) → (is_digit (get_or bs 0 0) || is_minus (get_or bs 0 0)) ≡ true → number_of bs ≡ Some z → token_kind_of bs ≡ Some (Number z)
number-kind bs z h e =
    let c1 : eqb (get_or bs 0 0) 44 ≡ false = grind (arith, nat_tests) in
    let c2 : eqb (get_or bs 0 0) 58 ≡ false = grind (arith, nat_tests) in
    let c3 : eqb (get_or bs 0 0) 40 ≡ false = grind (arith, nat_tests) in
    let c4 : eqb (get_or bs 0 0) 41 ≡ false = grind (arith, nat_tests) in
    rw (c1, c2, c3, c4, h, e) refl

or-first : (a b : Bool) → a ≡ true → (a || b) ≡ true
or-first a b e = ap (λ (x : Bool). x || b) e

pub decimal-kind : (n : ℕ) → n < 2 ^ 32 → token_kind_of (decimal n) ≡ Some (Number (pos n))
decimal-kind n l =
    let d = IsDecimal-decimal n (omega arith) in
    number-kind (decimal n) (pos n) (or-first (is_digit (get_or (decimal n) 0 0)) (is_minus (get_or (decimal n) 0 0)) d.first) (decimal-number n l)

pub signed-kind : (z : ℤ) → IsHeld z → token_kind_of (signed_decimal z) ≡ Some (Number z)
signed-kind (pos n) l = decimal-kind n l
signed-kind (negsuc n) l = number-kind (45 ∷ decimal (suc n)) (negsuc n) refl (signed-number (negsuc n) l)

-- the numbers of eight digits
hex-low : (d : ℕ) → d < 10 → hex_digit d ≡ 48 + d
hex-low d l = rw (lt-ltb d 10 l) refl

hex-high : (d : ℕ) → 10 ≤ d → hex_digit d ≡ 87 + d
hex-high d l = rw (le-ltb d 10 l) refl

hex-letter : (d : ℕ) → 10 ≤ d → d < 16 → (digit_of (87 + d) ≡ d) × (is_word (87 + d) ≡ true)
hex-letter d l m = (grind (arith, nat_tests), grind (arith, nat_tests))

pub digit-hex : (d : ℕ) → d < 16 → (digit_of (hex_digit d) ≡ d) × (is_word (hex_digit d) ≡ true)
digit-hex d l =
    ⊎_elim
    (λ (m : d < 10). let h = digit-is d m in rw (hex-low d m) (h.2, h.1))
    (λ (m : 10 ≤ d). rw (hex-high d m) (hex-letter d m l))
    (cases_lt d 10)

value-step : (v d c w : ℕ) (cs : List ℕ) → digit_of c ≡ d → d < 16 → v * 16 + d ≡ w → value_after 16 v (c ∷ cs) ≡ value_after 16 w cs
value-step v d c w cs e l s = rw (e, lt-ltb d 16 l, s) refl

at-below : (n p : ℕ) → n / p % 16 < 16
at-below n p = omega arith

hex-step : (n k v w : ℕ) (cs : List ℕ) → v * 16 + n / 16 ^ k % 16 ≡ w → value_after 16 v (hex_at n k ∷ cs) ≡ value_after 16 w cs
hex-step n k v w cs s =
    value-step v (n / 16 ^ k % 16) (hex_digit (n / 16 ^ k % 16)) w cs (digit-hex (n / 16 ^ k % 16) (at-below n (16 ^ k))).0 (at-below n (16 ^ k)) s

module _ (n : ℕ) (small : n < 2 ^ 32) where
  hex-value : value_after 16 0 (drop 2 (hexadecimal n)) ≡ Some n
  unfolding hexadecimal
  hex-value =
      hex-step n 7 0 (n / 16 ^ 7) (hex_at n 6 ∷ hex_at n 5 ∷ hex_at n 4 ∷ hex_at n 3 ∷ hex_at n 2 ∷ hex_at n 1 ∷ hex_at n 0 ∷ []) (omega arith)
      ∙ hex-step n 6 (n / 16 ^ 7) (n / 16 ^ 6) (hex_at n 5 ∷ hex_at n 4 ∷ hex_at n 3 ∷ hex_at n 2 ∷ hex_at n 1 ∷ hex_at n 0 ∷ []) (omega arith)
      ∙ hex-step n 5 (n / 16 ^ 6) (n / 16 ^ 5) (hex_at n 4 ∷ hex_at n 3 ∷ hex_at n 2 ∷ hex_at n 1 ∷ hex_at n 0 ∷ []) (omega arith)
      ∙ hex-step n 4 (n / 16 ^ 5) (n / 16 ^ 4) (hex_at n 3 ∷ hex_at n 2 ∷ hex_at n 1 ∷ hex_at n 0 ∷ []) (omega arith)
      ∙ hex-step n 3 (n / 16 ^ 4) (n / 16 ^ 3) (hex_at n 2 ∷ hex_at n 1 ∷ hex_at n 0 ∷ []) (omega arith)
      ∙ hex-step n 2 (n / 16 ^ 3) (n / 16 ^ 2) (hex_at n 1 ∷ hex_at n 0 ∷ []) (omega arith)
      ∙ hex-step n 1 (n / 16 ^ 2) (n / 16 ^ 1) (hex_at n 0 ∷ []) (omega arith)
      ∙ hex-step n 0 (n / 16 ^ 1) n [] (omega arith)

  pub hexadecimal-number : number_of (hexadecimal n) ≡ Some (pos n)
  unfolding hexadecimal
  hexadecimal-number =
      ap (λ (o : Option ℕ). option_map pos (if_at_most 4294967295 o)) hex-value
      ∙ ap (λ (c : Bool). option_map pos (cond c (Some n) None)) (le-leb n 4294967295 (omega arith))

  pub hexadecimal-token : IsWordToken (hexadecimal n)
  unfolding hexadecimal
  hexadecimal-token = (
    refl,
    (
      refl,
      (
        (digit-hex (n / 16 ^ 7 % 16) (at-below n (16 ^ 7))).1,
        (
          (digit-hex (n / 16 ^ 6 % 16) (at-below n (16 ^ 6))).1,
          (
            (digit-hex (n / 16 ^ 5 % 16) (at-below n (16 ^ 5))).1,
            (
              (digit-hex (n / 16 ^ 4 % 16) (at-below n (16 ^ 4))).1,
              (
                (digit-hex (n / 16 ^ 3 % 16) (at-below n (16 ^ 3))).1,
                (
                  (digit-hex (n / 16 ^ 2 % 16) (at-below n (16 ^ 2))).1,
                  (
                    (digit-hex (n / 16 ^ 1 % 16) (at-below n (16 ^ 1))).1,
                    ((digit-hex (n / 16 ^ 0 % 16) (at-below n (16 ^ 0))).1, tt),
                  ),
                ),
              ),
            ),
          ),
        ),
      ),
    ),
  )

  pub hexadecimal-kind : token_kind_of (hexadecimal n) ≡ Some (Number (pos n))
  unfolding hexadecimal
  hexadecimal-kind = ap (option_map Number) hexadecimal-number

-- the names of registers
pub register-found : (n : ℕ) → n < 32 → register_of (register n) ≡ Some n
unfolding register_rows digits
register-found zero l = refl
register-found (suc zero) l = refl
register-found (suc (suc zero)) l = refl
register-found (suc (suc (suc zero))) l = refl
register-found (suc (suc (suc (suc zero)))) l = refl
register-found (suc (suc (suc (suc (suc zero))))) l = refl
register-found (suc (suc (suc (suc (suc (suc zero)))))) l = refl
register-found (suc (suc (suc (suc (suc (suc (suc zero))))))) l = refl
register-found (suc (suc (suc (suc (suc (suc (suc (suc zero)))))))) l = refl
register-found (suc (suc (suc (suc (suc (suc (suc (suc (suc zero))))))))) l = refl
register-found (suc (suc (suc (suc (suc (suc (suc (suc (suc (suc zero)))))))))) l = refl
register-found (suc (suc (suc (suc (suc (suc (suc (suc (suc (suc (suc zero))))))))))) l = refl
register-found (suc (suc (suc (suc (suc (suc (suc (suc (suc (suc (suc (suc zero)))))))))))) l = refl
register-found (suc (suc (suc (suc (suc (suc (suc (suc (suc (suc (suc (suc (suc zero))))))))))))) l = refl
register-found (suc (suc (suc (suc (suc (suc (suc (suc (suc (suc (suc (suc (suc (suc zero)))))))))))))) l = refl
register-found (suc (suc (suc (suc (suc (suc (suc (suc (suc (suc (suc (suc (suc (suc (suc zero))))))))))))))) l = refl
register-found (suc (suc (suc (suc (suc (suc (suc (suc (suc (suc (suc (suc (suc (suc (suc (suc zero)))))))))))))))) l = refl
register-found (suc (suc (suc (suc (suc (suc (suc (suc (suc (suc (suc (suc (suc (suc (suc (suc (suc zero))))))))))))))))) l = refl
register-found (suc (suc (suc (suc (suc (suc (suc (suc (suc (suc (suc (suc (suc (suc (suc (suc (suc (suc zero)))))))))))))))))) l = refl
register-found (suc (suc (suc (suc (suc (suc (suc (suc (suc (suc (suc (suc (suc (suc (suc (suc (suc (suc (suc zero))))))))))))))))))) l = refl
register-found (suc (suc (suc (suc (suc (suc (suc (suc (suc (suc (suc (suc (suc (suc (suc (suc (suc (suc (suc (suc zero)))))))))))))))))))) l = refl
register-found (suc (suc (suc (suc (suc (suc (suc (suc (suc (suc (suc (suc (suc (suc (suc (suc (suc (suc (suc (suc (suc zero))))))))))))))))))))) l = refl
register-found (suc (suc (suc (suc (suc (suc (suc (suc (suc (suc (suc (suc (suc (suc (suc (suc (suc (suc (suc (suc (suc (suc zero)))))))))))))))))))))) l = refl
register-found (suc (suc (suc (suc (suc (suc (suc (suc (suc (suc (suc (suc (suc (suc (suc (suc (suc (suc (suc (suc (suc (suc (suc zero))))))))))))))))))))))) l = refl
register-found (suc (suc (suc (suc (suc (suc (suc (suc (suc (suc (suc (suc (suc (suc (suc (suc (suc (suc (suc (suc (suc (suc (suc (suc zero)))))))))))))))))))))))) l = refl
register-found (suc (suc (suc (suc (suc (suc (suc (suc (suc (suc (suc (suc (suc (suc (suc (suc (suc (suc (suc (suc (suc (suc (suc (suc (suc zero))))))))))))))))))))))))) l = refl
register-found (suc (suc (suc (suc (suc (suc (suc (suc (suc (suc (suc (suc (suc (suc (suc (suc (suc (suc (suc (suc (suc (suc (suc (suc (suc (suc zero)))))))))))))))))))))))))) l = refl
register-found (suc (suc (suc (suc (suc (suc (suc (suc (suc (suc (suc (suc (suc (suc (suc (suc (suc (suc (suc (suc (suc (suc (suc (suc (suc (suc (suc zero))))))))))))))))))))))))))) l = refl
register-found (suc (suc (suc (suc (suc (suc (suc (suc (suc (suc (suc (suc (suc (suc (suc (suc (suc (suc (suc (suc (suc (suc (suc (suc (suc (suc (suc (suc zero)))))))))))))))))))))))))))) l = refl
register-found (suc (suc (suc (suc (suc (suc (suc (suc (suc (suc (suc (suc (suc (suc (suc (suc (suc (suc (suc (suc (suc (suc (suc (suc (suc (suc (suc (suc (suc zero))))))))))))))))))))))))))))) l = refl
register-found (suc (suc (suc (suc (suc (suc (suc (suc (suc (suc (suc (suc (suc (suc (suc (suc (suc (suc (suc (suc (suc (suc (suc (suc (suc (suc (suc (suc (suc (suc zero)))))))))))))))))))))))))))))) l = refl
register-found (suc (suc (suc (suc (suc (suc (suc (suc (suc (suc (suc (suc (suc (suc (suc (suc (suc (suc (suc (suc (suc (suc (suc (suc (suc (suc (suc (suc (suc (suc (suc zero))))))))))))))))))))))))))))))) l = refl
register-found (suc (suc (suc (suc (suc (suc (suc (suc (suc (suc (suc (suc (suc (suc (suc (suc (suc (suc (suc (suc (suc (suc (suc (suc (suc (suc (suc (suc (suc (suc (suc (suc n)))))))))))))))))))))))))))))))) l = absurd (omega arith)

pub register-token : (n : ℕ) → n < 32 → IsWordToken (register n)
register-token n l = let d = IsDecimal-decimal n (omega arith) in (refl, d.words)

pub register-kind : (n : ℕ) → token_kind_of (register n) ≡ Some Name
register-kind n = refl
