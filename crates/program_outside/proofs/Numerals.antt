-- A number that `get_one` reads is the one that its text writes.
use Rattle.std.proofs.Common.{refl, sym, ap, ◌∙◌, ◌≡◌, ◌<◌, ◌^◌, ◌&&◌, ℕ, Bool, true, false, nat_lt, List, [], ◌∷◌, Option, Some, None, Result, Ok, Err, if◌then◌else◌}
use Rattle.std.proofs.lemmas.Bool.{ltb-true, lt-ltb}
use Rattle.std.specs.List.{list_all}
use Rattle.std.specs.Char.{is_digit, digit_value}
use Rattle.std.specs.Str.Parse.{AllDigits, IsNumeral, ParsesUnsigned, digits_value, without_leading_plus}
use Rattle.clap.specs.Words.{ReadsOne}
use Rattle.program_outside.specs.Numbers.{is_numeral, number_in_text}

both : (a b : Bool) → a && b ≡ true → (a ≡ true) × (b ≡ true)
both true b e = (refl, e)
both false b e = absurd cc

digits_hold : (ds : List ℕ) → AllDigits 10 ds → list_all (λ c. is_digit c 10) ds ≡ true
digits_hold [] h = refl
digits_hold (c ∷ cs) h = rw (lt-ltb (digit_value c) 10 h.0) (digits_hold cs h.1)

digits_back : (ds : List ℕ) → list_all (λ c. is_digit c 10) ds ≡ true → AllDigits 10 ds
digits_back [] e = tt
digits_back (c ∷ cs) e =
    let parts = both _ _ e in
    (ltb-true _ _ parts.0, digits_back cs parts.1)

-- the test of the definition holds exactly of the numerals below 2^32
holds : (ds : List ℕ) → IsNumeral 10 ds → digits_value 10 ds < 2 ^ 32 → (is_numeral ds && nat_lt (digits_value 10 ds) (2 ^ 32)) ≡ true
holds ds h small = rw (lt-ltb _ _ h.0, digits_hold ds h.1, lt-ltb _ _ small) refl

back : (ds : List ℕ) → (is_numeral ds && nat_lt (digits_value 10 ds) (2 ^ 32)) ≡ true → IsNumeral 10 ds × (digits_value 10 ds < 2 ^ 32)
back ds e =
    let parts = both _ _ e in
    let numeral = both _ _ parts.0 in
    ((ltb-true _ _ numeral.0, digits_back ds numeral.1), ltb-true _ _ parts.1)

found : (test : Bool) (n : ℕ) → test ≡ true → (if test then Some n else None) ≡ Some n
found true n e = refl
found false n e = absurd cc

lost : (test : Bool) (n : ℕ) → ¬ (test ≡ true) → (if test then Some n else None) ≡ None
lost true n fails = absurd (fails refl)
lost false n fails = refl

-- what `get_one` reads of a text at `u32`
pub reads_number : {E : Type 0} → (gives : List ℕ → Result ℕ E → Type 0) → ((text : List ℕ) (r : Result ℕ E) → gives text r → ParsesUnsigned 32 10 text r)
    → (text : List ℕ) (read : Option ℕ) → ReadsOne gives text read → read ≡ number_in_text text
unfolding number_in_text
reads_number gives parses text (Some v) h =
    let parsed = parses text (Ok v) h in
    ap Some parsed.1 ∙ sym (found _ _ (holds (without_leading_plus text) parsed.0.0 parsed.0.1))
reads_number gives parses text None h =
    let failed = parses text (Err h.0) h.1 in
    sym (lost _ _ (λ e. failed (back (without_leading_plus text) e)))
