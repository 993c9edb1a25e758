-- What holds of the lines and the lexemes of every text.
use Rattle.std.proofs.Common.{◌≡◌, ◌⊎◌, inl, inr, ℕ, zero, suc, ◌+◌, ◌<◌, ◌≤◌, Bool, true, false, cond, not, leb, ltb, ◌||◌, ◌&&◌, List, [], ◌∷◌, ◌++◌, length, take, drop, get_or, Option, Some, None, refl, sym, ◌∙◌, ap, subst, arith}
use Rattle.std.specs.List.{list_any, AllZip, All, prefix_len, filter_map, cons_option, take_while}
use Rattle.std.specs.Option.{option_map, is_none}
use Rattle.std.proofs.lemmas.Bool.{cases_lt, cases_Bool}
use Rattle.std.proofs.lemmas.Bool.Decides.{nat_tests}
use Rattle.std.proofs.lemmas.List.{get_or_past, get_or-take}
use Rattle.std.proofs.lemmas.List.Sums.{prefix_len_stops, prefix_len_passes}
use Rattle.std.proofs.lemmas.List.Folds.{length-prefix_len, list_any_at}
use Rattle.std.proofs.lemmas.List.Elements.{All-nil, All-cons, All-append, All-weaker}
use Rattle.src_text.specs.Byte.{is_word, is_mark, is_blank, is_bad, is_token_byte}
use Rattle.src_text.specs.Lexeme.{Lexeme, begins_token, front, lexemes_after, lexemes_of, before_comment, token_kind_of, token_of, is_bad_number}
use Rattle.src_text.specs.Line.{line_of, line_with, fault_of, is_over_limit}
use Rattle.src_text.specs.Laws.{IsLongestToken, StandsAt, AreBehindEachOther, AreInOrder, LeavesBlanks, covers, takes_byte, AreLexemesOf, IsTokenOf, AreTokensOf}
use Rattle.src_text.specs.declared.token.Token.{Token}
use Rattle.src_text.specs.declared.token.TokenKind.{TokenKind}
use Rattle.src_text.specs.declared.line.LineFault.{LineFault}
use Rattle.src_text.specs.declared.line.LineFault.TheVariants.{BadByte, BadNumber, LineLimit}
use Rattle.src_text.proofs.LexemeLemmas.{bad_number_anywhere}
use Rattle.src_text.proofs.ByteLemmas.{reach, begins_ends, begins_there, length-front, reach_back, reach_on}

-- lexemes that are one behind the other, at a byte

apart_step : (c : Bool) (from : ℕ) (x : Lexeme) (rest : List Lexeme) → (c ≡ true → (from ≤ x.start) × AreBehindEachOther (x.start + length x.bytes) rest) → (c ≡ false → AreBehindEachOther from rest) → AreBehindEachOther from (cond c (x ∷ []) [] ++ rest)
apart_step true from x rest here past = here refl
apart_step false from x rest here past = past refl

apart_after : (before place from : ℕ) (bs : List ℕ) → from ≤ place + reach before bs → AreBehindEachOther from (lexemes_after before place bs)
apart_after before place from [] low = tt
apart_after before place from (b ∷ bs) low =
    apart_step (begins_token before b) from (record { start = place; bytes = front (b ∷ bs) }) (lexemes_after b (place + 1) bs)
    (λ begun. let none = begins_ends before b bs begun in let long = length-front before b bs begun in
    (omega arith, apart_after b (place + 1) (place + length (front (b ∷ bs))) bs (omega arith)))
    (λ past. apart_after b (place + 1) from bs (let on = reach_on before b bs in omega arith))

-- every byte of a token is in a lexeme

or_right : (x : Bool) → (x || true) ≡ true
or_right true = refl
or_right false = refl

covers_step : (c : Bool) (p : ℕ) (x : Lexeme) (rest : List Lexeme) → (c ≡ true → (covers p x ≡ true) ⊎ (list_any (covers p) rest ≡ true)) → (c ≡ false → list_any (covers p) rest ≡ true) → list_any (covers p) (cond c (x ∷ []) [] ++ rest) ≡ true
covers_step true p x rest here past = elim (here refl) [
  | inl first ↦ ap (λ (t : Bool). t || list_any (covers p) rest) first
  | inr later ↦ ap (λ (t : Bool). covers p x || t) later ∙ or_right (covers p x)
]
covers_step false p x rest here past = past refl

covers_at : (p start : ℕ) (bytes : List ℕ) → start ≤ p → p < start + length bytes → covers p (record { start = start; bytes = bytes }) ≡ true
covers_at p start bytes low high = grind (arith, nat_tests)

covered_after : (before place : ℕ) (bs : List ℕ) (p : ℕ) → p < length bs → is_token_byte (get_or bs p 0) ≡ true → reach before bs ≤ p → list_any (covers (place + p)) (lexemes_after before place bs) ≡ true
covered_after before place [] p short solid low = absurd (omega arith)
covered_after before place (b ∷ bs) zero short solid low =
    covers_step (begins_token before b) (place + 0) (record { start = place; bytes = front (b ∷ bs) }) (lexemes_after b (place + 1) bs)
    (λ begun. let long = length-front before b bs begun in inl (covers_at (place + 0) place (front (b ∷ bs)) (omega arith) (omega arith)))
    (λ past. let begun = begins_there before b bs solid low in cc)
covered_after before place (b ∷ bs) (suc q) short solid low =
    let same : place + 1 + q ≡ place + suc q = omega arith in
    let rest : reach b bs ≤ q → list_any (covers (place + suc q)) (lexemes_after b (place + 1) bs) ≡ true =
    λ reached. subst (λ (w : ℕ). list_any (covers w) (lexemes_after b (place + 1) bs) ≡ true) same (covered_after b (place + 1) bs q (omega arith) solid reached) in
    covers_step (begins_token before b) (place + suc q) (record { start = place; bytes = front (b ∷ bs) }) (lexemes_after b (place + 1) bs)
    (λ begun. let long = length-front before b bs begun in
    elim (cases_lt (suc q) (length (front (b ∷ bs)))) [
      | inl within ↦ inl (covers_at (place + suc q) place (front (b ∷ bs)) (omega arith) (omega arith))
      | inr behind ↦ inr (rest (omega arith))
    ])
    (λ past. let back = reach_back before b bs past in rest (omega arith))

-- each lexeme stands where a token begins

abbrev Stands : ℕ → ℕ → List ℕ → Lexeme → Type 0
Stands before place code l = (p : ℕ) × (l.start ≡ place + p) × (l.bytes ≡ front (drop p code)) × (begins_token (get_or (before ∷ code) p 0) (get_or code p 0) ≡ true)

stands_first : (before place b : ℕ) (bs : List ℕ) (c : Bool) → begins_token before b ≡ c → All (Stands before place (b ∷ bs)) (cond c (record { start = place; bytes = front (b ∷ bs) } ∷ []) [])
stands_first before place b bs true begun = All-cons (Stands before place (b ∷ bs)) _ [] (0, omega arith, refl, begun) (All-nil (Stands before place (b ∷ bs)))
stands_first before place b bs false begun = All-nil (Stands before place (b ∷ bs))

stands_after : (before place : ℕ) (bs : List ℕ) → All (Stands before place bs) (lexemes_after before place bs)
stands_after before place [] = All-nil (Stands before place [])
stands_after before place (b ∷ bs) =
    All-append (Stands before place (b ∷ bs)) _ (lexemes_after b (place + 1) bs)
    (stands_first before place b bs (begins_token before b) refl)
    (All-weaker (Stands b (place + 1) bs) (Stands before place (b ∷ bs)) (λ l s. (suc s.0, omega (arith, s.1), s.2, s.3)) (lexemes_after b (place + 1) bs) (stands_after b (place + 1) bs))

pub AreLexemesOf-lexemes_of : (place : ℕ) (line : List ℕ) → AreLexemesOf place line (lexemes_of place line)
AreLexemesOf-lexemes_of place line = record {
  stand = All-weaker (Stands 32 place (before_comment line)) (λ l. (p : ℕ) × StandsAt place p (before_comment line) l) (λ l s. (s.0, record { start = s.1; bytes = s.2; begun = s.3 })) (lexemes_of place line) (stands_after 32 place (before_comment line));
  apart = apart_after 32 place place (before_comment line) (omega arith);
  whole = λ p short solid. covered_after 32 place (before_comment line) p short solid (omega arith);
}

-- a token is as long as it can be

words : (bs : List ℕ) → All (λ b. is_word b ≡ true) (take_while is_word bs)
words bs = λ k d short. let long = length-prefix_len is_word bs in rw (get_or-take (prefix_len is_word bs) bs k d (omega arith)) (prefix_len_passes is_word bs k d (omega arith))

stops_behind : (bs : List ℕ) → is_word (get_or bs (prefix_len is_word bs) 0) ≡ false
stops_behind bs = elim (cases_lt (prefix_len is_word bs) (length bs)) [
  | inl within ↦ prefix_len_stops is_word bs 0 within
  | inr past ↦ ap is_word (get_or_past bs (prefix_len is_word bs) 0 past)
]

longest : (m : Bool) (b : ℕ) (bs : List ℕ) → is_mark b ≡ m → IsLongestToken (b ∷ bs) (cond m (b ∷ []) (b ∷ take_while is_word bs))
longest true b bs mark = record {
  first = refl;
  some = omega arith;
  mark = λ _. refl;
  word = All-nil (λ b. is_word b ≡ true);
  stops = λ no_mark. cc;
}
longest false b bs mark =
    let long = length-prefix_len is_word bs in
    record {
      first = ap (λ (n : ℕ). b ∷ take n bs) long;
      some = omega arith;
      mark = λ is. cc;
      word = words bs;
      stops = λ _. ap (λ (n : ℕ). is_word (get_or bs n 0)) long ∙ stops_behind bs;
    }

pub IsLongest-front : (b : ℕ) (bs : List ℕ) → IsLongestToken (b ∷ bs) (front (b ∷ bs))
IsLongest-front b bs = longest (is_mark b) b bs refl

-- a line's tokens

or_false : (a b : Bool) → (a || b) ≡ false → (a ≡ false) × (b ≡ false)
or_false true b none = cc
or_false false b none = (refl, none)

zip_step : (o : Option TokenKind) (l : Lexeme) (ls : List Lexeme) (ts : List Token) → token_kind_of l.bytes ≡ o → is_none o ≡ false → AllZip IsTokenOf ls ts → AllZip IsTokenOf (l ∷ ls) (cons_option (option_map (λ k. record { kind = k; start = l.start; end = l.start + length l.bytes }) o) ts)
zip_step None l ls ts kind good rest = cc
zip_step (Some k) l ls ts kind good rest = (record { kind = kind; start = refl; end = refl }, rest)

zip_all : (ls : List Lexeme) → list_any is_bad_number ls ≡ false → AllZip IsTokenOf ls (filter_map token_of ls)
zip_all [] good = tt
zip_all (l ∷ ls) good =
    let parts = or_false (is_bad_number l) (list_any is_bad_number ls) good in
    zip_step (token_kind_of l.bytes) l ls (filter_map token_of ls) refl parts.0 (zip_all ls parts.1)

no_bad_number : (a b c : Bool) (x y z : LineFault) → cond a (Some x) (cond b (Some y) (cond c (Some z) None)) ≡ None → b ≡ false
no_bad_number true b c x y z none = cc
no_bad_number false true c x y z none = cc
no_bad_number false false c x y z none = refl

pub AreTokensOf-line_of : (number place : ℕ) (line : List ℕ) → fault_of number line ≡ None → AreTokensOf (lexemes_of place line) (line_of number place line).tokens
AreTokensOf-line_of number place line none =
    let good = no_bad_number _ _ _ _ _ _ none in
    let here = bad_number_anywhere 32 place 0 (before_comment line) ∙ good in
    let ts = filter_map token_of (lexemes_of place line) in
    subst (λ (f : Option LineFault). AreTokensOf (lexemes_of place line) (line_with number ts f).tokens) (sym none) (zip_all (lexemes_of place line) here)

-- the tokens stand where their lexemes do

order_of : (from : ℕ) (ls : List Lexeme) (ts : List Token) → AllZip IsTokenOf ls ts → AreBehindEachOther from ls → AreInOrder from ts
order_of from [] [] zip apart = tt
order_of from [] (t ∷ ts) zip apart = absurd zip
order_of from (l ∷ ls) [] zip apart = absurd zip
order_of from (l ∷ ls) (t ∷ ts) zip apart =
    (omega (arith, zip.0.start, apart.0), subst (λ (n : ℕ). AreInOrder n ts) (sym zip.0.end) (order_of (l.start + length l.bytes) ls ts zip.1 apart.1))

order_by : (number place : ℕ) (ls : List Lexeme) (ts : List Token) (f : Option LineFault) → (f ≡ None → AllZip IsTokenOf ls (line_with number ts f).tokens) → AreBehindEachOther place ls → AreInOrder place (line_with number ts f).tokens
order_by number place ls ts None zip apart = order_of place ls ts (zip refl) apart
order_by number place ls ts (Some f) zip apart = tt

pub AreInOrder-line_of : (number place : ℕ) (line : List ℕ) → AreInOrder place (line_of number place line).tokens
AreInOrder-line_of number place line =
    order_by number place (lexemes_of place line) (filter_map token_of (lexemes_of place line)) (fault_of number line) (AreTokensOf-line_of number place line) (AreLexemesOf-lexemes_of place line).apart

holds_as : (p : ℕ) (l : Lexeme) (t : Token) → IsTokenOf l t → covers p l ≡ takes_byte p t
holds_as p l t is = ap (λ (n : ℕ). leb n p && ltb p (l.start + length l.bytes)) (sym is.start) ∙ ap (λ (n : ℕ). leb t.start p && ltb p n) (sym is.end)

holds_all : (p : ℕ) (ls : List Lexeme) (ts : List Token) → AllZip IsTokenOf ls ts → list_any (covers p) ls ≡ list_any (takes_byte p) ts
holds_all p [] [] zip = refl
holds_all p [] (t ∷ ts) zip = absurd zip
holds_all p (l ∷ ls) [] zip = absurd zip
holds_all p (l ∷ ls) (t ∷ ts) zip = ap (λ (b : Bool). b || list_any (covers p) ls) (holds_as p l t zip.0) ∙ ap (λ (b : Bool). takes_byte p t || b) (holds_all p ls ts zip.1)

no_bad_byte : (a b c : Bool) (x y z : LineFault) → cond a (Some x) (cond b (Some y) (cond c (Some z) None)) ≡ None → a ≡ false
no_bad_byte true b c x y z none = cc
no_bad_byte false b c x y z none = refl

good_byte : (code : List ℕ) (p : ℕ) → list_any is_bad code ≡ false → p < length code → is_bad (get_or code p 0) ≡ false
good_byte code p good short = elim (cases_Bool (is_bad (get_or code p 0))) [
  | inl bad ↦ let found = list_any_at is_bad code p 0 short bad in cc
  | inr fine ↦ fine
]

token_byte : (a b : Bool) → not (a || b) ≡ false → a ≡ false → b ≡ true
token_byte true b good blank = cc
token_byte false true good blank = refl
token_byte false false good blank = cc

pub LeavesBlanks-line_of : (number place : ℕ) (line : List ℕ) → fault_of number line ≡ None → LeavesBlanks place line (line_of number place line).tokens
LeavesBlanks-line_of number place line none = λ p short not_blank.
    let clean : list_any is_bad (before_comment line) ≡ false = no_bad_byte (list_any is_bad (before_comment line)) (list_any is_bad_number (lexemes_of 0 line)) (is_over_limit number line) BadByte BadNumber LineLimit none in
    let good = good_byte (before_comment line) p clean short in
    let solid = token_byte (is_blank (get_or (before_comment line) p 0)) (is_token_byte (get_or (before_comment line) p 0)) good not_blank in
    sym (holds_all (place + p) (lexemes_of place line) (line_of number place line).tokens (AreTokensOf-line_of number place line none)) ∙ (AreLexemesOf-lexemes_of place line).whole p short solid
