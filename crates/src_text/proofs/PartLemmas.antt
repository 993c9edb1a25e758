-- The names of a text.
use Rattle.std.proofs.Common.{◌≡◌, ℕ, ◌+◌, ◌-◌, ◌<◌, Bool, true, false, cond, not, ◌&&◌, ◌||◌, eqb, ℤ, List, [], ◌∷◌, ◌++◌, length, take, drop, get_or, Option, Some, None, refl, sym, ◌∙◌, ap, subst, arith}
use Rattle.std.specs.List.{All, list_all, take_while, slice_range, filter_map, AllZip, position_or_len}
use Rattle.std.specs.Option.{option_map}
use Rattle.std.proofs.lemmas.Option.{same_Some, slice_get-get_or}
use Rattle.std.proofs.lemmas.List.{take-append-drop, drop_more, length-take, length-drop}
use Rattle.std.proofs.lemmas.List.Sums.{take_while-cons}
use Rattle.std.proofs.lemmas.List.Elements.{All-nil, All-cons, All-head, All-tail, All-weaker}
use Rattle.src_text.specs.Byte.{is_hash, is_letter, is_digit, is_minus, is_mark, is_word}
use Rattle.src_text.specs.Number.{number_of}
use Rattle.src_text.specs.Lexeme.{Lexeme, continues_token, begins_token, front, lexemes_of, before_comment, token_kind_of, token_of}
use Rattle.src_text.specs.Line.{cut, line_of, line_with, lines_of, fault_of}
use Rattle.src_text.specs.Laws.{line_start, StandsAt, IsTokenOf, are_name_bytes, IsPlaced, HasNameBytes}
use Rattle.src_text.specs.declared.token.Token.{Token}
use Rattle.src_text.specs.declared.token.TokenKind.TheVariants.{Name, Number, Comma, Colon, Left, Right}
use Rattle.src_text.specs.declared.line.Line.{Line}
use Rattle.src_text.specs.declared.line.LineFault.{LineFault}
use Rattle.src_text.proofs.LawLemmas.{AreLexemesOf-lexemes_of, AreTokensOf-line_of, IsLongest-front}
use Rattle.src_text.proofs.CutLemmas.{AreNumbered-lines_of}
use Rattle.src_text.proofs.SliceLemmas.{within_code, slice_of_lexeme, same_tokens, in_the_text}

record AreNone (a b c d e : Bool) : Type 0 where
  comma : a ≡ false
  colon : b ≡ false
  left : c ≡ false
  right : d ≡ false
  number : e ≡ false

no_number : (x : Option ℤ) → option_map Number x ≡ Some Name → ⊥
no_number None e = cc
no_number (Some n) e = cc

none_of : (a b c d e : Bool) (x : Option ℤ) → cond a (Some Comma) (cond b (Some Colon) (cond c (Some Left) (cond d (Some Right) (cond e (option_map Number x) (Some Name))))) ≡ Some Name → AreNone a b c d e
none_of true b c d e x is = absurd cc
none_of false true c d e x is = absurd cc
none_of false false true d e x is = absurd cc
none_of false false false true e x is = absurd cc
none_of false false false false true x is = absurd (no_number x is)
none_of false false false false false x is = record { comma = refl; colon = refl; left = refl; right = refl; number = refl }

-- the first byte of a token that is no mark and no number
first_of : (m n l d u p g : Bool) → m ≡ false → (d || n) ≡ false → (m || n || ((l || d || u || p) && not g)) ≡ true → (l || u || p) ≡ true
first_of true n l d u p g a b c = absurd cc
first_of false true l true u p g a b c = absurd cc
first_of false true l false u p g a b c = absurd cc
first_of false false l true u p g a b c = absurd cc
first_of false false true false u p g a b c = refl
first_of false false false false true p g a b c = refl
first_of false false false false false true g a b c = refl
first_of false false false false false false g a b c = absurd cc

goes_step : (b : ℕ) (rest : List ℕ) (c : Bool) → is_word b ≡ c → list_all is_word rest ≡ true → list_all is_word (cond c (b ∷ rest) []) ≡ true
goes_step b rest true e all = ap (λ (x : Bool). x && list_all is_word rest) e ∙ all
goes_step b rest false e all = refl

goes-on : (bs : List ℕ) → list_all is_word (take_while is_word bs) ≡ true
goes-on [] = refl
goes-on (b ∷ bs) = ap (list_all is_word) (take_while-cons is_word b bs) ∙ goes_step b (take_while is_word bs) (is_word b) refl (goes-on bs)

no_mark_of : (a b c d : Bool) → a ≡ false → b ≡ false → c ≡ false → d ≡ false → (a || b || c || d) ≡ false
no_mark_of a b c d e f g h = rw (e, f, g, h) refl

-- a token that is a name is made of a name's bytes
named-front : (before b : ℕ) (bs : List ℕ) → begins_token before b ≡ true → token_kind_of (front (b ∷ bs)) ≡ Some Name → are_name_bytes (front (b ∷ bs)) ≡ true
named-front before b bs begun kind = by_mark (is_mark b) refl kind
  where
    by_mark : (m : Bool) → is_mark b ≡ m → token_kind_of (cond m (b ∷ []) (b ∷ take_while is_word bs)) ≡ Some Name → are_name_bytes (cond m (b ∷ []) (b ∷ take_while is_word bs)) ≡ true
    by_mark true mark is =
        let n = none_of (eqb b 44) (eqb b 58) (eqb b 40) (eqb b 41) (is_digit b || is_minus b) (number_of (b ∷ [])) is in
        let none : is_mark b ≡ false = no_mark_of (eqb b 44) (eqb b 58) (eqb b 40) (eqb b 41) n.comma n.colon n.left n.right in
        absurd cc
    by_mark false mark is =
        let n = none_of (eqb b 44) (eqb b 58) (eqb b 40) (eqb b 41) (is_digit b || is_minus b) (number_of (b ∷ take_while is_word bs)) is in
        let first : (is_letter b || eqb b 95 || eqb b 46) ≡ true = first_of (is_mark b) (is_minus b) (is_letter b) (is_digit b) (eqb b 95) (eqb b 46) (continues_token before) mark n.number begun in
        ap (λ (x : Bool). x && list_all is_word (take_while is_word bs)) first ∙ goes-on bs

named-lexeme : (place p : ℕ) (code : List ℕ) (l : Lexeme) → StandsAt place p code l → token_kind_of l.bytes ≡ Some Name → are_name_bytes l.bytes ≡ true
named-lexeme place p code l stands kind =
    let within = within_code p code stands.begun in
    let bytes : l.bytes ≡ front (get_or code p 0 ∷ drop (p + 1) code) = stands.bytes ∙ ap front (drop_more code p 0 within) in
    ap are_name_bytes bytes ∙ named-front (get_or (32 ∷ code) p 0) (get_or code p 0) (drop (p + 1) code) stands.begun (ap token_kind_of (sym bytes) ∙ kind)

-- the bytes of a lexeme in the text, which are a name where its token is one
record IsNamedLexeme (text : List ℕ) (l : Lexeme) : Type 0 where
  some : 0 < length l.bytes
  slice : slice_range text l.start (l.start + length l.bytes) ≡ l.bytes
  named : token_kind_of l.bytes ≡ Some Name → are_name_bytes l.bytes ≡ true

some-bytes : (place p : ℕ) (code : List ℕ) (l : Lexeme) → StandsAt place p code l → 0 < length l.bytes
some-bytes place p code l stands =
    let within = within_code p code stands.begun in
    let bytes : length l.bytes ≡ length (front (get_or code p 0 ∷ drop (p + 1) code)) = ap length (stands.bytes ∙ ap front (drop_more code p 0 within)) in
    rw bytes ((IsLongest-front (get_or code p 0) (drop (p + 1) code)).some)

-- a token's place is one of the text, and where it is a name its bytes are one
pub record IsPart (text : List ℕ) (t : Token) : Type 0 where
  pub placed : IsPlaced text t
  pub named : HasNameBytes text t

part : (text : List ℕ) (l : Lexeme) (t : Token) → IsNamedLexeme text l → IsTokenOf l t → IsPart text t
part text l t h is =
    let count : length (take (l.start + length l.bytes - l.start) (drop l.start text)) ≡ length l.bytes = ap length h.slice in
    record {
      placed = (
        omega (arith, is.start, is.end),
        omega (arith, is.end, h.some, count, length-take (l.start + length l.bytes - l.start) (drop l.start text), length-drop l.start text),
      );
      named = λ name.
          ap are_name_bytes (ap (λ (n : ℕ). slice_range text n t.end) is.start ∙ ap (slice_range text l.start) is.end ∙ h.slice)
          ∙ h.named (is.kind ∙ ap Some name);
    }

parts : (text : List ℕ) (ls : List Lexeme) (ts : List Token) → All (IsNamedLexeme text) ls → AllZip IsTokenOf ls ts → All (IsPart text) ts
parts text [] [] all zip = All-nil (IsPart text)
parts text [] (t ∷ ts) all zip = absurd zip
parts text (l ∷ ls) [] all zip = absurd zip
parts text (l ∷ ls) (t ∷ ts) all zip =
    All-cons (IsPart text) t ts
    (part text l t (All-head (IsNamedLexeme text) l ls all) zip.0)
    (parts text ls ts (All-tail (IsNamedLexeme text) l ls all) zip.1)

by_fault : (text : List ℕ) (number : ℕ) (ts : List Token) (f : Option LineFault) → (f ≡ None → All (IsPart text) ts) → All (IsPart text) (line_with number ts f).tokens
by_fault text number ts None good = good refl
by_fault text number ts (Some f) good = All-nil (IsPart text)

parts_of_line : (text line rest : List ℕ) (number place : ℕ) → drop place text ≡ line ++ rest → All (IsPart text) (line_of number place line).tokens
parts_of_line text line rest number place in_text =
    let ls = lexemes_of place line in
    let stand = All-weaker (λ (l : Lexeme). (p : ℕ) × StandsAt place p (before_comment line) l) (IsNamedLexeme text)
    (λ l s. record {
      some = some-bytes place s.0 (before_comment line) l s.1;
      slice = slice_of_lexeme text line (before_comment line) (drop (position_or_len is_hash line) line) rest place s.0 l (sym (take-append-drop (position_or_len is_hash line) line)) in_text s.1;
      named = named-lexeme place s.0 (before_comment line) l s.1;
    }) ls (AreLexemesOf-lexemes_of place line).stand in
    by_fault text number (filter_map token_of ls) (fault_of number line)
    (λ none. parts text ls (filter_map token_of ls) stand
    (subst (AllZip IsTokenOf ls) (sym (same_tokens number (filter_map token_of ls) (fault_of number line) none)) (AreTokensOf-line_of number place line none)))

pub AreParts-lines_of : (text : List ℕ) → All (λ line. All (IsPart text) line.tokens) (lines_of text)
AreParts-lines_of text = λ k d short.
    let numbered = AreNumbered-lines_of text in
    let line = get_or (cut text) k [] in
    let place = line_start k (cut text) in
    let within : k < length (cut text) = omega (arith, numbered.count) in
    let is : get_or (lines_of text) k d ≡ line_of (k + 1) place line = same_Some _ _ (sym (slice_get-get_or (lines_of text) k d short) ∙ numbered.each k within) in
    subst (λ (l : Line). All (IsPart text) l.tokens) (sym is) (parts_of_line text line (drop (length line) (drop place text)) (k + 1) place (in_the_text text line place (numbered.bytes k within)))

pub ArePlaced-lines_of : (text : List ℕ) → All (λ (line : Line). All (IsPlaced text) line.tokens) (lines_of text)
ArePlaced-lines_of text =
    All-weaker (λ (line : Line). All (IsPart text) line.tokens) (λ (line : Line). All (IsPlaced text) line.tokens)
    (λ line. All-weaker (IsPart text) (IsPlaced text) (λ t h. h.placed) line.tokens) (lines_of text) (AreParts-lines_of text)

pub AreNamed-lines_of : (text : List ℕ) → All (λ (line : Line). All (HasNameBytes text) line.tokens) (lines_of text)
AreNamed-lines_of text =
    All-weaker (λ (line : Line). All (IsPart text) line.tokens) (λ (line : Line). All (HasNameBytes text) line.tokens)
    (λ line. All-weaker (IsPart text) (HasNameBytes text) (λ t h. h.named) line.tokens) (lines_of text) (AreParts-lines_of text)
