-- The lexemes of a line: the bytes of its tokens, each with the place of its first byte.
use Rattle.std.specs.Prelude.{ℕ, ◌+◌, Bool, not, ◌&&◌, ◌||◌, List, [], ◌∷◌, ◌++◌, length, slice_index, ◌==◌, if◌then◌else◌, is_none, Option, Some, option_map, take_while}
use Rattle.std.specs.List.{before_first}
use Rattle.src_text.specs.Byte.{is_word, is_mark, is_minus, is_digit, is_hash}
use Rattle.src_text.specs.Number.{number_of}
use Rattle.src_text.specs.declared.token.Token.{Token}
use Rattle.src_text.specs.declared.token.Span.{Span}
use Rattle.src_text.specs.declared.token.TokenKind.{TokenKind}
use Rattle.src_text.specs.declared.token.TokenKind.TheVariants.{Name, Number, Comma, Colon, Left, Right}

pub record Lexeme : Type 0 where
  pub start : ℕ
  pub bytes : List ℕ

-- whether a word or a number may go on after such a byte
abbrev pub continues_token : ℕ → Bool
continues_token before = is_word before || is_minus before

-- whether a token begins at a byte. A mark or a minus always begins one. A byte of a word begins one if it doesn't continue the
-- word or number before it
abbrev pub begins_token : ℕ → ℕ → Bool
begins_token before b = is_mark b || is_minus b || (is_word b && not (continues_token before))

-- the bytes of the first token: a mark alone, else the longest run of bytes of a word
abbrev pub front : List ℕ → List ℕ
front [] = []
front (b ∷ bs) = if is_mark b then b ∷ [] else b ∷ take_while is_word bs

-- the lexemes of the bytes from a position on, where `before` is the byte before them
abbrev pub lexemes_after : ℕ → ℕ → List ℕ → List Lexeme
lexemes_after before place [] = []
lexemes_after before place (b ∷ bs) =
    (if begins_token before b then record { start = place; bytes = front (b ∷ bs) } ∷ [] else []) ++ lexemes_after b (place + 1) bs

-- what stands before the comment, which `#` begins
abbrev pub before_comment : List ℕ → List ℕ
before_comment line = before_first is_hash line

-- the lexemes of a line that begins at this position; the first byte counts as standing after a blank
abbrev pub lexemes_of : ℕ → List ℕ → List Lexeme
lexemes_of place line = lexemes_after 32 place (before_comment line)

-- the kind of token that the bytes are; none if they begin as a number and aren't one
abbrev pub token_kind_of : List ℕ → Option TokenKind
token_kind_of bs =
    let b = slice_index bs 0 in
    if b == 44 then Some Comma
    else (if b == 58 then Some Colon
    else (if b == 40 then Some Left
    else (if b == 41 then Some Right
    else (if is_digit b || is_minus b then option_map Number (number_of bs)
    else Some Name))))

abbrev pub is_bad_number : Lexeme → Bool
is_bad_number l = is_none (token_kind_of l.bytes)

-- where a lexeme stands
abbrev pub span_of : Lexeme → Span
span_of l = record { start = l.start; end = l.start + length l.bytes }

-- the token of a lexeme: from the position of its first byte to the position after its last
abbrev pub token_of : Lexeme → Option Token
token_of l = option_map (λ k. record { kind = k; start = l.start; end = l.start + length l.bytes }) (token_kind_of l.bytes)
