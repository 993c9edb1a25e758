-- What holds of the lines and the lexemes of every text, for the laws in src/laws.rt.
use Rattle.std.specs.Prelude.{◌≡◌, ℕ, ◌+◌, ◌<◌, ◌≤◌, ◌==◌, Bool, false, not, ◌&&◌, ◌||◌, List, [], ◌∷◌, ◌++◌, length, take, drop, get_or, slice_get, slice_index, slice_range, nat_le, nat_lt, if◌then◌else◌, IsTrue, IsFalse, Some, All, sum_by, flat_map}
use Rattle.std.specs.List.{list_any, list_all, AllZip}
use Rattle.src_text.specs.Byte.{is_newline, is_blank, is_letter, is_word, is_mark, is_token_byte}
use Rattle.src_text.specs.Lexeme.{Lexeme, begins_token, front, before_comment, token_kind_of}
use Rattle.src_text.specs.Line.{cut, line_of, lines_of}
use Rattle.src_text.specs.declared.token.Token.{Token}
use Rattle.src_text.specs.declared.token.TokenKind.TheVariants.{Name}

-- a line with its newline
abbrev pub ended : List ℕ → List ℕ
ended line = line ++ 10 ∷ []

-- whether the last line lacks its newline
abbrev pub is_open : List ℕ → Bool
is_open [] = false
is_open (b ∷ []) = not (is_newline b)
is_open (b ∷ c ∷ bs) = is_open (c ∷ bs)

-- the lines with their newlines are the text, except for the last newline, which may be missing; no line holds one
pub record AreLinesOf (text : List ℕ) (lines : List (List ℕ)) : Type 0 where
  pub joined : flat_map ended lines ≡ text ++ (if is_open text then 10 ∷ [] else [])
  pub single : All (λ line. list_any is_newline line ≡ false) lines

-- where a line begins: after the lines before it and their newlines
abbrev pub line_start : ℕ → List (List ℕ) → ℕ
line_start k lines = sum_by (λ line. length line + 1) (take k lines)

-- the line of an index has the next number, and its bytes stand at its place of the text
pub record AreNumbered (text : List ℕ) : Type 0 where
  pub count : length (lines_of text) ≡ length (cut text)
  pub each : (k : ℕ) → k < length (cut text) → slice_get (lines_of text) k ≡ Some (line_of (k + 1) (line_start k (cut text)) (get_or (cut text) k []))
  pub bytes : (k : ℕ) → k < length (cut text) → slice_range text (line_start k (cut text)) (line_start k (cut text) + length (get_or (cut text) k [])) ≡ get_or (cut text) k []

-- the prefix is as long as a token can be: a mark alone, or a byte and all bytes of the word that follow it
pub record IsLongestToken (bytes front : List ℕ) : Type 0 where
  pub first : take (length front) bytes ≡ front
  pub some : 0 < length front
  pub mark : IsTrue (is_mark (slice_index bytes 0)) → length front ≡ 1
  pub word : All (λ b. IsTrue (is_word b)) (drop 1 front)
  pub stops : IsFalse (is_mark (slice_index bytes 0)) → IsFalse (is_word (slice_index bytes (length front)))

-- the lexeme stands at a byte of the code where a token begins, and is the prefix of what stands there
pub record StandsAt (place p : ℕ) (code : List ℕ) (l : Lexeme) : Type 0 where
  pub start : l.start ≡ place + p
  pub bytes : l.bytes ≡ front (drop p code)
  pub begun : IsTrue (begins_token (slice_index (32 ∷ code) p) (slice_index code p))

-- each lexeme begins at or after the end of the one before it, and none begins before `place`
abbrev pub AreBehindEachOther : ℕ → List Lexeme → Type 0
AreBehindEachOther from [] = Unit {0}
AreBehindEachOther from (l ∷ ls) = (from ≤ l.start) × AreBehindEachOther (l.start + length l.bytes) ls

-- whether a place is in a lexeme
abbrev pub covers : ℕ → Lexeme → Bool
covers place l = nat_le l.start place && nat_lt place (l.start + length l.bytes)

-- the lexemes of a line stand where tokens begin, one after the other, and leave out no byte of a token
pub record AreLexemesOf (place : ℕ) (line : List ℕ) (ls : List Lexeme) : Type 0 where
  pub stand : All (λ l. (p : ℕ) × StandsAt place p (before_comment line) l) ls
  pub apart : AreBehindEachOther place ls
  pub whole : (p : ℕ) → p < length (before_comment line) → IsTrue (is_token_byte (slice_index (before_comment line) p)) → IsTrue (list_any (covers (place + p)) ls)

-- the token says what the lexeme's bytes are and where they stand
pub record IsTokenOf (l : Lexeme) (t : Token) : Type 0 where
  pub kind : token_kind_of l.bytes ≡ Some t.kind
  pub start : t.start ≡ l.start
  pub end : t.end ≡ l.start + length l.bytes

-- one token for each lexeme, in their order
abbrev pub AreTokensOf : List Lexeme → List Token → Type 0
AreTokensOf ls ts = AllZip IsTokenOf ls ts

-- the bytes from the token's start to its end are a token of its kind
abbrev pub IsSliceOf : List ℕ → Token → Type 0
IsSliceOf text t = token_kind_of (slice_range text t.start t.end) ≡ Some t.kind

-- whether a place is in a token
abbrev pub takes_byte : ℕ → Token → Bool
takes_byte place t = nat_le t.start place && nat_lt place t.end

-- each token begins at or after the end of the one before it, and none begins before `place`
abbrev pub AreInOrder : ℕ → List Token → Type 0
AreInOrder from [] = Unit {0}
AreInOrder from (t ∷ ts) = (from ≤ t.start) × AreInOrder t.end ts

-- only blanks of the code are in no token
abbrev pub LeavesBlanks : ℕ → List ℕ → List Token → Type 0
LeavesBlanks place line ts = (p : ℕ) → p < length (before_comment line) → IsFalse (is_blank (slice_index (before_comment line) p)) → IsTrue (list_any (takes_byte (place + p)) ts)

-- whether bytes are a name: a letter, `_` or `.`, and then letters, digits, `_` and `.`
abbrev pub are_name_bytes : List ℕ → Bool
are_name_bytes [] = false
are_name_bytes (b ∷ bs) = (is_letter b || b == 95 || b == 46) && list_all is_word bs

-- the token's place is one of the text
abbrev pub IsPlaced : List ℕ → Token → Type 0
IsPlaced text t = (t.start ≤ t.end) × (t.end ≤ length text)

-- the bytes from a name token's start to its end are a name
abbrev pub HasNameBytes : List ℕ → Token → Type 0
HasNameBytes text t = t.kind ≡ Name → IsTrue (are_name_bytes (slice_range text t.start t.end))
