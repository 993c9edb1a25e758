-- The lines of a text.
use Rattle.std.specs.Prelude.{◌≡◌, ℕ, ◌+◌, Bool, ◌||◌, List, [], ◌∷◌, length, nat_lt, if◌then◌else◌, Option, Some, None, filter_map}
use Rattle.std.specs.List.{list_any}
use Rattle.src_text.specs.Byte.{is_newline, is_bad}
use Rattle.src_text.specs.Lexeme.{before_comment, lexemes_of, is_bad_number, token_of}
use Rattle.src_text.specs.declared.line.Line.{Line}
use Rattle.src_text.specs.declared.token.Token.{Token}
use Rattle.src_text.specs.declared.line.LineFault.{LineFault}
use Rattle.src_text.specs.declared.line.LineFault.TheVariants.{BadByte, BadNumber, LineLimit}

-- a byte before the first of some lines
abbrev pub onto_first : ℕ → List (List ℕ) → List (List ℕ)
onto_first b [] = (b ∷ []) ∷ []
onto_first b (l ∷ ls) = (b ∷ l) ∷ ls

-- a text cut at each newline; what follows the last newline is a line only if it has a byte
abbrev pub cut : List ℕ → List (List ℕ)
cut [] = []
cut (b ∷ bs) = if is_newline b then [] ∷ cut bs else onto_first b (cut bs)

-- a line has at most 1,024 bytes, and a text at most 65,536 lines
abbrev pub is_over_limit : ℕ → List ℕ → Bool
is_over_limit number line = nat_lt 1024 (length line) || nat_lt 65536 number

-- what is wrong with a line: the first of these three faults that it has
abbrev pub fault_of : ℕ → List ℕ → Option LineFault
fault_of number line =
    if list_any is_bad (before_comment line) then Some BadByte
    else (if list_any is_bad_number (lexemes_of 0 line) then Some BadNumber
    else (if is_over_limit number line then Some LineLimit
    else None))

-- a line of this number; with a fault it has no tokens
abbrev pub line_with : ℕ → List Token → Option LineFault → Line
line_with number tokens None = record { number = number; tokens = tokens; fault = None }
line_with number tokens (Some fault) = record { number = number; tokens = []; fault = Some fault }

-- the line of this number that begins at this place
abbrev pub line_of : ℕ → ℕ → List ℕ → Line
line_of number place line = line_with number (filter_map token_of (lexemes_of place line)) (fault_of number line)

-- lines one after the other, from a number and a position on
abbrev pub numbered : ℕ → ℕ → List (List ℕ) → List Line
numbered number place [] = []
numbered number place (l ∷ ls) = line_of number place l ∷ numbered (number + 1) (place + (length l + 1)) ls

-- the lines of a text
abbrev pub lines_of : List ℕ → List Line
lines_of text = numbered 1 0 (cut text)

-- of lines that are left, the next one, if there is one, and those that are left then
abbrev pub IsNextLine : List Line → List Line → Option Line → Type 0
IsNextLine before after None = (before ≡ []) × (after ≡ [])
IsNextLine before after (Some line) = before ≡ line ∷ after
