-- The lines of a text.
use Rattle.std.specs.Prelude.{ℕ, zero, suc, ◌+◌, ◌==◌, if◌then◌else◌, List, length, take, drop, position, unwrap_or, count_by, Option, Some, None}
use Rattle.src_text.specs.Byte.{is_newline}

-- how many newlines stand before a place
abbrev pub newlines_before : ℕ → List ℕ → ℕ
newlines_before place text = count_by is_newline (take place text)

-- where the first line of a text ends: at its newline, or at the end of the text
unfoldable pub line_end : List ℕ → ℕ
line_end text = unwrap_or (position is_newline text) (length text)

-- a text without its first line
abbrev pub behind_line : List ℕ → List ℕ
behind_line text = drop (line_end text + 1) text

-- a text without its first `count` lines
abbrev pub behind_lines : ℕ → List ℕ → List ℕ
behind_lines zero text = text
behind_lines (suc n) text = behind_line (behind_lines n text)

-- the first line of a text, without its newline; an empty text has no line
abbrev pub first_line : List ℕ → Option (List ℕ)
first_line text = if length text == 0 then None else Some (take (line_end text) text)

-- the line of this number, from 0, without its newline, if the text has that many lines
unfoldable pub line_of_number : ℕ → List ℕ → Option (List ℕ)
line_of_number number text = first_line (behind_lines number text)
