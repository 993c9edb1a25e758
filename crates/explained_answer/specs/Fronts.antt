-- The first line of an answer that isn't as it should be.
use Rattle.std.specs.Prelude.{ℕ, ◌+◌, ◌==◌, List, [], ◌∷◌, count_by, if◌then◌else◌}
use Rattle.src_text.specs.Byte.{is_newline}

-- the longest common prefix of two texts
abbrev pub alike : List ℕ → List ℕ → List ℕ
alike [] ys = []
alike (x ∷ xs) [] = []
alike (x ∷ xs) (y ∷ ys) = if x == y then x ∷ alike xs ys else []

-- the number of the line that follows these bytes, which are a prefix of an answer; lines are counted from 1
unfoldable pub line_behind : List ℕ → ℕ
line_behind front = count_by is_newline front + 1
