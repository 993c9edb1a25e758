-- JSON as the page's data use it: strings in ASCII, lists, and numbers.
use Rattle.std.specs.Prelude.{ℕ, ◌==◌, Bool, true, false, ◌&&◌, not, nat_le, List, [], ◌∷◌, ◌++◌, codes, flat_map, if◌then◌else◌}
use Rattle.std.specs.Fmt.{decimal}
use Rattle.text_pieces.specs.Pieces.{hex_at}

-- whether a byte stands for itself in a string: printable ASCII, except the quote, the backslash, and `<`, with which a tag of
-- the surrounding page could begin
abbrev pub is_unescaped : ℕ → Bool
is_unescaped b = nat_le 32 b && (nat_le b 126 && (not (b == 34) && (not (b == 92) && not (b == 60))))

-- a byte as a character of a string: itself, or its number in base 16
abbrev pub escape : ℕ → List ℕ
escape b = if b == 10 then codes "\\n" else codes "\\u00" ++ hex_at b 1 ∷ hex_at b 0 ∷ []

unfoldable pub character : ℕ → List ℕ
character b = if is_unescaped b then b ∷ [] else escape b

unfoldable pub string_text : List ℕ → List ℕ
string_text bytes = codes "\"" ++ (flat_map character bytes ++ codes "\"")

-- nothing before the first item of a list, and a comma before each other one
abbrev pub gap : Bool → List ℕ
gap true = []
gap false = codes ","

abbrev pub item_texts : {X : Type 0} → (X → List ℕ) → Bool → List X → List ℕ
item_texts write first [] = []
item_texts write first (x ∷ xs) = gap first ++ (write x ++ item_texts write false xs)

-- a list, each item of which is written by `write`
unfoldable pub list_text : {X : Type 0} → (X → List ℕ) → List X → List ℕ
list_text write xs = codes "[" ++ (item_texts write true xs ++ codes "]")

-- numbers that follow something in a list
abbrev pub further : ℕ → List ℕ
further n = codes "," ++ decimal n

unfoldable pub further_all : List ℕ → List ℕ
further_all ns = flat_map further ns
