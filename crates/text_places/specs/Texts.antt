-- How sentences name the parts of a program.
use Rattle.std.specs.Prelude.{ℕ, ◌-◌, ◌/◌, ◌%◌, ◌==◌, nat_lt, List, [], ◌++◌, Option, Some, None, codes, slice_get, if◌then◌else◌}
use Rattle.std.specs.Fmt.{decimal}
use Rattle.text_pieces.specs.Pieces.{newline}
use Rattle.region_table.specs.declared.declared.Region.{Region}
use Rattle.text_places.specs.declared.places.CodePlace.{CodePlace}
use Rattle.text_places.specs.declared.words.WordPlace.{WordPlace}
use Rattle.text_places.specs.Words.{word_place}
use Rattle.text_places.specs.Lines.{numbered_line}

-- a word of a region, as `m[3]`
unfoldable pub indexed : List ℕ → ℕ → List ℕ
indexed name index = name ++ codes "[" ++ decimal index ++ codes "]"

-- a data word by its number, if no region is known to have it
unfoldable pub plain_word : ℕ → List ℕ
plain_word w = codes "word " ++ decimal w

abbrev pub region_word_text : Option Region → ℕ → ℕ → List ℕ
region_word_text (Some r) index w = indexed r.name index
region_word_text None index w = plain_word w

abbrev pub word_text_by : List Region → ℕ → Option WordPlace → List ℕ
word_text_by regions w (Some p) = region_word_text (slice_get regions p.region) p.index w
word_text_by regions w None = plain_word w

-- a data word: `m[3]` is the word with the index 3 of the region m
abbrev pub word_text : List Region → ℕ → List ℕ
word_text regions w = word_text_by regions w (word_place regions w)

-- a byte of a word, if it isn't the first: `m[3] + 2`
unfoldable pub byte_text : ℕ → List ℕ
byte_text n = if n == 0 then [] else codes " + " ++ decimal n

abbrev pub outside : List ℕ
outside = codes "outside of all regions"

abbrev pub address_text_by : List Region → ℕ → Option WordPlace → List ℕ
address_text_by regions a (Some p) = region_word_text (slice_get regions p.region) p.index ((a - 0x10000000) / 4) ++ byte_text (a % 4)
address_text_by regions a None = outside

-- an address of data: the word that it is in, and which of its bytes
abbrev pub address_text : List Region → ℕ → List ℕ
address_text regions a = if nat_lt a 0x10000000 then outside else address_text_by regions a (word_place regions ((a - 0x10000000) / 4))

unfoldable pub part_text : ℕ → List ℕ
part_text part = if part == 0 then [] else codes " (second word)"

-- a code word: the line that it comes from, and which of its words it is if the line gives two
unfoldable pub code_text : CodePlace → List ℕ
code_text p = codes "line " ++ decimal p.line ++ part_text p.part

-- a lock by its name and number: `k (lock 0)`
abbrev pub lock_text_by : Option (List ℕ) → ℕ → List ℕ
lock_text_by (Some name) l = name ++ codes " (lock " ++ decimal l ++ codes ")"
lock_text_by None l = codes "lock " ++ decimal l

unfoldable pub lock_text : List (List ℕ) → ℕ → List ℕ
lock_text locks l = lock_text_by (slice_get locks l) l

-- a line after its number
unfoldable pub quoted : ℕ → List ℕ → List ℕ
quoted line bytes = decimal line ++ codes " | " ++ bytes ++ newline

abbrev pub quoted_by : ℕ → Option (List ℕ) → List ℕ
quoted_by line (Some bytes) = quoted line bytes
quoted_by line None = []

-- a line of a text after its number; nothing if the text has no such line
abbrev pub quoted_line : List ℕ → ℕ → List ℕ
quoted_line text line = quoted_by line (numbered_line text line)
