-- A listing, explained: its lines are repeated, and after the line of each code word comes the line of the text that gives the
-- word.
use Rattle.std.specs.Prelude.{◌≡◌, ◌≢◌, ℕ, Bool, ◌+◌, ◌-◌, ◌<◌, ◌==◌, max, nat_lt, List, [], ◌∷◌, ◌++◌, codes, length, slice_get, Option, Some, None, if◌then◌else◌}
use Rattle.src_text.specs.Laws.{ended}
use Rattle.src_text.specs.Line.{cut}
use Rattle.rv_listing.specs.Listing.{listing_of, listing_with_addresses, listing_in}
use Rattle.text_places.specs.declared.places.CodePlace.{CodePlace}
use Rattle.text_places.specs.declared.places.Located.{Located}
use Rattle.text_places.specs.Texts.{quoted_line}
use Rattle.explained_answer.specs.declared.taken.Taken.{Taken}
use Rattle.explained_answer.specs.declared.taken.Taken as taken
use Rattle.explained_answer.specs.Fronts.{alike, line_behind}

-- ---- what is said

-- the line of the text that gives a code word
unfoldable pub given_by : List ℕ → ℕ → List ℕ
given_by text line = codes "  " ++ quoted_line text line

-- the second word of a line that gives two is told apart from the first
unfoldable pub second_given_by : List ℕ → ℕ → List ℕ
second_given_by text line = codes "  second word of line " ++ quoted_line text line

abbrev pub word_said : List ℕ → CodePlace → List ℕ
word_said text place = if place.part == 0 then given_by text place.line else second_given_by text place.line

abbrev pub code_said : List ℕ → Option CodePlace → List ℕ
code_said text (Some place) = word_said text place
code_said text None = []

-- what is said after the line of this number of a listing, from 0; the lines of the code begin with the line `first`
abbrev pub said_of_row : List ℕ → Located → ℕ → ℕ → List ℕ
said_of_row text l first number = if nat_lt number first then [] else code_said text (slice_get l.places.code (number - first))

-- lines from a number on, each with what is said after it
abbrev pub explained_from : List ℕ → Located → ℕ → ℕ → List (List ℕ) → List ℕ
explained_from text l first number [] = []
explained_from text l first number (line ∷ lines) = ended line ++ (said_of_row text l first number ++ explained_from text l first (number + 1) lines)

-- the lines of a listing, which ends with a line for each code word
abbrev pub explained_lines : List ℕ → Located → List (List ℕ) → List ℕ
explained_lines text l lines = explained_from text l (length lines - length l.program.code) 0 lines

abbrev pub explained_listing : (text : List ℕ) → Located → (listing : List ℕ) → List ℕ
explained_listing text l listing = explained_lines text l (cut listing)

-- ---- which answers are a listing

-- the answer is the listing of the program, with addresses or without; or it is neither
abbrev pub IsAListing : Located → List ℕ → Type 0
IsAListing l answer = (addresses : Bool) × (answer ≡ listing_in addresses l.program)

abbrev pub IsNeitherListing : Located → List ℕ → Type 0
IsNeitherListing l answer = (addresses : Bool) → answer ≢ listing_in addresses l.program

-- the first line of an answer that isn't the listing's: of the one that it goes along with farther
abbrev pub first_other_line : Located → List ℕ → ℕ
first_other_line l answer = max (line_behind (alike answer (listing_of l.program))) (line_behind (alike answer (listing_with_addresses l.program)))

-- the answer is a listing; or it begins with the first line of one, and then differs; or its first line differs
abbrev pub IsListingTaken : (text : List ℕ) → Located → (answer before after : List ℕ) → Taken → Type 0
IsListingTaken text l answer before after taken.TheVariants.Whole = IsAListing l answer × (after ≡ before ++ explained_listing text l answer)
IsListingTaken text l answer before after (taken.TheVariants.Stops line) = IsNeitherListing l answer × (line ≡ first_other_line l answer) × (1 < line)
IsListingTaken text l answer before after taken.TheVariants.Other = IsNeitherListing l answer × (first_other_line l answer ≡ 1)
