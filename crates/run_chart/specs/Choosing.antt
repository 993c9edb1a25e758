-- Which words and actors a list of names chooses, and what the title says of the events that are left out.
use Rattle.std.specs.Prelude.{ℕ, ◌+◌, ◌-◌, ◌*◌, ◌==◌, ◌||◌, ◌&&◌, Bool, true, false, not, List, [], ◌∷◌, ◌++◌, codes, length, map, Option, Some, None, if◌then◌else◌}
use Rattle.std.specs.List.{range_with_len}
use Rattle.std.specs.Fmt.{decimal}
use Rattle.text_pieces.specs.Pieces.{space, hexadecimal}
use Rattle.dn_base.specs.declared.ids.Shape.{Shape}
use Rattle.message_net.specs.declared.actor.Actor.{Actor}
use Rattle.message_net.specs.declared.actor.Actor.TheVariants.{Core, Bank, Keeper}
use Rattle.text_places.specs.declared.places.CodePlace.{CodePlace}
use Rattle.text_places.specs.declared.places.Located.{Located}
use Rattle.text_places.specs.Texts.{word_text}
use Rattle.run_chart.specs.declared.keeping.Keeping.{Keeping}
use Rattle.run_chart.specs.declared.keeping.PlainRows.{PlainRows}
use Rattle.run_chart.specs.declared.keeping.PlainRows.TheVariants.{All, Lines, Hidden}
use Rattle.run_chart.specs.declared.keeping.Window.{Window}
use Rattle.run_chart.specs.declared.parts.Chart.{Chart}
use Rattle.run_chart.specs.declared.parts.ChartRow.{ChartRow}
use Rattle.run_chart.specs.Keeping.{kept_rows}
use Rattle.run_chart.specs.Labels.{actor_name}
use Rattle.run_chart.specs.Places.{actor_with}

-- ---- names in a list

-- a list begins with this name: a comma or the end follows it
abbrev pub begins : List ℕ → List ℕ → Bool
begins [] [] = true
begins [] (c ∷ cs) = c == 44
begins (n ∷ ns) [] = false
begins (n ∷ ns) (c ∷ cs) = (n == c) && begins ns cs

-- the name stands behind a comma of the list
abbrev pub follows : List ℕ → List ℕ → Bool
follows name [] = false
follows name (c ∷ cs) = ((c == 44) && begins name cs) || follows name cs

-- a name is one of a list, in which commas separate names
abbrev pub is_listed : List ℕ → List ℕ → Bool
is_listed list name = begins name list || follows name list

-- ---- words and actors

-- a word has its name in charts, as `sum[0]`, and its address
abbrev pub chooses_word : List ℕ → Located → ℕ → Bool
chooses_word list L w = is_listed list (word_text L.program.regions w) || is_listed list (hexadecimal (0x10000000 + 4 * w))

-- an actor is named without a space: `core0`, `bank1`, `keeper`
unfoldable pub numbered : List ℕ → ℕ → List ℕ
numbered name number = name ++ decimal number

abbrev pub short_name : Actor → List ℕ
short_name (Core core) = numbered (codes "core") core.0
short_name (Bank bank) = numbered (codes "bank") bank.0
short_name Keeper = codes "keeper"

abbrev pub chooses_actor : List ℕ → Shape → ℕ → Bool
chooses_actor list shape index = is_listed list (short_name (actor_with shape index))

-- a mark for each data word, unless the list is empty; and a last one, which is of no word: so a list that chooses no word is told from an
-- empty one, also where the program has no data words
abbrev pub marked_words : List ℕ → Located → List Bool
marked_words [] L = []
marked_words (c ∷ cs) L = map (chooses_word (c ∷ cs) L) (range_with_len 0 (length L.program.memory)) ++ false ∷ []

-- a mark for each actor, unless the list is empty
abbrev pub marked_actors : List ℕ → Shape → List Bool
marked_actors [] shape = []
marked_actors (c ∷ cs) shape = map (chooses_actor (c ∷ cs) shape) (range_with_len 0 (shape.cores + shape.banks + 1))

-- a code word isn't the first one of its source line
abbrev pub is_later_word : CodePlace → Bool
is_later_word place = not (place.part == 0)

-- what is kept where these words and actors are listed
abbrev pub keeping_of : PlainRows → List ℕ → List ℕ → Located → Shape → Keeping
keeping_of plain words actors L shape =
    record {
      plain = plain;
      later_words = map is_later_word L.places.code;
      words = marked_words words L;
      actors = marked_actors actors shape;
      window = None;
    }

-- ---- the note

-- the names of marked things, with commas between them
abbrev pub names_from : (ℕ → List ℕ) → List ℕ → ℕ → List Bool → List ℕ
names_from name before i [] = []
names_from name before i (true ∷ ms) = (before ++ name i) ++ names_from name (codes ", ") (i + 1) ms
names_from name before i (false ∷ ms) = names_from name before (i + 1) ms

unfoldable pub plain_note : List ℕ
plain_note = codes " without plain instructions"

unfoldable pub lines_note : List ℕ
lines_note = codes " with la and li as one row"

-- what stands before the next part of the note
abbrev pub between : Bool → List ℕ
between true = []
between false = codes ";"

abbrev pub part_by_plain : PlainRows → List ℕ
part_by_plain All = []
part_by_plain Lines = lines_note
part_by_plain Hidden = plain_note

abbrev pub is_all : PlainRows → Bool
is_all All = true
is_all Lines = false
is_all Hidden = false

abbrev pub part_by_words : Bool → Located → List Bool → List ℕ
part_by_words first L [] = []
part_by_words first L (m ∷ ms) = between first ++ codes " words" ++ names_from (λ i. word_text L.program.regions i) space 0 (m ∷ ms)

abbrev pub part_by_actors : Bool → Shape → List Bool → List ℕ
part_by_actors first shape [] = []
part_by_actors first shape (m ∷ ms) = between first ++ codes " actors" ++ names_from (λ i. actor_name (actor_with shape i)) space 0 (m ∷ ms)

abbrev pub has_no_mark : List Bool → Bool
has_no_mark [] = true
has_no_mark (m ∷ ms) = false

-- the events of a slide, and how many of the range are left out in all
unfoldable pub window_note : Window → ℕ → List ℕ
window_note window left =
    codes " events " ++ decimal window.first ++ codes " to " ++ decimal (window.behind - 1) ++ codes ", " ++ decimal left ++ codes " left out"

abbrev pub part_by_window : Bool → ℕ → Option Window → List ℕ
part_by_window first left None = []
part_by_window first left (Some window) = between first ++ window_note window left

abbrev pub has_no_window : Option Window → Bool
has_no_window None = true
has_no_window (Some window) = false

-- whether nothing but a window leaves events out
abbrev pub names_nothing : Keeping → Bool
names_nothing K = is_all K.plain && has_no_mark K.words && has_no_mark K.actors

-- how many events are kept of how many that the range has
unfoldable pub count_note : ℕ → ℕ → List ℕ
count_note kept whole = codes "; kept " ++ decimal kept ++ codes " of " ++ decimal whole ++ codes " events:"

unfoldable pub reasons : Keeping → Located → Shape → ℕ → List ℕ
reasons K L shape left =
    part_by_plain K.plain ++ part_by_words (is_all K.plain) L K.words ++ part_by_actors (is_all K.plain && has_no_mark K.words) shape K.actors
    ++ part_by_window (names_nothing K) left K.window

-- what follows the title where so many events are kept of so many: nothing where nothing is asked to be left out
abbrev pub note_for : Keeping → Located → Shape → ℕ → ℕ → List ℕ
note_for K L shape kept whole =
    if names_nothing K && has_no_window K.window then [] else count_note kept whole ++ reasons K L shape (whole - kept)

abbrev pub note_by : Keeping → Located → Chart → List ChartRow → List ℕ
note_by K L chart rows = note_for K L chart.shape (length rows) (length chart.rows)

abbrev pub note_of : Keeping → Located → Chart → List ℕ
note_of K L chart = note_by K L chart (kept_rows K chart)
