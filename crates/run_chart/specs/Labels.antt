-- The words of a chart.
use Rattle.std.specs.Prelude.{ℕ, List, ◌++◌, codes, slice_get, Option, Some, None}
use Rattle.std.specs.Fmt.{decimal}
use Rattle.text_pieces.specs.Pieces.{space, hexadecimal}
use Rattle.dn_base.specs.declared.ids.Shape.{Shape}
use Rattle.message_net.specs.declared.actor.Actor.{Actor}
use Rattle.message_net.specs.declared.actor.Actor.TheVariants.{Core, Bank, Keeper}
use Rattle.message_net.specs.declared.event.EventKind.{EventKind}
use Rattle.run_report.specs.Run.{event_word}
use Rattle.run_report.specs.Answer.{end_text}
use Rattle.rv_core.specs.declared.task.End.{End}
use Rattle.rv_core.specs.Ending.{shown_end}
use Rattle.rv_listing.specs.Instruction.{code_line}
use Rattle.text_places.specs.declared.places.Located.{Located}
use Rattle.text_places.specs.declared.places.CodePlace.{CodePlace}
use Rattle.text_places.specs.Texts.{word_text, lock_text, code_text}
use Rattle.run_chart.specs.declared.parts.About.{About}
use Rattle.run_chart.specs.declared.parts.About.TheVariants as about
use Rattle.run_chart.specs.declared.parts.Chart.{Chart}
use Rattle.run_chart.specs.declared.states.WordState.{WordState}
use Rattle.run_chart.specs.declared.states.WordState.TheVariants.{Absent, Valid, Touched, Registered, Pending, Leaving, Home, At}
use Rattle.run_chart.specs.declared.states.WordChange.{WordChange}

-- a name and a number
unfoldable pub named : List ℕ → ℕ → List ℕ
named name number = name ++ space ++ decimal number

unfoldable pub actor_name : Actor → List ℕ
actor_name (Core core) = named (codes "core") core.0
actor_name (Bank bank) = named (codes "bank") bank.0
actor_name Keeper = codes "keeper"

-- a name and a value of 32 bits
unfoldable pub valued : List ℕ → ℕ → List ℕ
valued name value = name ++ space ++ hexadecimal value

unfoldable pub state_words : WordState → List ℕ
state_words Absent = codes "none"
state_words (Valid value) = valued (codes "valid") value
state_words (Touched value) = valued (codes "touched") value
state_words (Registered value) = valued (codes "registered") value
state_words (Pending value) = valued (codes "pending") value
state_words (Leaving value) = valued (codes "leaving") value
state_words (Home value) = valued (codes "home") value
state_words (At core) = named (codes "at core") core.0

-- what becomes of a word, by its name and number
unfoldable pub change_text : Located → WordChange → List ℕ
change_text L c =
    word_text L.program.regions c.word.0 ++ codes " (word " ++ decimal c.word.0 ++ codes "): " ++ state_words c.before ++ codes " &#8594; " ++ state_words c.after

-- an instruction after its line
unfoldable pub instruction_text : CodePlace → ℕ → List ℕ
instruction_text place word = code_text place ++ codes ": " ++ code_line word

-- a code word by its place and its content; where the text has no such word, the kind of the event alone
abbrev pub code_label : Option CodePlace → Option ℕ → EventKind → List ℕ
code_label (Some place) (Some word) kind = instruction_text place word
code_label _ _ kind = event_word kind

-- what an event or a mail is, and what it is about
unfoldable pub label_text : Located → EventKind → About → List ℕ
label_text L kind about.Nothing = event_word kind
label_text L kind (about.Code number) = code_label (slice_get L.places.code number) (slice_get L.program.code number) kind
label_text L kind (about.Word word) = event_word kind ++ space ++ word_text L.program.regions word.0
label_text L kind (about.Lock lock) = event_word kind ++ space ++ lock_text L.program.locks lock.0
label_text L kind (about.Phase phase) = event_word kind ++ named (codes " phase") phase.0

-- how a task ends
unfoldable pub task_end_text : End → List ℕ
task_end_text by = codes "ends: " ++ end_text (shown_end by)

unfoldable pub waiting_text : Located → ℕ → List ℕ
waiting_text L lock = codes "waits for " ++ lock_text L.program.locks lock

-- which events have rows, of how many
unfoldable pub numbers_text : ℕ → ℕ → ℕ → List ℕ
numbers_text first last events = codes "events " ++ decimal first ++ codes " to " ++ decimal last ++ codes " of " ++ decimal events

unfoldable pub no_event : List ℕ
no_event = codes "no event of "

unfoldable pub empty_text : ℕ → List ℕ
empty_text events = no_event ++ decimal events

-- by the last event of the range, if there is one
abbrev pub events_text : ℕ → Option ℕ → ℕ → List ℕ
events_text first None events = empty_text events
events_text first (Some last) events = numbers_text first last events

unfoldable pub title_begin : List ℕ
title_begin = codes "Message chart: "

unfoldable pub title_text : Chart → List ℕ
title_text chart = title_begin ++ events_text chart.first chart.last chart.events ++ chart.note

-- the size of the machine
unfoldable pub machine_begin : List ℕ
machine_begin = codes "Machine: cores "

unfoldable pub actors_text : Shape → List ℕ
actors_text shape = machine_begin ++ decimal shape.cores ++ named (codes ", banks") shape.banks

unfoldable pub caches_text : Shape → ℕ → List ℕ
caches_text shape fuel = named (codes ", sets") shape.sets ++ named (codes ", ways") shape.ways ++ named (codes ", fuel") fuel

unfoldable pub machine_text : Shape → ℕ → List ℕ
machine_text shape fuel = actors_text shape ++ caches_text shape fuel
