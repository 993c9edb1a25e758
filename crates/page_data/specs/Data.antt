-- The data of a run for other programs: those of its page, and what a tool needs beside them.
use Rattle.std.specs.Prelude.{◌≡◌, ℕ, ◌+◌, Bool, true, false, List, [], ◌∷◌, ◌++◌, codes, drop, take, length, map}
use Rattle.std.specs.Fmt.{decimal}
use Rattle.dn_base.specs.declared.ids.Shape.{Shape}
use Rattle.region_table.specs.declared.declared.Effects.{Effects}
use Rattle.region_table.specs.declared.declared.Phase.{Phase}
use Rattle.region_table.specs.declared.declared.TaskDecl.{TaskDecl}
use Rattle.region_table.specs.Program.{ProgramParts}
use Rattle.text_places.specs.declared.places.CodePlace.{CodePlace}
use Rattle.message_net.specs.declared.event.Event.{Event}
use Rattle.registration_protocol.specs.Node.{Setting}
use Rattle.dn_machine.specs.Settings.{IsSettingOf}
use Rattle.page_data.specs.declared.run_data.RunData.{RunData}
use Rattle.page_data.specs.declared.page.Page.{Page}
use Rattle.page_data.specs.Json.{string_text, list_text, item_texts, further_all}
use Rattle.page_data.specs.Page.{run_part, timing_part, start_part, events_part, first_state, page_events}
use Rattle.page_data.specs.Program.{size_text, program_text, words_text}

-- ---- the code

-- the code words, as numbers
unfoldable pub machine_code_field : ProgramParts → List ℕ
machine_code_field P = codes ",\"machine_code\":" ++ list_text decimal P.code

-- the line of the text from which a code word comes
abbrev pub line_item : CodePlace → List ℕ
line_item place = decimal place.line

unfoldable pub lines_field : List CodePlace → List ℕ
lines_field places = codes ",\"lines\":" ++ list_text line_item places

-- ---- what tasks declare

unfoldable pub reads_text : Effects → List ℕ
reads_text e = codes "," ++ words_text e.reads

unfoldable pub writes_text : Effects → List ℕ
writes_text e = codes "," ++ words_text e.writes

unfoldable pub guarded_reads_text : Effects → List ℕ
guarded_reads_text e = codes "," ++ list_text words_text e.guarded_reads

unfoldable pub guarded_writes_text : Effects → List ℕ
guarded_writes_text e = codes "," ++ list_text words_text e.guarded_writes

-- the words that may be loaded, and those that may be stored too; then the same for each lock, of the words that are used while it is held
unfoldable pub effects_text : Effects → List ℕ
effects_text e = reads_text e ++ (writes_text e ++ (guarded_reads_text e ++ guarded_writes_text e))

-- the phase and the core of a task, and what it declares
unfoldable pub effects_item : ℕ → TaskDecl → List ℕ
effects_item phase t = codes "[" ++ (decimal phase ++ (further_all (t.core.0 ∷ []) ++ (effects_text t.effects ++ codes "]")))

-- the tasks of the phases from one on, each with the number of its phase
abbrev pub numbered_tasks : ℕ → List Phase → List (ℕ × TaskDecl)
numbered_tasks number [] = []
numbered_tasks number (p ∷ ps) = map (λ (t : TaskDecl). (number, t)) p.tasks ++ numbered_tasks (number + 1) ps

-- what such a task declares
abbrev pub numbered_item : ℕ × TaskDecl → List ℕ
numbered_item row = effects_item row.0 row.1

-- whether the next item of a list is its first, where these come before
abbrev pub is_still_first : {X : Type 0} → Bool → List X → Bool
is_still_first first [] = first
is_still_first first (x ∷ xs) = false

-- what the tasks of the phases from one on declare: the code's way through them. A law says that they are the items of `numbered_tasks`
abbrev pub effects_items : Bool → ℕ → List Phase → List ℕ
effects_items first number [] = []
effects_items first number (p ∷ ps) = item_texts (effects_item number) first p.tasks ++ effects_items (is_still_first first p.tasks) (number + 1) ps

unfoldable pub effects_list : List Phase → List ℕ
effects_list phases = codes "[" ++ (effects_items true 0 phases ++ codes "]")

unfoldable pub effects_field : ProgramParts → List ℕ
effects_field P = codes ",\"effects\":" ++ effects_list P.phases

-- ---- when events finish

-- the finishes of the page's events
abbrev pub page_finishes : List ℕ → Page → List ℕ
page_finishes finishes p = take p.most (drop p.first finishes)

unfoldable pub finishes_field : List ℕ → Page → List ℕ
finishes_field finishes p = codes ",\"finishes\":" ++ list_text decimal (page_finishes finishes p)

-- ---- the data

unfoldable pub data_title : List ℕ → List ℕ
data_title name = codes "{\"format\":\"denovo-data 1\",\"name\":" ++ string_text name

-- what a page has too, of what doesn't change in the run
unfoldable pub data_head : Setting → Page → ℕ → List ℕ
data_head C p events = data_title p.name.now ++ (size_text C ++ (program_text C p.source.now ++ (run_part p events ++ timing_part p)))

-- what a page doesn't have
unfoldable pub tool_part : Setting → RunData → List ℕ
tool_part C d = machine_code_field C.program ++ (lines_field d.places.now ++ (effects_field C.program ++ finishes_field d.finishes.now d.page))

-- the data of a run
unfoldable pub run_data_text : Setting → List Event → RunData → List ℕ
run_data_text C events d =
    data_head C d.page (length events)
    ++ (tool_part C d ++ (start_part (first_state C events d.page) ++ events_part (first_state C events d.page) (page_events events d.page)))

-- the data of a run of the machine of this program, shape and fuel
pub record IsDataOf (P : ProgramParts) (shape : Shape) (fuel : ℕ) (events : List Event) (d : RunData) (text : List ℕ) : Type 0 where
  pub setting : Setting
  pub setting_is : IsSettingOf P shape fuel setting
  pub is : text ≡ run_data_text setting events d
