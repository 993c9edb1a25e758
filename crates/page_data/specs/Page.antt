-- The data of the page of a run.
use Rattle.std.specs.Prelude.{◌≡◌, ℕ, ◌-◌, Bool, true, false, ◌&&◌, nat_le, nat_lt, List, [], ◌∷◌, ◌++◌, codes, drop, take, length, if◌then◌else◌}
use Rattle.std.specs.Fmt.{decimal}
use Rattle.dn_base.specs.declared.ids.Shape.{Shape}
use Rattle.text_pieces.specs.Pieces.{newline}
use Rattle.region_table.specs.Program.{ProgramParts}
use Rattle.rv_core.specs.declared.ending.TaskEnd.{TaskEnd}
use Rattle.message_net.specs.declared.event.Event.{Event}
use Rattle.registration_protocol.specs.Node.{Setting}
use Rattle.machine_rules.specs.State.{State, initial_state}
use Rattle.machine_rules.specs.Next.{next}
use Rattle.machine_rules.specs.Runs.{after}
use Rattle.dn_machine.specs.Settings.{IsSettingOf}
use Rattle.run_report.specs.Answer.{outcome_word}
use Rattle.run_timing.specs.declared.timing.Link.{Link}
use Rattle.run_changes.specs.Events.{event_made}
use Rattle.run_changes.specs.Since.{changes_since}
use Rattle.page_data.specs.declared.page.Page.{Page}
use Rattle.page_data.specs.Json.{gap, string_text, list_text, further_all}
use Rattle.page_data.specs.Rows.{cause_fields, actor_changes_text, mail_item, event_row}
use Rattle.page_data.specs.Program.{size_text, program_text}

-- ---- the run as a whole

-- how a task stands at the end, and how many instructions it has retired
unfoldable pub end_row : TaskEnd → List ℕ
end_row t = codes "[" ++ (decimal t.phase.0 ++ (further_all (t.core.0 ∷ t.retired ∷ []) ++ (cause_fields t.end ++ codes "]")))

-- whether an event is one of the page's
abbrev pub is_on_page : Page → ℕ → Bool
is_on_page p event = nat_le p.first event && nat_lt (event - p.first) p.most

-- an event of the longest chain, and when it finishes
unfoldable pub link_text : Link → List ℕ
link_text link = codes "[" ++ (decimal link.event ++ (codes "," ++ (decimal link.finish ++ codes "]")))

-- those events of the longest chain that are on the page
abbrev pub chain_texts : Page → Bool → List Link → List ℕ
chain_texts p first [] = []
chain_texts p first (link ∷ links) =
    if is_on_page p link.event then gap first ++ (link_text link ++ chain_texts p false links) else chain_texts p first links

unfoldable pub outcome_field : Page → List ℕ
outcome_field p = codes ",\"outcome\":" ++ string_text (outcome_word p.ending.now.outcome)

unfoldable pub ends_field : Page → List ℕ
ends_field p = codes ",\"ends\":" ++ list_text end_row p.ending.now.tasks

unfoldable pub counts_field : Page → List ℕ
counts_field p = codes ",\"counts\":" ++ list_text decimal p.counts.kinds

unfoldable pub range_fields : Page → ℕ → List ℕ
range_fields p events = codes ",\"total\":" ++ (decimal events ++ (codes ",\"first\":" ++ decimal p.first))

-- how the run ended, how many events of each kind it has, and which of them the page has
unfoldable pub run_part : Page → ℕ → List ℕ
run_part p events = outcome_field p ++ (ends_field p ++ (counts_field p ++ range_fields p events))

unfoldable pub ticks_field : Page → List ℕ
ticks_field p = codes ",\"ticks\":[" ++ (decimal p.tick_core ++ (further_all (p.tick_bank ∷ p.tick_mail ∷ []) ++ codes "]"))

unfoldable pub time_fields : Page → List ℕ
time_fields p = codes ",\"time\":" ++ (decimal p.timing.now.total ++ (codes ",\"links\":" ++ decimal (length p.timing.now.links.items)))

unfoldable pub chain_field : Page → List ℕ
chain_field p = codes ",\"chain\":[" ++ (chain_texts p true p.timing.now.links.items ++ codes "]")

-- how long the run takes by these ticks, and its longest chain
unfoldable pub timing_part : Page → List ℕ
timing_part p = ticks_field p ++ (time_fields p ++ chain_field p)

-- ---- the page's first state, and its events

unfoldable pub changes_field : State → List ℕ
changes_field S = codes ",\"start\":{\"changes\":" ++ list_text actor_changes_text (changes_since S)

unfoldable pub next_field : State → List ℕ
next_field S = codes ",\"next\":" ++ list_text decimal S.numbers

unfoldable pub mails_field : State → List ℕ
mails_field S = codes ",\"mails\":" ++ (list_text mail_item S.mails ++ codes "}")

-- the changes that lead to a state from the machine's beginning, the number of each actor's next mail, and the mails in flight
unfoldable pub start_part : State → List ℕ
start_part S = changes_field S ++ (next_field S ++ mails_field S)

-- each event on a line of its own, with what it does in the state in which it comes
abbrev pub event_rows : Bool → State → List Event → List ℕ
event_rows first S [] = []
event_rows first S (e ∷ es) = gap first ++ (newline ++ (event_row e (event_made S e) ++ event_rows false (next S e) es))

unfoldable pub event_list : State → List Event → List ℕ
event_list S events = codes "[" ++ (event_rows true S events ++ codes "\n]}\n")

unfoldable pub events_part : State → List Event → List ℕ
events_part S events = codes ",\"events\":" ++ event_list S events

-- ---- the page

unfoldable pub title_part : List ℕ → List ℕ
title_part name = codes "{\"format\":\"denovo-page 2\",\"name\":" ++ string_text name

-- the state before the page's first event, and the page's events
abbrev pub first_state : Setting → List Event → Page → State
first_state C events p = after (initial_state C) (take p.first events)

abbrev pub page_events : List Event → Page → List Event
page_events events p = take p.most (drop p.first events)

-- what doesn't change in the run
abbrev pub head_part : Setting → Page → ℕ → List ℕ
head_part C p events = title_part p.name.now ++ (size_text C ++ (program_text C p.source.now ++ (run_part p events ++ timing_part p)))

-- the data of the page of a run
unfoldable pub page_text : Setting → List Event → Page → List ℕ
page_text C events p =
    head_part C p (length events)
    ++ (start_part (first_state C events p) ++ events_part (first_state C events p) (page_events events p))

-- the data of the page of a run of the machine of this program, shape and fuel
pub record IsPageOf (P : ProgramParts) (shape : Shape) (fuel : ℕ) (events : List Event) (p : Page) (text : List ℕ) : Type 0 where
  pub setting : Setting
  pub setting_is : IsSettingOf P shape fuel setting
  pub is : text ≡ page_text setting events p
