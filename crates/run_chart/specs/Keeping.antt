-- What a chart keeps of the events of its range: which rows, and where their arrows begin and end then.
use Rattle.std.specs.Prelude.{ℕ, ◌+◌, ◌==◌, ◌||◌, ◌&&◌, Bool, true, false, not, nat_le, nat_lt, List, [], ◌∷◌, ◌++◌, length, map, filter, Option, Some, None, if◌then◌else◌}
use Rattle.std.specs.List.{list_any}
use Rattle.dn_base.specs.declared.ids.Shape.{Shape}
use Rattle.message_net.specs.declared.actor.Actor.{Actor}
use Rattle.message_net.specs.Mail.{actor_index}
use Rattle.rv_core.specs.declared.need.Need.{Need}
use Rattle.rv_core.specs.declared.need.Need.TheVariants.{Local, Load, Store}
use Rattle.run_chart.specs.declared.parts.About.{About}
use Rattle.run_chart.specs.declared.parts.About.TheVariants.{Code, Word}
use Rattle.run_chart.specs.declared.parts.Chart.{Chart}
use Rattle.run_chart.specs.declared.parts.ChartRow.{ChartRow}
use Rattle.run_chart.specs.declared.parts.Fit.{Fit}
use Rattle.run_chart.specs.declared.parts.LeavingMail.{LeavingMail}
use Rattle.run_chart.specs.declared.parts.Origin.{Origin}
use Rattle.run_chart.specs.declared.parts.WaitingTask.{WaitingTask}
use Rattle.run_chart.specs.declared.states.WordChange.{WordChange}
use Rattle.run_chart.specs.declared.finishing.Columns.{Columns}
use Rattle.run_chart.specs.declared.keeping.Keeping.{Keeping}
use Rattle.run_chart.specs.declared.keeping.PlainRows.{PlainRows}
use Rattle.run_chart.specs.declared.keeping.PlainRows.TheVariants.{All, Lines, Hidden}
use Rattle.run_chart.specs.declared.keeping.Window.{Window}
use Rattle.run_chart.specs.Arrows.{line_of_event}
use Rattle.run_chart.specs.Drawing.{row_lines}
use Rattle.run_chart.specs.Finishing.{shown_actors}
use Rattle.run_chart.specs.Places.{is_shown}

-- ---- which events are kept

-- a plain instruction needs nothing but registers of its task: it accesses no memory and no lock, sends nothing and ends nothing
abbrev pub needs_nothing : Option Need → Bool
needs_nothing (Some Local) = true
needs_nothing _ = false

abbrev pub is_plain : ChartRow → Bool
is_plain row = needs_nothing row.need

-- its code word is one of those that don't begin their source line: the second one of an `la` or `li`
abbrev pub is_later : List Bool → About → Bool
is_later marks (Code number) = is_shown marks number
is_later marks _ = false

-- whether a plain instruction has a row: all have one, or those that begin their source line, or none
abbrev pub shows_plain : PlainRows → List Bool → About → Bool
shows_plain All marks about = true
shows_plain Lines marks about = not (is_later marks about)
shows_plain Hidden marks about = false

-- an event has to do with marked words: its instruction accesses one, it or its message is about one, or it changes what its actor has for one
abbrev pub accesses : List Bool → Option Need → Bool
accesses marks (Some (Load word)) = is_shown marks word.0
accesses marks (Some (Store word whole)) = is_shown marks word.0
accesses marks _ = false

abbrev pub is_about : List Bool → About → Bool
is_about marks (Word word) = is_shown marks word.0
is_about marks _ = false

abbrev pub is_of_marked : List Bool → WordChange → Bool
is_of_marked marks c = is_shown marks c.word.0

abbrev pub has_to_do : List Bool → ChartRow → Bool
has_to_do marks row = accesses marks row.need || is_about marks row.about || list_any (is_of_marked marks) row.changes

-- where words are marked: the events that have to do with them, and those that end phases; otherwise all
abbrev pub is_of_words : List Bool → ChartRow → Bool
is_of_words [] row = true
is_of_words (m ∷ ms) row = row.ends_phase || has_to_do (m ∷ ms) row

-- where actors are marked, by their indices: their events; otherwise all
abbrev pub is_of_actors : List Bool → ℕ → Bool
is_of_actors [] index = true
is_of_actors (m ∷ ms) index = is_shown (m ∷ ms) index

-- an event is asked for as a plain instruction, if it is one, for its words, and for its actor
abbrev pub is_asked_for : Keeping → Shape → ChartRow → Bool
is_asked_for K shape row =
    (not (is_plain row) || shows_plain K.plain K.later_words row.about) && is_of_words K.words row && is_of_actors K.actors (actor_index shape.cores shape.banks row.actor)

-- where there is a window: its events; otherwise all
abbrev pub is_in_window : Option Window → ℕ → Bool
is_in_window None event = true
is_in_window (Some window) event = nat_le window.first event && nat_lt event window.behind

abbrev pub is_kept : Keeping → Shape → ChartRow → Bool
is_kept K shape row = is_in_window K.window row.event && is_asked_for K shape row

-- ---- their rows

-- the changes of marked words; of all words where none is marked
abbrev pub kept_changes : List Bool → List WordChange → List WordChange
kept_changes [] changes = changes
kept_changes (m ∷ ms) changes = filter (is_of_marked (m ∷ ms)) changes

-- a row from another line on, with those changes
abbrev pub row_from : List Bool → ℕ → ChartRow → ChartRow
row_from marks line row =
    record row {
      line = line;
      lines = row_lines row.end (kept_changes marks row.changes);
      changes = kept_changes marks row.changes;
    }

abbrev pub kept_lines : List Bool → ChartRow → ℕ
kept_lines marks row = row_lines row.end (kept_changes marks row.changes)

-- the rows of the events that are kept, one below the other from a line on
abbrev pub rows_from : Keeping → Shape → ℕ → List ChartRow → List ChartRow
rows_from K shape line [] = []
rows_from K shape line (row ∷ rows) =
    if is_kept K shape row then row_from K.words line row ∷ rows_from K shape (line + kept_lines K.words row) rows else rows_from K shape line rows

-- the line after them
abbrev pub line_after : Keeping → Shape → ℕ → List ChartRow → ℕ
line_after K shape line [] = line
line_after K shape line (row ∷ rows) =
    if is_kept K shape row then line_after K shape (line + kept_lines K.words row) rows else line_after K shape line rows

-- ---- their arrows

-- the event whose row begins on a line
abbrev pub event_on_line : ℕ → List ChartRow → Option ℕ
event_on_line line [] = None
event_on_line line (row ∷ rows) = if row.line == line then Some row.event else event_on_line line rows

-- the line of an event among rows, where there is an event
abbrev pub line_of : Option ℕ → List ChartRow → Option ℕ
line_of None rows = None
line_of (Some event) rows = line_of_event event rows

-- the line that the row on a line has now: None where its event is left out
abbrev pub moved_line : List ChartRow → List ChartRow → ℕ → Option ℕ
moved_line whole kept line = line_of (event_on_line line whole) kept

abbrev pub moved_from : List ChartRow → List ChartRow → Option ℕ → Option ℕ
moved_from whole kept None = None
moved_from whole kept (Some line) = moved_line whole kept line

-- an arrow begins on the line that its sender's row has now; where that event is left out, at no row, as one from before the range
abbrev pub moved_origin : List ChartRow → List ChartRow → Option Origin → Option Origin
moved_origin whole kept None = None
moved_origin whole kept (Some mail) = Some (record { sender = mail.sender; line = moved_from whole kept mail.line })

abbrev pub with_origin : List ChartRow → List ChartRow → ChartRow → ChartRow
with_origin whole kept row = record row { mail = moved_origin whole kept row.mail }

abbrev pub with_origins : List ChartRow → List ChartRow → List ChartRow
with_origins whole kept = map (with_origin whole kept) kept

-- the mails in flight behind the range that events with a row sent, each on a line of its own from this one on
abbrev pub left_by : ℕ → Option ℕ → LeavingMail → (ℕ → List LeavingMail) → List LeavingMail
left_by line None mail rest = rest line
left_by line (Some sent) mail rest = record mail { sent = sent; line = line } ∷ rest (line + 1)

abbrev pub left_from : List ChartRow → List ChartRow → ℕ → List LeavingMail → List LeavingMail
left_from whole kept line [] = []
left_from whole kept line (mail ∷ mails) = left_by line (moved_line whole kept mail.sent) mail (λ next. left_from whole kept next mails)

-- whether an event comes behind the window
abbrev pub comes_behind : Option Window → ℕ → Bool
comes_behind None event = false
comes_behind (Some window) event = nat_le window.behind event

-- the mail that a row's event handles, by its sender and the line on which it was sent
abbrev pub mail_from : ChartRow → Actor → Option ℕ → Option LeavingMail
mail_from row sender None = None
mail_from row sender (Some sent) = Some (record { sender = sender; sent = sent; to = row.actor; kind = row.kind; about = row.about; line = 0 })

abbrev pub handled_mail : ChartRow → Option Origin → Option LeavingMail
handled_mail row None = None
handled_mail row (Some mail) = mail_from row mail.sender mail.line

-- the mails that events behind the window handle: they leave the window, as mails in flight behind the range leave it
abbrev pub mail_behind : Option Window → ChartRow → Option LeavingMail
mail_behind window row = if comes_behind window row.event then handled_mail row row.mail else None

abbrev pub with_handled : Option LeavingMail → List LeavingMail → List LeavingMail
with_handled None mails = mails
with_handled (Some mail) mails = mail ∷ mails

abbrev pub mails_behind : Option Window → List ChartRow → List LeavingMail
mails_behind window [] = []
mails_behind window (row ∷ rows) = with_handled (mail_behind window row) (mails_behind window rows)

-- the tasks that wait for a lock, each on a line of its own; only those of marked cores where actors are marked
abbrev pub tasks_from : List Bool → ℕ → List WaitingTask → List WaitingTask
tasks_from marks line [] = []
tasks_from marks line (task ∷ tasks) =
    if is_of_actors marks task.core.0 then record task { line = line } ∷ tasks_from marks (line + 1) tasks else tasks_from marks line tasks

-- whether the window ends before the run does
abbrev pub ends_early : Option Window → ℕ → Bool
ends_early None events = false
ends_early (Some window) events = nat_lt window.behind events

-- ---- what stands below the rows

-- from a line on, the mails that leave the window or the range, and below them the tasks that wait when the run ends
abbrev pub left_below : Keeping → Chart → List ChartRow → ℕ → List LeavingMail
left_below K chart kept line = left_from chart.rows kept line (mails_behind K.window chart.rows ++ chart.leaving)

abbrev pub waits_below : Keeping → Chart → ℕ → List WaitingTask
waits_below K chart line = if ends_early K.window chart.events then [] else tasks_from K.actors line chart.waiting

abbrev pub tasks_below : Keeping → Chart → List ChartRow → ℕ → List WaitingTask
tasks_below K chart kept line = waits_below K chart (line + length (left_below K chart kept line))

-- ---- the chart

abbrev pub kept_rows : Keeping → Chart → List ChartRow
kept_rows K chart = rows_from K chart.shape 0 chart.rows

-- the chart of these rows, mails and tasks, which begin below a line, with the columns that they need, a note for its title, and a size
abbrev pub chart_with : Columns → Fit → List ℕ → Chart → List ChartRow → List LeavingMail → List WaitingTask → ℕ → Chart
chart_with columns fit note chart rows leaving tasks line =
    record chart {
      shown = shown_actors columns rows leaving tasks chart.shape;
      rows = rows;
      leaving = leaving;
      waiting = tasks;
      lines = line + length leaving + length tasks;
      note = note;
      fit = fit;
    }

-- the chart of the rows that are kept, where the next line is this one: their mails and tasks stand below them
abbrev pub chart_by : Keeping → Columns → Fit → List ℕ → Chart → List ChartRow → ℕ → Chart
chart_by K columns fit note chart kept line =
    chart_with columns fit note chart (with_origins chart.rows kept) (left_below K chart kept line) (tasks_below K chart kept line) line

abbrev pub kept_chart : Keeping → Columns → Fit → List ℕ → Chart → Chart
kept_chart K columns fit note chart = chart_by K columns fit note chart (kept_rows K chart) (line_after K chart.shape 0 chart.rows)
