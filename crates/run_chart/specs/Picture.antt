-- The message chart as a picture: the text of an SVG document.
--
-- What is drawn first lies below what is drawn later: the ground and the bands of the phases, the columns, the line through the chain's
-- events, the arrows, and then the words.
use Rattle.std.specs.Prelude.{ℕ, ◌+◌, ◌-◌, ◌*◌, ◌/◌, ◌%◌, max, ◌==◌, Bool, true, false, nat_lt, List, [], ◌∷◌, ◌++◌, codes, flat_map, Option, Some, None, if◌then◌else◌}
use Rattle.std.specs.List.{range_with_len}
use Rattle.std.specs.Fmt.{decimal}
use Rattle.text_pieces.specs.Pieces.{space}
use Rattle.dn_base.specs.declared.ids.PhaseId.{PhaseId}
use Rattle.message_net.specs.declared.actor.Actor.{Actor}
use Rattle.message_net.specs.declared.actor.Actor.TheVariants.{Core, Keeper}
use Rattle.rv_core.specs.declared.task.End.{End}
use Rattle.text_places.specs.declared.places.Located.{Located}
use Rattle.run_chart.specs.declared.parts.Chart.{Chart}
use Rattle.run_chart.specs.declared.parts.ChartRow.{ChartRow}
use Rattle.run_chart.specs.declared.parts.Fit.{Fit}
use Rattle.run_chart.specs.declared.parts.Fit.TheVariants as fit
use Rattle.run_chart.specs.declared.parts.LeavingMail.{LeavingMail}
use Rattle.run_chart.specs.declared.parts.WaitingTask.{WaitingTask}
use Rattle.run_chart.specs.declared.parts.Origin.{Origin}
use Rattle.run_chart.specs.declared.states.WordChange.{WordChange}
use Rattle.run_chart.specs.Elements.{y_of, top, attribute, circle, rectangle, upright, level, line_to, head_from_left, head_from_right, words_at}
use Rattle.run_chart.specs.Places.{actor_with, is_shown, column}
use Rattle.run_chart.specs.Labels.{actor_name, change_text, label_text, task_end_text, waiting_text, title_text, machine_text, named}

-- ---- its size

-- after the last column there is room for words
abbrev pub room : Chart → ℕ
room chart = column chart Keeper + 300

abbrev pub bottom : Chart → ℕ
bottom chart = y_of chart.lines

-- the least number of which 16 times is as wide and 9 times as high
abbrev pub ninth : ℕ → ℕ → ℕ
ninth wide high = max ((wide + 15) / 16) ((high + 8) / 9)

abbrev pub width_by : Fit → ℕ → ℕ → ℕ
width_by fit.Rows wide high = wide
width_by fit.Slide wide high = 16 * ninth wide high

abbrev pub height_by : Fit → ℕ → ℕ → ℕ
height_by fit.Rows wide high = high
height_by fit.Slide wide high = 9 * ninth wide high

abbrev pub width : Chart → ℕ
width chart = width_by chart.fit (room chart) (bottom chart + 18)

abbrev pub height : Chart → ℕ
height chart = height_by chart.fit (room chart) (bottom chart + 18)

-- how large it is shown where nothing else is said: a slide is scaled
abbrev pub shown_width : Chart → Fit → ℕ
shown_width chart fit.Rows = width chart
shown_width chart fit.Slide = 1280

abbrev pub shown_height : Chart → Fit → ℕ
shown_height chart fit.Rows = height chart
shown_height chart fit.Slide = 720

-- ---- the head

-- the style of the classes of elements, in light and dark: each text has a contrast of at least 4.5 to its background
unfoldable pub style : List ℕ
style = codes "<style>.denovo-chart{color-scheme:light dark}.denovo-ground{fill:#fff}.denovo-odd{fill:#edf2f7}.denovo-rule{stroke:#7d8b99}.denovo-lane{stroke:#b4bac0}\n.denovo-mail,.denovo-cut{stroke:#26598c;fill:none}.denovo-cut{stroke-dasharray:7 4}.denovo-event,.denovo-head{fill:#26598c}\n.denovo-path{stroke:#f93;stroke-width:7;stroke-opacity:.45;stroke-linejoin:round;fill:none}.denovo-ring{stroke:#b34700;stroke-width:2;fill:none}\n.denovo-text{fill:#1c2126;paint-order:stroke;stroke:#fff;stroke-width:4;stroke-linejoin:round}.denovo-left{text-anchor:end}\n.denovo-title{font-size:15px}.denovo-actor{font-weight:bold;text-anchor:middle}.denovo-number{fill:#4d565f}.denovo-change{fill:#832a00}\n.denovo-end{fill:#8c0d0d;font-weight:bold}\n@media screen and (prefers-color-scheme:dark){.denovo-ground{fill:#14181d}.denovo-odd{fill:#1e2731}.denovo-rule{stroke:#7d8b99}.denovo-lane{stroke:#545d66}\n.denovo-mail,.denovo-cut{stroke:#86b9ec}.denovo-event,.denovo-head{fill:#86b9ec}.denovo-path{stroke-opacity:.4}.denovo-ring{stroke:#ffb454}\n.denovo-text{fill:#e6e9ec;stroke:#14181d}.denovo-number{fill:#aab4be}.denovo-change{fill:#ffb489}.denovo-end{fill:#ff9d9d}}</style>\n"

-- what the marks mean, under the title
unfoldable pub legend : List ℕ
legend = codes "<circle class='denovo-event' cx='14' cy='60' r='4'/><text class='denovo-text' x='26' y='64'>event</text>\n<circle class='denovo-ring' cx='84' cy='60' r='8'/><text class='denovo-text' x='98' y='64'>on the longest chain</text>\n<path class='denovo-mail' d='M254 60H282'/><path class='denovo-head' d='M290 60l-8 -4v8z'/><text class='denovo-text' x='296' y='64'>mail</text>\n<path class='denovo-cut' d='M342 60H370'/><path class='denovo-head' d='M378 60l-8 -4v8z'/><text class='denovo-text' x='384' y='64'>mail from before or to behind the range</text>\n<text class='denovo-text denovo-change' x='682' y='64'>word: before &#8594; after</text>\n"

-- what columns, rows and arrows mean, for readers who can't see the picture
unfoldable pub meaning : List ℕ
meaning = codes ". Each column is a core, a bank, or the keeper of the phases. Each row is an event of the run, in their order. An arrow leads from the event that sent a mail to the event that handles it."

-- the document begins
unfoldable pub svg_begin : List ℕ
svg_begin = codes "<svg xmlns='http://www.w3.org/2000/svg' class='denovo-chart' role='img' font-family='monospace' font-size='12'"

unfoldable pub view_box_begin : List ℕ
view_box_begin = codes " viewBox='0 0 "

unfoldable pub view_box : ℕ → ℕ → List ℕ
view_box w h = view_box_begin ++ decimal w ++ space ++ decimal h ++ codes "'>\n"

unfoldable pub sizes : Chart → List ℕ
sizes chart =
    attribute (codes "width") (shown_width chart chart.fit) ++ attribute (codes "height") (shown_height chart chart.fit) ++ view_box (width chart) (height chart)

-- what a screen reader reads out
unfoldable pub title_element : Chart → List ℕ
title_element chart = codes "<title>" ++ title_text chart ++ codes "</title>\n"

unfoldable pub description : Chart → List ℕ
description chart = codes "<desc>" ++ machine_text chart.shape chart.fuel ++ meaning ++ codes "</desc>\n"

unfoldable pub ground : ℕ → ℕ → List ℕ
ground w h = codes "<rect class='denovo-ground'" ++ attribute (codes "width") w ++ attribute (codes "height") h ++ codes "/>\n"

-- the title and the size of the machine, in the picture
unfoldable pub heading : Chart → List ℕ
heading chart = words_at (codes "title") 8 22 (title_text chart) ++ words_at (codes "size") 8 40 (machine_text chart.shape chart.fuel)

unfoldable pub opening : Chart → List ℕ
opening chart = svg_begin ++ sizes chart ++ title_element chart ++ description chart ++ style ++ ground (width chart) (height chart) ++ heading chart ++ legend

-- ---- the phases

-- every other phase has a band of its own colour
abbrev pub band : Chart → ChartRow → List ℕ
band chart row =
    if row.phase.0 % 2 == 1 then rectangle (codes "odd") (y_of row.line - 9) (width chart) (18 * row.lines) else []

-- a line and the phase's number stand above the first of its rows
unfoldable pub phase_begin : Chart → ChartRow → List ℕ
phase_begin chart row =
    level (codes "rule") (y_of row.line - 9) (width chart)
    ++ words_at (codes "left denovo-number") (width chart - 8) (y_of row.line + 4) (named (codes "phase") row.phase.0)

abbrev pub is_of_phase : Option PhaseId → PhaseId → Bool
is_of_phase None phase = false
is_of_phase (Some before) phase = before.0 == phase.0

abbrev pub phase_if_new : Chart → Option PhaseId → ChartRow → List ℕ
phase_if_new chart before row = if is_of_phase before row.phase then [] else phase_begin chart row

-- the bands of rows, after a row of this phase
abbrev pub bands : Chart → Option PhaseId → List ChartRow → List ℕ
bands chart before [] = []
bands chart before (row ∷ rows) = (band chart row ++ phase_if_new chart before row) ++ bands chart (Some row.phase) rows

-- ---- the columns

-- the column of an actor, under its name
unfoldable pub lane : Chart → Actor → List ℕ
lane chart actor =
    words_at (codes "actor") (column chart actor) 96 (actor_name actor) ++ upright (codes "lane") (column chart actor) top (bottom chart)

abbrev pub lane_at : Chart → ℕ → List ℕ
lane_at chart index = if is_shown chart.shown index then lane chart (actor_with chart.shape index) else []

unfoldable pub lanes : Chart → List ℕ
lanes chart = flat_map (lane_at chart) (range_with_len 0 32) ++ lane chart Keeper

-- ---- the chain

-- one line through the chain's events
unfoldable pub point : Chart → ChartRow → List ℕ
point chart row =
    if row.on_chain then decimal (column chart row.actor) ++ codes "," ++ decimal (y_of row.line) ++ space else []

unfoldable pub chain_begin : List ℕ
chain_begin = codes "<polyline class='denovo-path' points='"

unfoldable pub chain_path : Chart → List ℕ
chain_path chart = chain_begin ++ flat_map (point chart) chart.rows ++ codes "'/>\n"

-- ---- the arrows

-- the height at which the arrow to a row on a line begins: that of its sender's row; where the sender's event has none, the upper edge of
-- the row to which the arrow leads
abbrev pub height_of : ℕ → Option ℕ → ℕ
height_of line None = y_of line - 9
height_of line (Some sent) = y_of sent

-- an arrow whose sender has no row begins at a mark of its own, a short line across the sender's column
abbrev pub edge_mark : ℕ → ℕ → Option ℕ → List ℕ
edge_mark x y None = line_to (codes "mail") (x - 6) y (x + 6) y
edge_mark x y (Some sent) = []

-- a mail that was sent before the range, and one that isn't handled in it, have a broken line
abbrev pub mail_class : Option ℕ → List ℕ
mail_class None = codes "cut"
mail_class (Some line) = codes "mail"

-- an arrow of a class from one point to another; the last points before it leave room for its head
unfoldable pub arrow_between : List ℕ → ℕ → ℕ → ℕ → ℕ → List ℕ
arrow_between class x1 y1 x2 y2 =
    if nat_lt x2 x1 then line_to class x1 y1 (x2 + 13) y2 ++ head_from_right (x2 + 5) y2 else line_to class x1 y1 (x2 - 13) y2 ++ head_from_left (x2 - 5) y2

-- the arrow of the mail that an event handles
abbrev pub arrow_from : Chart → ChartRow → Option Origin → List ℕ
arrow_from chart row None = []
arrow_from chart row (Some mail) =
    edge_mark (column chart mail.sender) (height_of row.line mail.line) mail.line
    ++ arrow_between (mail_class mail.line) (column chart mail.sender) (height_of row.line mail.line) (column chart row.actor) (y_of row.line)

abbrev pub arrow : Chart → ChartRow → List ℕ
arrow chart row = arrow_from chart row row.mail

-- the arrow of a mail that no event of the chart handles: it ends on the mail's own line
abbrev pub leaving_arrow : Chart → LeavingMail → List ℕ
leaving_arrow chart mail =
    arrow_between (codes "cut") (column chart mail.sender) (y_of mail.sent) (column chart mail.to) (y_of mail.line)

-- ---- the rows

-- the event's number and actor, at the left edge
unfoldable pub number_words : ChartRow → List ℕ
number_words row = words_at (codes "number") 8 (y_of row.line + 4) (decimal row.event ++ space ++ actor_name row.actor)

-- the mark of an event of the chain: a ring about its dot
unfoldable pub ring : Chart → ChartRow → List ℕ
ring chart row = if row.on_chain then circle (codes "ring") (column chart row.actor) (y_of row.line) 8 else []

unfoldable pub dot : Chart → ChartRow → List ℕ
dot chart row = circle (codes "event") (column chart row.actor) (y_of row.line) 4

-- words beside a point, on the side from which no arrow comes
abbrev pub beside : Bool → ℕ → ℕ → List ℕ → List ℕ
beside true x y words = words_at (codes "left") (x - 14) (y + 4) words
beside false x y words = words_at (codes "right") (x + 14) (y + 4) words

-- whether the mail that an event handles comes from a column to the right
abbrev pub comes_from_right : Chart → Actor → Option Origin → Bool
comes_from_right chart actor None = false
comes_from_right chart actor (Some mail) = nat_lt (column chart actor) (column chart mail.sender)

unfoldable pub label : Chart → Located → ChartRow → List ℕ
label chart L row =
    beside (comes_from_right chart row.actor row.mail) (column chart row.actor) (y_of row.line) (label_text L row.kind row.about)

-- how the actor's task ends, on the line below the event's
abbrev pub ending_words : ℕ → ℕ → Option End → List ℕ
ending_words x y None = []
ending_words x y (Some by) = words_at (codes "end") (x + 14) (y + 22) (task_end_text by)

abbrev pub end_lines : Option End → ℕ
end_lines None = 0
end_lines (Some by) = 1

-- a change, on the line below the one before it
unfoldable pub change_words : Located → ℕ → WordChange → List ℕ
change_words L x change = codes "<tspan" ++ attribute (codes "x") x ++ attribute (codes "dy") 18 ++ codes ">" ++ change_text L change ++ codes "</tspan>"

-- the changes of an event, the first of them below a height
abbrev pub changes_below : Located → ℕ → ℕ → List WordChange → List ℕ
changes_below L x y [] = []
changes_below L x y (c ∷ cs) = words_at (codes "change") x (y + 4) (flat_map (change_words L x) (c ∷ cs))

-- all that is written for an event but its arrow
unfoldable pub row_words : Chart → Located → ChartRow → List ℕ
row_words chart L row =
    number_words row ++ ring chart row ++ dot chart row ++ label chart L row ++ ending_words (column chart row.actor) (y_of row.line) row.end
    ++ changes_below L (column chart row.actor + 14) (y_of row.line + 18 * end_lines row.end) row.changes

-- ---- after the rows

abbrev pub leaving_words : Chart → Located → LeavingMail → List ℕ
leaving_words chart L mail =
    beside (nat_lt (column chart mail.to) (column chart mail.sender)) (column chart mail.to) (y_of mail.line) (label_text L mail.kind mail.about)

unfoldable pub waiting_words : Chart → Located → WaitingTask → List ℕ
waiting_words chart L task =
    words_at (codes "end") (column chart (Core task.core) + 14) (y_of task.line + 4) (waiting_text L task.lock.0)

-- ---- the picture

unfoldable pub svg_of : Chart → Located → List ℕ
svg_of chart L =
    opening chart ++ bands chart None chart.rows ++ lanes chart ++ chain_path chart ++ flat_map (arrow chart) chart.rows ++ flat_map (leaving_arrow chart) chart.leaving
    ++ flat_map (row_words chart L) chart.rows ++ flat_map (leaving_words chart L) chart.leaving ++ flat_map (waiting_words chart L) chart.waiting ++ codes "</svg>\n"
