-- What a slide shows of a chart: as many events as have room, from the first one on that is no plain instruction.
--
-- A slide has 1,280 by 720 points. Below its head, which takes 121 points, 31 lines of 18 points each have room, and beside the numbers of
-- the events the columns of five cores and banks and of the keeper.
use Rattle.std.specs.Prelude.{ℕ, zero, suc, ◌≤◌, ◌&&◌, Bool, not, nat_le, List, [], drop, position, slice_get, Option, Some, None, if◌then◌else◌}
use Rattle.message_net.specs.declared.actor.Actor.TheVariants.{Keeper}
use Rattle.run_chart.specs.declared.finishing.Columns.{Columns}
use Rattle.run_chart.specs.declared.finishing.Columns.TheVariants.{Used}
use Rattle.run_chart.specs.declared.keeping.Keeping.{Keeping}
use Rattle.run_chart.specs.declared.keeping.Window.{Window}
use Rattle.run_chart.specs.declared.parts.Chart.{Chart}
use Rattle.run_chart.specs.declared.parts.ChartRow.{ChartRow}
use Rattle.run_chart.specs.declared.parts.Fit.{Fit}
use Rattle.run_chart.specs.declared.parts.Fit.TheVariants.{Rows, Slide}
use Rattle.run_chart.specs.Keeping.{is_plain, kept_chart, kept_rows}
use Rattle.run_chart.specs.Places.{place_of}

abbrev pub slide_lines : ℕ
slide_lines = 31

abbrev pub slide_columns : ℕ
slide_columns = 5

-- a slide has room for a chart of at most so many lines, with at most so many columns before the keeper's
abbrev pub FitsOnSlide : Chart → Type 0
FitsOnSlide chart = (chart.lines ≤ slide_lines) × (place_of chart Keeper ≤ slide_columns)

abbrev pub fits_on_slide : Chart → Bool
fits_on_slide chart = nat_le chart.lines slide_lines && nat_le (place_of chart Keeper) slide_columns

-- a slide has columns only for the cores and banks that have something to do on it
abbrev pub columns_on : Fit → Columns → Columns
columns_on Rows columns = columns
columns_on Slide columns = Used

-- the slide of what is kept, and whether there is room for it
abbrev pub slide_of : Keeping → Chart → Chart
slide_of K chart = kept_chart K Used Slide [] chart

abbrev pub slide_fits : Keeping → Chart → Bool
slide_fits K chart = fits_on_slide (slide_of K chart)

-- ---- which rows have room

-- the rows from the first one on that is of no plain instruction; all where there is none
abbrev pub is_shown_first : ChartRow → Bool
is_shown_first row = not (is_plain row)

abbrev pub place_or_first : Option ℕ → ℕ
place_or_first None = 0
place_or_first (Some place) = place

abbrev pub first_place : List ChartRow → Option ℕ
first_place rows = position is_shown_first rows

abbrev pub from_first : List ChartRow → List ChartRow
from_first rows = drop (place_or_first (first_place rows)) rows

-- the event of a row; the number of events where there is no row
abbrev pub event_or : ℕ → Option ChartRow → ℕ
event_or events None = events
event_or events (Some row) = row.event

-- the window of so many rows: it has all events up to that of the next row
abbrev pub window_of : List ChartRow → ℕ → ℕ → Window
window_of rows events count = record { first = event_or events (slice_get rows 0); behind = event_or events (slice_get rows count) }

-- what is kept in the window of so many of the rows that are kept, from the first one on
abbrev pub within : Keeping → Window → Keeping
within K window = record K { window = Some window }

abbrev pub within_rows : Keeping → Chart → ℕ → Keeping
within_rows K chart count = within K (window_of (from_first (kept_rows K chart)) chart.events count)

-- the most rows, of at most so many, that have room; a single one is shown even where it has none
abbrev pub most_rows : Keeping → Chart → ℕ → ℕ
most_rows K chart zero = 1
most_rows K chart (suc n) = if slide_fits (within_rows K chart (suc n)) chart then suc n else most_rows K chart n

-- ---- the choice

-- what is kept of a chart on a picture of a size: on a slide no more than has room
abbrev pub on_slide : Keeping → Chart → Keeping
on_slide K chart = if slide_fits K chart then K else within_rows K chart (most_rows K chart slide_lines)

abbrev pub fitted : Fit → Keeping → Chart → Keeping
fitted Rows K chart = K
fitted Slide K chart = on_slide K chart
