-- The message chart of a range of a run's events.
use Rattle.std.specs.Prelude.{◌≡◌, ℕ, ◌+◌, ◌-◌, ◌≤◌, Bool, true, false, nat_le, List, [], length, take, drop, slice_get, Option, Some, None}
use Rattle.dn_base.specs.declared.ids.Shape.{Shape}
use Rattle.region_table.specs.Program.{ProgramParts}
use Rattle.message_net.specs.declared.event.Event.{Event}
use Rattle.registration_protocol.specs.Node.{Setting}
use Rattle.machine_rules.specs.State.{State, initial_state}
use Rattle.dn_machine.specs.Kept.{Made}
use Rattle.dn_machine.specs.Settings.{IsSettingOf}
use Rattle.run_chart.specs.declared.parts.Chart.{Chart}
use Rattle.run_chart.specs.declared.parts.ChartRow.{ChartRow}
use Rattle.run_chart.specs.declared.parts.Fit.TheVariants.{Rows}
use Rattle.run_chart.specs.declared.parts.LeavingMail.{LeavingMail}
use Rattle.run_chart.specs.declared.parts.WaitingTask.{WaitingTask}
use Rattle.run_chart.specs.declared.charting.Frame.{Frame}
use Rattle.run_chart.specs.declared.drawing.Drawing.{Drawing}
use Rattle.run_chart.specs.declared.drawing.Range.{Range}
use Rattle.run_chart.specs.declared.finishing.Columns.{Columns}
use Rattle.run_chart.specs.Drawing.{led_to, begun, with_rows}
use Rattle.run_chart.specs.Mails.{AreNotedFor}
use Rattle.run_chart.specs.Finishing.{leaving_from, waiting_from, shown_actors}

-- the events before a range, and those of it
abbrev pub before : Range → List Event → List Event
before range events = take range.first events

abbrev pub inside : Range → List Event → List Event
inside range events = take range.most (drop range.first events)

-- whether no event follows the range
abbrev pub reaches_end : Range → ℕ → Bool
reaches_end range events = nat_le events (range.first + range.most)

-- the drawing of these events from a machine on to which `event` others led; nothing if they lead to none
abbrev pub drawn_behind : List ℕ → ℕ → List Event → Option Made → Option Drawing
drawn_behind chain event wanted None = None
drawn_behind chain event wanted (Some m) = Some (with_rows chain (begun m event) wanted)

-- what is drawn of a range of the events that come from a machine on
abbrev pub drawn : Made → Range → List ℕ → List Event → Option Drawing
drawn m range chain events = drawn_behind chain (length (before range events)) (inside range events) (led_to m (before range events))

-- the tasks that wait for a lock when the run ends, if the chart reaches its end
abbrev pub waiting_at : Bool → ℕ → State → List WaitingTask
waiting_at true line S = waiting_from line S.nodes
waiting_at false line S = []

-- the number of the last row's event, if there is one
abbrev pub event_in : Option ChartRow → Option ℕ
event_in None = None
event_in (Some row) = Some row.event

abbrev pub last_event : List ChartRow → Option ℕ
last_event rows = event_in (slice_get rows (length rows - 1))

-- the chart of these rows, which end before a line, mails and tasks
abbrev pub chart_by : Frame → List ChartRow → List LeavingMail → List WaitingTask → ℕ → Chart
chart_by frame rows leaving tasks line =
    record {
      shape = frame.shape;
      fuel = frame.fuel;
      first = frame.range.first;
      last = last_event rows;
      events = frame.events;
      shown = shown_actors frame.columns rows leaving tasks frame.shape;
      rows = rows;
      leaving = leaving;
      waiting = tasks;
      lines = line + length leaving + length tasks;
      note = [];
      fit = Rows;
    }

-- the chart of a drawing: after its rows come the mails that leave it, and then the tasks that wait
abbrev pub leaving_in : Drawing → List LeavingMail
leaving_in d = leaving_from d.line d.sent d.machine.state.mails

abbrev pub waiting_in : Range → ℕ → Drawing → List WaitingTask
waiting_in range events d = waiting_at (reaches_end range events) (d.line + length (leaving_in d)) d.machine.state

abbrev pub chart_in : Frame → Option Drawing → Chart
chart_in frame None = chart_by frame [] [] [] 0
chart_in frame (Some d) = chart_by frame d.rows (leaving_in d) (waiting_in frame.range frame.events d) d.line

-- the chart of the events that come from the initial machine on
abbrev pub chart_of : Setting → List Event → Range → List ℕ → Columns → Chart
chart_of C events range chain columns =
    chart_in (record { shape = C.shape; fuel = C.fuel; range = range; events = length events; columns = columns })
    (drawn (record { state = initial_state C; made = 0 }) range chain events)

-- the chart of a run of the machine of this program, shape and fuel
pub record IsChartOf (P : ProgramParts) (shape : Shape) (fuel : ℕ) (events : List Event) (range : Range) (chain : List ℕ) (columns : Columns) (chart : Chart) : Type 0 where
  pub setting : Setting
  pub setting_is : IsSettingOf P shape fuel setting
  pub is : chart ≡ chart_of setting events range chain columns

-- a drawing whose mails are noted, and that has few enough lines to add those of mails and tasks
pub record IsFinishable (d : Drawing) : Type 0 where
  pub sent : AreNotedFor d.sent d.machine.state.mails
  pub made : d.machine.made ≤ 25173760
  pub lines : d.line ≤ 268443648

-- this drawing is that of a range of the events, and can be finished; or an event before the range may not come in its turn
pub record IsDrawing (m : Made) (range : Range) (chain : List ℕ) (events : List Event) (d : Drawing) : Type 0 where
  pub is : drawn m range chain events ≡ Some d
  pub fits : IsFinishable d

abbrev pub IsRangeDrawn : Made → Range → List ℕ → List Event → Drawing → Bool → Type 0
IsRangeDrawn m range chain events d true = IsDrawing m range chain events d
IsRangeDrawn m range chain events d false = drawn m range chain events ≡ None
