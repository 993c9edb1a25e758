-- The arrows of mails that leave a window of a chart: an event behind the window handles them.
use Rattle.std.specs.Prelude.{◌≡◌, ℕ, true, ◌⊎◌, List, Option, Some}
use Rattle.message_net.specs.declared.event.Event.{Event}
use Rattle.machine_rules.specs.State.{State}
use Rattle.run_timing.specs.Depends.{actor_at, IsSender}
use Rattle.run_chart.specs.declared.keeping.Window.{Window}
use Rattle.run_chart.specs.declared.parts.ChartRow.{ChartRow}
use Rattle.run_chart.specs.declared.parts.LeavingMail.{LeavingMail}
use Rattle.run_chart.specs.Arrows.{line_of_event, LeavesFromSender}
use Rattle.run_chart.specs.Keeping.{comes_behind}

-- an event behind the window handles the mail that this event sent: its arrow begins in the column of the sender's actor and on the line
-- of the sender's row, and ends in the column of the actor that handles it
pub record IsHandledBehind (S : State) (events : List Event) (rows : List ChartRow) (window : Option Window) (mail : LeavingMail) : Type 0 where
  pub event : ℕ
  pub handler : ℕ
  pub behind : comes_behind window handler ≡ true
  pub sends : IsSender S events event handler
  pub actor : actor_at S events event ≡ Some mail.sender
  pub line : line_of_event event rows ≡ Some mail.sent
  pub handles : actor_at S events handler ≡ Some mail.to

-- a mail without a receiver's row is in flight behind the range, or handled behind the window
abbrev pub LeavesWindow : State → List Event → List ChartRow → ℕ → Option Window → LeavingMail → Type 0
LeavesWindow S events rows end window mail = LeavesFromSender S events rows end mail ⊎ IsHandledBehind S events rows window mail
