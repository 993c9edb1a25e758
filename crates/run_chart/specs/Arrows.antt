-- Where the arrows of a run's chart begin and end: the sender of a mail is the one by which the run's timing goes.
use Rattle.std.specs.Prelude.{◌≡◌, ◌≢◌, ℕ, ◌+◌, ◌<◌, ◌≤◌, ◌==◌, List, [], ◌∷◌, length, slice_get, Option, Some, None, if◌then◌else◌}
use Rattle.message_net.specs.declared.actor.MailId.{MailId}
use Rattle.message_net.specs.declared.event.Event.{Event}
use Rattle.message_net.specs.declared.event.Event.TheVariants.{Handle}
use Rattle.message_net.specs.Pool.{count_of}
use Rattle.machine_rules.specs.State.{State}
use Rattle.dn_machine.specs.Actors.{actor_in}
use Rattle.run_timing.specs.Depends.{state_at, actor_at, Sends, IsSender}
use Rattle.run_chart.specs.declared.parts.ChartRow.{ChartRow}
use Rattle.run_chart.specs.declared.parts.LeavingMail.{LeavingMail}
use Rattle.run_chart.specs.declared.parts.Origin.{Origin}
use Rattle.run_chart.specs.declared.drawing.Range.{Range}
use Rattle.run_chart.specs.Charts.{before, inside}

-- the line on which an event has its row; None where it has no row
abbrev pub line_of_event : ℕ → List ChartRow → Option ℕ
line_of_event event [] = None
line_of_event event (row ∷ rows) = if row.event == event then Some row.line else line_of_event event rows

-- the mail that a row's event handles was sent by one event: its arrow begins in the column of that event's actor, on the line of that
-- event's row, or at no row where that event has none
pub record ComesFromSender (S : State) (events : List Event) (rows : List ChartRow) (row : ChartRow) (mail : Origin) : Type 0 where
  pub event : ℕ
  pub sends : IsSender S events event row.event
  pub only : (other : ℕ) → IsSender S events other row.event → other ≡ event
  pub actor : actor_at S events event ≡ Some mail.sender
  pub line : mail.line ≡ line_of_event event rows

-- what a row tells of the mail that its event handles, or that it handles none
abbrev pub TellsSender : State → List Event → List ChartRow → ChartRow → Option Origin → Type 0
TellsSender S events rows row None = (id : MailId) → slice_get events row.event ≢ Some (Handle id)
TellsSender S events rows row (Some mail) = ComesFromSender S events rows row mail

-- how many events come before the end of a range: the number of the first event behind it
abbrev pub end_of_range : Range → List Event → ℕ
end_of_range range events = length (before range events) + length (inside range events)

-- a mail is in flight from the event behind this one on, until event number `end` comes
abbrev pub FliesUntil : State → List Event → MailId → ℕ → ℕ → Type 0
FliesUntil S events id event end = (k : ℕ) → event < k → k ≤ end → 1 ≤ count_of id (state_at S events k).mails

-- the mail with this id, which this event sent, is in flight behind the range: its arrow begins in the column of the event's actor and on
-- the line of the event's row, and ends in the column of the actor that may handle the mail
pub record LeavesRange (S : State) (events : List Event) (rows : List ChartRow) (end event : ℕ) (id : MailId) (mail : LeavingMail) : Type 0 where
  pub sends : Sends S events event id
  pub in_flight : FliesUntil S events id event end
  pub actor : actor_at S events event ≡ Some mail.sender
  pub line : line_of_event event rows ≡ Some mail.sent
  pub handler : actor_in (state_at S events end) (Handle id) ≡ Some mail.to

-- a leaving mail is one that an event of the range sent
abbrev pub LeavesFromSender : State → List Event → List ChartRow → ℕ → LeavingMail → Type 0
LeavesFromSender S events rows end mail = (event : ℕ) × (id : MailId) × LeavesRange S events rows end event id mail

-- each mail that an event from number `first` on sent, and that is in flight since, is one of the leaving mails
abbrev pub AllLeave : State → List Event → List ChartRow → ℕ → ℕ → List LeavingMail → Type 0
AllLeave S events rows first end leaving =
    (event : ℕ) (id : MailId) → first ≤ event → event < end → Sends S events event id → FliesUntil S events id event end
    → (i : ℕ) × (mail : LeavingMail) × (slice_get leaving i ≡ Some mail) × LeavesRange S events rows end event id mail
