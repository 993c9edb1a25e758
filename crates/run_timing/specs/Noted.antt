-- The notes of all events of a run.
use Rattle.std.specs.Prelude.{List, length}
use Rattle.message_net.specs.declared.event.Event.{Event}
use Rattle.machine_rules.specs.State.{State}
use Rattle.run_timing.specs.declared.rows.Rows.{Rows}
use Rattle.run_timing.specs.declared.ticks.Ticks.{Ticks}
use Rattle.run_timing.specs.Depends.{kind_at, IsOwnBefore, IsSender}
use Rattle.run_timing.specs.Rows.{AreNoted}
use Rattle.run_timing.specs.Steps.{step_delay}
use Rattle.run_timing.specs.Ticks.{ticks_at}

-- the rows of the events that come from state S on
abbrev pub AreRowsOf : Ticks → State → List Event → Rows → Type 0
AreRowsOf ticks S events rows =
    AreNoted (IsOwnBefore S events) (IsSender S events) (ticks_at ticks S events) (step_delay ticks S events) (kind_at S events) (length events) rows
