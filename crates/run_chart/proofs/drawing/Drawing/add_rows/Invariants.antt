use Rattle.std.proofs.Common.{◌≡◌, ◌+◌, ◌*◌, ◌≤◌, drop, length}
use Rattle.run_chart.specs.Drawing.{with_rows}
use Rattle.run_chart.specs.Mails.{AreNotedFor}
use Rattle.run_chart.proofs.drawing.Drawing.add_rows.Given as goal

abbrev pub invariant-loop-event : goal.invariant-loop-event
invariant-loop-event l =
    record {
      place : l.place ≡ l.event-index;
      made : l.self.machine.made ≡ l.fn.self.machine.made + l.event-index;
      event : l.self.event ≡ l.fn.self.event + l.event-index;
      rows : length l.self.rows ≡ l.event-index;
      line : l.self.line ≤ 65538 * length l.self.rows;
      sent : AreNotedFor l.self.sent l.self.machine.state.mails;
      so_far : with_rows l.chain l.self (drop l.event-index l.events) ≡ with_rows l.chain l.fn.self l.events;
    }
