use Rattle.run_timing.specs.Rows.{IsLatest, finish_in}
use Rattle.run_timing.proofs.rows.Rows.latest.Given as goal

abbrev pub invariant-loop-event : goal.invariant-loop-event
invariant-loop-event l = IsLatest l.event (finish_in l.self) l.latest
