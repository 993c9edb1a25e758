use Rattle.std.proofs.Common.{◌≡◌, length}
use Rattle.run_replay.specs.Lines.{AreLines}
use Rattle.run_replay.proofs.events.events.Given as goal

abbrev pub invariant-loop-number : goal.invariant-loop-number
invariant-loop-number l = record { lines : AreLines l.bytes l.events l.rest; count : length l.events ≡ l.number }
