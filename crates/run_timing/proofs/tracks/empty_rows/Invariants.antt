use Rattle.std.proofs.Common.{◌≡◌, [], replicate}
use Rattle.run_timing.proofs.tracks.empty_rows.Given as goal

abbrev pub invariant-loop-room : goal.invariant-loop-room
invariant-loop-room l = l.rows.items ≡ replicate l.room-index []
