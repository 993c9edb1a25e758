use Rattle.std.proofs.Common.{◌≡◌, ◌++◌, drop, map}
use Rattle.run_changes.specs.Events.{outgoing_of}
use Rattle.run_changes.proofs.making.sent_from.Given as goal

abbrev pub invariant-loop-place : goal.invariant-loop-place
invariant-loop-place l = l.sent ++ map outgoing_of (drop l.place l.pool.mails) ≡ map outgoing_of (drop l.left l.pool.mails)
