use Rattle.std.proofs.Common.{◌≤◌, ◌-◌, drop, length}
use Rattle.message_net.specs.Pool.{count_of}
use Rattle.dn_machine.proofs.actors.mail_with.Given as goal

abbrev pub invariant-loop-id : goal.invariant-loop-id
invariant-loop-id l = 1 ≤ count_of l.id (drop l.place l.pool.mails)

abbrev pub decreases-loop-id : goal.decreases-loop-id
decreases-loop-id l = length l.pool.mails - l.place
