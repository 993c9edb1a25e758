use Rattle.std.proofs.Common.{◌≡◌, ◌++◌, length, map}
use Rattle.host_workers.specs.Inboxes.{port_mails}
use Rattle.host_workers.proofs.inboxes.port_inboxes.Given as goal

abbrev pub invariant-loop-port : goal.invariant-loop-port
invariant-loop-port l =
    map port_mails l.ports.items ++ map (λ v. v.items) l.inboxes.items ≡ map port_mails l.fn.ports.items

abbrev pub decreases-loop-port : goal.decreases-loop-port
decreases-loop-port l = length l.ports.items
