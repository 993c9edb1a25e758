use Rattle.std.proofs.Common.{◌≡◌, ◌++◌, length, map}
use Rattle.host_workers.specs.Inboxes.{port_mails}
use Rattle.host_workers.proofs.inboxes.core_ports.Given as goal

abbrev pub invariant-loop-inbox : goal.invariant-loop-inbox
invariant-loop-inbox l =
    map (λ v. v.items) l.inboxes.items ++ map port_mails l.ports.items ≡ map (λ v. v.items) l.fn.inboxes.items

abbrev pub decreases-loop-inbox : goal.decreases-loop-inbox
decreases-loop-inbox l = length l.inboxes.items
