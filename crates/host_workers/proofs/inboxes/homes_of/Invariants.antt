use Rattle.std.proofs.Common.{◌≡◌, ◌++◌, length, map}
use Rattle.host_workers.specs.Inboxes.{bank_parts, bank_inbox, bank_number}
use Rattle.host_workers.proofs.inboxes.homes_of.Given as goal

abbrev pub invariant-loop-actor : goal.invariant-loop-actor
invariant-loop-actor l = record {
  banks : map bank_parts l.actors.items ++ l.homes.banks.items ≡ map bank_parts l.fn.actors.items;
  inboxes : map bank_inbox l.actors.items ++ map (λ v. v.items) l.homes.inboxes.items ≡ map bank_inbox l.fn.actors.items;
  numbers : map bank_number l.actors.items ++ l.homes.next.items ≡ map bank_number l.fn.actors.items;
}

abbrev pub decreases-loop-actor : goal.decreases-loop-actor
decreases-loop-actor l = length l.actors.items
