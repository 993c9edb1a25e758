use Rattle.std.proofs.Common.{◌≡◌, ◌≤◌, ◌++◌, length, map, take}
use Rattle.std.specs.List.{All}
use Rattle.host_workers.specs.Inboxes.{bank_parts, bank_inbox, bank_number, bank_clock}
use Rattle.host_workers.proofs.inboxes.bank_actors.Given as goal

abbrev pub invariant-loop-bank : goal.invariant-loop-bank
invariant-loop-bank l = record {
  banks : l.banks.items ++ map bank_parts l.actors.items ≡ l.fn.banks.items;
  inboxes : map (λ v. v.items) l.inboxes.items ++ map bank_inbox l.actors.items ≡ map (λ v. v.items) l.fn.inboxes.items;
  count : length l.inboxes.items ≡ length l.banks.items;
  numbers : take (length l.banks.items) l.next ++ map bank_number l.actors.items ≡ l.next;
  within : length l.banks.items ≤ length l.next;
  clocks : All (λ a. bank_clock a ≡ 0) l.actors.items;
}

abbrev pub decreases-loop-bank : goal.decreases-loop-bank
decreases-loop-bank l = length l.banks.items
