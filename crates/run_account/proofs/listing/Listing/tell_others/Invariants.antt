use Rattle.std.proofs.Common.{◌≡◌, ◌++◌, map, take, drop, flat_map}
use Rattle.std.specs.List.{enumerate_from}
use Rattle.run_account.specs.Tallies.{with_items}
use Rattle.run_account.specs.Lists.{told_cache}
use Rattle.run_account.specs.Counts.{told_items, others_items}
use Rattle.run_account.proofs.listing.Listing.tell_others.Given as goal

-- the first cores are told, and what the others are told is still to be counted
abbrev pub invariant-loop-other : goal.invariant-loop-other
invariant-loop-other l =
    record {
      tallies : with_items l.self.tallies (flat_map (told_items l.access) (enumerate_from l.other (drop l.other l.fn.self.lists.caches))) ≡ with_items l.fn.self.tallies (others_items l.fn.self.lists l.access);
      caches : l.self.lists.caches ≡ map (told_cache l.access) (enumerate_from 0 (take l.other l.fn.self.lists.caches)) ++ drop l.other l.fn.self.lists.caches;
      ways : l.self.lists.ways ≡ l.fn.self.lists.ways;
    }
