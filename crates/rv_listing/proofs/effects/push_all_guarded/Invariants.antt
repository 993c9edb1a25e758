use Rattle.std.proofs.Common.{◌≡◌, ◌++◌, drop, take}
use Rattle.std.specs.List.{All}
use Rattle.region_table.specs.Words.{IsCanonical}
use Rattle.rv_listing.specs.Listing.{text_of, all_guarded_lines}
use Rattle.rv_listing.proofs.effects.push_all_guarded.Given as goal

abbrev pub invariant-loop-number : goal.invariant-loop-number
invariant-loop-number l = record {
  lines : l.out.items ++ text_of (all_guarded_lines l.regions l.effects l.number (drop l.number l.locks)) ≡ l.fn.out.items ++ text_of (all_guarded_lines l.regions l.effects 0 l.locks);
  reads : All IsCanonical (take l.number l.effects.guarded_reads);
  writes : All IsCanonical (take l.number l.effects.guarded_writes);
}
