use Rattle.std.proofs.Common.{◌≡◌, ℕ, ◌+◌, ◌≤◌, ◌++◌, take, drop, length, option_map}
use Rattle.std.specs.List.{All}
use Rattle.region_table.specs.declared.declared.Region.{Region}
use Rattle.region_table.specs.Words.{AreApart}
use Rattle.rv_listing.specs.Listing.{text_of, set_lines}
use Rattle.rv_listing.proofs.effects.push_set.Given as goal

abbrev pub invariant-loop-interval : goal.invariant-loop-interval
invariant-loop-interval l = record {
  within : l.from ≤ length l.regions;
  passed : (bound : ℕ) × AreApart bound (drop l.interval-index l.interval-items) × All (λ (r : Region). r.start + r.len ≤ bound) (take l.from l.regions);
  left : l.out.items ++ text_of (set_lines l.usage.word.now (option_map (λ s. s.now) l.usage.lock) l.regions (drop l.interval-index l.interval-items))
      ≡ l.fn.out.items ++ text_of (set_lines l.usage.word.now (option_map (λ s. s.now) l.usage.lock) l.regions l.interval-items);
}
