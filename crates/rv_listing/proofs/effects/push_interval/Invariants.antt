use Rattle.std.proofs.Common.{◌≡◌, ◌-◌, ◌≤◌, ◌++◌, take, drop, length, option_map}
use Rattle.std.specs.List.{All}
use Rattle.rv_listing.specs.Listing.{text_of, interval_lines}
use Rattle.rv_listing.proofs.PartLemmas.{EndsBy}
use Rattle.rv_listing.proofs.effects.push_interval.Given as goal

abbrev pub invariant-loop-index : goal.invariant-loop-index
invariant-loop-index l = record {
  within : l.index ≤ length l.regions;
  passed : All (EndsBy l.interval.hi) (take l.index l.regions);
  left : l.out.items ++ text_of (interval_lines l.usage.word.now (option_map (λ s. s.now) l.usage.lock) (drop l.index l.regions) l.interval)
      ≡ l.fn.out.items ++ text_of (interval_lines l.usage.word.now (option_map (λ s. s.now) l.usage.lock) l.regions l.interval);
}

abbrev pub decreases-loop-index : goal.decreases-loop-index
decreases-loop-index l = length l.regions - l.index
