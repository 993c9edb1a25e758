use Rattle.std.proofs.Common.{◌≡◌, ◌++◌, drop, flat_map}
use Rattle.state_text.specs.ForReaders.{region_lines}
use Rattle.state_text.proofs.region_words.push_regions.Given as goal

abbrev pub invariant-loop-region : goal.invariant-loop-region
invariant-loop-region l =
    l.out.items ++ flat_map (region_lines l.base l.memory) (drop l.region-index l.regions) ≡ l.fn.out.items ++ flat_map (region_lines l.base l.memory) l.regions
