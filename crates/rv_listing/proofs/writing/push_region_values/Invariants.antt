use Rattle.std.proofs.Common.{◌≡◌, ◌++◌, drop}
use Rattle.rv_listing.specs.Listing.{text_of, value_lines}
use Rattle.rv_listing.proofs.writing.push_region_values.Given as goal

abbrev pub invariant-loop-value : goal.invariant-loop-value
invariant-loop-value l = record {
  place : l.index ≡ l.value-index;
  left : l.out.items ++ text_of (value_lines l.region l.index (drop l.value-index l.values)) ≡ l.fn.out.items ++ text_of (value_lines l.region 0 l.values);
}
