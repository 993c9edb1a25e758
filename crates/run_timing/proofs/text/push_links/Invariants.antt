use Rattle.std.proofs.Common.{◌≡◌, ◌++◌, drop, flat_map}
use Rattle.run_timing.specs.Text.{link_line}
use Rattle.run_timing.proofs.text.push_links.Given as goal

abbrev pub invariant-loop-link : goal.invariant-loop-link
invariant-loop-link l = l.out.items ++ flat_map link_line (drop l.link-index l.links) ≡ l.fn.out.items ++ flat_map link_line l.links
