use Rattle.std.proofs.Common.{◌≡◌, ◌++◌, drop}
use Rattle.run_timing.specs.Longest.{numbers_in}
use Rattle.view_top.proofs.charts.numbers_in.Given as goal

abbrev pub invariant-loop-link : goal.invariant-loop-link
invariant-loop-link l = l.numbers ++ numbers_in (drop l.link-index l.links) ≡ numbers_in l.links
