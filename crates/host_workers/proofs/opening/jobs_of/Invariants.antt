use Rattle.std.proofs.Common.{◌≡◌, ◌++◌, length, map}
use Rattle.host_workers.specs.Opening.{crew_of, pass_of}
use Rattle.host_workers.proofs.opening.jobs_of.Given as goal

abbrev pub invariant-loop-pass : goal.invariant-loop-pass
invariant-loop-pass l = record {
  passes : l.passes.items ++ map pass_of l.jobs.items ≡ l.fn.passes.items;
  crews : l.crews.items ++ map crew_of l.jobs.items ≡ l.fn.crews.items;
  count : length l.crews.items ≡ length l.passes.items;
}

abbrev pub decreases-loop-pass : goal.decreases-loop-pass
decreases-loop-pass l = length l.passes.items
