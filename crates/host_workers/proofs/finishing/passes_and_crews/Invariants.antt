use Rattle.std.proofs.Common.{◌≡◌, ◌++◌, length, map}
use Rattle.host_workers.specs.Opening.{crew_of, pass_of}
use Rattle.host_workers.proofs.finishing.passes_and_crews.Given as goal

abbrev pub invariant-loop-job : goal.invariant-loop-job
invariant-loop-job l = record {
  passes : map pass_of l.jobs.items ++ l.passes.items ≡ map pass_of l.fn.jobs.items;
  crews : map crew_of l.jobs.items ++ l.crews.items ≡ map crew_of l.fn.jobs.items;
}

abbrev pub decreases-loop-job : goal.decreases-loop-job
decreases-loop-job l = length l.jobs.items
