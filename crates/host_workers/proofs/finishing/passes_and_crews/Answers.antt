use Rattle.host_workers.specs.Opening.{crew_of, pass_of}
use Rattle.host_workers.proofs.MadeObjects.{taken-more}
use Rattle.host_workers.proofs.finishing.passes_and_crews.Goals as goal

pub loop-job-preserved : goal.loop-job-preserved
loop-job-preserved c =
    let had = c.loop-job.invariant in
    let split = c.in-Some.ensures.items in record {
      passes = taken-more pass_of _ _ _ _ _ _ split c.in_ok-insert.ensures.items had.passes;
      crews = taken-more crew_of _ _ _ _ _ _ split c.in_ok-insert-2.ensures.items had.crews;
    }
