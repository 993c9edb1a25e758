use Rattle.std.proofs.Common.{◌++◌, ◌+◌, ◌-◌, slice_get, arith}
use Rattle.run_changes.specs.Since.{core_since, cores_since}
use Rattle.run_changes.proofs.Listed.{goes_on, cores_step}
use Rattle.run_changes.proofs.since.add_cores.Goals as goal

pub loop-core-preserved : goal.loop-core-preserved
loop-core-preserved c =
    let S = c.args.machine.now.state in
    let core = c.loop-core.core in
    record {
      within = omega (arith, c.loop-core-test.true);
      so_far = goes_on c.loop-core.out c.add_core.new.out (core_since core (slice_get S.nodes core)) (cores_since S core (c.args.cores - core)) (cores_since S (core + 1) (c.args.cores - (core + 1)))
          (c.args.out.now ++ cores_since S 0 c.args.cores) c.in_ok-add_core.ensures (cores_step S core c.args.cores c.loop-core-test.true) c.loop-core.invariant.so_far;
    }
