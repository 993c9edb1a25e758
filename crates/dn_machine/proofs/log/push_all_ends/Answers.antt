use Rattle.std.proofs.Common.{arith}
use Rattle.dn_machine.proofs.EndLists.{phase-more}
use Rattle.dn_machine.proofs.log.push_all_ends.Goals as goal

pub loop-phase-preserved : goal.loop-phase-preserved
loop-phase-preserved c =
    record {
      so_far =
          rw (c.in_ok-push_ends.ensures, c.as_slice.ensures)
          (phase-more c.args.table.now c.loop-phase.out c.loop-phase.number c.args.phases.now c.loop-phase.phase-index c.phase-item.result _ c.phase-item.is c.loop-phase-test.true c.loop-phase.invariant.so_far);
      number = omega (arith, c.loop-phase.invariant.number);
    }
