use Rattle.std.proofs.Common.{◌++◌, ◌+◌, ◌-◌, ◌<◌, Bool, length, ap, ◌∙◌, arith}
use Rattle.phase_barrier.specs.Barrier.{has_arrived}
use Rattle.run_changes.specs.Changes.{arrived_core, arrived_from}
use Rattle.run_changes.proofs.Listed.{goes_on, arrived_step}
use Rattle.run_changes.proofs.banks.arrived_at.Goals as goal

pub loop-core-preserved : goal.loop-core-preserved
loop-core-preserved c =
    let k = c.args.keeper.now in
    let below : c.loop-core.core < length k.arrived = omega (arith, c.loop-core-test.true, c.cores-core-end.ensures.count) in
    record {
      within = omega (arith, below);
      so_far = goes_on c.loop-core.arrived c.add_arrived.new.out (arrived_core c.loop-core.core (has_arrived c.loop-core.core k)) (arrived_from k c.loop-core.core (length k.arrived - c.loop-core.core))
          (arrived_from k (c.loop-core.core + 1) (length k.arrived - (c.loop-core.core + 1))) (arrived_from k 0 (length k.arrived))
          (c.in_ok-add_arrived.ensures ∙ ap (λ (b : Bool). c.loop-core.arrived ++ arrived_core c.loop-core.core b) c.has_arrived.ensures) (arrived_step k c.loop-core.core (length k.arrived) below) c.loop-core.invariant.so_far;
    }
