use Rattle.std.proofs.Common.{◌+◌, ◌-◌, arith}
use Rattle.std.specs.Prelude.{length}
use Rattle.state_text.specs.Parts.{counted_line_of}
use Rattle.state_text.proofs.Steps.{range-step}
use Rattle.state_text.proofs.keeper.push_counted.Goals as goal

pub loop-core-preserved : goal.loop-core-preserved
loop-core-preserved c =
    rw c.in_ok-push_if_counted.ensures
    (range-step (counted_line_of c.args.keeper.now) c.loop-core.out.items c.loop-core.core (length c.args.keeper.now.arrived - c.loop-core.core) (length c.args.keeper.now.arrived - (c.loop-core.core + 1)) _ (omega (arith, c.loop-core-test.true)) c.loop-core.invariant)
