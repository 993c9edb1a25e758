use Rattle.std.proofs.Common.{arith}
use Rattle.run_changes.proofs.since.add_core.Goals as goal

pub node_since-requires : goal.node_since-requires
node_since-requires c = omega (arith, c.node.ensures.fits.signatures, c.a_machine_is_kept.ensures.left.ready.program.locks)
