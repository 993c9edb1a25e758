use Rattle.std.proofs.Common.{◌≤◌, slice_get, arith}
use Rattle.run_changes.specs.Changes.{core_changes}
use Rattle.run_changes.proofs.Listed.{nothing_added, no_core}
use Rattle.run_changes.proofs.making.note_core_at.Goals as goal

pub returns-else-core-shape : goal.returns-else-core-shape
returns-else-core-shape c =
    let S = c.args.machine.now.state in
    let above : S.setting.shape.cores ≤ c.args.core.0 = rw (c.shape.ensures) at c.if-core-shape.false in
    nothing_added c.args.out.now.items (core_changes c.args.look.now c.args.seen (slice_get S.nodes c.args.core.0)) (no_core S c.args.core.0 c.args.look.now c.args.seen c.requires above)

pub note_core-requires : goal.note_core-requires
note_core-requires c = omega (arith, c.node.ensures.fits.signatures, c.a_machine_is_kept.ensures.left.ready.program.locks)
