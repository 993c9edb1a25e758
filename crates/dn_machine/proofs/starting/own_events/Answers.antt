use Rattle.std.proofs.Common.{arith}
use Rattle.registration_protocol.specs.Setting.{setting}
use Rattle.dn_machine.proofs.ListItems.{item}
use Rattle.dn_machine.proofs.OwnRow.{row-next}
use Rattle.dn_machine.proofs.starting.own_events.Goals as goal

pub own_at-requires-clause-fits : goal.own_at-requires-clause-fits
own_at-requires-clause-fits c = λ n here. c.requires.fits c.loop-place.place n here

pub loop-place-preserved : goal.loop-place-preserved
loop-place-preserved c =
    let there = item c.args.nodes.now c.loop-place.place (omega arith) in
    let value = c.own_at.ensures there.0 there.1 in
    (omega arith, rw (c.loop-place.invariant.1, value) (row-next (setting c.args.context.now) c.args.nodes.now c.loop-place.place there.0 c.requires.most there.1 (omega arith)))
