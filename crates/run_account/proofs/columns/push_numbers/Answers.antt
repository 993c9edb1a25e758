use Rattle.std.proofs.Common.{◌+◌, ◌-◌, arith}
use Rattle.run_account.specs.Forms.{tally_cell}
use Rattle.run_account.proofs.Ranges.{range-step}
use Rattle.run_account.proofs.columns.push_numbers.Goals as goal

pub loop-group-preserved : goal.loop-group-preserved
loop-group-preserved c =
    rw c.in_ok-push_tally.ensures
    (range-step (tally_cell c.args.table.now c.args.measure) c.loop-group.out.items c.loop-group.group (c.args.groups - c.loop-group.group) (c.args.groups - (c.loop-group.group + 1)) _ (omega (arith, c.loop-group-test.true)) c.loop-group.invariant)
