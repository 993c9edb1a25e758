use Rattle.std.proofs.Common.{◌+◌, ◌-◌, arith}
use Rattle.run_account.specs.Forms.{traffic_cell}
use Rattle.run_account.proofs.Ranges.{range-step}
use Rattle.run_account.proofs.traffic.push_cells.Goals as goal

pub loop-group-preserved : goal.loop-group-preserved
loop-group-preserved c =
    rw (c.in_ok-push_number.ensures, c.number.ensures)
    (range-step (traffic_cell c.args.table.now c.args.row) c.loop-group.out.items c.loop-group.group (c.args.groups - c.loop-group.group) (c.args.groups - (c.loop-group.group + 1)) _ (omega (arith, c.loop-group-test.true)) c.loop-group.invariant)
