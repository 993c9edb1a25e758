use Rattle.std.proofs.Common.{◌+◌, ◌-◌, arith}
use Rattle.rv_assembler.specs.ClaimRows.{phase_by_rows}
use Rattle.rv_assembler.proofs.LoopLemmas.{map_step}
use Rattle.rv_assembler.proofs.finishing.phases_by.Goals as goal

pub loop-number-preserved : goal.loop-number-preserved
loop-number-preserved c =
    rw (c.in_ok-push.ensures.ok, c.in_ok-phase_of.ensures)
    (map_step (phase_by_rows c.args.locks c.args.rows.now c.args.tasks.now) c.loop-number.phases (c.loop-number.number + 1) (c.args.count - c.loop-number.number) (c.args.count - (c.loop-number.number + 1)) _ (omega arith) c.loop-number.invariant)
