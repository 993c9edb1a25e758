use Rattle.std.proofs.Common.{◌≡◌, ◌+◌, ◌-◌, length, ap, arith}
use Rattle.region_table.specs.Program.{ProgramParts}
use Rattle.state_text.specs.Parts.{lock_lines_at}
use Rattle.state_text.proofs.Steps.{range-step}
use Rattle.state_text.proofs.locks.push_locks.Goals as goal

pub loop-lock-preserved : goal.loop-lock-preserved
loop-lock-preserved c =
    let count : length c.program.result.now.locks ≡ length c.args.machine.now.state.setting.program.locks =
    ap (λ (p : ProgramParts). length p.locks) c.program.ensures in
    rw c.in_ok-push_lock_lines.ensures
    (range-step (lock_lines_at c.args.machine.now.state) c.loop-lock.out.items c.loop-lock.lock
    (length c.args.machine.now.state.setting.program.locks - c.loop-lock.lock) (length c.args.machine.now.state.setting.program.locks - (c.loop-lock.lock + 1)) _
    (omega (arith, c.loop-lock-test.true, count)) c.loop-lock.invariant)
