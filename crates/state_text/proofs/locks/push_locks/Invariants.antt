use Rattle.std.proofs.Common.{◌≡◌, ◌-◌, ◌++◌, flat_map, length}
use Rattle.std.specs.List.{range_with_len}
use Rattle.state_text.specs.Parts.{lock_lines_at}
use Rattle.state_text.proofs.locks.push_locks.Given as goal

abbrev pub invariant-loop-lock : goal.invariant-loop-lock
invariant-loop-lock l =
    l.out.items ++ flat_map (lock_lines_at l.machine.state) (range_with_len l.lock (length l.machine.state.setting.program.locks - l.lock))
    ≡ l.fn.out.items ++ flat_map (lock_lines_at l.machine.state) (range_with_len 0 (length l.machine.state.setting.program.locks))
