use Rattle.std.proofs.Common.{◌≡◌, ◌-◌, ◌++◌, flat_map, length}
use Rattle.std.specs.List.{range_with_len}
use Rattle.state_text.specs.Cores.{held_line}
use Rattle.state_text.proofs.tasks.push_all_held.Given as goal

abbrev pub invariant-loop-lock : goal.invariant-loop-lock
invariant-loop-lock l =
    l.out.items ++ flat_map (held_line l.program l.core.0 l.held) (range_with_len l.lock (length l.program.locks - l.lock))
    ≡ l.fn.out.items ++ flat_map (held_line l.program l.core.0 l.held) (range_with_len 0 (length l.program.locks))
