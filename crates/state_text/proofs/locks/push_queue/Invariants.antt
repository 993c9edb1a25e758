use Rattle.std.proofs.Common.{◌≡◌, ◌-◌, ◌++◌, flat_map, length}
use Rattle.std.specs.List.{range_with_len}
use Rattle.state_text.specs.Parts.{queued_line_at, queue_lines}
use Rattle.state_text.proofs.locks.push_queue.Given as goal

abbrev pub invariant-loop-index : goal.invariant-loop-index
invariant-loop-index l =
    l.out.items ++ flat_map (queued_line_at l.program l.lock.0 l.home.queue) (range_with_len l.index (length l.home.queue - l.index))
    ≡ l.fn.out.items ++ queue_lines l.program l.lock.0 l.home.queue
