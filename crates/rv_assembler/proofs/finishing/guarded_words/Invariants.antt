use Rattle.std.proofs.Common.{◌≡◌, ◌-◌, ◌++◌, map}
use Rattle.std.specs.List.{range_with_len}
use Rattle.rv_assembler.specs.ClaimRows.{guarded_by_rows}
use Rattle.rv_assembler.proofs.finishing.guarded_words.Given as goal

abbrev pub invariant-loop-lock : goal.invariant-loop-lock
invariant-loop-lock l =
    l.sets ++ map (guarded_by_rows l.rows l.task l.writes) (range_with_len l.lock (l.locks - l.lock)) ≡ map (guarded_by_rows l.rows l.task l.writes) (range_with_len 0 l.locks)
