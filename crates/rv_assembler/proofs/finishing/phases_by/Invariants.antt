use Rattle.std.proofs.Common.{◌≡◌, ◌+◌, ◌-◌, ◌++◌, map}
use Rattle.std.specs.List.{range_with_len}
use Rattle.rv_assembler.specs.ClaimRows.{phase_by_rows}
use Rattle.rv_assembler.proofs.finishing.phases_by.Given as goal

abbrev pub invariant-loop-number : goal.invariant-loop-number
invariant-loop-number l =
    l.phases ++ map (phase_by_rows l.locks l.rows l.tasks) (range_with_len (l.number + 1) (l.count - l.number))
    ≡ map (phase_by_rows l.locks l.rows l.tasks) (range_with_len 1 l.count)
