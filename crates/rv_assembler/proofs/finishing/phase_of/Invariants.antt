use Rattle.std.proofs.Common.{◌≡◌, ◌-◌, ◌++◌}
use Rattle.std.specs.List.{filter_map, range_with_len}
use Rattle.rv_assembler.specs.ClaimRows.{core_task_by_rows}
use Rattle.rv_assembler.proofs.finishing.phase_of.Given as goal

abbrev pub invariant-loop-core : goal.invariant-loop-core
invariant-loop-core l =
    l.found ++ filter_map (core_task_by_rows l.locks l.rows l.tasks l.number) (range_with_len l.core (16 - l.core))
    ≡ filter_map (core_task_by_rows l.locks l.rows l.tasks l.number) (range_with_len 0 16)
