use Rattle.std.proofs.Common.{◌≡◌, ◌-◌, ◌++◌, flat_map}
use Rattle.std.specs.List.{range_with_len}
use Rattle.work_gen.specs.Work.{filling_task, filling_phase}
use Rattle.work_gen.proofs.declared.push_filling_phase.Given as goal

abbrev pub invariant-loop-core : goal.invariant-loop-core
invariant-loop-core l = l.out.items ++ flat_map (filling_task l.part) (range_with_len l.core (4 - l.core)) ≡ l.fn.out.items ++ filling_phase l.part
