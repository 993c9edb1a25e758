use Rattle.std.proofs.Common.{◌≡◌, replicate, drop}
use Rattle.rv_assembler.specs.Finishing.{with_first_values}
use Rattle.rv_assembler.proofs.finishing.first_memory.Given as goal

abbrev pub invariant-loop-value : goal.invariant-loop-value
invariant-loop-value l = with_first_values l.memory.items (drop l.value-index l.values) ≡ with_first_values (replicate l.words 0) l.values
