use Rattle.std.proofs.Common.{◌≡◌, ◌++◌, drop, true}
use Rattle.page_data.specs.Program.{value_texts}
use Rattle.page_data.proofs.program.push_value_items.Given as goal

abbrev pub invariant-loop-value : goal.invariant-loop-value
invariant-loop-value l = record {
  word : l.word ≡ l.value-index;
  so_far : l.out.items ++ value_texts l.first l.word (drop l.value-index l.memory) ≡ l.fn.out.items ++ value_texts true 0 l.memory;
}
