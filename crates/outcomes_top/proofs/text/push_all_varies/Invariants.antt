use Rattle.std.proofs.Common.{◌≡◌, ◌++◌, drop}
use Rattle.outcomes_top.specs.Text.{varies_lines}
use Rattle.outcomes_top.proofs.text.push_all_varies.Given as goal

abbrev pub invariant-loop-value : goal.invariant-loop-value
invariant-loop-value l = record {
  place : l.word ≡ l.value-index;
  leads : l.out.items ++ varies_lines l.word (drop l.value-index l.memory) ≡ l.fn.out.items ++ varies_lines 0 l.memory;
}
