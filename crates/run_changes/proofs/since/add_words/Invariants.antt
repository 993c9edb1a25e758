use Rattle.std.proofs.Common.{◌≡◌, ◌++◌, drop}
use Rattle.run_changes.specs.Since.{words_since}
use Rattle.run_changes.proofs.since.add_words.Given as goal

abbrev pub invariant-loop-first : goal.invariant-loop-first
invariant-loop-first l = record {
  word : l.word ≡ l.first-index;
  so_far : l.out ++ words_since l.machine.state l.word (drop l.first-index l.memory) ≡ l.fn.out ++ words_since l.machine.state 0 l.memory;
}
