use Rattle.std.proofs.Common.{◌≡◌, ◌+◌, ◌≤◌, drop}
use Rattle.referee_top.specs.Settled.{words_verdict}
use Rattle.referee_top.proofs.settled.judge_words.Given as goal

abbrev pub invariant-loop-value : goal.invariant-loop-value
invariant-loop-value l = record {
  place : l.word ≡ l.value-index;
  line : l.line ≤ l.fn.first + l.value-index;
  leads : words_verdict l.line l.word (drop l.value-index l.memory) l.rest ≡ words_verdict l.fn.first 0 l.memory l.fn.text;
}
