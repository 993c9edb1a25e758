use Rattle.std.proofs.Common.{length, ◌-◌}
use Rattle.sentences.proofs.Spans.{AreSpansTo}
use Rattle.sentences.proofs.quotes.line_spans.Given as goal

abbrev pub invariant-loop-start : goal.invariant-loop-start
invariant-loop-start l = AreSpansTo l.text l.spans l.start

abbrev pub decreases-loop-start : goal.decreases-loop-start
decreases-loop-start l = length l.text - l.start
