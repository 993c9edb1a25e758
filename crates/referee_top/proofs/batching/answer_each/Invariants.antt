use Rattle.std.proofs.Common.{length}
use Rattle.referee_top.proofs.Batches.{IsAt}
use Rattle.referee_top.proofs.batching.answer_each.Given as goal

abbrev pub invariant-claims : goal.invariant-claims
invariant-claims l = IsAt l.mode l.claims l.rest l.bytes.items l.status l.number

abbrev pub decreases-claims : goal.decreases-claims
decreases-claims l = length l.rest
