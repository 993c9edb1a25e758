use Rattle.std.proofs.Common.{◌≡◌, drop}
use Rattle.referee_top.specs.Batch.{first_claim, later_claims}
use Rattle.referee_top.proofs.Batches.{first_from}
use Rattle.referee_top.proofs.batching.cut.Given as goal

abbrev pub invariant-loop-place : goal.invariant-loop-place
invariant-loop-place l = record {
  first : first_from l.bytes l.place ≡ first_claim l.bytes;
  later : later_claims (drop l.place l.bytes) ≡ later_claims l.bytes;
}
