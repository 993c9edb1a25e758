use Rattle.std.proofs.Common.{◌≡◌, ◌++◌, drop}
use Rattle.std.proofs.Math.ListN.{replicate}
use Rattle.write_signature.specs.Signature.{empty}
use Rattle.registration_protocol.proofs.signatures.empty_all.Given as goal

abbrev pub invariant-loop-lock : goal.invariant-loop-lock
invariant-loop-lock l = l.signatures ≡ replicate l.lock (empty l.phase.0) ++ drop l.lock l.fn.signatures
