use Rattle.std.proofs.Common.{◌≡◌, replicate}
use Rattle.write_signature.specs.Signature.{empty}
use Rattle.registration_protocol.proofs.signatures.empty_signatures.Given as goal

abbrev pub invariant-loop-lock : goal.invariant-loop-lock
invariant-loop-lock l = l.signatures ≡ replicate l.lock (empty 0)
