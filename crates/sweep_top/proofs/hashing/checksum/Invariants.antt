use Rattle.std.proofs.Common.{◌≡◌, drop}
use Rattle.sweep_top.specs.Checksum.{hashed_from}
use Rattle.sweep_top.proofs.hashing.checksum.Given as goal

abbrev pub invariant-loop-byte : goal.invariant-loop-byte
invariant-loop-byte l = hashed_from l.hash (drop l.byte-index l.bytes) ≡ hashed_from l.initial.hash l.bytes
