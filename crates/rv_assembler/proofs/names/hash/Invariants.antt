use Rattle.std.proofs.Common.{◌≡◌, ◌<◌, ◌^◌, drop}
use Rattle.rv_assembler.specs.Lookup.{hash_after}
use Rattle.rv_assembler.proofs.names.hash.Given as goal

abbrev pub invariant-loop-byte : goal.invariant-loop-byte
invariant-loop-byte l = (l.hash < 2 ^ 32) × (hash_after l.hash (drop l.byte-index l.name) ≡ hash_after 0 l.name)
