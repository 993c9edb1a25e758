use Rattle.std.proofs.Common.{◌≡◌, ◌++◌, drop, flat_map}
use Rattle.claims.specs.Claim.{load_row}
use Rattle.claims.proofs.claim_writing.push_loads.Given as goal

abbrev pub invariant-loop-load : goal.invariant-loop-load
invariant-loop-load l = l.out.items ++ flat_map load_row (drop l.load-index l.loads) ≡ l.fn.out.items ++ flat_map load_row l.loads
