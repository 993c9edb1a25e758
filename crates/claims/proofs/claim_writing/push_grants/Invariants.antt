use Rattle.std.proofs.Common.{◌≡◌, ◌++◌, drop, flat_map}
use Rattle.claims.specs.Claim.{grant_row}
use Rattle.claims.proofs.claim_writing.push_grants.Given as goal

abbrev pub invariant-loop-grant : goal.invariant-loop-grant
invariant-loop-grant l = l.out.items ++ flat_map grant_row (drop l.grant-index l.grants) ≡ l.fn.out.items ++ flat_map grant_row l.grants
