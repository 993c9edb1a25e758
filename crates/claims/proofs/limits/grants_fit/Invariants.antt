use Rattle.std.proofs.Common.{take}
use Rattle.std.specs.List.{All}
use Rattle.claims.specs.Claim.{IsGrant}
use Rattle.claims.proofs.limits.grants_fit.Given as goal

abbrev pub invariant-loop-grant : goal.invariant-loop-grant
invariant-loop-grant l = All IsGrant (take l.grant-index l.grants)
