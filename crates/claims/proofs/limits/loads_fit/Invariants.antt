use Rattle.std.proofs.Common.{take}
use Rattle.std.specs.List.{All}
use Rattle.claims.specs.Claim.{IsLoad}
use Rattle.claims.proofs.limits.loads_fit.Given as goal

abbrev pub invariant-loop-load : goal.invariant-loop-load
invariant-loop-load l = All IsLoad (take l.load-index l.loads)
