use Rattle.std.proofs.Common.{rules, ◌<◌, length, arith}
use Rattle.claims.specs.Claim.{most_bytes, claim_text}
use Rattle.claims.proofs.Sizes.{many-grants}
use Rattle.claims.proofs.claim_writing.write.Goals as goal

pub returns-in_err-line_count-clause-large : goal.returns-in_err-line_count-clause-large
returns-in_err-line_count-clause-large c =
    let large : most_bytes < length (claim_text c.args.claim.now) = many-grants c.args.claim.now (omega (arith, c.in_err-line_count.ensures.large, c.len.ensures)) in
    search rules
