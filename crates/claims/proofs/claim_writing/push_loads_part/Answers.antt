use Rattle.std.proofs.Common.{rules, ◌<◌, length, sym, subst, arith}
use Rattle.claims.specs.Claim.{most_bytes, loads_text}
use Rattle.claims.proofs.Sizes.{many-tasks}
use Rattle.claims.proofs.claim_writing.push_loads_part.Goals as goal

pub returns-in_err-line_count-in-Some-clause-large : goal.returns-in_err-line_count-in-Some-clause-large
returns-in_err-line_count-in-Some-clause-large c =
    let large : most_bytes < length (loads_text c.args.loads.now) =
    subst (λ loads. most_bytes < length (loads_text loads)) (sym c.in-Some.is) (many-tasks c.in-Some.tasks (omega (arith, c.in_err-line_count-in-Some.ensures.large, c.len.ensures)))
    in
    search rules
