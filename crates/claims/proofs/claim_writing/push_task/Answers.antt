use Rattle.std.proofs.Common.{rules, ◌<◌, length, arith}
use Rattle.claims.specs.Claim.{most_bytes, task_rows}
use Rattle.claims.proofs.Sizes.{many-loads}
use Rattle.claims.proofs.claim_writing.push_task.Goals as goal

pub returns-in_err-line_count-clause-large : goal.returns-in_err-line_count-clause-large
returns-in_err-line_count-clause-large c =
    let large : most_bytes < length (task_rows c.args.task.now) = many-loads c.args.task.now (omega (arith, c.in_err-line_count.ensures.large, c.len.ensures)) in
    search rules
