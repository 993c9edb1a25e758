use Rattle.std.proofs.Common.{rules, IfOk}
use Rattle.claims.specs.declared.verdict.Verdict.TheVariants.{Grants}
use Rattle.claims.specs.Judge.{IsVerdict}
use Rattle.claims.proofs.Verdicts.{agrees_exactly, agrees_where}
use Rattle.claims.proofs.judging.judge.Goals as goal

pub returns-in-Refused-clause-agrees : goal.returns-in-Refused-clause-agrees
returns-in-Refused-clause-agrees c =
    let told : IsVerdict c.args.checked.now c.args.claim.now (Grants c.in-Refused.place) = search rules in
    agrees_exactly c.args.checked.now c.args.claim.now (Grants c.in-Refused.place) told

pub returns-in-Whole-clause-agrees : goal.returns-in-Whole-clause-agrees
returns-in-Whole-clause-agrees c =
    let told : IfOk c.judge_end.result (IsVerdict c.args.checked.now c.args.claim.now) = search rules in
    agrees_where c.args.checked.now c.args.claim.now c.judge_end.result told
