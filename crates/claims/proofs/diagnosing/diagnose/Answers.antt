use Rattle.std.proofs.Common.{rules, ◌≡◌}
use Rattle.flat_machine.specs.declared.refused.FlatRun.TheVariants.{Refused}
use Rattle.flat_machine.specs.Refused.{IsRunBy}
use Rattle.claims.specs.declared.verdict.Verdict.TheVariants.{Tasks}
use Rattle.claims.proofs.Diagnoses.{no-tasks}
use Rattle.claims.proofs.diagnosing.diagnose.Goals as goal

pub returns-in-Refused : goal.returns-in-Refused
returns-in-Refused c =
    let by : IsRunBy c.args.checked.now c.args.claim.now.question.fuel c.args.claim.now.grants (Refused c.in-Refused.place) = search rules in
    let is : c.args.verdict.now ≡ Tasks = search rules in
    absurd (no-tasks c.args.checked.now c.args.claim.now c.args.verdict.now c.in-Refused.place c.requires.verdict is by)
