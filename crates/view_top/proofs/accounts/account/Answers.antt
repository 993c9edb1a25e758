use Rattle.std.proofs.Common.{◌++◌}
use Rattle.region_table.specs.Program.{ProgramParts}
use Rattle.run_account.specs.Forms.{account_text}
use Rattle.checked_runs.specs.Documents.{shape_told}
use Rattle.view_top.specs.Status.{Output}
use Rattle.view_top.specs.Answers.{heading_of, IsAccount, IsAccountOf}
use Rattle.view_top.proofs.Counted.{answer-is}
use Rattle.view_top.proofs.accounts.account.Goals as goal

pub returns : goal.returns
returns c =
    let k = c.args.kept.now in
    let o = c.args.options.now in
    let tallies = c.in_ok-account.account.tallies in
    answer-is k (λ (P : ProgramParts). IsAccountOf P (shape_told P k.sizes) k.sizes.fuel k.run.events o.by tallies)
    (λ (P : ProgramParts). heading_of o.form k.run ++ account_text o.form P tallies) (λ (P : ProgramParts) (out : Output). IsAccount P k.sizes o k.run out)
    (λ P out counted answer. record { tallies = tallies; counted = counted; answer = answer }) c.print.result c.in_ok-account.ensures.account c.print.ensures
