use Rattle.claims.proofs.Verdicts.{agrees_run, run_agrees}
use Rattle.claims.proofs.judge_laws.a_claim_agrees_where_its_run_does.Goals as goal

pub returns : goal.returns
returns c = λ P claim. (agrees_run P claim, run_agrees P claim)
