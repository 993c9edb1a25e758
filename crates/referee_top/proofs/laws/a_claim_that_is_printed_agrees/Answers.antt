use Rattle.referee_top.proofs.Agreeing.{printed-agrees}
use Rattle.referee_top.proofs.laws.a_claim_that_is_printed_agrees.Goals as goal

pub returns : goal.returns
returns c = printed-agrees
