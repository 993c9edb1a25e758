use Rattle.referee_top.proofs.Agreeing.{agrees-exactly}
use Rattle.referee_top.proofs.laws.a_claim_agrees_where_one_thread_does.Goals as goal

pub returns : goal.returns
returns c = agrees-exactly
