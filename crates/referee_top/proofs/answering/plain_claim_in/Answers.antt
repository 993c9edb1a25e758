use Rattle.std.proofs.Common.{sym}
use Rattle.referee_top.proofs.Plain.{has-line}
use Rattle.referee_top.proofs.answering.plain_claim_in.Goals as goal

pub refusal_of-requires : goal.refusal_of-requires
refusal_of-requires c = has-line c.in_ok-claim.claim.grants c.in_ok-claim.claim.loads c.in-Some.fault (sym c.in-Some.ensures)
