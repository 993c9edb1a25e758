use Rattle.referee_top.proofs.SettledLaws.{common-exactly}
use Rattle.referee_top.proofs.settled_laws.a_claim_agrees_where_an_ending_has_what_is_common.Goals as goal

pub returns : goal.returns
returns c = common-exactly
