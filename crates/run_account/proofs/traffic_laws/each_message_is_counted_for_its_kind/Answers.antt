use Rattle.run_account.proofs.Kinded.{messages-of-kind}
use Rattle.run_account.proofs.traffic_laws.each_message_is_counted_for_its_kind.Goals as goal

pub returns : goal.returns
returns c = messages-of-kind
