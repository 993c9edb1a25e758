use Rattle.run_account.proofs.AddUp.{messages}
use Rattle.run_account.proofs.list_laws.list_messages_are_of_nine_kinds.Goals as goal

pub returns : goal.returns
returns c = messages
