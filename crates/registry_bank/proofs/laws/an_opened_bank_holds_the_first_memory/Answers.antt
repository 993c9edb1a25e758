use Rattle.registry_bank.proofs.Opened.{opened-is-new}
use Rattle.registry_bank.proofs.laws.an_opened_bank_holds_the_first_memory.Goals as goal

pub returns : goal.returns
returns c = opened-is-new
