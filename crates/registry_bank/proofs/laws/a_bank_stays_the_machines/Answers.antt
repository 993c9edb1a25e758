use Rattle.registry_bank.proofs.Opened.{IsBank-opened}
use Rattle.registry_bank.proofs.KeptLemmas.{stays}
use Rattle.registry_bank.proofs.laws.a_bank_stays_the_machines.Goals as goal

pub returns-clause-initial : goal.returns-clause-initial
returns-clause-initial c = IsBank-opened

pub returns-clause-kept : goal.returns-clause-kept
returns-clause-kept c b m good = (stays b m good).good

pub returns-clause-answers : goal.returns-clause-answers
returns-clause-answers c b m out good = (stays b m good).within out
