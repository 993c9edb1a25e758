use Rattle.bank_hall.specs.Halls.{bank_answer, bank_next}
use Rattle.bank_hall.specs.Handlings.{bank_may, bank_does, bank_alone, bank_handling, bank_put, bank_told}
use Rattle.bank_hall.proofs.HandlingLemmas.{goes_all, told_all, mails_all}
use Rattle.bank_hall.proofs.ActorHandlings.{bank_goes_one, bank_told_one, bank_mails_one}
use Rattle.bank_hall.proofs.laws.a_bank_handles_its_mails.Goals as goal

pub returns-clause-goes : goal.returns-clause-goes
returns-clause-goes c = goes_all bank_handling bank_answer bank_next bank_may bank_does bank_alone bank_goes_one

pub returns-clause-told : goal.returns-clause-told
returns-clause-told c = told_all bank_handling bank_answer bank_next bank_told bank_told_one

pub returns-clause-mails : goal.returns-clause-mails
returns-clause-mails c f = mails_all bank_handling bank_answer bank_next f (λ s. s.inbox) bank_put (bank_mails_one f)
