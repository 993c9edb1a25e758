use Rattle.bank_hall.specs.Halls.{keeper_answer, keeper_next}
use Rattle.bank_hall.specs.Handlings.{keeper_may, keeper_does, keeper_alone, keeper_handling, keeper_put, keeper_told}
use Rattle.bank_hall.proofs.HandlingLemmas.{goes_all, told_all, mails_all}
use Rattle.bank_hall.proofs.ActorHandlings.{keeper_goes_one, keeper_told_one, keeper_mails_one}
use Rattle.bank_hall.proofs.laws.a_keeper_handles_its_mails.Goals as goal

pub returns-clause-goes : goal.returns-clause-goes
returns-clause-goes c = goes_all keeper_handling keeper_answer keeper_next keeper_may keeper_does keeper_alone keeper_goes_one

pub returns-clause-told : goal.returns-clause-told
returns-clause-told c = told_all keeper_handling keeper_answer keeper_next keeper_told keeper_told_one

pub returns-clause-mails : goal.returns-clause-mails
returns-clause-mails c f = mails_all keeper_handling keeper_answer keeper_next f (λ s. s.inbox) keeper_put (keeper_mails_one f)
