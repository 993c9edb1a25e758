use Rattle.bank_hall.specs.Banks.{bank_actor}
use Rattle.bank_hall.specs.Handlings.{bank_may, bank_does}
use Rattle.bank_hall.proofs.HandlingLemmas.{stamps_rise, actor_stays}
use Rattle.bank_hall.proofs.ActorHandlings.{bank_stamps, bank_numbers}
use Rattle.bank_hall.proofs.laws.a_banks_stamps_rise.Goals as goal

pub returns-clause-stamps : goal.returns-clause-stamps
returns-clause-stamps c = stamps_rise bank_may bank_does (λ t. t.stamped) (λ s. s.clock) (λ s. bank_actor s.bank) bank_stamps

pub returns-clause-actor : goal.returns-clause-actor
returns-clause-actor c = actor_stays bank_may bank_does (λ t. t.stamped) (λ s. s.clock) (λ s. bank_actor s.bank) bank_stamps

pub returns-clause-numbers : goal.returns-clause-numbers
returns-clause-numbers c = bank_numbers
