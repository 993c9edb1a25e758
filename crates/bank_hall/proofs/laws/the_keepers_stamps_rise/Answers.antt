use Rattle.std.proofs.Common.{length, refl}
use Rattle.message_net.specs.declared.actor.Actor.TheVariants.{Keeper}
use Rattle.bank_hall.specs.Handlings.{keeper_may, keeper_does}
use Rattle.bank_hall.proofs.HandlingLemmas.{stamps_rise}
use Rattle.bank_hall.proofs.ActorHandlings.{keeper_stamps, keeper_numbers}
use Rattle.bank_hall.proofs.laws.the_keepers_stamps_rise.Goals as goal

pub returns-clause-stamps : goal.returns-clause-stamps
returns-clause-stamps c = stamps_rise keeper_may keeper_does (λ t. t.stamped) (λ s. s.clock) (λ s. Keeper) keeper_stamps

pub returns-clause-numbers : goal.returns-clause-numbers
returns-clause-numbers c x y hs goes = keeper_numbers x y hs (length x.keeper.arrived) refl goes
