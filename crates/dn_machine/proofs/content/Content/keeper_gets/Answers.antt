use Rattle.message_net.specs.declared.actor.Actor.TheVariants.{Keeper as TheKeeper}
use Rattle.dn_machine.proofs.content.Content.keeper_gets.Goals as goal

pub send_letters-requires-clause-new : goal.send_letters-requires-clause-new
send_letters-requires-clause-new c = λ number least. c.requires.whole.sends.fresh TheKeeper number (rw c.index-index.ensures at least)
