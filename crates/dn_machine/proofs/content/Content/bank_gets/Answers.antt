use Rattle.std.proofs.Common.{◌<◌, length, refl, ◌∙◌, arith, rules}
use Rattle.message_net.specs.declared.actor.Actor.TheVariants.{Bank as TheBank}
use Rattle.registration_protocol.specs.Setting.{setting}
use Rattle.dn_machine.specs.Content.{state_of}
use Rattle.dn_machine.proofs.ListItems.{item}
use Rattle.dn_machine.proofs.CoreEvents.{bank-sent}
use Rattle.dn_machine.proofs.content.Content.bank_gets.Goals as goal

pub send-requires-clause-new : goal.send-requires-clause-new
send-requires-clause-new c = rw c.index-index.ensures (c.requires.whole.sends.fresh (TheBank c.args.bank) _ (omega arith))

pub returns-clause-state : goal.returns-clause-state
returns-clause-state c =
    let within : c.args.bank.0 < length c.args.self.now.banks.items = search rules in
    let there = item c.args.self.now.banks.items c.args.bank.0 within in
    let does = c.handle_at-sent.ensures there.0 there.1 in
    bank-sent (state_of (setting c.args.context.now) c.args.self.now) c.args.bank.0 (TheBank c.args.bank) _ _ _ _ _ _ _ does.0 does.1 c.index-index.ensures c.send.ensures.mails c.send.ensures.numbers ∙ (rw there.1 refl)
