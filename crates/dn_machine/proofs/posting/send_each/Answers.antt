use Rattle.std.proofs.Common.{◌≡◌, ◌+◌, arith}
use Rattle.message_net.specs.declared.actor.Actor.TheVariants.{Keeper as TheKeeper}
use Rattle.message_net.specs.Mail.{mail_of}
use Rattle.phase_barrier.specs.Letters.{to_number}
use Rattle.dn_machine.proofs.Letters.{posting-start, posting-more, posting-end}
use Rattle.dn_machine.proofs.posting.send_each.Goals as goal

pub loop-core-init : goal.loop-core-init
loop-core-init c = posting-start _ _ _ _ _ c.requires.new

pub loop-core-preserved : goal.loop-core-preserved
loop-core-preserved c =
    let letter : c.mail.result ≡ mail_of TheKeeper (c.args.first + c.loop-core.core) (to_number c.loop-core.core c.args.message) = cc in
    rw (c.post_reserved.ensures.mails, letter) (posting-more _ _ _ _ _ _ _ _ _ (omega arith) c.post_reserved.ensures.spare c.loop-core.invariant)

pub returns : goal.returns
returns c = posting-end _ _ _ _ _ _ _ _ (omega arith) c.loop-core.invariant
