use Rattle.message_net.specs.declared.event.Event.TheVariants.{Handle}
use Rattle.message_net.specs.declared.message.Mail.{Mail}
use Rattle.state_text.proofs.Steps.{map-step}
use Rattle.state_text.proofs.coming.push_handlings.Goals as goal

pub loop-place-preserved : goal.loop-place-preserved
loop-place-preserved c =
    rw c.in_ok-push.ensures.ok (map-step (λ (m : Mail). Handle m.id) c.loop-place.events c.args.pool.now.mails c.loop-place.place c.at.result _ c.at.ensures c.loop-place.invariant)
