use Rattle.std.proofs.Common.{List, subst}
use Rattle.message_net.specs.declared.event.Event.{Event}
use Rattle.state_text.specs.Reached.{IsFollowed}
use Rattle.state_text.proofs.reaching.answer_of.Goals as goal

pub returns : goal.returns
returns c =
    record {
      followed = subst (λ (es : List Event). IsFollowed c.args.machine.now.state c.follow.new.machine.state es c.in_ok-event.event) c.split_at.ensures.front c.in_ok-event.ensures;
      text = c.in_ok-text.ensures;
    }
