use Rattle.std.proofs.Common.{take, refl}
use Rattle.state_text.proofs.Followed.{answer-of}
use Rattle.state_text.proofs.reaching.state_at.Goals as goal

pub returns : goal.returns
returns c =
    answer-of c.args.checked c.args.shape c.args.fuel c.in_ok-machine.machine c.args.places.now c.args.events.now (take c.args.asked c.args.events.now) c.args.asked _ c.in_ok-answer.answer
    c.in_ok-machine.ensures c.a_machine_is_kept.ensures refl c.requires.asked c.in_ok-answer.ensures.followed c.a_machine_is_kept-2.ensures.sound.machine c.in_ok-answer.ensures.text
