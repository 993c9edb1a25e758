use Rattle.std.proofs.Common.{◌≡◌, slice_get, Some, sym, ap, ◌∙◌}
use Rattle.message_net.specs.declared.message.Mail.{Mail}
use Rattle.std.specs.Prelude.{List}
use Rattle.state_text.specs.Parts.{mail_lines}
use Rattle.state_text.proofs.Steps.{item-step}
use Rattle.state_text.proofs.mails.push_mails.Goals as goal

pub loop-place-preserved : goal.loop-place-preserved
loop-place-preserved c =
    let here : slice_get c.args.machine.now.state.mails c.loop-place.place ≡ Some c.at.result =
    ap (λ (ms : List Mail). slice_get ms c.loop-place.place) (sym c.pool-pool.ensures) ∙ c.at.ensures in
    rw c.in_ok-push_mail_lines.ensures
    (item-step (mail_lines c.args.machine.now.state) c.loop-place.out.items c.args.machine.now.state.mails c.loop-place.place c.at.result _ here c.loop-place.invariant)
