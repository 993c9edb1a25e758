use Rattle.std.proofs.Common.{ℕ, true, false, ◌++◌, ◌+◌, List, drop, ap, sym, ◌∙◌}
use Rattle.std.proofs.lemmas.List.{append_assoc}
use Rattle.message_net.specs.declared.message.Mail.{Mail}
use Rattle.run_changes.proofs.Listed.{goes_on, drop_there}
use Rattle.page_data.specs.Json.{gap, item_texts}
use Rattle.page_data.specs.Rows.{mail_item}
use Rattle.page_data.proofs.mails.push_mail_items.Goals as goal

pub loop-place-preserved : goal.loop-place-preserved
loop-place-preserved c =
    let mails = c.args.pool.now.mails in
    let place = c.loop-place.place in
    let first = c.loop-place.first in
    let rest : List ℕ = item_texts mail_item false (drop (place + 1) mails) in
    goes_on c.loop-place.out.items c.push_mail.new.out.items (gap first ++ mail_item c.at.result) (item_texts mail_item first (drop place mails)) rest (c.args.out.now.items ++ item_texts mail_item true mails)
    (c.in_ok-push_mail.ensures ∙ ap (λ (l : List ℕ). l ++ mail_item c.at.result) c.in_ok-push_gap.ensures ∙ append_assoc c.loop-place.out.items (gap first) (mail_item c.at.result))
    (ap (λ (l : List Mail). item_texts mail_item first l) (drop_there mails place c.at.result c.at.ensures) ∙ sym (append_assoc (gap first) (mail_item c.at.result) rest)) c.loop-place.invariant
