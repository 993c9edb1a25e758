use Rattle.std.proofs.Common.{◌≡◌, ◌++◌, drop, true}
use Rattle.page_data.specs.Json.{item_texts}
use Rattle.page_data.specs.Rows.{mail_item}
use Rattle.page_data.proofs.mails.push_mail_items.Given as goal

abbrev pub invariant-loop-place : goal.invariant-loop-place
invariant-loop-place l = l.out.items ++ item_texts mail_item l.first (drop l.place l.pool.mails) ≡ l.fn.out.items ++ item_texts mail_item true l.pool.mails
