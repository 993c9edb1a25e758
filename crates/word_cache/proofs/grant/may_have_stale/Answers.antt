use Rattle.std.proofs.Common.{◌∙◌, sym}
use Rattle.word_cache.proofs.OrderLemmas.{count-by_use}
use Rattle.word_cache.proofs.GrantLemmas.{dropped-copyless, dropped-unheld, is_copied, same-signature}
use Rattle.word_cache.proofs.grant.may_have_stale.Goals as goal

pub returns-then-copies-ne0 : goal.returns-then-copies-ne0
returns-then-copies-ne0 c none words =
    dropped-unheld c.args.signature.now c.args.phase.0 words _ (sym c.in_phase.ensures ∙ same-signature c.in_phase.result c.empty.result (sym c.ne.ensures ∙ none) ∙ c.empty.ensures)

pub returns-else-copies-ne0 : goal.returns-else-copies-ne0
returns-else-copies-ne0 c none words =
    dropped-copyless c.args.signature.now c.args.phase.0 words _ (count-by_use is_copied c.args.places.now ∙ sym c.copies.ensures ∙ c.if-copies-ne0.false)
