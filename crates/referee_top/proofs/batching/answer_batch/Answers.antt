use Rattle.std.proofs.Common.{List, ℕ, ◌++◌, refl, ap, ◌∙◌, arith}
use Rattle.referee_top.specs.Batch.{claim_part}
use Rattle.referee_top.proofs.Batches.{whole, batch-same}
use Rattle.referee_top.proofs.batching.answer_batch.Goals as goal

pub returns : goal.returns
returns c =
    batch-same c.args.mode c.args.claims.now c.from_vec.result (claim_part 0 c.in_ok-reply.reply) c.in_ok-reply.reply.status c.in_ok-reply.reply.status refl (c.from_vec.ensures ∙ c.in_ok-push_claim.ensures ∙ ap (λ (l : List ℕ). l ++ claim_part 0 c.in_ok-reply.reply) c.new-bytes.ensures.items)
    (whole c.args.mode c.args.claims.now c.in_ok-reply.reply (omega arith) c.in_ok-reply.ensures)
