use Rattle.std.proofs.Common.{◌≡◌, ◌++◌, true, List, ℕ, sym, ap, subst, ◌∙◌, length, arith}
use Rattle.referee_top.specs.Answers.{IsAnswer}
use Rattle.referee_top.specs.Batch.{ends_batch, later_claims, claim_part, status_after, has_none}
use Rattle.referee_top.proofs.Batches.{ended, followed, refused-over, nothing-over, goes-on, none-is, some-are, at-same, batch-same, less-later}
use Rattle.referee_top.proofs.batching.answer_each.Goals as goal
use Rattle.referee_top.proofs.batching.answer_each.Goals.{then-is_refused-via-then-is_refused, then-is_refused-via-else-is_refused+then-is_empty}

pub returns-then-is_refused : goal.returns-then-is_refused
returns-then-is_refused c =
    let r = c.in_ok-reply.reply in
    let left = c.claims.rest.now in
    let later = c.cut.ensures.later in
    let over : ends_batch r c.cut.result.1.now ≡ true =
    elim c.then-is_refused.branch [
      | then-is_refused-via-then-is_refused w ↦ refused-over r c.cut.result.1.now (sym c.is_refused.ensures ∙ w.if-is_refused.true)
      | then-is_refused-via-else-is_refused+then-is_empty w ↦ nothing-over r c.cut.result.1.now (none-is c.cut.result.1.now (sym w.if-is_empty.true ∙ w.is_empty.ensures))
    ] in
    batch-same c.args.mode c.args.claims.now c.from_vec-bytes.result (c.claims.bytes.items ++ claim_part c.claims.number r) c.status_after-status.result (status_after c.claims.status r.status)
    c.status_after-status.ensures (c.from_vec-bytes.ensures ∙ c.in_ok-push_claim.ensures)
    (ended c.args.mode c.args.claims.now left c.claims.bytes.items c.claims.status c.claims.number r c.requires c.claims.invariant
    (subst (λ (d : List ℕ). IsAnswer c.args.mode d r) c.cut.ensures.first c.in_ok-reply.ensures) (ap (ends_batch r) (sym later) ∙ over))

pub claims-smaller : goal.claims-smaller
claims-smaller c =
    let some = some-are c.cut.result.1.now (sym c.if-is_empty.false ∙ c.is_empty.ensures) in
    let less = less-later c.claims.rest.now (ap has_none (sym c.cut.ensures.later) ∙ some) in
    omega (arith, less, ap length c.cut.ensures.later)

pub claims-preserved : goal.claims-preserved
claims-preserved c =
    let r = c.in_ok-reply.reply in
    let left = c.claims.rest.now in
    let some = ap has_none (sym c.cut.ensures.later) ∙ some-are c.cut.result.1.now (sym c.if-is_empty.false ∙ c.is_empty.ensures) in
    at-same c.args.mode c.args.claims.now c.cut.result.1.now (later_claims left) c.push_claim.new.out.items (c.claims.bytes.items ++ claim_part c.claims.number r) c.status_after-status.result
    (status_after c.claims.status r.status) _ c.cut.ensures.later c.in_ok-push_claim.ensures c.status_after-status.ensures
    (followed c.args.mode c.args.claims.now left c.claims.bytes.items c.claims.status c.claims.number r c.claims.invariant
    (subst (λ (d : List ℕ). IsAnswer c.args.mode d r) c.cut.ensures.first c.in_ok-reply.ensures)
    (goes-on r (later_claims left) (sym c.is_refused.ensures ∙ c.if-is_refused.false) some) some)
