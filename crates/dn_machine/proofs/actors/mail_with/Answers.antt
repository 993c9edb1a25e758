use Rattle.std.proofs.Common.{◌≡◌, ◌≢◌, Some, sym, ◌∙◌, rules}
use Rattle.message_net.specs.Pool.{removed, without_mail_at}
use Rattle.message_net.proofs.PoolLemmas.{taken-of_id}
use Rattle.dn_machine.proofs.ActorLemmas.{counted-next}
use Rattle.dn_machine.proofs.actors.mail_with.Goals as goal

pub loop-id-preserved : goal.loop-id-preserved
loop-id-preserved c =
    let other : c.at.result.id ≢ c.args.id = search rules in
    counted-next c.args.id c.args.pool.now.mails c.loop-id.place c.at.result c.at.ensures other c.loop-id.invariant

pub returns : goal.returns
returns c =
    let same : c.at.result.id ≡ c.args.id = search rules in
    let found : removed c.args.id c.args.pool.now.mails ≡ (Some c.at.result, without_mail_at c.loop-id.place c.args.pool.now.mails) =
    rw (← same) (taken-of_id c.args.pool.now.mails c.loop-id.place c.at.result c.count-count.ensures.distinct c.at.ensures)
    in
    rw found (sym c.at.ensures ∙ c.at-2.ensures)
