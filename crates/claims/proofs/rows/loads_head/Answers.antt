use Rattle.text_pieces.proofs.Fields.{if-none}
use Rattle.claims.proofs.Found.{none-head, some-none, some-count}
use Rattle.claims.proofs.rows.loads_head.Goals as goal

pub returns-in-Some-clause-some : goal.returns-in-Some-clause-some
returns-in-Some-clause-some c = some-none c.args.bytes.now c.in-Some.rest.now c.in-Some.ensures.some

pub returns-in_err-count-clause-none : goal.returns-in_err-count-clause-none
returns-in_err-count-clause-none c = if-none c.from_residual.result _ (none-head c.args.bytes.now c.in_default.ensures.none c.in_err-count.ensures.none)

pub returns-clause-some : goal.returns-clause-some
returns-clause-some c = some-count c.args.bytes.now c.in_ok-count.count c.in_ok-count.rest.now c.in_ok-count.ensures.some
