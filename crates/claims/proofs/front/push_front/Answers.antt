use Rattle.std.proofs.Common.{arith}
use Rattle.claims.proofs.Parts.{front_read}
use Rattle.claims.proofs.front.push_front.Goals as goal

pub returns-clause-ok : goal.returns-clause-ok
returns-clause-ok c = front_read c.args.bytes.now c.in-Some.heading (omega arith) c.in-Some.ensures.some c.push_grants.new.grants c.in_ok-rest.rest.now c.in_ok-rest.ensures.ok
