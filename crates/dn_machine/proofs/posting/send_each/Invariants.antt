use Rattle.dn_machine.proofs.Letters.{Posting}
use Rattle.dn_machine.proofs.posting.send_each.Given as goal

abbrev pub invariant-loop-core : goal.invariant-loop-core
invariant-loop-core l =
    Posting l.fn.first l.fn.cores l.fn.message l.fn.pool.mails l.fn.pool.spare l.core l.pool.mails l.pool.spare
