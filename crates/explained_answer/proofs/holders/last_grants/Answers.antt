use Rattle.std.proofs.Common.{arith}
use Rattle.explained_answer.proofs.GrantLemmas.{fits-at, more-grants}
use Rattle.explained_answer.proofs.holders.last_grants.Goals as goal

pub note_grant-requires-clause-fits : goal.note_grant-requires-clause-fits
note_grant-requires-clause-fits c = fits-at c.args.located.now c.args.lines.now c.loop-read.read-index _ c.requires (omega (arith, c.loop-read-test.true))

pub loop-read-preserved : goal.loop-read-preserved
loop-read-preserved c =
    more-grants c.args.located.now c.args.lines.now c.loop-read.last.items c.note_grant.new.last.items c.loop-read.read-index _ c.requires
    (omega (arith, c.loop-read-test.true)) c.loop-read.invariant.1 c.loop-read.invariant.0 c.note_grant.ensures
