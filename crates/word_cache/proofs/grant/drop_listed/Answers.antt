use Rattle.std.proofs.Common.{ap, ◌∙◌}
use Rattle.word_cache.specs.Row.{pairs_by_use}
use Rattle.word_cache.proofs.SweepLemmas.{row_after_grant, swept_grant}
use Rattle.word_cache.proofs.GrantLemmas.{ordered}
use Rattle.word_cache.proofs.grant.drop_listed.Goals as goal

pub drop_each-requires-clause-order : goal.drop_each-requires-clause-order
drop_each-requires-clause-order c =
    rw c.intervals-then-are_within.ensures.value (ordered 0 c.args.words.now c.intervals-then-are_within.ensures.canonical)

pub returns-else-are_within-clause-row : goal.returns-else-are_within-clause-row
returns-else-are_within-clause-row c clock good =
    rw c.sweep_grant.ensures (row_after_grant c.args.signature.now c.args.phase.0 c.args.words.now c.args.sets c.args.ways clock c.args.places.now good)

pub returns-else-are_within-clause-pairs : goal.returns-else-are_within-clause-pairs
returns-else-are_within-clause-pairs c =
    ap pairs_by_use c.sweep_grant.ensures ∙ swept_grant c.args.signature.now c.args.phase.0 c.args.words.now c.args.places.now
