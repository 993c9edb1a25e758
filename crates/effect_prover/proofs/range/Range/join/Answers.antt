use Rattle.effect_prover.proofs.JoinLemmas.{head-joined}
use Rattle.effect_prover.proofs.range.Range.join.Goals as goal

pub returns-then-lo-hi : goal.returns-then-lo-hi
returns-then-lo-hi c =
    head-joined c.args.head c.args.argument c.args.self c.args.given c.lesser-lo.result c.greater-hi.result c.end_up_to.result c.end_from.result c.requires.old c.requires.given
    c.if-head.true c.lesser-lo.ensures c.greater-hi.ensures c.if-lo-hi.true c.end_up_to.ensures c.end_from.ensures
