use Rattle.std.proofs.Common.{Vec, Global, map}
use Rattle.grant_log.specs.declared.log.Stamped.{Stamped}
use Rattle.grant_log.proofs.MergeLemmas.{merges, gathers}
use Rattle.grant_log.proofs.log.merge.Goals as goal

pub returns : goal.returns
returns c =
    merges (map (λ log. log.items) c.args.logs.items) _ c.requires
    (rw (gathers (λ (log : Vec Stamped Global). log.items) c.args.logs.items, ← c.in_ok-gather.ensures) c.in_ok-merged.ensures.permutation) c.in_ok-merged.ensures.sorted
