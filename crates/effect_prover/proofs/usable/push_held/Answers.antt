use Rattle.std.proofs.Common.{◌||◌, ◌&&◌, sym, ap, ◌∙◌, arith}
use Rattle.region_table.specs.Words.{has}
use Rattle.rv_core.proofs.HighLocks.{holds-high}
use Rattle.effect_prover.proofs.StretchLemmas.{or-none}
use Rattle.effect_prover.proofs.usable.push_held.Goals as goal

pub returns-then-lock-ge32-clause-words : goal.returns-then-lock-ge32-clause-words
returns-then-lock-ge32-clause-words c = λ w.
    let old = has c.args.intervals.now.items w in
    let small = c.ranges.held.fits in
    sym (or-none old) ∙ ap (λ b. old || (b && has c.args.set.now w)) (sym (holds-high c.args.held c.args.lock (omega arith) c.if-lock-ge32.true))
