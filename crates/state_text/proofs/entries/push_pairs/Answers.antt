use Rattle.state_text.specs.Cores.{entry_line}
use Rattle.state_text.proofs.Each.{each-read}
use Rattle.state_text.proofs.entries.push_pairs.Goals as goal

pub loop-pair-preserved : goal.loop-pair-preserved
loop-pair-preserved c =
    rw c.in_ok-push_entry_line.ensures
    (each-read (entry_line c.args.program.now c.args.core.0) c.loop-pair.out.items c.args.pairs.now c.loop-pair.pair-index _ _ c.loop-pair-test.true c.loop-pair.invariant)
