use Rattle.state_text.specs.Parts.{interval_lines_of}
use Rattle.state_text.proofs.Each.{each-read}
use Rattle.state_text.proofs.signing.push_intervals.Goals as goal

pub loop-interval-preserved : goal.loop-interval-preserved
loop-interval-preserved c =
    rw c.in_ok-push_interval.ensures
    (each-read (interval_lines_of c.args.program.now c.args.signed c.args.signature c.args.phase.0) c.loop-interval.out.items c.args.intervals.now c.loop-interval.interval-index _ _ c.loop-interval-test.true c.loop-interval.invariant)
