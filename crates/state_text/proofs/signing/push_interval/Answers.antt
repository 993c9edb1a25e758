use Rattle.std.proofs.Common.{◌+◌, ◌-◌, arith}
use Rattle.state_text.specs.Parts.{signed_line}
use Rattle.state_text.proofs.Steps.{range-step}
use Rattle.state_text.proofs.signing.push_interval.Goals as goal

pub loop-word-preserved : goal.loop-word-preserved
loop-word-preserved c =
    rw c.in_ok-push_if_signed.ensures
    (range-step (signed_line c.args.program.now c.args.signed c.args.signature c.args.phase.0) c.loop-word.out.items c.loop-word.word (c.args.interval.hi - c.loop-word.word) (c.args.interval.hi - (c.loop-word.word + 1)) _ (omega (arith, c.loop-word-test.true)) c.loop-word.invariant)
