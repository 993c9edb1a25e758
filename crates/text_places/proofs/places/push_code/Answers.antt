use Rattle.std.proofs.Common.{◌+◌, ◌-◌, arith}
use Rattle.text_places.proofs.PlaceLemmas.{code_step}
use Rattle.text_places.proofs.places.push_code.Goals as goal

pub loop-part-preserved : goal.loop-part-preserved
loop-part-preserved c =
    let more = c.loop-part-test.true in
    rw c.in_ok-push.ensures.ok
    (code_step c.args.line c.loop-part.part c.loop-part.code (c.args.count - c.loop-part.part) (c.args.count - (c.loop-part.part + 1)) _ (omega arith) c.loop-part.invariant)
