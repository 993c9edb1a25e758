use Rattle.std.proofs.Common.{◌<◌, length, arith}
use Rattle.std.proofs.lemmas.Bool.Decides.{nat_tests}
use Rattle.write_signature.specs.Signature.{empty}
use Rattle.registration_protocol.proofs.SignatureLemmas.{fill_next}
use Rattle.registration_protocol.proofs.signatures.empty_all.Goals as goal

pub loop-lock-preserved : goal.loop-lock-preserved
loop-lock-preserved c =
    let test = c.loop-lock-test.true in
    let count = c.len-lock-end.ensures in
    let within : c.loop-lock.lock < length c.args.signatures.now = grind (arith, nat_tests) in
    rw (c.set.ensures, c.empty.ensures, c.loop-lock.invariant) (fill_next c.loop-lock.lock c.args.signatures.now (empty c.args.phase.0) within)
