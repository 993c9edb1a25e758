use Rattle.std.proofs.Common.{◌≡◌, ◌<◌, length, sym, ap, ◌∙◌, arith}
use Rattle.std.proofs.lemmas.Bool.Decides.{nat_tests}
use Rattle.std.proofs.Math.ListN.{length-set}
use Rattle.write_signature.specs.Signature.{empty}
use Rattle.registration_protocol.proofs.SignatureLemmas.{noted_next, noted-free}
use Rattle.registration_protocol.proofs.signatures.note.Goals as goal

pub loop-lock-preserved : goal.loop-lock-preserved
loop-lock-preserved c =
    let test = c.loop-lock-test.true in
    let count = c.len-lock-end.ensures in
    let kept = c.loop-lock.invariant.0 in
    let within : c.loop-lock.lock < length c.loop-lock.signatures = grind (arith, nat_tests) in
    let one = c.note_at.ensures (empty 0) in (
      ap length one ∙ length-set c.loop-lock.signatures c.loop-lock.lock _ ∙ kept,
      rw one (noted_next c.args.task.now c.args.held c.args.word.0 c.args.phase.0 c.loop-lock.lock c.loop-lock.signatures (empty 0) within ∙ c.loop-lock.invariant.1),
    )

pub returns-then-held-eq0 : goal.returns-then-held-eq0
returns-then-held-eq0 c =
    let test = c.if-held-eq0.true in
    let none : c.args.held ≡ 0 = grind (arith, nat_tests) in
    rw none (sym (noted-free c.args.task.now c.args.word.0 c.args.phase.0 0 c.args.signatures.now))
