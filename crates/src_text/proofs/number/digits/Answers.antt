use Rattle.std.proofs.Common.{arith}
use Rattle.src_text.proofs.NumberLemmas.{too_great_at}
use Rattle.src_text.proofs.number.digits.Goals as goal

pub returns-then-value-most-clause-value : goal.returns-then-value-most-clause-value
returns-then-value-most-clause-value c =
    too_great_at c.args.most c.args.base c.loop-byte.value c.args.bytes.now c.loop-byte.byte-index c.requires.some (omega arith) (omega (arith, c.digit-next.ensures)) (omega (arith, c.digit-next.ensures)) c.loop-byte.invariant.1
