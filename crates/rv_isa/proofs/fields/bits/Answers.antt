-- `(1 << count) - 1` is a mask of `count` ones, and to keep those bits is to take the rest by `2 ^ count`.
use Rattle.std.proofs.lemmas.Nat.{one_shl, and_mask}
use Rattle.rv_isa.specs.Word.{bits}
use Rattle.rv_isa.proofs.fields.bits.Goals as goal

pub returns-clause-value : goal.returns-clause-value
unfolding bits
returns-clause-value c = rw (one_shl c.args.count 32 c.requires.count) (and_mask _ _)
