use Rattle.std.proofs.Common.{arith}
use Rattle.sweep_top.proofs.Dots.{parts-around_dot}
use Rattle.sweep_top.proofs.words.around_dot.Goals as goal

pub returns : goal.returns
returns c = parts-around_dot c.args.text.now c.split_once.result (c.split_once.ensures.byte (omega arith) (λ w o found. found))
