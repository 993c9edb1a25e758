use Rattle.std.proofs.Common.{[], ◌∷◌, ap, length, arith, length-append}
use Rattle.explained_answer.specs.Lines.{AreLinesRead}
use Rattle.explained_answer.proofs.Steps.{none-yet, one-more, shorter}
use Rattle.explained_answer.proofs.parsing.read_answer.Goals as goal

pub lines-init : goal.lines-init
lines-init c =
    let none : AreLinesRead c.args.located.now c.args.bytes.now c.new-lines.result.items c.args.bytes.now = rw c.new-lines.ensures.items (none-yet c.args.located.now c.args.bytes.now) in
    (none, omega (arith, ap length c.new-lines.ensures.items))

pub lines-preserved : goal.lines-preserved
lines-preserved c =
    let pushed = c.in_ok-push.ensures.items in
    let more =
    one-more c.args.located.now c.args.bytes.now c.lines.rest.now c.in-Some.behind.now c.lines.lines.items c.in-Some.read c.lines.invariant.0 c.in-Some.ensures.some
    c.in-Some.ensures.written in
    let next : AreLinesRead c.args.located.now c.args.bytes.now c.push.new.self.items c.in-Some.behind.now = rw pushed more in (
      next,
      omega (arith, c.lines.invariant.1, ap length pushed, length-append c.lines.lines.items (c.in-Some.read ∷ []), shorter _ _ _ _ c.in-Some.ensures.some),
    )

pub lines-smaller : goal.lines-smaller
lines-smaller c = omega (arith, shorter _ _ _ _ c.in-Some.ensures.some)
