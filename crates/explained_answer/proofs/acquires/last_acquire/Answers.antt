use Rattle.std.proofs.Common.{◌∙◌, ap, arith, Option}
use Rattle.std.specs.Option.{option_or}
use Rattle.flat_machine.specs.declared.acquires.Acquire.{Acquire}
use Rattle.explained_answer.specs.Acquires.{last_acquire}
use Rattle.explained_answer.proofs.AcquireLemmas.{acquire-more}
use Rattle.explained_answer.proofs.acquires.last_acquire.Goals as goal

pub loop-acquire-preserved : goal.loop-acquire-preserved
loop-acquire-preserved c =
    acquire-more c.args.lock c.loop-acquire.acquire-index c.args.acquires.now _ c.loop-acquire.last c.or-last.result (last_acquire c.args.lock c.args.acquires.now)
    (omega (arith, c.loop-acquire-test.true))
    (c.or-last.ensures ∙ ap (λ (o : Option Acquire). option_or o c.loop-acquire.last) c.if_of_lock.ensures) c.loop-acquire.invariant
