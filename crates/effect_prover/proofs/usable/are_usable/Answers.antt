use Rattle.std.proofs.Common.{sym, subst, Decides}
use Rattle.std.specs.Result.{IfOk}
use Rattle.effect_prover.specs.declared.usable.Access.{Access}
use Rattle.effect_prover.specs.Stretch.{AreUsable}
use Rattle.effect_prover.proofs.usable.are_usable.Goals as goal

pub returns-in-Load-clause-answer : goal.returns-in-Load-clause-answer
returns-in-Load-clause-answer c =
    subst (λ (access : Access). IfOk c.are_usable_by.result (λ usable. Decides usable (AreUsable access c.args.task.now c.args.held c.args.first c.args.last))) (sym c.in-Load.is)
    c.are_usable_by.ensures.answer

pub returns-in-Store-clause-answer : goal.returns-in-Store-clause-answer
returns-in-Store-clause-answer c =
    subst (λ (access : Access). IfOk c.are_usable_by-in-Store.result (λ usable. Decides usable (AreUsable access c.args.task.now c.args.held c.args.first c.args.last))) (sym c.in-Store.is)
    c.are_usable_by-in-Store.ensures.answer
