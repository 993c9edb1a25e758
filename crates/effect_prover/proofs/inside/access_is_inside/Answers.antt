use Rattle.std.proofs.Common.{length, ap, ◌∙◌, subst, Decides}
use Rattle.std.specs.Int.{w32}
use Rattle.std.specs.Result.{IfOk}
use Rattle.std.proofs.lemmas.Int.{to_z-of_z}
use lib.IntN.{ℤ}
use Rattle.effect_prover.specs.declared.range.Range.{Range}
use Rattle.effect_prover.specs.Inside.{AreAllowed, addresses}
use Rattle.effect_prover.specs.Stretch.{may_use}
use Rattle.effect_prover.proofs.inside.access_is_inside.Goals as goal

pub returns-clause-answer : goal.returns-clause-answer
returns-clause-answer c =
    subst (λ (x : Range). IfOk c.are_allowed.result (λ inside. Decides inside (AreAllowed (may_use c.args.access c.args.task.now c.args.row.now.held) (length c.args.program.now.memory) c.args.width x)))
    (c.addresses-range.ensures ∙ ap (λ (z : ℤ). addresses c.args.row.now c.args.base z) (to_z-of_z w32 c.args.offset c.ranges.offset)) c.are_allowed.ensures.answer
