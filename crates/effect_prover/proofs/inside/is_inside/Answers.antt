use Rattle.std.proofs.Common.{rules, length, sym, subst, Decides}
use Rattle.std.specs.Int.{w32}
use mir.Val.{SFits}
use Rattle.std.specs.Result.{IfOk}
use Rattle.std.proofs.lemmas.Int.{to_z-of_z}
use lib.IntN.{ℤ}
use Rattle.rv_isa.specs.declared.instr.Instr.{Instr}
use Rattle.effect_prover.specs.declared.usable.Access.TheVariants.{Load, Store}
use Rattle.effect_prover.specs.Inside.{IsInside, AreAllowed, addresses}
use Rattle.effect_prover.specs.Stretch.{may_use}
use Rattle.effect_prover.proofs.inside.is_inside.Goals as goal

pub returns-in-Load-clause-answer : goal.returns-in-Load-clause-answer
returns-in-Load-clause-answer c =
    let P = c.args.program.now in
    let d = c.args.task.now in
    let row = c.args.row.now in
    let fits : SFits w32 c.in-Load.offset = search rules in
    subst (λ (i : Instr). IfOk c.access_is_inside.result (λ inside. Decides inside (IsInside P d row i))) (sym c.in-Load.is)
    (subst (λ (z : ℤ). IfOk c.access_is_inside.result (λ inside. Decides inside (AreAllowed (may_use Load d row.held) (length P.memory) c.in-Load.width (addresses row c.in-Load.base z))))
    (to_z-of_z w32 c.in-Load.offset fits) c.access_is_inside.ensures.answer)

pub returns-in-Store-clause-answer : goal.returns-in-Store-clause-answer
returns-in-Store-clause-answer c =
    let P = c.args.program.now in
    let d = c.args.task.now in
    let row = c.args.row.now in
    let fits : SFits w32 c.in-Store.offset = search rules in
    subst (λ (i : Instr). IfOk c.access_is_inside-in-Store.result (λ inside. Decides inside (IsInside P d row i))) (sym c.in-Store.is)
    (subst (λ (z : ℤ). IfOk c.access_is_inside-in-Store.result (λ inside. Decides inside (AreAllowed (may_use Store d row.held) (length P.memory) c.in-Store.width (addresses row c.in-Store.base z))))
    (to_z-of_z w32 c.in-Store.offset fits) c.access_is_inside-in-Store.ensures.answer)
