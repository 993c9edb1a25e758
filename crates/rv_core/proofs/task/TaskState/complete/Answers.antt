use Rattle.std.proofs.Common.{◌≡◌, length, arith, sym, ap, ◌∙◌}
use Rattle.region_table.specs.Program.{ProgramParts}
use Rattle.rv_core.specs.Kinds.{IsAdvance}
use Rattle.rv_core.proofs.Needs.{advance_lock, advance_retires, advance_some}
use Rattle.rv_core.proofs.Looks.{look-tells}
use Rattle.rv_core.proofs.task.TaskState.complete.Goals as goal

pub advance_by-requires-clause-lock : goal.advance_by-requires-clause-lock
advance_by-requires-clause-lock c =
    λ e. let look = look-tells _ _ c.args.fuel c.args.self.now IsAdvance c.args.next.now (λ x. x) c.requires.next c.requires.kind in
    let lock = advance_lock _ _ c.args.fuel c.args.self.now c.in-Some.instr look.kind (sym look.instr ∙ c.in-Some.is) e in
    let same : length c.args.program.now.locks ≡ length c.program.inside.locks = ap (λ (p : ProgramParts). length p.locks) (sym c.program.view_is) in
    omega (arith, same, c.program.invariant.locks)

pub returns-in-Some-clause-retired : goal.returns-in-Some-clause-retired
returns-in-Some-clause-retired c =
    let look = look-tells _ _ c.args.fuel c.args.self.now IsAdvance c.args.next.now (λ x. x) c.requires.next c.requires.kind in
    let once = advance_retires _ _ c.args.fuel c.args.self.now c.in-Some.instr look.kind (sym look.instr ∙ c.in-Some.is) in
    cc

pub returns-in-None-clause-value : goal.returns-in-None-clause-value
returns-in-None-clause-value c =
    let look = look-tells _ _ c.args.fuel c.args.self.now IsAdvance c.args.next.now (λ x. x) c.requires.next c.requires.kind in
    absurd (advance_some _ _ c.args.fuel c.args.self.now look.kind (sym look.instr ∙ c.in-None.is))

pub returns-in-None-clause-retired : goal.returns-in-None-clause-retired
returns-in-None-clause-retired c =
    let look = look-tells _ _ c.args.fuel c.args.self.now IsAdvance c.args.next.now (λ x. x) c.requires.next c.requires.kind in
    absurd (advance_some _ _ c.args.fuel c.args.self.now look.kind (sym look.instr ∙ c.in-None.is))
