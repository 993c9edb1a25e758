use Rattle.std.proofs.Common.{sym, ◌∙◌}
use Rattle.rv_core.specs.Kinds.{IsLoad}
use Rattle.rv_core.proofs.Needs.{load_retires, load_some}
use Rattle.rv_core.proofs.Looks.{look-tells}
use Rattle.rv_core.proofs.task.TaskState.complete_load.Goals as goal

pub load_by-requires-clause-aligned : goal.load_by-requires-clause-aligned
load_by-requires-clause-aligned c =
    let look = look-tells _ _ c.args.fuel c.args.self.now IsLoad c.args.next.now (λ x. x) c.requires.next c.requires.kind in
    (load_retires _ _ c.args.fuel c.args.self.now c.args.value c.in-Some.instr look.kind (sym look.instr ∙ c.in-Some.is)).aligned

pub returns-in-Some-clause-retired : goal.returns-in-Some-clause-retired
returns-in-Some-clause-retired c =
    let look = look-tells _ _ c.args.fuel c.args.self.now IsLoad c.args.next.now (λ x. x) c.requires.next c.requires.kind in
    let once = (load_retires _ _ c.args.fuel c.args.self.now c.args.value c.in-Some.instr look.kind (sym look.instr ∙ c.in-Some.is)).retires in
    cc

pub returns-in-None-clause-value : goal.returns-in-None-clause-value
returns-in-None-clause-value c =
    let look = look-tells _ _ c.args.fuel c.args.self.now IsLoad c.args.next.now (λ x. x) c.requires.next c.requires.kind in
    absurd (load_some _ _ c.args.fuel c.args.self.now look.kind (sym look.instr ∙ c.in-None.is))

pub returns-in-None-clause-retired : goal.returns-in-None-clause-retired
returns-in-None-clause-retired c =
    let look = look-tells _ _ c.args.fuel c.args.self.now IsLoad c.args.next.now (λ x. x) c.requires.next c.requires.kind in
    absurd (load_some _ _ c.args.fuel c.args.self.now look.kind (sym look.instr ∙ c.in-None.is))
