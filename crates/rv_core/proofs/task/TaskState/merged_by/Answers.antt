use Rattle.std.proofs.Common.{sym, ap, ◌∙◌}
use Rattle.rv_core.specs.Kinds.{IsStore}
use Rattle.rv_core.specs.Step.{after_store, merged_of}
use Rattle.rv_core.proofs.Needs.{store_aligned}
use Rattle.rv_core.proofs.Looks.{look-tells}
use Rattle.rv_core.proofs.task.TaskState.merged_by.Goals as goal

pub store_by-requires : goal.store_by-requires
store_by-requires c =
    let look = look-tells _ _ c.args.fuel c.args.self.now IsStore c.args.next.now (λ x. x) c.requires.next c.requires.kind in
    store_aligned _ _ c.args.fuel c.args.self.now c.in-Some.instr look.kind (sym look.instr ∙ c.in-Some.is)

pub returns-in-None : goal.returns-in-None
unfolding merged_of
returns-in-None c =
    let look = look-tells _ _ c.args.fuel c.args.self.now IsStore c.args.next.now (λ x. x) c.requires.next c.requires.kind in
    ap (after_store c.args.self.now c.args.old) (sym c.in-None.is ∙ look.instr)
