use Rattle.std.proofs.Common.{sym}
use Rattle.rv_core.proofs.Needs.{store_aligned}
use Rattle.rv_core.proofs.task.TaskState.merged.Goals as goal

pub store_by-requires : goal.store_by-requires
store_by-requires c =
    store_aligned _ _ c.args.fuel c.args.self.now c.in-Some.instr c.requires.kind (sym c.in-Some.ensures.value)
