use Rattle.std.proofs.Common.{sym, ◌∙◌}
use Rattle.bank_hall.proofs.HallLemmas.{port_takes}
use Rattle.bank_hall.proofs.hall.Hall.take.Goals as goal

pub unreachable-requires : goal.unreachable-requires
unreachable-requires g c = port_takes c.in-Ok-Kept.ensures.call.there c.args.pick (sym c.in-Ok-Kept.field-0-is ∙ c.in-Ok-Kept.ensures.call.answered)
