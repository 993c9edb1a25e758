use Rattle.std.proofs.Common.{sym, ◌∙◌}
use Rattle.bank_hall.proofs.HallLemmas.{port_keeps}
use Rattle.bank_hall.proofs.hall.Hall.post_to_port.Goals as goal

pub unreachable-requires : goal.unreachable-requires
unreachable-requires g c = port_keeps _ _ _ (sym c.in-Ok-Taken.field-0-is ∙ c.in-Ok-Taken.ensures.call.answered)
