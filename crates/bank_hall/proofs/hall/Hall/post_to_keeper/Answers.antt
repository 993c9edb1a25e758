use Rattle.std.proofs.Common.{sym, ◌∙◌}
use Rattle.bank_hall.proofs.HallLemmas.{keeper_keeps}
use Rattle.bank_hall.proofs.hall.Hall.post_to_keeper.Goals as goal

pub unreachable-requires : goal.unreachable-requires
unreachable-requires g c = keeper_keeps _ _ _ (sym c.in-Ok-Stepped.field-0-is ∙ c.in-Ok-Stepped.ensures.call.answered)
