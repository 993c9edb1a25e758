use Rattle.std.proofs.Common.{sym, ◌∙◌}
use Rattle.bank_hall.proofs.HallLemmas.{bank_keeps}
use Rattle.bank_hall.proofs.hall.Hall.post_to_bank.Goals as goal

pub unreachable-requires : goal.unreachable-requires
unreachable-requires g c = bank_keeps _ _ _ (sym c.in-Ok-Stepped.field-0-is ∙ c.in-Ok-Stepped.ensures.call.answered)
