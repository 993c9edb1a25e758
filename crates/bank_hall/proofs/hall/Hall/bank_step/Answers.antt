use Rattle.std.proofs.Common.{sym, ◌∙◌}
use Rattle.bank_hall.proofs.HallLemmas.{bank_handles}
use Rattle.bank_hall.proofs.hall.Hall.bank_step.Goals as goal

pub unreachable-requires : goal.unreachable-requires
unreachable-requires g c = bank_handles c.in-Ok-Kept.ensures.call.there c.args.pick (sym c.in-Ok-Kept.field-0-is ∙ c.in-Ok-Kept.ensures.call.answered)
