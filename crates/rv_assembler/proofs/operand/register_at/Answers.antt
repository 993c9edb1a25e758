use Rattle.std.proofs.Common.{◌∙◌, sym}
use Rattle.rv_assembler.proofs.RegisterLemmas.{register_small}
use Rattle.rv_assembler.proofs.operand.register_at.Goals as goal

pub register_or_zero-requires : goal.register_or_zero-requires
register_or_zero-requires c = λ n e. register_small _ n (sym c.register.ensures ∙ e)
