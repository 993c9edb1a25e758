use Rattle.std.proofs.Common.{sym, ap, ◌∙◌}
use Rattle.std.specs.Option.{option_copied}
use Rattle.rv_core.proofs.Needs.{store_aligned}
use Rattle.rv_core.proofs.decoded.DecodedProgram.merged.Goals as goal

pub store_by-requires : goal.store_by-requires
store_by-requires c =
    store_aligned _ _ c.args.fuel c.args.state.now c.in-Some.instr.now c.requires.kind (sym c.instr.ensures ∙ ap option_copied c.in-Some.is)
