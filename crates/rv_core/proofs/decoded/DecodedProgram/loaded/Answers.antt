use Rattle.std.proofs.Common.{arith, sym, ap, ◌∙◌}
use Rattle.std.specs.Option.{option_copied}
use Rattle.rv_core.proofs.Needs.{load_retires, fuelled}
use Rattle.rv_core.specs.Kinds.{IsLoad}
use Rattle.rv_core.proofs.decoded.DecodedProgram.loaded.Goals as goal

pub load_by-requires-clause-retired : goal.load_by-requires-clause-retired
load_by-requires-clause-retired c =
    let going = (fuelled _ _ c.args.fuel c.args.state.now IsLoad (λ x. x) c.requires.kind).0 in
    grind arith

pub load_by-requires-clause-aligned : goal.load_by-requires-clause-aligned
load_by-requires-clause-aligned c =
    (load_retires _ _ c.args.fuel c.args.state.now c.args.value c.in-Some.instr.now c.requires.kind (sym c.instr.ensures ∙ ap option_copied c.in-Some.is)).aligned
