use Rattle.std.proofs.Common.{length, arith, sym, ap, ◌∙◌}
use Rattle.std.specs.Option.{option_copied}
use Rattle.rv_core.proofs.Needs.{advance_lock, fuelled}
use Rattle.rv_core.specs.Kinds.{IsAdvance}
use Rattle.rv_core.proofs.decoded.DecodedProgram.advance.Goals as goal

pub advance_by-requires-clause-retired : goal.advance_by-requires-clause-retired
advance_by-requires-clause-retired c =
    let going = (fuelled _ _ c.args.fuel c.args.state.now IsAdvance (λ x. x) c.requires.kind).0 in
    grind arith

pub advance_by-requires-clause-lock : goal.advance_by-requires-clause-lock
advance_by-requires-clause-lock c =
    λ e. let lock = advance_lock _ _ c.args.fuel c.args.state.now c.in-Some.instr.now c.requires.kind (sym c.instr.ensures ∙ ap option_copied c.in-Some.is) e in
    let inside = ap (λ p. length p.program.locks) c.self-inside.view_is in
    let same = ap (λ p. length p.locks) c.self.view_is in
    omega (arith, inside, same, c.self-inside.invariant.locks)
