use Rattle.std.proofs.Common.{◌≤◌, length, arith, sym, ap, ◌∙◌, subst}
use Rattle.rv_core.specs.Decoded.{found_at}
use Rattle.rv_core.specs.Step.{instr_at}
use Rattle.rv_core.proofs.DecodedLemmas.{count-decoded, found-at}
use Rattle.rv_core.proofs.decoded.DecodedProgram.instr.Goals as goal

pub at-requires : goal.at-requires
at-requires c =
    let inside = ap (λ p. length p.program.code) c.self-inside.view_is in
    let code = ap (λ p. p.code) c.self-inside.view_is in
    subst (λ x. length x ≤ 16384) (sym code) (count-decoded c.self.inside.program c.self.inside.code c.self.invariant (omega (arith, inside, c.self-inside.invariant.code)))

pub returns : goal.returns
returns c =
    let code = ap (λ p. p.code) c.self-inside.view_is in
    c.at.ensures ∙ ap (λ x. found_at x c.args.state.now.pc) code
    ∙ found-at c.self.inside.program c.args.state.now c.self.inside.code c.self.invariant ∙ ap (λ p. instr_at p c.args.state.now) c.self.view_is
