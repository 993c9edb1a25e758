use Rattle.std.proofs.Common.{◌≡◌, arith, sym, ap, ◌∙◌}
use Rattle.std.proofs.lemmas.Bool.Decides.{nat_tests}
use Rattle.std.specs.Option.{option_copied}
use Rattle.rv_core.specs.Need.{instr_need}
use Rattle.rv_core.proofs.DecodedLemmas.{known-need-of}
use Rattle.rv_core.proofs.Needs.{need-allowed, need-fuel}
use Rattle.rv_core.proofs.decoded.DecodedProgram.need.Goals as goal

pub returns-in-Some-clause-value : goal.returns-in-Some-clause-value
returns-in-Some-clause-value c =
    let apart = c.if-state-fuel.true in
    let left : c.args.state.now.retired ≡ c.args.fuel → ⊥ = grind (arith, nat_tests) in
    let is = sym c.instr.ensures ∙ ap option_copied c.in-Some.is in
    let here = c.instruction.ensures ∙ ap (λ p. instr_need p c.args.task.now c.args.state.now c.in-Some.instr.now) c.self.view_is in
    let value = here ∙ known-need-of c.args.self.now c.args.task.now c.args.fuel c.args.state.now c.in-Some.instr.now left is in
    value

pub returns-in-Some-clause-fuel : goal.returns-in-Some-clause-fuel
returns-in-Some-clause-fuel c =
    let apart = c.if-state-fuel.true in
    let left : c.args.state.now.retired ≡ c.args.fuel → ⊥ = grind (arith, nat_tests) in
    let is = sym c.instr.ensures ∙ ap option_copied c.in-Some.is in
    let here = c.instruction.ensures ∙ ap (λ p. instr_need p c.args.task.now c.args.state.now c.in-Some.instr.now) c.self.view_is in
    let value = here ∙ known-need-of c.args.self.now c.args.task.now c.args.fuel c.args.state.now c.in-Some.instr.now left is in
    rw value (need-fuel c.args.self.now c.args.task.now c.args.fuel c.args.state.now)

pub returns-in-Some-clause-allowed : goal.returns-in-Some-clause-allowed
returns-in-Some-clause-allowed c =
    let apart = c.if-state-fuel.true in
    let left : c.args.state.now.retired ≡ c.args.fuel → ⊥ = grind (arith, nat_tests) in
    let is = sym c.instr.ensures ∙ ap option_copied c.in-Some.is in
    let here = c.instruction.ensures ∙ ap (λ p. instr_need p c.args.task.now c.args.state.now c.in-Some.instr.now) c.self.view_is in
    let value = here ∙ known-need-of c.args.self.now c.args.task.now c.args.fuel c.args.state.now c.in-Some.instr.now left is in
    rw value (need-allowed c.args.self.now c.args.task.now c.args.fuel c.args.state.now)
