use Rattle.std.proofs.Common.{◌≡◌, ◌↔◌, true, None, arith, sym, ap, ◌∙◌, subst}
use Rattle.std.proofs.lemmas.Bool.Decides.{nat_tests}
use Rattle.std.specs.Option.{option_copied}
use Rattle.rv_core.specs.declared.need.Need.{Need}
use Rattle.rv_core.specs.declared.need.Need.TheVariants.{Local}
use Rattle.rv_core.specs.Step.{instr_at}
use Rattle.rv_core.proofs.DecodedLemmas.{known-need-of}
use Rattle.rv_core.proofs.Computing.{none-needs, spent-needs}
use Rattle.rv_core.proofs.decoded.DecodedProgram.computes.Goals as goal

pub returns-in-Some : goal.returns-in-Some
returns-in-Some c = λ d.
    let apart = c.if-state-fuel.true in
    let left : c.args.state.now.retired ≡ c.args.fuel → ⊥ = grind (arith, nat_tests) in
    let is = sym c.instr.ensures ∙ ap option_copied c.in-Some.is in
    let known = known-need-of c.args.self.now d c.args.fuel c.args.state.now c.in-Some.instr.now left is in
    subst (λ (n : Need). (c.computes_by.result ≡ true) ↔ (n ≡ Local)) known (c.computes_by.ensures c.args.self.now d)

pub returns-in_default : goal.returns-in_default
returns-in_default c = λ d.
    let test = c.if-state-fuel.false in
    let spent : c.args.state.now.retired ≡ c.args.fuel = grind (arith, nat_tests) in
    ((λ e. absurd (cc)), (λ e. absurd (spent-needs c.args.self.now d c.args.fuel c.args.state.now spent e)))

pub returns-in_default-2 : goal.returns-in_default-2
returns-in_default-2 c = λ d.
    let none : instr_at c.args.self.now c.args.state.now ≡ None = sym c.instr.ensures ∙ ap option_copied c.in_default.is in
    ((λ e. absurd (cc)), (λ e. absurd (none-needs c.args.self.now d c.args.fuel c.args.state.now none e)))
