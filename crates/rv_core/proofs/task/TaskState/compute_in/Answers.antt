use Rattle.std.proofs.Common.{◌≡◌, ◌↔◌, true, None, arith, length, sym, ap, ◌∙◌, subst}
use Rattle.std.proofs.lemmas.Bool.Decides.{nat_tests}
use Rattle.std.specs.Option.{option_copied}
use Rattle.region_table.specs.Program.{ProgramParts}
use Rattle.rv_core.specs.declared.need.Need.{Need}
use Rattle.rv_core.specs.declared.need.Need.TheVariants.{Local}
use Rattle.rv_core.specs.Step.{instr_at, after_fetch, advanced}
use Rattle.rv_core.proofs.DecodedLemmas.{count-decoded, found-at, known-need-of}
use Rattle.rv_core.proofs.Computing.{none-needs, spent-needs}
use Rattle.rv_core.proofs.task.TaskState.compute_in.Goals as goal

pub at-requires : goal.at-requires
at-requires c =
    let same : length c.args.program.now.code ≡ length c.program.inside.code = ap (λ (p : ProgramParts). length p.code) (sym c.program.view_is) in
    count-decoded c.args.program.now c.args.code.now c.requires.code (omega (arith, same, c.program.invariant.code))

pub returns-in-Some-clause-local : goal.returns-in-Some-clause-local
returns-in-Some-clause-local c = λ d.
    let apart = c.if-self-fuel.true in
    let left : c.args.self.now.retired ≡ c.args.fuel → ⊥ = grind (arith, nat_tests) in
    let found = c.at.ensures ∙ found-at c.args.program.now c.args.self.now c.args.code.now c.requires.code in
    let is = sym found ∙ ap option_copied c.in-Some.is in
    let known = known-need-of c.args.program.now d c.args.fuel c.args.self.now c.in-Some.instr.now left is in
    subst (λ (n : Need). (c.compute_by.result ≡ true) ↔ (n ≡ Local)) known (c.compute_by.ensures.local c.args.program.now d)

pub returns-in-Some-clause-done : goal.returns-in-Some-clause-done
unfolding advanced
returns-in-Some-clause-done c = λ e.
    let found = c.at.ensures ∙ found-at c.args.program.now c.args.self.now c.args.code.now c.requires.code in
    let is = sym found ∙ ap option_copied c.in-Some.is in
    c.compute_by.ensures.done e ∙ ap (after_fetch c.args.self.now) (sym is)

pub returns-in_default-clause-local : goal.returns-in_default-clause-local
returns-in_default-clause-local c = λ d.
    let test = c.if-self-fuel.false in
    let spent : c.args.self.now.retired ≡ c.args.fuel = grind (arith, nat_tests) in
    ((λ e. absurd (cc)), (λ e. absurd (spent-needs c.args.program.now d c.args.fuel c.args.self.now spent e)))

pub returns-in_default-2-clause-local : goal.returns-in_default-2-clause-local
returns-in_default-2-clause-local c = λ d.
    let found = c.at.ensures ∙ found-at c.args.program.now c.args.self.now c.args.code.now c.requires.code in
    let none : instr_at c.args.program.now c.args.self.now ≡ None = sym found ∙ ap option_copied c.in_default.is in
    ((λ e. absurd (cc)), (λ e. absurd (none-needs c.args.program.now d c.args.fuel c.args.self.now none e)))
