use Rattle.std.proofs.Common.{List, subst}
use Rattle.region_table.specs.declared.declared.TaskDecl.{TaskDecl}
use Rattle.region_table.specs.declared.declared.Phase.{Phase}
use Rattle.effect_prover.specs.Answer.{IsPhaseAnswer}
use Rattle.effect_prover.proofs.AnswerLemmas.{phase-at, first-unbounded, phases-more, phases-all}
use Rattle.effect_prover.proofs.prover.check_in_turn.Goals as goal

pub returns-in-Some : goal.returns-in-Some
returns-in-Some c =
    let P = c.args.program.now in
    let p : Phase = c.index-phases-number.result in
    let n = c.loop-number.number in
    let answer : IsPhaseAnswer P p.tasks c.in_ok-found.field-0 =
    subst (λ (ts : List TaskDecl). IsPhaseAnswer P ts c.in_ok-found.field-0) c.as_slice.ensures c.in_ok-found.ensures.answer in
    first-unbounded P n p c.in-Some.found.core.0 c.in-Some.found.place c.address.result c.requires.program
    (phase-at P c.args.phases.now n p c.requires.phases c.index-phases-number.is c.loop-number-test.true) c.address.ensures c.loop-number.invariant.proven
    (subst (IsPhaseAnswer P p.tasks) c.in-Some.is answer)

pub loop-number-preserved : goal.loop-number-preserved
loop-number-preserved c =
    let P = c.args.program.now in
    let p : Phase = c.index-phases-number.result in
    let n = c.loop-number.number in
    let answer : IsPhaseAnswer P p.tasks c.in_ok-found.field-0 =
    subst (λ (ts : List TaskDecl). IsPhaseAnswer P ts c.in_ok-found.field-0) c.as_slice.ensures c.in_ok-found.ensures.answer in
    record {
      kept = c.check_tasks.ensures.kept;
      proven = phases-more P c.args.phases.now n p c.requires.phases c.index-phases-number.is c.loop-number-test.true (subst (IsPhaseAnswer P p.tasks) c.in_default.is answer)
          c.loop-number.invariant.proven;
    }

pub returns : goal.returns
returns c = phases-all c.args.program.now c.args.phases.now c.loop-number.number c.requires.phases c.loop-number-test.false c.loop-number.invariant.proven
