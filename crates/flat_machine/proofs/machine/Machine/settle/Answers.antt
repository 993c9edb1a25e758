use Rattle.std.proofs.Common.{◌≡◌, List, ◌++◌, Some, sym, ◌∙◌, ap, arith}
use Rattle.flat_machine.specs.declared.accesses.FlatAction.{FlatAction}
use Rattle.flat_machine.specs.Phases.{Flat, begin, next_phase, settled}
use Rattle.flat_machine.specs.Accesses.{with_actions, begin_actions, settled_actions}
use Rattle.flat_machine.proofs.ActionLemmas.{with-none, with-more, settled-actions-more, settled-actions-still}
use Rattle.flat_machine.proofs.PhaseLemmas.{HasBegun, settled-more, settled-still, begin-sound, begin-work, begin-begun, begun-within}
use Rattle.flat_machine.proofs.machine.Machine.settle.Goals as goal

pub phases-smaller : goal.phases-smaller
phases-smaller c =
    let next : next_phase c.args.program.now c.phases.self ≡ Some c.in-Some.phase.now = sym c.in-Some.ensures.value in
    let begun = ap (λ (x : Flat). x.begun) c.in_ok-begin.ensures.value ∙ begin-begun c.args.program.now c.args.fuel c.in-Some.phase.now c.phases.self in
    omega (arith, begun-within c.args.program.now c.phases.self c.in-Some.phase.now next)

pub phases-preserved : goal.phases-preserved
phases-preserved c =
    let P = c.args.program.now in
    let fuel = c.args.fuel in
    let phase = c.in-Some.phase.now in
    let next : next_phase P c.phases.self ≡ Some phase = sym c.in-Some.ensures.value in
    let h : HasBegun P fuel phase c.phases.self c.begin.new.self =
    record {
      next = next;
      value = c.in_ok-begin.ensures.value;
      words = c.in_ok-begin.ensures.words;
      within = c.in_ok-begin.ensures.within;
      count = c.in_ok-begin.ensures.count;
      room = c.in_ok-begin.ensures.room;
    } in
    let rest : Flat → List FlatAction = λ x. begin_actions P fuel phase c.phases.self ++ settled_actions P fuel x in
    record {
      leads = ap (λ (x : Flat). settled P fuel x) h.value ∙ sym (settled-more P fuel c.phases.self phase next) ∙ c.phases.invariant.leads;
      log =
          with-more c.phases.log c.begin.new.log (begin_actions P fuel phase c.phases.self) _ (settled_actions P fuel c.phases.self) c.in_ok-begin.ensures.log
          (settled-actions-more P fuel c.phases.self phase next ∙ ap rest (sym h.value))
          ∙ c.phases.invariant.log;
      sound = begin-sound P fuel phase c.phases.self c.begin.new.self h c.phases.invariant.sound;
      work = omega (arith, begin-work P fuel phase c.phases.self c.begin.new.self h, c.phases.invariant.work);
    }

pub returns-clause-value : goal.returns-clause-value
returns-clause-value c =
    sym (settled-still c.args.program.now c.args.fuel c.phases.self (sym c.in_default.ensures.value)) ∙ c.phases.invariant.leads

pub returns-clause-log : goal.returns-clause-log
returns-clause-log c =
    sym (with-none c.phases.log)
    ∙ ap (with_actions c.phases.log) (sym (settled-actions-still c.args.program.now c.args.fuel c.phases.self (sym c.in_default.ensures.value)))
    ∙ c.phases.invariant.log
