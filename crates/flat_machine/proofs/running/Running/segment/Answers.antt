use Rattle.std.proofs.Common.{◌≡◌, ℕ, List, ◌++◌, ◌+◌, ◌-◌, false, zero, suc, sym, ap, ◌∙◌, arith}
use Rattle.flat_machine.specs.Step.{At, flat_steps, segment}
use Rattle.flat_machine.specs.declared.accesses.FlatAction.{FlatAction}
use Rattle.flat_machine.specs.Accesses.{with_actions, actions_at, actions_in, segment_actions}
use Rattle.flat_machine.proofs.StepLemmas.{steps-still, steps-more}
use Rattle.flat_machine.proofs.ActionLemmas.{with-none, with-more, actions-still, actions-more}
use Rattle.flat_machine.proofs.running.Running.segment.Goals as goal

pub returns-then-not-branch-clause-value : goal.returns-then-not-branch-clause-value
unfolding segment
returns-then-not-branch-clause-value c =
    let now : At = record { task = c.loop-done.self; memory = c.loop-done.memory.items } in
    let stood : c.in_ok-step.field-0 ≡ false = cc in
    let still = c.in_ok-step.ensures.still stood in
    c.in_ok-step.ensures.value ∙ still
    ∙ sym (steps-still c.args.program.now c.args.fuel (suc c.args.fuel - c.loop-done._done) now still)
    ∙ c.loop-done.invariant.leads

pub returns-then-not-branch-clause-log : goal.returns-then-not-branch-clause-log
unfolding segment_actions
returns-then-not-branch-clause-log c =
    let now : At = record { task = c.loop-done.self; memory = c.loop-done.memory.items } in
    let stood : c.in_ok-step.field-0 ≡ false = cc in
    let still = c.in_ok-step.ensures.still stood in
    let quiet = c.in_ok-step.ensures.quiet stood in
    c.in_ok-step.ensures.log
    ∙ ap (with_actions c.loop-done.log) (quiet ∙ sym (actions-still c.args.program.now c.args.fuel (suc c.args.fuel - c.loop-done._done) now still quiet))
    ∙ c.loop-done.invariant.log

pub returns-clause-log : goal.returns-clause-log
unfolding segment_actions
returns-clause-log c =
    let now : At = record { task = c.loop-done.self; memory = c.loop-done.memory.items } in
    let none : suc c.args.fuel - c.loop-done._done ≡ zero = omega arith in
    sym (with-none c.loop-done.log)
    ∙ ap (λ (n : ℕ). with_actions c.loop-done.log (actions_in c.args.program.now c.args.fuel n now)) (sym none)
    ∙ c.loop-done.invariant.log

pub loop-done-preserved : goal.loop-done-preserved
loop-done-preserved c =
    let now : At = record { task = c.loop-done.self; memory = c.loop-done.memory.items } in
    let P = c.args.program.now in
    let rest : At → List FlatAction = λ x. actions_at P c.args.fuel now ++ actions_in P c.args.fuel (suc c.args.fuel - (c.loop-done._done + 1)) x in
    record {
      leads =
          ap (flat_steps P c.args.fuel (suc c.args.fuel - (c.loop-done._done + 1))) c.in_ok-step.ensures.value
          ∙ sym (steps-more P c.args.fuel c.loop-done._done now (omega arith))
          ∙ c.loop-done.invariant.leads;
      log =
          with-more c.loop-done.log c.step.new.log (actions_at P c.args.fuel now) _ (actions_in P c.args.fuel (suc c.args.fuel - c.loop-done._done) now) c.in_ok-step.ensures.log
          (actions-more P c.args.fuel c.loop-done._done now (omega arith) ∙ ap rest (sym c.in_ok-step.ensures.value))
          ∙ c.loop-done.invariant.log;
      words = c.step.ensures.words;
      within = c.step.ensures.within;
      room = omega (arith, c.step.ensures.room, c.loop-done.invariant.room);
    }
