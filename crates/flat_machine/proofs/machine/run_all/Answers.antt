use Rattle.std.proofs.Common.{◌≡◌, ◌+◌, List, [], ◌∷◌, drop, sym, ap, ◌∙◌, length-append, arith}
use Rattle.std.proofs.lemmas.List.{drop_all}
use Rattle.std.proofs.lemmas.List.Elements.{All-push}
use Rattle.std.proofs.lemmas.List.Sums.{sum_by_push}
use Rattle.flat_machine.specs.Step.{Started, At, fresh, segment, room, IsWithin}
use Rattle.region_table.specs.declared.declared.TaskDecl.{TaskDecl}
use Rattle.flat_machine.specs.declared.accesses.FlatAction.{FlatAction}
use Rattle.flat_machine.specs.Accesses.{with_actions, segment_actions, run_actions}
use Rattle.flat_machine.proofs.PhaseLemmas.{run-more}
use Rattle.flat_machine.proofs.ActionLemmas.{with-none, with-more, run-actions-more}
use Rattle.flat_machine.proofs.machine.run_all.Goals as goal

pub loop-task-preserved : goal.loop-task-preserved
loop-task-preserved c =
    let P = c.args.program.now in
    let fuel = c.args.fuel in
    let s : At = record { task = c.segment.new.self; memory = c.segment.new.memory.items } in
    let from : Started → At = λ r. segment P fuel (record { task = r; memory = c.loop-task.memory.items }) in
    let is = c.in_ok-segment.ensures.value ∙ ap from (c.start-running.ensures ∙ ap (fresh c.args.phase.0) c.task-item.is) in
    let acts : Started → List FlatAction = λ r. segment_actions P fuel (record { task = r; memory = c.loop-task.memory.items }) in
    let first = c.start-running.ensures ∙ ap (fresh c.args.phase.0) c.task-item.is in
    let logged = c.in_ok-segment.ensures.log ∙ ap (λ (r : Started). with_actions c.loop-task.log (acts r)) first in
    let whole : room fuel c.start-running.result ≡ fuel + 1 = rw c.start-running.ensures (omega arith) in
    let sum = sum_by_push (room fuel) c.loop-task.ran.items s.task in
    record {
      leads = rw c.in_ok-push.ensures.items (run-more P fuel c.args.phase.0 c.loop-task.task-index c.args.tasks.now c.task-item.result c.loop-task.memory.items c.loop-task.ran.items s (omega arith) is ∙ c.loop-task.invariant.leads);
      log =
          with-more c.loop-task.log c.segment.new.log _ _ _ logged (run-actions-more P fuel c.args.phase.0 c.loop-task.task-index c.args.tasks.now c.task-item.result c.loop-task.memory.items s (omega arith) is)
          ∙ c.loop-task.invariant.log;
      words = c.segment.ensures.words;
      within = rw c.in_ok-push.ensures.items (All-push (IsWithin fuel) c.loop-task.ran.items s.task c.loop-task.invariant.within c.segment.ensures.within);
      count = rw c.in_ok-push.ensures.items (omega (arith, length-append c.loop-task.ran.items (s.task ∷ [])));
      room = rw c.in_ok-push.ensures.items (omega (arith, sum, whole, c.segment.ensures.room, c.loop-task.invariant.room));
    }

pub returns-clause-log : goal.returns-clause-log
returns-clause-log c =
    let none : drop c.loop-task.task-index c.args.tasks.now ≡ [] = drop_all c.loop-task.task-index c.args.tasks.now (omega arith) in
    sym (with-none c.loop-task.log)
    ∙ ap (λ (ds : List TaskDecl). with_actions c.loop-task.log (run_actions c.args.program.now c.args.fuel c.args.phase.0 ds c.loop-task.memory.items)) (sym none)
    ∙ c.loop-task.invariant.log
