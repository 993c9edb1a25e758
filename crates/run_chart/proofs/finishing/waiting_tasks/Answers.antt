use Rattle.std.proofs.Common.{◌≡◌, ℕ, ◌∷◌, [], List, length, ap, sym, ◌∙◌, arith, length-append}
use Rattle.registration_protocol.specs.declared.node.NodeWait.{NodeWait}
use Rattle.run_chart.specs.declared.parts.WaitingTask.{WaitingTask}
use Rattle.run_chart.specs.Finishing.{lock_wanted, waiting_from}
use Rattle.run_chart.proofs.Behind.{waiting-skipped, waiting-added}
use Rattle.run_chart.proofs.finishing.waiting_tasks.Goals.{in-Some+in_ok-push, in_default}
use Rattle.run_chart.proofs.finishing.waiting_tasks.Goals as goal

pub loop-core-preserved : goal.loop-core-preserved
loop-core-preserved c =
    let nodes = c.args.machine.now.state.nodes in
    let whole = waiting_from c.args.line nodes in
    let wanted : c.lock_wanted.result ≡ lock_wanted c.node-node.result.now.waiting = c.lock_wanted.ensures ∙ ap (λ (x : NodeWait). lock_wanted x) c.wait.ensures in
    elim c.match-lock_wanted.branch [
      | in-Some+in_ok-push w ↦
          let task : WaitingTask = record { core = w.core.result; lock = w.in-Some.lock; line = c.loop-core.line } in
          let long = ap (λ (l : List WaitingTask). length l) w.in_ok-push.ensures.ok ∙ length-append c.loop-core.tasks (task ∷ []) in
          rw (w.tasks-is, w.line-is)
          (record {
            line = omega (arith, c.loop-core.invariant.line, long);
            few = omega (arith, c.loop-core.invariant.few, long);
            so_far =
                waiting-added nodes c.loop-core.core c.loop-core.line c.node-node.result.now c.loop-core.tasks w.push.new.self whole w.in-Some.lock task c.node-node.ensures.node (sym wanted ∙ w.in-Some.is)
                (ap {B = WaitingTask} (λ (n : ℕ). record { core = record { 0 = n }; lock = w.in-Some.lock; line = c.loop-core.line }) w.core.ensures) w.in_ok-push.ensures.ok c.loop-core.invariant.so_far;
          })
      | in_default w ↦
          rw (w.tasks-is, w.line-is)
          (record {
            line = c.loop-core.invariant.line;
            few = omega (arith, c.loop-core.invariant.few);
            so_far = waiting-skipped nodes c.loop-core.core c.loop-core.line c.node-node.result.now c.loop-core.tasks whole c.node-node.ensures.node (sym wanted ∙ w.in_default.is) c.loop-core.invariant.so_far;
          })
    ]
