use Rattle.std.proofs.Common.{◌≡◌, ◌≤◌, None}
use Rattle.sentences.specs.Stops.{LoneTask, lone_steps}
use Rattle.sentences.proofs.stopping.lone_pc.Given as goal

-- the task after the instructions so far
abbrev pub invariant-loop-done : goal.invariant-loop-done
invariant-loop-done l =
    let now : LoneTask = record { state = l.state; loads = l.rest } in
    (now ≡ lone_steps l.program l.task l.fuel l.loads l.done) × (l.state.end ≡ None) × (l.state.retired ≤ l.fuel)
