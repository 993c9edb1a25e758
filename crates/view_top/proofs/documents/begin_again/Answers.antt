use Rattle.std.proofs.Common.{◌≡◌}
use Rattle.machine_rules.specs.State.{initial_state}
use Rattle.machine_rules.specs.Runs.{IsRun}
use Rattle.view_top.specs.Kept.{IsMachineOf}
use Rattle.view_top.proofs.Machines.{opened, starts, run-again, reset-is, stays}
use Rattle.view_top.proofs.documents.begin_again.Goals as goal

pub returns-clause-initial : goal.returns-clause-initial
returns-clause-initial c =
    let k = c.args.kept.now in
    let m = c.args.machine.now in
    let n = c.reset.new.self in
    reset-is k m n c.reset.result (n.state ≡ initial_state n.state.setting) (λ at. starts k m n at) c.reset.ensures.state

pub returns-clause-run : goal.returns-clause-run
returns-clause-run c =
    let k = c.args.kept.now in
    let m = c.args.machine.now in
    let n = c.reset.new.self in
    reset-is k m n c.reset.result (IsRun n.state k.run.events) (λ at. run-again k m n at c.requires.machine c.requires.kept) c.reset.ensures.state

pub returns-clause-machine : goal.returns-clause-machine
returns-clause-machine c =
    let k = c.args.kept.now in
    let m = c.args.machine.now in
    let n = c.reset.new.self in
    reset-is k m n c.reset.result (IsMachineOf k n) (λ at. stays k m n (opened k m n at) c.requires.machine) c.reset.ensures.state
