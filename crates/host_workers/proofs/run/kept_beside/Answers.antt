use Rattle.host_workers.proofs.RunSoFar.{made-by-workers}
use Rattle.host_workers.proofs.run.kept_beside.Goals as goal

pub returns-in-Ok-clause-made : goal.returns-in-Ok-clause-made
returns-in-Ok-clause-made c =
    made-by-workers c.args.machine.state.setting c.args.machine c.args.log c.in-Ok.run' c.requires.far c.in-Ok.ensures.run c.in-Ok.ensures.events
