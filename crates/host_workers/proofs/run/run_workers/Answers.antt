use Rattle.host_workers.proofs.run.run_workers.Goals as goal

pub returns : goal.returns
returns g c = c.in_ok-run.ensures.made.run
