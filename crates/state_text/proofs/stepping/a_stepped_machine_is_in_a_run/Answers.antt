use Rattle.state_text.proofs.StepByStep.{opened-in-run, stepped-in-run, from-opened, none-left}
use Rattle.state_text.proofs.stepping.a_stepped_machine_is_in_a_run.Goals as goal

pub returns-clause-opened : goal.returns-clause-opened
returns-clause-opened c = opened-in-run

pub returns-clause-step : goal.returns-clause-step
returns-clause-step c C events e m n ready is made = stepped-in-run C events m n e ready is made

pub returns-clause-steps : goal.returns-clause-steps
returns-clause-steps c = from-opened

pub returns-clause-over : goal.returns-clause-over
returns-clause-over c = none-left
