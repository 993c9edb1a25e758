use Rattle.std.proofs.Common.{ap, ◌∙◌}
use Rattle.dn_machine.specs.declared.record.RunRecord.{RunRecord}
use Rattle.host_workers.proofs.run.record_of.Goals as goal

pub returns-clause-run : goal.returns-clause-run
returns-clause-run c = rw (c.record.ensures) c.in_ok-ending.ensures.run

pub returns-clause-events : goal.returns-clause-events
returns-clause-events c = ap (λ (r : RunRecord). r.events) c.record.ensures ∙ c.in_ok-ending.ensures.events
