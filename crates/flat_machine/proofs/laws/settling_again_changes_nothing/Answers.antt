use Rattle.flat_machine.proofs.SettleLaws.{settled-waits, settled-again}
use Rattle.flat_machine.proofs.laws.settling_again_changes_nothing.Goals as goal

pub returns-clause-again : goal.returns-clause-again
returns-clause-again c = settled-again

pub returns-clause-waits : goal.returns-clause-waits
returns-clause-waits c = settled-waits
