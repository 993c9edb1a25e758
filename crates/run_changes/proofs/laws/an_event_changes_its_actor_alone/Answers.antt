use Rattle.run_changes.proofs.Alone.{cores-alone, banks-alone, keeper-alone}
use Rattle.run_changes.proofs.laws.an_event_changes_its_actor_alone.Goals as goal

pub returns-clause-cores : goal.returns-clause-cores
returns-clause-cores c = cores-alone

pub returns-clause-banks : goal.returns-clause-banks
returns-clause-banks c = banks-alone

pub returns-clause-keeper : goal.returns-clause-keeper
returns-clause-keeper c = keeper-alone
