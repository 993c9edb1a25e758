use Rattle.companion_laws.proofs.Holders.{waits-for_holder}
use Rattle.companion_laws.proofs.Named.{report-explained}
use Rattle.companion_laws.proofs.RunHolders.{run-holder}
use Rattle.companion_laws.proofs.explain_laws.the_core_that_was_granted_a_lock_last_holds_it.Goals as goal

pub returns-clause-flat : goal.returns-clause-flat
returns-clause-flat c = λ P fuel grants e t lock program run among waits. waits-for_holder P program fuel grants e run t lock among waits

pub returns-clause-run : goal.returns-clause-run
returns-clause-run c = run-holder

pub returns-clause-named : goal.returns-clause-named
returns-clause-named c = report-explained
