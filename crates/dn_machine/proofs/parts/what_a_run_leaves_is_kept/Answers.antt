use Rattle.dn_machine.proofs.LeftLemmas.{left-first, kept-left}
use Rattle.dn_machine.proofs.PartsLemmas.{kept-run, kept-reordered}
use Rattle.dn_machine.proofs.parts.what_a_run_leaves_is_kept.Goals as goal

pub returns-clause-left : goal.returns-clause-left
returns-clause-left c = kept-left

pub returns-clause-initial : goal.returns-clause-initial
returns-clause-initial c C ready = kept-left _ 0 (left-first C ready)

pub returns-clause-run : goal.returns-clause-run
returns-clause-run c = kept-run

pub returns-clause-reordered : goal.returns-clause-reordered
returns-clause-reordered c = kept-reordered
