use Rattle.run_agreement.proofs.Reaching.{reaches}
use Rattle.run_agreement.proofs.reached_laws.every_legal_and_whole_list_has_a_complete_run.Goals as goal

pub returns : goal.returns
returns c = reaches
