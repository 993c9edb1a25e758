use Rattle.dn_top.proofs.OneRun.{one-run}
use Rattle.dn_top.proofs.OneAnswer.{one-answer, one-refusal}
use Rattle.dn_top.proofs.OneCall.{one-call}
use Rattle.dn_top.proofs.laws.the_output_is_a_function_of_source_and_options.Goals as goal

pub returns-clause-run : goal.returns-clause-run
returns-clause-run c = one-run

pub returns-clause-answer : goal.returns-clause-answer
returns-clause-answer c = one-answer

pub returns-clause-refusal : goal.returns-clause-refusal
returns-clause-refusal c = one-refusal

pub returns-clause-call : goal.returns-clause-call
returns-clause-call c = one-call
