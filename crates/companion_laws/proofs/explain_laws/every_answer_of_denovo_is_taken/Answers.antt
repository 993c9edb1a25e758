use Rattle.companion_laws.proofs.Modes.{answer-taken}
use Rattle.companion_laws.proofs.Outputs.{output-done}
use Rattle.companion_laws.proofs.Calls.{call-taken, usage-taken}
use Rattle.companion_laws.proofs.explain_laws.every_answer_of_denovo_is_taken.Goals as goal

pub returns-clause-answer : goal.returns-clause-answer
returns-clause-answer c = answer-taken c.the_output_is_a_function_of_source_and_options.ensures.refusal

pub returns-clause-output : goal.returns-clause-output
returns-clause-output c = output-done c.the_output_is_a_function_of_source_and_options.ensures.refusal

pub returns-clause-call : goal.returns-clause-call
returns-clause-call c = call-taken c.the_output_is_a_function_of_source_and_options.ensures.refusal

pub returns-clause-usage : goal.returns-clause-usage
returns-clause-usage c = usage-taken c.the_output_is_a_function_of_source_and_options.ensures.refusal
