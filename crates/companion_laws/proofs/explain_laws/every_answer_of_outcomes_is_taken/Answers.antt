use Rattle.companion_laws.proofs.CommonAnswers.{common-taken}
use Rattle.companion_laws.proofs.Outputs.{taken-done}
use Rattle.companion_laws.proofs.explain_laws.every_answer_of_outcomes_is_taken.Goals as goal

pub returns-clause-answer : goal.returns-clause-answer
returns-clause-answer c = λ fuel text out e range is explained. common-taken c.the_output_is_a_function_of_source_and_options.ensures.refusal fuel range.1 text out e explained is

pub returns-clause-output : goal.returns-clause-output
returns-clause-output c = λ fuel text out explanation range is few made.
    taken-done text out.bytes explanation (λ e explained. common-taken c.the_output_is_a_function_of_source_and_options.ensures.refusal fuel range.1 text out e explained is) few made
