use Rattle.explained_answer.proofs.Printed.{ending-is, run-is, summary-is, size-is}
use Rattle.explained_answer.proofs.line_laws.printed_answers_are_lines.Goals as goal

pub returns-clause-ending : goal.returns-clause-ending
returns-clause-ending c = ending-is

pub returns-clause-run : goal.returns-clause-run
returns-clause-run c = run-is

pub returns-clause-summary : goal.returns-clause-summary
returns-clause-summary c = summary-is

pub returns-clause-size : goal.returns-clause-size
returns-clause-size c = size-is
