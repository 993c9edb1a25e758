use Rattle.std.proofs.Common.{arith}
use Rattle.run_chart.proofs.picture_laws.arrows_without_a_sender_begin_at_marks_of_their_own.Goals as goal

pub returns-clause-apart : goal.returns-clause-apart
returns-clause-apart c = λ a b apart. omega (arith, apart)

pub returns-clause-edge : goal.returns-clause-edge
returns-clause-edge c = λ b. omega arith

pub returns-clause-below : goal.returns-clause-below
returns-clause-below c = λ a b apart. omega (arith, apart)
