use Rattle.std.proofs.Common.{arith}
use Rattle.run_chart.proofs.picture_laws.rows_on_other_lines_are_drawn_apart.Goals as goal

pub returns : goal.returns
returns c = λ a b apart. omega (arith, apart)
