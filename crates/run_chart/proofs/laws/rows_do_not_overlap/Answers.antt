use Rattle.run_chart.proofs.RangeRows.{apart-rows}
use Rattle.run_chart.proofs.laws.rows_do_not_overlap.Goals as goal

pub returns : goal.returns
returns c = λ C events range chain columns. apart-rows chain C events range columns
