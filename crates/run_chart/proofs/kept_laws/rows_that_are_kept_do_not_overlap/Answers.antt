use Rattle.run_chart.proofs.KeptRows.{drawn-apart}
use Rattle.run_chart.proofs.kept_laws.rows_that_are_kept_do_not_overlap.Goals as goal

pub returns : goal.returns
returns c = λ K columns fit note chart. drawn-apart K chart.shape chart.rows
