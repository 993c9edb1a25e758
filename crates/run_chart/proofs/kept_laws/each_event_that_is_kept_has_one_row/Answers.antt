use Rattle.std.proofs.Common.{◌∙◌}
use Rattle.run_chart.specs.Keeping.{kept_rows}
use Rattle.run_chart.proofs.KeptRows.{events-stay, kept-events}
use Rattle.run_chart.proofs.kept_laws.each_event_that_is_kept_has_one_row.Goals as goal

pub returns : goal.returns
returns c = λ K columns fit note chart. events-stay chart.rows (kept_rows K chart) (kept_rows K chart) ∙ kept-events K chart.shape 0 chart.rows
