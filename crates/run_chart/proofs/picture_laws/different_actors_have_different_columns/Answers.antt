use Rattle.run_chart.proofs.ColumnsApart.{same-actor}
use Rattle.run_chart.proofs.picture_laws.different_actors_have_different_columns.Goals as goal

pub returns : goal.returns
returns c = same-actor
