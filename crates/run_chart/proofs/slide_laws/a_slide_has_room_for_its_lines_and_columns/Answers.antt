use Rattle.run_chart.proofs.Fitting.{slide-room}
use Rattle.run_chart.proofs.slide_laws.a_slide_has_room_for_its_lines_and_columns.Goals as goal

pub returns : goal.returns
returns c = λ K columns note chart. slide-room K chart
