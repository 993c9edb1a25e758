use Rattle.run_chart.proofs.Fitting.{no-room}
use Rattle.run_chart.proofs.slide_laws.a_slide_has_as_many_rows_as_have_room.Goals as goal

pub returns : goal.returns
returns c = λ K columns note chart count more most room. no-room K chart count more most room
