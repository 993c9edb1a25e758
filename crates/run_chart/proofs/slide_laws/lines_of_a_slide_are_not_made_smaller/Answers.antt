use Rattle.run_chart.proofs.SlideSize.{slide-within}
use Rattle.run_chart.proofs.slide_laws.lines_of_a_slide_are_not_made_smaller.Goals as goal

pub returns : goal.returns
returns c = λ chart slide room. slide-within chart slide room.0 room.1
