use Rattle.common_outcomes.proofs.ControlApart.{never-control, settles}
use Rattle.common_outcomes.proofs.laws.the_answer_settles_where_control_depends_on_no_load.Goals as goal

pub returns-clause-control : goal.returns-clause-control
returns-clause-control c P fuel control phase core pc apart e = never-control P fuel control apart phase core pc e

pub returns-clause-settles : goal.returns-clause-settles
returns-clause-settles c = settles
