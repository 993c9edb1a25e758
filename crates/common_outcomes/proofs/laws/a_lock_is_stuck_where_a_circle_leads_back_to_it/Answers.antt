use Rattle.common_outcomes.proofs.Acquired.{are-locks}
use Rattle.common_outcomes.proofs.Circles.{circle-way, way-circle}
use Rattle.common_outcomes.specs.Phases.{summaries}
use Rattle.common_outcomes.proofs.laws.a_lock_is_stuck_where_a_circle_leads_back_to_it.Goals as goal

pub returns : goal.returns
returns c P fuel p first lock = (circle-way (summaries P fuel p first) lock, way-circle (summaries P fuel p first) lock (are-locks P fuel p first))
