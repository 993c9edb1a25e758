use Rattle.flat_machine.proofs.Rest.{segment-rest, segment-step}
use Rattle.flat_machine.proofs.laws.a_segment_comes_to_rest.Goals as goal

pub returns-clause-rest : goal.returns-clause-rest
returns-clause-rest c = segment-rest

pub returns-clause-step : goal.returns-clause-step
returns-clause-step c = segment-step
