use Rattle.flat_machine.proofs.SegmentLaws.{segment-still, segment-after, segment-later}
use Rattle.flat_machine.proofs.laws.a_segment_adds_loads_and_gives_locks_up.Goals as goal

pub returns-clause-later : goal.returns-clause-later
returns-clause-later c = segment-later

pub returns-clause-held : goal.returns-clause-held
returns-clause-held c = λ P fuel s. (segment-after P fuel s).less

pub returns-clause-still : goal.returns-clause-still
returns-clause-still c = segment-still
