use Rattle.flat_machine.proofs.Frames.{segment-frame}
use Rattle.flat_machine.proofs.laws.a_segment_keeps_other_words.Goals as goal

pub returns : goal.returns
returns c = segment-frame
