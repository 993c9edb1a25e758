use Rattle.flat_machine.proofs.Frames.{segment-alike}
use Rattle.flat_machine.proofs.laws.a_segment_reads_its_words.Goals as goal

pub returns : goal.returns
returns c = λ P fuel r m n in_m in_n agree. segment-alike P fuel r m n in_m in_n (record { on = agree })
