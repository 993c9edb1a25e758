use Rattle.phase_barrier.proofs.Flags.{no_marks}
use Rattle.phase_barrier.proofs.keeper.Keeper.new.Goals as goal

pub returns : goal.returns
returns c = rw (no_marks c.args.cores c.requires.cores)
