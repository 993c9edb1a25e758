use Rattle.std.proofs.Common.{length}
use Rattle.rv_assembler.proofs.shape.+fits.Given as goal

abbrev pub decreases-fits : goal.decreases-fits
decreases-fits l = length l.pieces.now
