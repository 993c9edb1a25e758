use Rattle.rv_assembler.proofs.testing.+stepped_fits.Given as goal

abbrev pub decreases-stepped_fits : goal.decreases-stepped_fits
decreases-stepped_fits l = l.count
