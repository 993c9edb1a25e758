use Rattle.sweep_top.proofs.DenovoRows.{row-of-denovo}
use Rattle.sweep_top.proofs.laws.each_row_is_of_the_run_that_denovo_prints.Goals as goal

pub returns : goal.returns
returns c = row-of-denovo
