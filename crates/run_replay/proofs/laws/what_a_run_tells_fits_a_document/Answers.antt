use Rattle.run_replay.proofs.ToldRuns.{run-told}
use Rattle.run_replay.proofs.laws.what_a_run_tells_fits_a_document.Goals as goal

pub returns : goal.returns
returns c = λ C events ready few run. run-told C events ready few run
