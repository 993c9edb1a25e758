use Rattle.std.proofs.Common.{◌≡◌, ◌++◌, drop}
use Rattle.run_account.specs.Items.{regions_from}
use Rattle.run_account.proofs.table.regions_of.Given as goal

abbrev pub invariant-loop-region : goal.invariant-loop-region
invariant-loop-region l = (l.number ≡ l.region-index) × (l.words ++ regions_from l.region-index (drop l.region-index l.regions) ≡ regions_from 0 l.regions)
