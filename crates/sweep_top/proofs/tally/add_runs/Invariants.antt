use Rattle.std.proofs.Common.{◌≤◌}
use Rattle.sweep_top.specs.Kept.{HasTallied}
use Rattle.sweep_top.proofs.tally.add_runs.Given as goal

abbrev pub invariant-loop-seed : goal.invariant-loop-seed
invariant-loop-seed l = record {
  within : l.seed ≤ l.seeds.last;
  made : HasTallied l.machine.state.setting.program l.options l.seeds.first l.seed l.tally;
}
