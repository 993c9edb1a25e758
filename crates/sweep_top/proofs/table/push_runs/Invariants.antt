use Rattle.std.proofs.Common.{◌≤◌}
use Rattle.sweep_top.specs.Table.{HasRunRows}
use Rattle.sweep_top.proofs.table.push_runs.Given as goal

abbrev pub invariant-loop-seed : goal.invariant-loop-seed
invariant-loop-seed l = record {
  within : l.seed ≤ l.seeds.last;
  rows : HasRunRows l.machine.state.setting.program l.options l.seeds.first l.seed l.fn.out.items l.out.items;
}
