use Rattle.std.proofs.Common.{◌≡◌, drop}
use Rattle.std.specs.List.{filter_map}
use Rattle.host_workers.specs.Ends.{with_ends, node_standing, last_ends}
use Rattle.host_workers.proofs.noting.note_last.Given as goal

abbrev pub invariant-loop-core : goal.invariant-loop-core
invariant-loop-core l = record {
  table : with_ends (filter_map node_standing (drop l.core l.machine.state.nodes)) l.log.ends ≡ with_ends (last_ends l.machine.state) l.fn.log.ends;
  rest : l.log ≡ record l.fn.log { ends = l.log.ends };
}
