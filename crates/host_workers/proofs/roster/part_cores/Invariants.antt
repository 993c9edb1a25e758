use Rattle.std.proofs.Common.{◌≡◌, map}
use Rattle.host_workers.specs.Rosters.{node_of, next_of, core_log, core_ends}
use Rattle.host_workers.proofs.roster.part_cores.Given as goal

abbrev pub invariant-loop-owned : goal.invariant-loop-owned
invariant-loop-owned l = record {
  nodes : l.parted.nodes.items ≡ map node_of l.yielded;
  next : l.parted.next.items ≡ map next_of l.yielded;
  ends : map (λ e. e.items) l.parted.ends.items ≡ map core_ends l.yielded;
  logs : map (λ e. e.items) l.parted.logs.items ≡ map core_log l.yielded;
}
