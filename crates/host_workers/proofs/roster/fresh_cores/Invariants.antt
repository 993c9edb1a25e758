use Rattle.std.proofs.Common.{◌≡◌, ℕ, [], length, map, slice_get, slice_index, Some}
use Rattle.host_workers.specs.declared.owned.Owned.{Owned}
use Rattle.host_workers.specs.Rosters.{node_of}
use Rattle.host_workers.proofs.roster.fresh_cores.Given as goal

abbrev pub invariant-loop-node : goal.invariant-loop-node
invariant-loop-node l = record {
  count : l.number ≡ length l.yielded;
  nodes : map node_of l.cores.items ≡ l.yielded;
  each : (i : ℕ) (o : Owned) → slice_get l.cores.items i ≡ Some o → (o.core.0 ≡ i) × (o.next ≡ slice_index l.next i) × (o.clock ≡ 0) × (o.log.items ≡ []) × (o.ends.items ≡ []);
}
