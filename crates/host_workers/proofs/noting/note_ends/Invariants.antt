use Rattle.std.proofs.Common.{◌≡◌, drop}
use Rattle.host_workers.specs.Ends.{with_ends}
use Rattle.host_workers.proofs.noting.note_ends.Given as goal

abbrev pub invariant-loop-end : goal.invariant-loop-end
invariant-loop-end l = record {
  table : with_ends (drop l.end-index l.ends) l.log.ends ≡ with_ends l.ends l.fn.log.ends;
  rest : l.log ≡ record l.fn.log { ends = l.log.ends };
}
