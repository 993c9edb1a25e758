use Rattle.std.proofs.Common.{◌≡◌, [], length}
use Rattle.host_workers.specs.Rosters.{RosterParts, AreCrewsOf}
use Rattle.host_workers.proofs.roster.deal_banks.Given as goal

abbrev pub invariant-loop-owned : goal.invariant-loop-owned
invariant-loop-owned l = record {
  count : length l.crews.items ≡ length l.fn.crews.items;
  dealt : (roster : RosterParts) → AreCrewsOf (length l.fn.crews.items) (record roster { banks = [] }) l.fn.crews.items → AreCrewsOf (length l.fn.crews.items) (record roster { banks = l.yielded }) l.crews.items;
}
