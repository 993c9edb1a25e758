use Rattle.std.proofs.Common.{◌≡◌, ℕ, ◌-◌, length}
use Rattle.host_workers.specs.Rosters.{RosterParts, IsRoster, AreCrewsOf}
use Rattle.host_workers.proofs.Dealing.{CoresBack}
use Rattle.host_workers.proofs.roster.gather_cores.Given as goal

abbrev pub invariant-loop-done : goal.invariant-loop-done
invariant-loop-done l = record {
  count : length l.crews.items ≡ length l.fn.crews.items;
  gathered : (roster : RosterParts) (banks : ℕ) → IsRoster l.count banks roster → AreCrewsOf (length l.fn.crews.items) roster l.fn.crews.items
      → CoresBack (length l.fn.crews.items) roster l.crews.items l.cores.items (l.count - l.done);
}
