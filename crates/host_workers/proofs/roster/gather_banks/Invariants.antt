use Rattle.std.proofs.Common.{◌≡◌, ℕ, ◌-◌, length}
use Rattle.host_workers.specs.Rosters.{RosterParts, IsRoster, AreCrewsOf}
use Rattle.host_workers.proofs.Dealing.{BanksBack}
use Rattle.host_workers.proofs.roster.gather_banks.Given as goal

abbrev pub invariant-loop-done : goal.invariant-loop-done
invariant-loop-done l = record {
  count : length l.crews.items ≡ length l.fn.crews.items;
  gathered : (roster : RosterParts) (cores : ℕ) → IsRoster cores l.count roster → AreCrewsOf (length l.fn.crews.items) roster l.fn.crews.items
      → BanksBack (length l.fn.crews.items) roster l.crews.items l.banks.items (l.count - l.done);
}
