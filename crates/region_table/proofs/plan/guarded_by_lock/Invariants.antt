use Rattle.std.proofs.Common.{◌≡◌, ℕ, ◌<◌, [], length, get_or}
use Rattle.region_table.specs.Words.{has}
use Rattle.region_table.specs.Plan.{phase_guards}
use Rattle.region_table.proofs.plan.guarded_by_lock.Given as goal

abbrev pub invariant-loop-lock : goal.invariant-loop-lock
invariant-loop-lock l = record {
  count : length l.sets ≡ l.lock;
  words : (k w : ℕ) → k < l.lock → has (get_or l.sets k []) w ≡ phase_guards l.phase k w;
}
