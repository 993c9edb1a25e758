use Rattle.std.proofs.Common.{◌≡◌, ◌-◌, suc}
use Rattle.common_outcomes.specs.Alone.{alone_steps}
use Rattle.outcomes_top.specs.Tracks.{IsTracked, IsWell}
use Rattle.outcomes_top.proofs.alone.Tracked.run.Given as goal

abbrev pub invariant-loop-done : goal.invariant-loop-done
invariant-loop-done l = record {
  leads : alone_steps l.place (suc l.place.fuel - l._done) l.self.task ≡ alone_steps l.place (suc l.place.fuel) l.fn.self.task;
  well : IsWell l.place l.self.task;
  tracked : IsTracked l.place l.self.task.cells l.self.listed.items;
}
