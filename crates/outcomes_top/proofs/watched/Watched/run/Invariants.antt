use Rattle.std.proofs.Common.{◌≡◌, ◌-◌, ◌++◌, suc}
use Rattle.common_outcomes.specs.Alone.{alone_steps}
use Rattle.outcomes_top.specs.Reasons.{origins_from, takings_from}
use Rattle.outcomes_top.specs.Tracks.{IsTracked, IsWell}
use Rattle.outcomes_top.proofs.watched.Watched.run.Given as goal

abbrev pub invariant-loop-done : goal.invariant-loop-done
invariant-loop-done l = record {
  leads : alone_steps l.place (suc l.place.fuel - l._done) l.self.tracked.task ≡ alone_steps l.place (suc l.place.fuel) l.fn.self.tracked.task;
  well : IsWell l.place l.self.tracked.task;
  tracked : IsTracked l.place l.self.tracked.task.cells l.self.tracked.listed.items;
  origins : origins_from l.place (suc l.place.fuel - l._done) l.self.tracked.task l.self.origins ≡ origins_from l.place (suc l.place.fuel) l.fn.self.tracked.task l.fn.self.origins;
  takings : l.self.takings.items ++ takings_from l.place (suc l.place.fuel - l._done) l.self.tracked.task
      ≡ l.fn.self.takings.items ++ takings_from l.place (suc l.place.fuel) l.fn.self.tracked.task;
}
