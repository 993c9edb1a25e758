use Rattle.std.proofs.Common.{List, ℕ, sym, subst}
use Rattle.run_timing.specs.Finishes.{AreFinishes}
use Rattle.run_timing.proofs.Finished.{finishes-are}
use Rattle.run_timing.proofs.finishes.finish_events.Goals as goal

pub returns-clause-finishes : goal.returns-clause-finishes
returns-clause-finishes c =
    subst (λ (xs : List ℕ). AreFinishes c.args.ticks.now c.args.machine.now.state c.args.events.now xs) (sym c.finishes_in.ensures)
    (finishes-are c.args.ticks.now c.args.machine.now.state c.args.events.now c.in_ok-rows.rows c.in_ok-rows.ensures.rows)
