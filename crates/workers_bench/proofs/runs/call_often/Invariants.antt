use Rattle.turn_lock.specs.Passes.{IsPassOf}
use Rattle.workers_bench.proofs.runs.call_often.Given as goal

abbrev pub invariant-loop-call : goal.invariant-loop-call
invariant-loop-call g l = IsPassOf l.turn l.pass
