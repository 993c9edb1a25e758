use Rattle.std.proofs.Common.{◌≡◌, ◌++◌, drop}
use Rattle.sentences.specs.Stops.{stops_from}
use Rattle.sentences.proofs.stopping.stops_of.Given as goal

-- those so far, and those of the tasks that are left
abbrev pub invariant-loop-number : goal.invariant-loop-number
invariant-loop-number l =
    l.stops ++ stops_from l.program l.fuel l.end.loads l.number (drop l.number l.end.ending.tasks)
    ≡ stops_from l.program l.fuel l.end.loads 0 l.end.ending.tasks
