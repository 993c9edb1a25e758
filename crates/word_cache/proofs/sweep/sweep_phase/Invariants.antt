use Rattle.std.proofs.Common.{◌≡◌, ◌++◌, map, take, drop}
use Rattle.word_cache.specs.Row.{after_phase}
use Rattle.word_cache.proofs.sweep.sweep_phase.Given as goal

abbrev pub invariant-loop-index : goal.invariant-loop-index
invariant-loop-index l =
    l.places ≡ map (after_phase l.words) (take l.index l.initial.places) ++ drop l.index l.initial.places
