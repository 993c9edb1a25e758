use Rattle.std.proofs.Common.{◌≡◌, ◌++◌, map, take, drop}
use Rattle.word_cache.specs.Row.{after_grant}
use Rattle.word_cache.proofs.sweep.sweep_grant.Given as goal

abbrev pub invariant-loop-index : goal.invariant-loop-index
invariant-loop-index l =
    l.places ≡ map (after_grant l.signature l.phase.0 l.words) (take l.index l.initial.places) ++ drop l.index l.initial.places
