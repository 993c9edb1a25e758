use Rattle.std.proofs.Common.{◌≡◌, ◌++◌, map, take, drop}
use Rattle.run_account.specs.Caches.{as_shared}
use Rattle.run_account.proofs.cache.LineSet.demote.Given as goal

abbrev pub invariant-loop-index : goal.invariant-loop-index
invariant-loop-index l =
    l.self-inside.lines.items ≡ map (as_shared l.word.0) (take l.index l.initial.self-inside.lines.items) ++ drop l.index l.initial.self-inside.lines.items
