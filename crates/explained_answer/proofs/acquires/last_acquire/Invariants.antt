use Rattle.std.proofs.Common.{◌≡◌, drop}
use Rattle.std.specs.Option.{option_or}
use Rattle.explained_answer.specs.Acquires.{last_acquire}
use Rattle.explained_answer.proofs.acquires.last_acquire.Given as goal

-- the last one of those that are left, or else the last one so far
abbrev pub invariant-loop-acquire : goal.invariant-loop-acquire
invariant-loop-acquire l = option_or (last_acquire l.lock (drop l.acquire-index l.acquires)) l.last ≡ last_acquire l.lock l.acquires
